use Rattle.std.proofs.Common.{◌≡◌, ◌≢◌, ◌∷◌, [], ◌++◌, refl, arith, ℕ, List, IsTrue, length, get_or, sym, ◌∙◌, ap, subst}
use Rattle.std.proofs.lemmas.List.{get_or_past}
use Rattle.den_disk.proofs.Moments.{stays_then}
use Rattle.den_gate.specs.Slot.{IsRegion, IsCutShort}
use Rattle.den_gate.specs.Window.{Shows}
use Rattle.den_gate.specs.Loading.{Finds, IsFurther, payload_between}
use Rattle.den_gate.proofs.Written.{begins_closed, begins_more, begins_short}
use Rattle.den_gate.proofs.find.find_end.Goals as goal

pub returns-in-Closed-clause-holds : goal.returns-in-Closed-clause-holds
returns-in-Closed-clause-holds g c = λ tells.
    let file = (g.D.Disk.content c.args.disk.now).reading c.args.slot in
    let tells1 = subst (λ k. IsTrue k.tells) (sym c.loop-at.invariant.kind) tells in
    let same : (g.D.Disk.content c.loop-at.disk).reading c.args.slot ≡ file = ap (λ k. k.reading c.args.slot) (c.loop-at.invariant.stays tells).content_same in
    let found = subst (λ f. Finds c.loop-at.at ((g.D.Disk.content c.loop-at.disk).reading c.args.slot) f) c.in-Closed.is (c.in_ok-look.ensures.found tells1) in
    let shut : get_or file c.loop-at.at 0 ≢ 1 = λ e. found (ap (λ (l : List ℕ). get_or l c.loop-at.at 0) same ∙ e) in
    let b = c.loop-at.invariant.begins tells in
    begins_closed b.0 c.loop-at.at file b.1 (omega (arith, c.loop-at-test.true)) shut

pub returns-in-CutShort-clause-refused : goal.returns-in-CutShort-clause-refused
returns-in-CutShort-clause-refused g c = λ tells.
    let file = (g.D.Disk.content c.args.disk.now).reading c.args.slot in
    let tells1 = subst (λ k. IsTrue k.tells) (sym c.loop-at.invariant.kind) tells in
    let same : (g.D.Disk.content c.loop-at.disk).reading c.args.slot ≡ file = ap (λ k. k.reading c.args.slot) (c.loop-at.invariant.stays tells).content_same in
    let found = subst (λ f. Finds c.loop-at.at ((g.D.Disk.content c.loop-at.disk).reading c.args.slot) f) c.in-CutShort.is (c.in_ok-look.ensures.found tells1) in
    let b = c.loop-at.invariant.begins tells in
    (refl, begins_short b.0 c.loop-at.at file b.1 (omega (arith, c.loop-at-test.true)) (subst (λ (l : List ℕ). IsCutShort c.loop-at.at l) same found))

pub returns-clause-holds : goal.returns-clause-holds
returns-clause-holds g c = λ tells.
    let file = (g.D.Disk.content c.args.disk.now).reading c.args.slot in
    let long : c.in_ok-len.len ≡ length file = c.in_ok-len.ensures.read tells in
    let b = c.loop-at.invariant.begins tells in
    let shut : get_or file c.loop-at.at 0 ≢ 1 = λ e. absurd (cc (get_or_past file c.loop-at.at 0 (omega (arith, long, c.loop-at-test.false)), e)) in
    begins_closed b.0 c.loop-at.at file b.1 (omega (arith, c.loop-at.invariant.within, c.in_ok-len.ensures.within)) shut

pub loop-at-preserved : goal.loop-at-preserved
loop-at-preserved g c =
    let next = subst (λ f. IsFurther c.loop-at.at c.in_ok-len.len f) c.in-Region.is c.in_ok-look.ensures.goes_on in
    record {
      within = next.1;
      kind = c.look.ensures.kind ∙ c.loop-at.invariant.kind;
      later = omega (arith, c.loop-at.invariant.later, c.look.ensures.cause.later);
      stays = λ tells. let tells1 = subst (λ k. IsTrue k.tells) (sym c.loop-at.invariant.kind) tells in
          stays_then g.D.Disk.content g.D.Disk.moment g.D.Disk.images c.args.disk.now c.loop-at.disk c.look.new.disk (c.loop-at.invariant.stays tells) (c.look.ensures.stays tells1);
      fits = c.look.ensures.fits;
      shows = λ tells.
          let tells1 = subst (λ k. IsTrue k.tells) (sym c.loop-at.invariant.kind) tells in
          let same : (g.D.Disk.content c.loop-at.disk).reading c.args.slot ≡ (g.D.Disk.content c.args.disk.now).reading c.args.slot = ap (λ k. k.reading c.args.slot) (c.loop-at.invariant.stays tells).content_same in
          subst (λ (l : List ℕ). Shows c.look.new.window l) same (c.in_ok-look.ensures.shows tells1);
      begins = λ tells.
          let file = (g.D.Disk.content c.args.disk.now).reading c.args.slot in
          let at = c.loop-at.at in
          let next = c.in-Region.next in
          let tells1 = subst (λ k. IsTrue k.tells) (sym c.loop-at.invariant.kind) tells in
          let same : (g.D.Disk.content c.loop-at.disk).reading c.args.slot ≡ file = ap (λ k. k.reading c.args.slot) (c.loop-at.invariant.stays tells).content_same in
          let found = subst (λ f. Finds at ((g.D.Disk.content c.loop-at.disk).reading c.args.slot) f) c.in-Region.is (c.in_ok-look.ensures.found tells1) in
          let b = c.loop-at.invariant.begins tells in
          let payload = payload_between at next file in
          (b.0 ++ payload ∷ [], begins_more b.0 at next payload file b.1 (subst (λ (l : List ℕ). IsRegion at next (payload_between at next l) l) same found));
    }
