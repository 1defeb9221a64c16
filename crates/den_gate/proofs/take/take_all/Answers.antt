use Rattle.std.proofs.Common.{◌≡◌, ◌≢◌, arith, ℕ, List, IsTrue, length, get_or, sym, ◌∙◌, ap, subst}
use Rattle.std.proofs.lemmas.List.{get_or_past}
use Rattle.den_disk.proofs.Moments.{stays_then}
use Rattle.den_gate.specs.Slot.{IsRegion, IsCutShort}
use Rattle.den_gate.specs.Window.{Shows}
use Rattle.den_gate.specs.Loading.{Finds, IsFurther, payload_between}
use Rattle.den_gate.proofs.Written.{begins_holds, holds_payloads, begins_pushed, begins_short}
use Rattle.den_gate.proofs.take.take_all.Goals as goal

pub returns-in-Closed-clause-payloads : goal.returns-in-Closed-clause-payloads
returns-in-Closed-clause-payloads g c = λ tells.
    let file = (g.D.Disk.content c.args.disk.now).reading c.args.slot in
    let at = c.loop-at.at in
    let tells1 = subst (λ k. IsTrue k.tells) (sym c.loop-at.invariant.kind) tells in
    let same : (g.D.Disk.content c.loop-at.disk).reading c.args.slot ≡ file = ap (λ k. k.reading c.args.slot) (c.loop-at.invariant.stays tells).content_same in
    let found = subst (λ f. Finds at ((g.D.Disk.content c.loop-at.disk).reading c.args.slot) f) c.in-Closed.is (c.in_ok-look.ensures.found tells1) in
    let shut : get_or file at 0 ≢ 1 = λ e. found (ap (λ (l : List ℕ). get_or l at 0) same ∙ e) in
    let h = begins_holds c.loop-at.list.items at file (c.loop-at.invariant.begins tells) (omega (arith, c.loop-at-test.true)) shut in
    c.of.ensures ∙ sym (holds_payloads c.loop-at.list.items at file h)

pub returns-clause-payloads : goal.returns-clause-payloads
returns-clause-payloads g c = λ tells.
    let file = (g.D.Disk.content c.args.disk.now).reading c.args.slot in
    let at = c.loop-at.at in
    let long : c.in_ok-len.len ≡ length file = c.in_ok-len.ensures.read tells in
    let shut : get_or file at 0 ≢ 1 = λ e. absurd (cc (get_or_past file at 0 (omega (arith, long, c.loop-at-test.false)), e)) in
    let h = begins_holds c.loop-at.list.items at file (c.loop-at.invariant.begins tells) (omega (arith, c.loop-at.invariant.within, c.in_ok-len.ensures.within)) shut in
    c.of-2.ensures ∙ sym (holds_payloads c.loop-at.list.items at file h)

pub returns-in-CutShort-clause-refused : goal.returns-in-CutShort-clause-refused
returns-in-CutShort-clause-refused g c = λ tells.
    let file = (g.D.Disk.content c.args.disk.now).reading c.args.slot in
    let at = c.loop-at.at in
    let tells1 = subst (λ k. IsTrue k.tells) (sym c.loop-at.invariant.kind) tells in
    let same : (g.D.Disk.content c.loop-at.disk).reading c.args.slot ≡ file = ap (λ k. k.reading c.args.slot) (c.loop-at.invariant.stays tells).content_same in
    let found = subst (λ f. Finds at ((g.D.Disk.content c.loop-at.disk).reading c.args.slot) f) c.in-CutShort.is (c.in_ok-look.ensures.found tells1) in
    begins_short c.loop-at.list.items at file (c.loop-at.invariant.begins tells) (omega (arith, c.loop-at-test.true)) (subst (λ (l : List ℕ). IsCutShort at l) same found)

pub loop-at-preserved : goal.loop-at-preserved
loop-at-preserved g c =
    let on = subst (λ f. IsFurther c.loop-at.at c.in_ok-len.len f) c.in-Region.is c.in_ok-look.ensures.goes_on in
    record {
      within = on.1;
      kind = c.take_payload.ensures.kind ∙ c.look.ensures.kind ∙ c.loop-at.invariant.kind;
      later = omega (arith, c.loop-at.invariant.later, c.look.ensures.cause.later, c.take_payload.ensures.later);
      stays = λ tells.
          let content = g.D.Disk.content in
          let moment = g.D.Disk.moment in
          let images = g.D.Disk.images in
          let tells1 = subst (λ k. IsTrue k.tells) (sym c.loop-at.invariant.kind) tells in
          let tells2 = subst (λ k. IsTrue k.tells) (sym c.look.ensures.kind) tells1 in
          let seen = stays_then content moment images c.args.disk.now c.loop-at.disk c.look.new.disk (c.loop-at.invariant.stays tells) (c.look.ensures.stays tells1) in
          stays_then content moment images c.args.disk.now c.look.new.disk c.take_payload.new.disk seen (c.take_payload.ensures.stays tells2);
      fits = c.look.ensures.fits;
      shows = λ tells.
          let tells1 = subst (λ k. IsTrue k.tells) (sym c.loop-at.invariant.kind) tells in
          let same : (g.D.Disk.content c.loop-at.disk).reading c.args.slot ≡ (g.D.Disk.content c.args.disk.now).reading c.args.slot = ap (λ k. k.reading c.args.slot) (c.loop-at.invariant.stays tells).content_same in
          subst (λ (l : List ℕ). Shows c.look.new.window l) same (c.in_ok-look.ensures.shows tells1);
      begins = λ tells.
          let file = (g.D.Disk.content c.args.disk.now).reading c.args.slot in
          let at = c.loop-at.at in
          let next = c.in-Region.next in
          let tells1 = subst (λ k. IsTrue k.tells) (sym c.loop-at.invariant.kind) tells in
          let tells2 = subst (λ k. IsTrue k.tells) (sym c.look.ensures.kind) tells1 in
          let same : (g.D.Disk.content c.loop-at.disk).reading c.args.slot ≡ file = ap (λ k. k.reading c.args.slot) (c.loop-at.invariant.stays tells).content_same in
          let same2 : (g.D.Disk.content c.look.new.disk).reading c.args.slot ≡ file = ap (λ k. k.reading c.args.slot) (c.look.ensures.stays tells1).content_same ∙ same in
          let found = subst (λ f. Finds at ((g.D.Disk.content c.loop-at.disk).reading c.args.slot) f) c.in-Region.is (c.in_ok-look.ensures.found tells1) in
          let taken = c.in_ok-take_payload-in-Region.ensures.payload tells2 ∙ ap (payload_between at next) same2 in
          let region = subst (λ (l : List ℕ). IsRegion at next (payload_between at next l) l) same found in
          begins_pushed c.loop-at.list.items c.push.new.self.items at next c.in_ok-take_payload-in-Region.field-0 (payload_between at next file) file (c.loop-at.invariant.begins tells) region taken
          c.in_ok-push-in-Region.ensures.items;
    }
