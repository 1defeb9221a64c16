use Rattle.std.proofs.Common.{◌≡◌, ◌≤◌, ◌+◌, ℕ, List, length, IsTrue, IsErr, OnOk, Ok, is_err, inl, max, refl, ◌∙◌, sym, ap, subst, arith}
use Rattle.den_disk.specs.declared.place.Place.{Place}
use Rattle.den_disk.specs.Files.{Kind}
use Rattle.den_codec.specs.declared.error.Error.{Error}
use Rattle.den_codec.specs.declared.error.Error.TheVariants.{DiskFull}
use Rattle.den_model.specs.Regions.{open_regions, placed}
use Rattle.den_gate.specs.Gate.{IsCurrent}
use Rattle.den_journal.specs.Causes.{IsFullFor}
use Rattle.den_journal.specs.Drafts.{anew_words, IsSizeOf, rewrite_change}
use Rattle.den_journal.specs.Lies.{gives_hold}
use Rattle.den_journal.specs.Refused.{refusal}
use Rattle.den_journal.specs.Shown.{shown_of, held_in, rewrite_size}
use Rattle.den_journal.specs.Writes.{IsRefused, DiskTells}
use Rattle.den_journal.proofs.Drafting.{anew_small, anew_weight, full_at, moves_over, rests_give}
use Rattle.den_journal.proofs.Full.{refused_by}
use Rattle.den_journal.proofs.Moving.{writes_lost, writes_refused}
use Rattle.den_journal.proofs.journal.Journal.rewrite.Goals as goal

pub returns-in_err-words-clause-writes : goal.returns-in_err-words-clause-writes
returns-in_err-words-clause-writes g c =
    let F = g.F.Folded in
    let D = g.D.Disk in
    let d = c.args.disk.now in
    let j = c.args.self.now in
    let v = F.value j.held in
    writes_refused D F.FAMILY (held_in F.FAMILY (F.from F.empty)) _ _ _ d c.requires.stands.ready c.requires.stands.rests
    (λ tells told files i. gives_hold F.FAMILY (F.from F.empty) j.gate v (D.content d) files (c.requires.stands.rests tells) ((g.met.D.Disk.images_now d files tells).0 i))
    c.from_residual.result c.from_residual.ensures.1 refl refl

pub returns-in_err-make_room-clause-writes : goal.returns-in_err-make_room-clause-writes
returns-in_err-make_room-clause-writes g c =
    let F = g.F.Folded in
    let D = g.D.Disk in
    let d = c.args.disk.now in
    let j = c.args.self.now in
    let v = F.value j.held in
    writes_refused D F.FAMILY (held_in F.FAMILY (F.from F.empty)) _ _ _ d c.requires.stands.ready
    (λ tells. let r = c.requires.stands.rests tells in
    record { family_is = r.family_is; at_rest = r.at_rest; current = r.current; means = r.means ∙ ap (λ x. Ok x) (sym c.make_room.ensures.same) })
    (λ tells told files i. gives_hold F.FAMILY (F.from F.empty) j.gate v (D.content d) files (c.requires.stands.rests tells) ((g.met.D.Disk.images_now d files tells).0 i))
    c.from_residual-in_err-make_room.result c.from_residual-in_err-make_room.ensures.1 c.make_room.ensures.same (ap (λ x. max j.gate.end (rewrite_size (F.size x))) c.make_room.ensures.same)

pub returns-in_ok-settled-in-Ok-clause-writes : goal.returns-in_ok-settled-in-Ok-clause-writes
returns-in_ok-settled-in-Ok-clause-writes g c =
    let F = g.F.Folded in
    let D = g.D.Disk in
    let d = c.args.disk.now in
    let new = c.rewrite.new.disk in
    let j = c.args.self.now in
    let v = F.value j.held in
    let r = c.args.region in
    let w = F.changed v r in
    let p = c.as_slice.result.now in
    let list : p ≡ anew_words g.F.Region.Word.word r c.args.rest = c.as_slice.ensures.value ∙ c.in_ok-words.ensures.words in
    let gives : F.from F.empty (placed 0 p) ≡ Ok w = ap (λ ps. F.from F.empty (placed 0 ps)) list ∙ c.requires.gives in
    let made : F.value c.settle-settled.new.self ≡ F.changed (F.value c.make_room.new.self) r =
    subst (λ s. OnOk s (F.value c.settle-settled.new.self ≡ F.changed (F.value c.make_room.new.self) r)) c.in_ok-settled-in-Ok.was c.settle-settled.ensures.settled in
    let value : F.value c.settle-settled.new.self ≡ w = made ∙ ap (λ x. F.changed x r) c.make_room.ensures.same in
    record {
      goes_on = c.in-Ok.ensures.writes.goes_on;
      moves = λ tells. moves_over D F.FAMILY (F.from F.empty) j.gate c.rewrite.new.self v d new tells (c.requires.stands.rests tells) _ p w c.in-Ok.ensures.writes gives (c.rewrite.ensures.rewrites tells);
      done = record {
        value = value;
        weight = anew_weight j.gate.end c.rewrite.new.self.end (F.size v) (F.size (F.value c.settle-settled.new.self)) (length (g.F.Region.Word.word r)) (F.rise r) (length (open_regions p)) c.in-Ok.ensures.rewritten.end
            (omega (arith, ap (λ ps. length (open_regions ps)) list, ap F.size value, c.requires.small)) (omega (arith, ap F.size value, g.met.F.Folded.sized v r c.requires.lawful c.in_ok-words.ensures.fits)) (g.met.F.Folded.rises r);
        ready = (c.is_err-self.ensures.value ∙ ap is_err c.in_ok-settled-in-Ok.was, c.in-Ok.ensures.writes.ready);
        rests = λ tells. rests_give F.FAMILY (F.from F.empty) c.rewrite.new.self p (F.value c.settle-settled.new.self) (D.content new)
            (ap (λ (q : Place). q.family) c.in-Ok.ensures.rewritten.slot ∙ (c.requires.stands.rests tells).family_is) (c.in-Ok.ensures.rests tells) (gives ∙ ap (λ x. Ok x) (sym value));
      };
      refused = tt;
    }

pub returns-in_err-settled-in-Ok-clause-writes : goal.returns-in_err-settled-in-Ok-clause-writes
returns-in_err-settled-in-Ok-clause-writes g c =
    let F = g.F.Folded in
    let D = g.D.Disk in
    let d = c.args.disk.now in
    let new = c.rewrite.new.disk in
    let j = c.args.self.now in
    let v = F.value j.held in
    let r = c.args.region in
    let w = F.changed v r in
    let p = c.as_slice.result.now in
    let list : p ≡ anew_words g.F.Region.Word.word r c.args.rest = c.as_slice.ensures.value ∙ c.in_ok-words.ensures.words in
    let gives : F.from F.empty (placed 0 p) ≡ Ok w = ap (λ ps. F.from F.empty (placed 0 ps)) list ∙ c.requires.gives in
    writes_lost D F.FAMILY (held_in F.FAMILY (F.from F.empty)) _ _ _ d new c.from_residual-in_err-settled-in-Ok.result c.from_residual-in_err-settled-in-Ok.ensures.1 c.in-Ok.ensures.writes.goes_on
    (λ tells. moves_over D F.FAMILY (F.from F.empty) j.gate c.rewrite.new.self v d new tells (c.requires.stands.rests tells) _ p w c.in-Ok.ensures.writes gives (c.rewrite.ensures.rewrites tells))
    (record {
      may_be = c.settle-settled.ensures.lost (subst IsErr (sym c.in_err-settled-in-Ok.was) refl);
      failed = λ ready. absurd (cc (ready.0, c.is_err-self.ensures.value ∙ ap is_err c.in_err-settled-in-Ok.was));
      held = λ tells told files i.
          let still = subst (λ (k : Kind). IsTrue k.tells) (sym c.in-Ok.ensures.writes.goes_on.same) tells in
          gives_hold F.FAMILY (F.from F.empty) c.rewrite.new.self w (D.content new) files
          (rests_give F.FAMILY (F.from F.empty) c.rewrite.new.self p w (D.content new) (ap (λ (q : Place). q.family) c.in-Ok.ensures.rewritten.slot ∙ (c.requires.stands.rests tells).family_is)
          (c.in-Ok.ensures.rests tells) gives)
          ((g.met.D.Disk.images_now new files still).0 i);
    })

pub returns-in-Err-clause-writes : goal.returns-in-Err-clause-writes
returns-in-Err-clause-writes g c =
    let F = g.F.Folded in
    let D = g.D.Disk in
    let d = c.args.disk.now in
    let new = c.rewrite.new.disk in
    let j = c.args.self.now in
    let v = F.value j.held in
    let r = c.args.region in
    let w = F.changed v r in
    let p = c.as_slice.result.now in
    let words = anew_words g.F.Region.Word.word r c.args.rest in
    let was = shown_of F.FAMILY (F.from F.empty) F.size j.failed j.gate v in
    let now = shown_of F.FAMILY (F.from F.empty) F.size j.failed c.rewrite.new.self (F.value c.make_room.new.self) in
    let list : p ≡ words = c.as_slice.ensures.value ∙ c.in_ok-words.ensures.words in
    let gives : F.from F.empty (placed 0 p) ≡ Ok w = ap (λ ps. F.from F.empty (placed 0 ps)) list ∙ c.requires.gives in
    let change = rewrite_change F v r words in
    let held = held_in F.FAMILY (F.from F.empty) in
    let small : length (open_regions p) ≤ was.weight + change.rise =
    anew_small j.gate.end (F.size v) (F.size w) (length (g.F.Region.Word.word r)) (F.rise r) (length (open_regions p)) (omega (arith, ap (λ ps. length (open_regions ps)) list, c.requires.small))
    (g.met.F.Folded.sized v r c.requires.lawful c.in_ok-words.ensures.fits) (g.met.F.Folded.rises r) in
    record {
      goes_on = c.in-Err.ensures.writes.goes_on;
      moves = λ tells. moves_over D F.FAMILY (F.from F.empty) j.gate c.rewrite.new.self v d new tells (c.requires.stands.rests tells) _ p w c.in-Err.ensures.writes gives (c.rewrite.ensures.rewrites tells);
      done = tt;
      refused = subst (λ (e : Error). IsRefused D was now d new F.FAMILY held change e) (sym (c.refusal.ensures ∙ ap (λ f. refusal f c.in-Err.error) c.FAMILY.ensures))
          (refused_by D was now d new F.FAMILY held change _ c.in-Err.error (λ ready. absurd (cc (c.in-Err.ensures.writes.failed refl, ready.1))) (inl c.make_room.ensures.same)
          (λ needed limit h. (h.0.limit_is, h.0.passes, h.0.least))
          (λ needed limit h. subst (λ (ps : List (List ℕ)). IsFullFor (DiskTells D d × held.told) F.FAMILY (D.content new).reading (was.weight + change.rise) (λ n. ⊥) (IsSizeOf ps) (DiskFull needed limit)) list
          (full_at (DiskTells D d × held.told) F.FAMILY j.gate.slot (D.content new) p h.0.at needed limit (was.weight + change.rise) h.0.within h.0.needed_is small
          (λ t. let rests = c.requires.stands.rests t.0 in
          let stops = h.0.stops t.0 in (
            rests.family_is,
            subst (λ (q : Place). IsCurrent q (D.content new)) h.1.slot (h.1.current t.0 rests.current),
            stops.holds,
            stops.short,
          ))))
          c.in-Err.ensures.refused);
    }
