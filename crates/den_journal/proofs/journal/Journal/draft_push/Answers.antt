use Rattle.std.proofs.Common.{◌≡◌, List, ◌++◌, ℕ, Ok, Err, refl, ◌∙◌, sym, ap, subst}
use Rattle.den_codec.specs.declared.error.Error.{Error}
use Rattle.den_journal.specs.Drafts.{Pushes}
use Rattle.den_journal.specs.Refused.{refusal}
use Rattle.den_journal.proofs.Drafting.{push_made, push_refused, push_wanting}
use Rattle.den_journal.proofs.journal.Journal.draft_push.Goals as goal

pub returns-in_err-write-clause-pushes : goal.returns-in_err-write-clause-pushes
returns-in_err-write-clause-pushes g c = λ stands words drafting.
    push_wanting g.F.Folded g.D.Disk g.met.D.Disk.images_now stands c.args.self.now _ c.args.disk.now words _ drafting refl refl c.from_residual.result c.from_residual.ensures.1

pub returns-in-Ok-clause-pushes : goal.returns-in-Ok-clause-pushes
returns-in-Ok-clause-pushes g c = λ stands words drafting.
    let w = g.F.Region.Word.word c.args.region.now in
    let word : c.as_slice.result.now ≡ w = c.as_slice.ensures.value ∙ c.in_ok-write.ensures.ok ∙ ap (λ (x : List ℕ). x ++ w) c.clear.ensures.items in
    subst (λ (p : List ℕ). Pushes g.F.Folded g.D.Disk c.args.self.now (record c.args.self.now { gate = c.draft_push.new.self; word = c.write.new.out }) c.args.disk.now c.draft_push.new.disk {T = Unit {0}} stands words p (Ok (tt {0}))) word
    (push_made g.F.Folded g.D.Disk g.met.D.Disk.images_now stands c.args.self.now _ c.args.disk.now c.draft_push.new.disk words drafting refl _ _ c.as_slice.result.now c.in-Ok.ensures.writes.ready refl c.in-Ok.ensures.draft
    c.in-Ok.ensures.writes c.in-Ok.ensures.keeps c.in-Ok.ensures.pushed)

pub returns-in-Err-clause-pushes : goal.returns-in-Err-clause-pushes
returns-in-Err-clause-pushes g c = λ stands words drafting.
    let w = g.F.Region.Word.word c.args.region.now in
    let now = record c.args.self.now { gate = c.draft_push.new.self; word = c.write.new.out } in
    let word : c.as_slice.result.now ≡ w = c.as_slice.ensures.value ∙ c.in_ok-write.ensures.ok ∙ ap (λ (x : List ℕ). x ++ w) c.clear.ensures.items in
    subst (λ (e : Error). Pushes g.F.Folded g.D.Disk c.args.self.now now c.args.disk.now c.draft_push.new.disk {T = Unit {0}} stands words w (Err e)) (sym (c.refusal.ensures ∙ ap (λ f. refusal f c.in-Err.error) c.FAMILY.ensures))
    (subst (λ (p : List ℕ). Pushes g.F.Folded g.D.Disk c.args.self.now now c.args.disk.now c.draft_push.new.disk {T = Unit {0}} stands words p (Err (refusal g.F.Folded.FAMILY c.in-Err.error))) word
    (push_refused g.F.Folded g.D.Disk g.met.D.Disk.images_now stands c.args.self.now now c.args.disk.now c.draft_push.new.disk words drafting refl _ c.as_slice.result.now c.in-Err.error (c.in-Err.ensures.writes.failed refl)
    c.in-Err.ensures.writes c.in-Err.ensures.keeps c.in-Err.ensures.refused))
