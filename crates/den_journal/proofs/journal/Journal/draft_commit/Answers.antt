use Rattle.std.proofs.Common.{Err, refl, ◌∙◌, sym, ap, subst}
use Rattle.den_codec.specs.declared.error.Error.{Error}
use Rattle.den_journal.specs.Drafts.{Commits}
use Rattle.den_journal.specs.Refused.{refusal}
use Rattle.den_journal.proofs.Drafting.{commit_made, commit_refused}
use Rattle.den_journal.proofs.journal.Journal.draft_commit.Goals as goal

pub returns-in-Ok-clause-commits : goal.returns-in-Ok-clause-commits
returns-in-Ok-clause-commits g c = λ stands words drafting is.
    commit_made g.F.Folded g.D.Disk stands c.args.self.now _ c.args.disk.now c.draft_commit.new.disk words drafting is _ c.in-Ok.ensures.writes c.in-Ok.ensures.rewrites _ g.met.F.Folded.anew c.renew.ensures refl
    c.in-Ok.ensures.writes.ready c.in-Ok.ensures.rewritten c.in-Ok.ensures.rests

pub returns-in-Err-clause-commits : goal.returns-in-Err-clause-commits
returns-in-Err-clause-commits g c = λ stands words drafting is.
    subst (λ (e : Error). Commits g.F.Folded g.D.Disk c.args.self.now (record c.args.self.now { gate = c.draft_commit.new.self }) c.args.disk.now c.draft_commit.new.disk {T = Unit {0}} stands words (Err e))
    (sym (c.refusal.ensures ∙ ap (λ f. refusal f c.in-Err.error) c.FAMILY.ensures))
    (commit_refused g.F.Folded g.D.Disk stands c.args.self.now _ c.args.disk.now c.draft_commit.new.disk words drafting is _ c.in-Err.ensures.writes c.in-Err.ensures.rewrites c.in-Err.error refl
    (c.in-Err.ensures.writes.failed refl) c.in-Err.ensures.refused)
