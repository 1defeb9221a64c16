use Rattle.std.proofs.Common.{◌∙◌, sym, true≢false}
use Rattle.den_map.proofs.Applying.{entry_lawful}
use Rattle.den_map.proofs.Overlay.{over_noted}
use Rattle.den_map.proofs.map.Map.record_next.Goals as goal
use Rattle.den_map.proofs.map.Map.record_next.Goals.{then-more+in_ok-note, else-more}

pub returns-clause-over : goal.returns-clause-over
returns-clause-over c = λ more s over. elim c.if-more.branch [
  | then-more+in_ok-note w ↦ rw (w.writes-is, w.in_ok-note.ensures, c.in_ok-journaled.ensures s over) (over_noted c.args.writes.now c.args.self.now s c.args.entry.now over)
  | else-more w ↦ absurd (true≢false (sym more ∙ w.if-more.false))
]

pub returns-clause-lawful : goal.returns-clause-lawful
returns-clause-lawful c = λ s above same. rw same (entry_lawful s c.args.entry.now c.moment-moment.ensures.positive above)
