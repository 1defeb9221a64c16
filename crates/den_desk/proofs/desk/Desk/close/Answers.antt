use Rattle.den_desk.proofs.Ends.{told_at_end}
use Rattle.den_desk.proofs.desk.Desk.close.Goals as goal

pub returns-clause-told : goal.returns-clause-told
returns-clause-told g c kept = told_at_end g.D.Disk _ _ _ _ _ _ _ _ c.of.ensures kept c.stands.ensures.stands
