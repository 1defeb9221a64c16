use Rattle.den_member.proofs.guard.MembershipGuard.blocking_read.Goals as goal

pub returns : goal.returns
returns g c = (_, c.made_of.ensures)
