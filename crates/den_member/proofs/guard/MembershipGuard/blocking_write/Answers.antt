use Rattle.den_member.proofs.guard.MembershipGuard.blocking_write.Goals as goal

pub returns : goal.returns
returns g c = (_, _, c.made_in.ensures)
