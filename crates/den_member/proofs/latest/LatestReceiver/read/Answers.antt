use Rattle.den_member.proofs.latest.LatestReceiver.read.Goals as goal

pub returns : goal.returns
returns g c = (_, c.made_of.ensures)
