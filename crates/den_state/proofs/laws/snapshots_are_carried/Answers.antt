use Rattle.den_state.proofs.Carrying.{carried}
use Rattle.den_state.proofs.laws.snapshots_are_carried.Goals as goal

pub returns : goal.returns
returns g c = carried g.D.Disk g.E.Disk
