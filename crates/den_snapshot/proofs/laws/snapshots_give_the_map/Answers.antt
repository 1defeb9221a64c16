use Rattle.den_map.proofs.Rebuilding.{rebuilt}
use Rattle.den_snapshot.proofs.laws.snapshots_give_the_map.Goals as goal

pub returns : goal.returns
returns c = λ m sound mark. rebuilt (record m { mark = mark }) (record { sorted = sound.sorted; expiries = sound.expiries })
