use Rattle.std.proofs.Common.{◌∙◌, ap}
use Rattle.den_snapshot.specs.Snapshots.{rises}
use Rattle.den_snapshot.proofs.Rising.{stored_rise}
use Rattle.den_snapshot.proofs.snapshot.Snapshot.of_map.Goals as goal

pub invariant_of-result : goal.invariant_of-result
invariant_of-result c = ap rises c.in_ok-pairs.ensures.pairs ∙ stored_rise c.args.map.now c.in_ok-pairs.ensures.sound
