use Rattle.std.proofs.Common.{◌≡◌, drop}
use Rattle.den_snapshot.specs.Snapshots.{rises_above}
use Rattle.den_snapshot.proofs.snapshot.rises_above.Given as goal

-- the rest from here rises as all do
abbrev pub invariant-loop-pair : goal.invariant-loop-pair
invariant-loop-pair l = rises_above l.last (drop l.pair-index l.pairs) ≡ rises_above l.key l.pairs
