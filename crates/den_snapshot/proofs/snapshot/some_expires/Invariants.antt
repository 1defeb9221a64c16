use Rattle.std.proofs.Common.{◌≡◌, drop}
use Rattle.den_snapshot.specs.Snapshots.{some_expires}
use Rattle.den_snapshot.proofs.snapshot.some_expires.Given as goal

-- a pair of the rest has an expiry where one of all has
abbrev pub invariant-loop-pair : goal.invariant-loop-pair
invariant-loop-pair l = some_expires (drop l.pair-index l.pairs) ≡ some_expires l.pairs
