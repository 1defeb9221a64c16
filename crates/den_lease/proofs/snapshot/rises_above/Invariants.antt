use Rattle.std.proofs.Common.{◌≡◌, drop}
use Rattle.den_lease.specs.Rising.{rises_above}
use Rattle.den_lease.proofs.snapshot.rises_above.Given as goal

-- the rest from here rises as all do
abbrev pub invariant-loop-row : goal.invariant-loop-row
invariant-loop-row l = rises_above l.last (drop l.row-index l.rows) ≡ rises_above l.key l.rows
