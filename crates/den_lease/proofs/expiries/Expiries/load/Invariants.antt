use Rattle.std.proofs.Common.{◌≡◌, take}
use Rattle.den_lease.proofs.expiries.Expiries.load.Given as goal

-- the rows so far
abbrev pub invariant-loop-row : goal.invariant-loop-row
invariant-loop-row l = l.map ≡ take l.row-index l.snapshot
