use Rattle.std.proofs.Common.{◌≡◌, ◌++◌}
use Rattle.den_table.specs.Keyed.{keyed}
use Rattle.den_lease.proofs.expiries.Expiries.snapshot.Given as goal

-- the rows so far, and the rest
abbrev pub invariant-loop-key : goal.invariant-loop-key
invariant-loop-key l = l.rows.items ++ keyed l.key-iterator ≡ l.self
