use Rattle.std.proofs.Common.{◌≡◌, ◌++◌, map}
use Rattle.den_table.specs.Keyed.{keyed}
use Rattle.den_lease.specs.Due.{due_keys}
use Rattle.den_lease.proofs.expiries.Expiries.due_keys.Given as goal

-- the keys so far, and the rest
abbrev pub invariant-loop-key : goal.invariant-loop-key
invariant-loop-key l = l.keys.items ++ map (λ e. e.0) (keyed l.key-iterator) ≡ due_keys l.moment l.self
