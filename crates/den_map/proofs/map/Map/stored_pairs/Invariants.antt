use Rattle.std.proofs.Common.{◌≡◌, ◌++◌, map}
use Rattle.den_map.specs.Pages.{stored, stored_pairs}
use Rattle.den_table.specs.Keyed.{keyed}
use Rattle.den_map.proofs.map.Map.stored_pairs.Given as goal

-- the pairs so far and those of the rest are all
abbrev pub invariant-loop-key : goal.invariant-loop-key
invariant-loop-key l = l.pairs.items ++ map (stored l.self.expiries) (keyed l.key-iterator) ≡ stored_pairs l.self
