use Rattle.std.proofs.Common.{◌≡◌, ◌++◌}
use Rattle.den_model.specs.Step.{pairs_under}
use Rattle.den_table.specs.Keyed.{keyed}
use Rattle.den_table.proofs.Sorted.{IsSorted}
use Rattle.den_map.proofs.Scanning.{AllFrom}
use Rattle.den_map.proofs.map.Map.pairs_under.Given as goal

-- the pairs so far, and those of the rest, whose keys are sorted and none below the prefix
abbrev pub invariant-loop-key : goal.invariant-loop-key
invariant-loop-key l = record {
  pairs : l.pairs.items ++ pairs_under (keyed l.key-iterator) l.prefix ≡ pairs_under l.self.pairs l.prefix;
  sorted : IsSorted (keyed l.key-iterator);
  from : AllFrom l.prefix (keyed l.key-iterator);
}
