use Rattle.std.proofs.Common.{subst}
use Rattle.den_table.proofs.Sorted.{IsSorted, sorted_keyed}
use Rattle.den_table.proofs.byte_map.ByteMap.iter.Goals as goal

pub returns-clause-sorted : goal.returns-clause-sorted
returns-clause-sorted g c = subst (λ t. IsSorted t) c.self.view_is (sorted_keyed c.self.inside.map.entries c.iter.ensures.ordered)
