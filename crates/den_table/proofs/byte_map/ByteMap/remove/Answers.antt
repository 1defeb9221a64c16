use Rattle.std.proofs.Common.{subst}
use Rattle.den_table.proofs.KeyedBy.{keyed_unset}
use Rattle.den_table.proofs.Sorted.{IsSorted, sorted_keyed}
use Rattle.den_table.proofs.byte_map.ByteMap.remove.Goals as goal

pub returns-clause-rest : goal.returns-clause-rest
returns-clause-rest g c = rw (c.remove.ensures.entries, ← c.self.view_is) (keyed_unset c.self.inside.map.entries c.args.key.now)

pub returns-clause-sorted : goal.returns-clause-sorted
returns-clause-sorted g c = subst (λ t. IsSorted t) c.self.view_is (sorted_keyed c.self.inside.map.entries c.len-count.ensures.ordered)
