use Rattle.std.proofs.Common.{subst}
use Rattle.den_table.proofs.KeyedBy.{keyed_at, keyed_unset, same_key}
use Rattle.den_table.proofs.Sorted.{IsSorted, sorted_keyed}
use Rattle.den_table.proofs.byte_map.ByteMap.take.Goals as goal

pub returns-clause-key : goal.returns-clause-key
returns-clause-key g c = same_key c.args.key.now c.remove_entry.result c.remove_entry.ensures.same_key

pub returns-clause-value : goal.returns-clause-value
returns-clause-value g c = rw (c.remove_entry.ensures.value, ← c.self.view_is) (keyed_at c.self.inside.map.entries c.args.key.now)

pub returns-clause-rest : goal.returns-clause-rest
returns-clause-rest g c = rw (c.remove_entry.ensures.entries, ← c.self.view_is) (keyed_unset c.self.inside.map.entries c.args.key.now)

pub returns-clause-sorted : goal.returns-clause-sorted
returns-clause-sorted g c = subst (λ t. IsSorted t) c.self.view_is (sorted_keyed c.self.inside.map.entries c.len-count.ensures.ordered)
