use Rattle.std.proofs.Common.{◌∙◌, ap, subst, filter}
use Rattle.std.specs.Ordering.{is_le}
use Rattle.den_model.specs.Table.{by_bytes}
use Rattle.den_table.specs.Keyed.{keyed}
use Rattle.den_table.proofs.KeyedBy.{keyed_from}
use Rattle.den_table.proofs.Sorted.{IsSorted, sorted_keyed}
use Rattle.den_table.proofs.byte_map.ByteMap.iter_from.Goals as goal

pub returns-clause-entries : goal.returns-clause-entries
returns-clause-entries g c = ap keyed (c.range.ensures.between tt) ∙ keyed_from c.args.start.now.items c.self.inside.map.entries
    ∙ ap (filter (λ e. is_le (by_bytes c.args.start.now.items e.0))) c.self.view_is

pub returns-clause-sorted : goal.returns-clause-sorted
returns-clause-sorted g c = subst (λ t. IsSorted t) c.self.view_is (sorted_keyed c.self.inside.map.entries c.range.ensures.ordered)
