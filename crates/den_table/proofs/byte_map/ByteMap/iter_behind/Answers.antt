use Rattle.std.proofs.Common.{◌≡◌, ◌∙◌, ℕ, Option, option_map, sym, ap, subst, Bor}
use Rattle.std.specs.Global.{Vec}
use Rattle.std.specs.declared.ops.Bound.{Bound}
use Rattle.std.specs.declared.ops.Bound.TheVariants.{Unbounded}
use Rattle.std.specs.Range.Bound.{bound_map}
use Rattle.std.specs.BTreeMap.Range.{entries_between}
use Rattle.den_model.specs.Table.{by_bytes}
use Rattle.den_table.specs.Keyed.{keyed, behind}
use Rattle.den_table.proofs.KeyedBy.{keyed_all, keyed_behind}
use Rattle.den_table.proofs.Sorted.{IsSorted, sorted_keyed}
use Rattle.den_table.proofs.byte_map.ByteMap.iter_behind.Goals as goal
use Rattle.den_table.proofs.byte_map.ByteMap.iter_behind.Goals.{in-None, in-Some}

pub returns-clause-entries : goal.returns-clause-entries
returns-clause-entries g c =
    let es = c.self.inside.map.entries in
    let from = λ (start : Bound (Bor (Vec ℕ))). entries_between (λ (a b : Vec ℕ). by_bytes a.items b.items) (bound_map (λ x. x.now) start) Unbounded es in
    let shown = λ (key : Option (Bor (Vec ℕ))). behind (option_map (λ k. k.now.items) key) (keyed es) in
    let is : keyed c.range.result ≡ shown c.args.key = ap keyed (c.range.ensures.between tt) ∙ elim c.match-key.branch [
      | in-None w ↦ ap (λ start. keyed (from start)) w.start-is ∙ keyed_all es ∙ sym (ap shown w.in-None.is)
      | in-Some w ↦ ap (λ start. keyed (from start)) w.start-is ∙ keyed_behind w.in-Some.key.now.items es ∙ sym (ap shown w.in-Some.is)
    ] in
    is ∙ ap (behind (option_map (λ k. k.now.items) c.args.key)) c.self.view_is

pub returns-clause-sorted : goal.returns-clause-sorted
returns-clause-sorted g c = subst (λ t. IsSorted t) c.self.view_is (sorted_keyed c.self.inside.map.entries c.range.ensures.ordered)
