use Rattle.std.proofs.Common.{◌≡◌, sym, arith, subst, filter, ℕ, List}
use Rattle.std.specs.Prelude.{nat_le}
use Rattle.std.specs.List.Sorted.{IsStrictlySortedBy}
use Rattle.std.proofs.lemmas.Grind.{common_steps}
use Rattle.den_model.specs.Table.{by_bytes}
use Rattle.den_lease.specs.Due.{due_keys}
use Rattle.den_table.proofs.Sorted.{IsSorted}
use Rattle.den_lease.proofs.expiries.Expiries.due_keys.Goals as goal

pub returns-clause-sorted : goal.returns-clause-sorted
returns-clause-sorted c =
    let is : c.of-2.result ≡ due_keys c.args.moment c.args.self.now = grind (arith, common_steps) in
    let due : c.in_ok-due.due ≡ filter (λ (e : List ℕ × ℕ). nat_le e.1 c.args.moment) c.args.self.now = c.in_ok-due.ensures in
    subst (IsStrictlySortedBy by_bytes) (sym is) (subst (λ t. IsSorted t) due c.iter-key-items.ensures.sorted)
