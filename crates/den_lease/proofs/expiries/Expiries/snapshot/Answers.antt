use Rattle.std.proofs.Common.{◌≡◌, ℕ, ◌∙◌, ap, subst}
use Rattle.std.proofs.lemmas.Grind.{common_steps}
use Rattle.std.proofs.Common.{arith}
use Rattle.den_model.specs.Table.{Table}
use Rattle.den_lease.specs.Rising.{rises}
use Rattle.den_lease.proofs.Rising.{rises_from_sorted}
use Rattle.den_table.proofs.Sorted.{IsSorted}
use Rattle.den_lease.proofs.expiries.Expiries.snapshot.Goals as goal

pub of-requires-3 : goal.of-requires-3
of-requires-3 c =
    let is : c.of-2.result ≡ c.args.self.now = grind (arith, common_steps) in
    ap (λ (t : Table ℕ). rises t) is ∙ rises_from_sorted c.args.self.now (subst (λ t. IsSorted t) c.self.view_is c.iter-key-items.ensures.sorted)
