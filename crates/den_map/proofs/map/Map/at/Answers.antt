use Rattle.std.proofs.Common.{ℕ, sym, subst}
use Rattle.den_model.specs.declared.held.Held.{Held}
use Rattle.den_model.specs.Table.{Table}
use Rattle.den_map.specs.Held.{AreExpiriesOf}
use Rattle.den_map.proofs.Cleaning.{no_expiries}
use Rattle.den_map.proofs.map.Map.at.Goals as goal

pub invariant_of-result : goal.invariant_of-result
invariant_of-result c = subst (λ (n : Table ℕ × Table Held). AreExpiriesOf n.1 n.0) (λ i. (sym c.new-2.ensures i, sym c.new.ensures i)) no_expiries
