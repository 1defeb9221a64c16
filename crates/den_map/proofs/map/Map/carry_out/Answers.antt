use Rattle.std.proofs.Common.{◌≡◌, ℕ, ap, sym, subst, ◌∙◌}
use Rattle.den_model.specs.declared.held.Held.{Held}
use Rattle.den_model.specs.Table.{Table, unset}
use Rattle.den_map.specs.Held.{AreExpiriesOf}
use Rattle.den_map.proofs.Cleaning.{held_less}
use Rattle.den_map.proofs.map.Map.carry_out.Goals as goal

pub invariant_of-self : goal.invariant_of-self
invariant_of-self c =
    let x = c.self.inside.expiries in
    let p = c.self.inside.pairs in
    let k = c.as_slice.result.now in
    let same : c.as_slice-in-Delete.result.now ≡ k = c.as_slice-in-Delete.ensures ∙ sym c.as_slice.ensures in
    let expiries : c.remove-in-Delete.new.self ≡ unset x k = c.remove-in-Delete.ensures.rest ∙ ap (unset x) same in
    subst (λ (n : Table ℕ × Table Held). AreExpiriesOf n.1 n.0) (λ i. (sym expiries i, sym c.remove.ensures.rest i))
    (held_less x p k c.remove.ensures.sorted c.self.invariant)
