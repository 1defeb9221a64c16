use Rattle.std.proofs.Common.{◌≡◌, ℕ, sym, subst, ◌∙◌}
use Rattle.den_model.specs.declared.held.Held.{Held}
use Rattle.den_model.specs.Table.{Table, set}
use Rattle.den_map.specs.Held.{AreExpiriesOf}
use Rattle.den_map.proofs.Cleaning.{held_more, expires_more, is_moment}
use Rattle.den_map.proofs.map.Map.set_pair.Goals as goal

pub invariant_of-self-in-Continue-branch-2 : goal.invariant_of-self-in-Continue-branch-2
invariant_of-self-in-Continue-branch-2 c =
    let x = c.self.inside.expiries in
    let p = c.self.inside.pairs in
    let k = c.args.key.now in
    let m = c.in-Some.expiry in
    let pairs : c.insert.new.self ≡ set p k c.args.held = c.in_ok-insert.ensures.ok ∙ λ i. set p (c.as_slice.ensures i) c.args.held in
    let expiries : c.insert-in-Some.new.self ≡ set x k m = c.in_ok-insert-2.ensures.ok ∙ λ i. set x (c.as_slice-in-Some.ensures i) m in
    subst (λ (n : Table ℕ × Table Held). AreExpiriesOf n.1 n.0) (λ i. (sym expiries i, sym pairs i)) (expires_more x p k c.args.held m (is_moment c.args.expiry m (sym c.new.ensures ∙ c.in-Some.is)) c.self.invariant)

pub invariant_of-self-in_err-insert-2 : goal.invariant_of-self-in_err-insert-2
invariant_of-self-in_err-insert-2 c =
    let x = c.self.inside.expiries in
    let p = c.self.inside.pairs in
    let k = c.args.key.now in
    let pairs : c.insert.new.self ≡ set p k c.args.held = c.in_ok-insert.ensures.ok ∙ λ i. set p (c.as_slice.ensures i) c.args.held in
    let expiries : c.insert-in-Some.new.self ≡ x = c.in_err-insert-2.ensures.err in
    subst (λ (n : Table ℕ × Table Held). AreExpiriesOf n.1 n.0) (λ i. (sym expiries i, sym pairs i)) (held_more x p k c.args.held c.self.invariant)

pub invariant_of-self-in_default : goal.invariant_of-self-in_default
invariant_of-self-in_default c =
    let x = c.self.inside.expiries in
    let p = c.self.inside.pairs in
    let k = c.args.key.now in
    let pairs : c.insert.new.self ≡ set p k c.args.held = c.in_ok-insert.ensures.ok ∙ λ i. set p (c.as_slice.ensures i) c.args.held in
    subst (λ (n : Table Held). AreExpiriesOf n x) (sym pairs) (held_more x p k c.args.held c.self.invariant)
