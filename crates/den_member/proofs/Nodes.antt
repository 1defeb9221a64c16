-- Values at numbers, in the order of the numbers.
use Rattle.std.proofs.Common.{◌≡◌, ℕ, true, false, cond, map, [], ◌∷◌, ◌++◌, Some, None, refl, sym, ap, ◌∙◌, subst, append_assoc, arith}
use Rattle.std.specs.Prelude.{if◌then◌else◌, ◌==◌}
use Rattle.std.specs.BTreeMap.{is_at}
use Rattle.std.specs.List.{AllByRecursion}
use Rattle.std.specs.List.Sorted.{IsStrictlySortedBy}
use Rattle.std.specs.Map.{keys_of, set_value}
use Rattle.std.specs.Ordering.{is_eq, match_ordering, nat_cmp, ordering_reverse}
use Rattle.std.specs.declared.cmp.Ordering.TheVariants.{Less, Equal, Greater}
use Rattle.std.proofs.lemmas.Cmp.{nat_cmp_total}
use Rattle.std.proofs.lemmas.Map.Lookups.{exact_unsigned}
use Rattle.den_member.specs.Numbered.{Numbered, at, set}

-- ---- a number above all others

in_middle : {X : Type 0} (k q : ℕ) (x : X) (t rest : Numbered X) → AllByRecursion (λ y. nat_cmp q y ≡ Less) (keys_of (t ++ (k, x) ∷ rest)) → nat_cmp q k ≡ Less
in_middle k q x [] rest h = h.0
in_middle k q x (e ∷ es) rest h = in_middle k q x es rest h.1

-- what is set behind the numbers so far, where the rest goes on sorted
pub set_next : {X : Type 0} (t : Numbered X) (k : ℕ) (x : X) (rest : Numbered X) → IsStrictlySortedBy nat_cmp (keys_of (t ++ (k, x) ∷ rest)) → set t k x ≡ t ++ (k, x) ∷ []
unfolding IsStrictlySortedBy
set_next [] k x rest sorted = refl
set_next {X} (e ∷ es) k x rest sorted =
    let above : nat_cmp k e.0 ≡ Greater = nat_cmp_total.antisymm k e.0 ∙ ap ordering_reverse (in_middle k e.0 x es rest sorted.0) in
    ap (λ o. match_ordering o ((k, x) ∷ e ∷ es) ((e.0, x) ∷ es) (e ∷ set es k x)) above ∙ ap (λ (t : Numbered X). e ∷ t) (set_next es k x rest sorted.1)

-- a walk that sets what it meets
pub walk : {X : Type 0} (t new : Numbered X) (k : ℕ) (x : X) (rest all : Numbered X) → t ++ (k, x) ∷ rest ≡ all → IsStrictlySortedBy nat_cmp (keys_of all) → new ≡ set t k x → new ++ rest ≡ all
walk {X} t new k x rest all met sorted put =
    let so_far : IsStrictlySortedBy nat_cmp (keys_of (t ++ (k, x) ∷ rest)) = subst (λ (u : Numbered X). IsStrictlySortedBy nat_cmp (keys_of u)) (sym met) sorted in
    ap (λ (u : Numbered X). u ++ rest) (put ∙ set_next t k x rest so_far) ∙ (rw append_assoc met)

-- ---- the value at a number, changed

-- where no number is this one, nothing changes
unchanged : {X : Type 0} (k : ℕ) (f : X → X) (t : Numbered X) → AllByRecursion (λ y. nat_cmp k y ≡ Less) (keys_of t) → map (λ e. if is_at (nat_cmp k) e.0 then (e.0, f e.1) else e) t ≡ t
unchanged k f [] above = refl
unchanged {X} k f (e ∷ es) above =
    let first : (if is_at (nat_cmp k) e.0 then (e.0, f e.1) else e) ≡ e = ap (λ o. if is_eq o then (e.0, f e.1) else e) above.0 in
    let rest = unchanged k f es above.1 in
    λ i. first i ∷ rest i

missing_by_order : {X : Type 0} (k : ℕ) (f : X → X) (t : Numbered X) → at t k ≡ None → map (λ e. if is_at (nat_cmp k) e.0 then (e.0, f e.1) else e) t ≡ t
missing_by_order k f [] none = refl
missing_by_order {X} k f (e ∷ es) none =
    elim (is_at (nat_cmp k) e.0) as (λ b. cond b (Some e.1) (at es k) ≡ None → (if b then (e.0, f e.1) else e) ∷ map (λ e. if is_at (nat_cmp k) e.0 then (e.0, f e.1) else e) es ≡ e ∷ es) [
      | true ↦ λ h. cc
      | false ↦ λ h. ap (λ (t : Numbered X). e ∷ t) (missing_by_order k f es h)
    ] none

held_by_order : {X : Type 0} (k : ℕ) (f : X → X) (x : X) (t : Numbered X) → IsStrictlySortedBy nat_cmp (keys_of t) → at t k ≡ Some x → set_value (is_at (nat_cmp k)) t (f x) ≡ map (λ e. if is_at (nat_cmp k) e.0 then (e.0, f e.1) else e) t
unfolding IsStrictlySortedBy
held_by_order k f x [] sorted held = cc
held_by_order {X} k f x (e ∷ es) sorted held =
    let g : ℕ × X → ℕ × X = λ e. if is_at (nat_cmp k) e.0 then (e.0, f e.1) else e in
    elim (nat_cmp k e.0) as (λ o. nat_cmp k e.0 ≡ o → cond (is_eq o) (Some e.1) (at es k) ≡ Some x → cond (is_eq o) ((e.0, f x) ∷ es) (e ∷ set_value (is_at (nat_cmp k)) es (f x)) ≡ (if is_eq o then (e.0, f e.1) else e) ∷ map g es) [
      | Less ↦ λ is h. ap (λ (t : Numbered X). e ∷ t) (held_by_order k f x es sorted.1 h)
      | Equal ↦ λ is h.
          let same : k ≡ e.0 = exact_unsigned k e.0 is in
          let value : e.1 ≡ x = cc in
          let above : AllByRecursion (λ y. nat_cmp k y ≡ Less) (keys_of es) = rw same sorted.0 in
          let rest = unchanged k f es above in
          sym (λ i. (e.0, f (value i)) ∷ rest i)
      | Greater ↦ λ is h. ap (λ (t : Numbered X). e ∷ t) (held_by_order k f x es sorted.1 h)
    ] refl held

-- numbers compare as equal exactly where they are
same_at : (k q : ℕ) → is_at (nat_cmp k) q ≡ (k == q)
same_at k q = grind arith

pub changed_missing : {X : Type 0} (k : ℕ) (f : X → X) (t : Numbered X) → at t k ≡ None → map (λ e. if k == e.0 then (e.0, f e.1) else e) t ≡ t
changed_missing {X} k f t none = (λ i. map (λ (e : ℕ × X). if sym (same_at k e.0) i then (e.0, f e.1) else e) t) ∙ missing_by_order k f t none

pub changed_held : {X : Type 0} (k : ℕ) (f : X → X) (x : X) (t : Numbered X) → IsStrictlySortedBy nat_cmp (keys_of t) → at t k ≡ Some x → set_value (is_at (nat_cmp k)) t (f x) ≡ map (λ e. if k == e.0 then (e.0, f e.1) else e) t
changed_held {X} k f x t sorted held = held_by_order k f x t sorted held ∙ (λ i. map (λ (e : ℕ × X). if same_at k e.0 i then (e.0, f e.1) else e) t)
