-- Numbers in their order, one joining behind the other.
use Rattle.std.proofs.Common.{◌≡◌, ℕ, Bool, true, false, cond, map, filter, List, [], ◌∷◌, ◌++◌, refl, sym, ap, ◌∙◌, subst, append_assoc}
use Rattle.std.specs.BTreeSet.{insert_key}
use Rattle.std.specs.List.{AllByRecursion}
use Rattle.std.specs.List.Sorted.{IsStrictlySortedBy}
use Rattle.std.specs.Map.{keys_of}
use Rattle.std.specs.Ordering.{match_ordering, nat_cmp, ordering_reverse}
use Rattle.std.specs.declared.cmp.Ordering.TheVariants.{Less, Greater}
use Rattle.std.proofs.lemmas.Cmp.{nat_cmp_total}
use Rattle.den_member.specs.Numbered.{Numbered}

in_middle : (k q : ℕ) (ks rest : List ℕ) → AllByRecursion (λ y. nat_cmp q y ≡ Less) (ks ++ k ∷ rest) → nat_cmp q k ≡ Less
in_middle k q [] rest h = h.0
in_middle k q (x ∷ xs) rest h = in_middle k q xs rest h.1

-- a number joins behind those so far, where the rest goes on sorted
key_next : (ks : List ℕ) (k : ℕ) (rest : List ℕ) → IsStrictlySortedBy nat_cmp (ks ++ k ∷ rest) → insert_key nat_cmp ks k ≡ ks ++ k ∷ []
unfolding IsStrictlySortedBy
key_next [] k rest sorted = refl
key_next (x ∷ xs) k rest sorted =
    let above : nat_cmp k x ≡ Greater = nat_cmp_total.antisymm k x ∙ ap ordering_reverse (in_middle k x xs rest sorted.0) in
    ap (λ o. match_ordering o (k ∷ x ∷ xs) (x ∷ xs) (x ∷ insert_key nat_cmp xs k)) above ∙ ap (λ (u : List ℕ). x ∷ u) (key_next xs k rest sorted.1)

-- a walk that takes in what it meets
pub walk_keys : (ks new : List ℕ) (k : ℕ) (rest all : List ℕ) → ks ++ k ∷ rest ≡ all → IsStrictlySortedBy nat_cmp all → new ≡ insert_key nat_cmp ks k → new ++ rest ≡ all
walk_keys ks new k rest all met sorted put =
    let so_far : IsStrictlySortedBy nat_cmp (ks ++ k ∷ rest) = subst (λ (u : List ℕ). IsStrictlySortedBy nat_cmp u) (sym met) sorted in
    ap (λ (u : List ℕ). u ++ rest) (put ∙ key_next ks k rest so_far) ∙ (rw append_assoc met)

-- those that pass stay in their order
kept_above : {X : Type 0} (passes : ℕ × X → Bool) (k : ℕ) (t : Numbered X) → AllByRecursion (λ y. nat_cmp k y ≡ Less) (keys_of t) → AllByRecursion (λ y. nat_cmp k y ≡ Less) (map (λ e. e.0) (filter passes t))
kept_above passes k [] above = tt
kept_above {X} passes k (e ∷ es) above =
    elim (passes e) as (λ b. AllByRecursion (λ y. nat_cmp k y ≡ Less) (map (λ (e : ℕ × X). e.0) (cond b (e ∷ filter passes es) (filter passes es)))) [
      | true ↦ (above.0, kept_above passes k es above.1)
      | false ↦ kept_above passes k es above.1
    ]

pub kept_sorted : {X : Type 0} (passes : ℕ × X → Bool) (t : Numbered X) → IsStrictlySortedBy nat_cmp (keys_of t) → IsStrictlySortedBy nat_cmp (map (λ e. e.0) (filter passes t))
unfolding IsStrictlySortedBy
kept_sorted passes [] sorted = tt
kept_sorted {X} passes (e ∷ es) sorted =
    elim (passes e) as (λ b. IsStrictlySortedBy nat_cmp (map (λ (e : ℕ × X). e.0) (cond b (e ∷ filter passes es) (filter passes es)))) [
      | true ↦ (kept_above passes e.0 es sorted.0, kept_sorted passes es sorted.1)
      | false ↦ kept_sorted passes es sorted.1
    ]
