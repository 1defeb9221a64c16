-- What a table has at a key after a change at one, and that its keys stay sorted.
use Rattle.std.proofs.Common.{◌≡◌, ℕ, true, false, cond, List, [], ◌∷◌, Option, Some, None, refl, sym, ap, subst, ◌∙◌, true≢false}
use Rattle.std.specs.List.Sorted.{IsStrictlySortedBy}
use Rattle.std.specs.Map.{keys_of}
use Rattle.std.specs.Ordering.{is_eq, match_ordering, ordering_reverse}
use Rattle.std.specs.declared.cmp.Ordering.TheVariants.{Less, Equal, Greater}
use Rattle.std.proofs.lemmas.Cmp.{nat_list_cmp_total, eq_by_cmp_equiv}
use Rattle.std.proofs.lemmas.Map.{lookup-remove_entry}
use Rattle.std.proofs.lemmas.Map.Keys.{IsDistinct-from_sorted}
use Rattle.std.proofs.lemmas.Map.Lookups.{exact_bytes}
use Rattle.den_model.specs.Table.{Table, by_bytes, is_same, at, set, unset}
use Rattle.den_table.proofs.Sorted.{IsSorted, AllAbove}

-- ---- what stands at a key

pub same_is : (k q : List ℕ) → is_same k q ≡ true → k ≡ q
same_is k q e =
    elim (by_bytes k q) as (λ o. by_bytes k q ≡ o → is_eq o ≡ true → k ≡ q) [
      | Less ↦ λ is h. absurd (true≢false (sym h))
      | Equal ↦ λ is h. exact_bytes k q is
      | Greater ↦ λ is h. absurd (true≢false (sym h))
    ] refl e

-- a key below or above another is not the same
other_key : {X : Type 0} (k q first : List ℕ) (x y : X) (rest : Option X) → by_bytes k first ≡ Greater
    → cond (is_same q first) (Some y) (cond (is_same q k) (Some x) rest) ≡ cond (is_same q k) (Some x) (cond (is_same q first) (Some y) rest)
other_key {X} k q first x y rest above =
    elim (is_same q k) as (λ b. is_same q k ≡ b → cond (is_same q first) (Some y) (cond b (Some x) rest) ≡ cond b (Some x) (cond (is_same q first) (Some y) rest)) [
      | true ↦ λ is.
          let at : is_same q first ≡ false = ap (λ (l : List ℕ). is_same l first) (same_is q k is) ∙ ap is_eq above in
          ap (λ b. cond b (Some y) (Some x)) at
      | false ↦ λ is. refl
    ] refl

pub at_set : {X : Type 0} (t : Table X) (k : List ℕ) (x : X) (q : List ℕ) → at (set t k x) q ≡ cond (is_same q k) (Some x) (at t q)
at_set [] k x q = refl
at_set {X} (e ∷ es) k x q =
    elim (by_bytes k e.0) as (λ o. by_bytes k e.0 ≡ o → at (match_ordering o ((k, x) ∷ e ∷ es) ((e.0, x) ∷ es) (e ∷ set es k x)) q ≡ cond (is_same q k) (Some x) (cond (is_same q e.0) (Some e.1) (at es q))) [
      | Less ↦ λ is. refl
      | Equal ↦ λ is.
          let key : k ≡ e.0 = exact_bytes k e.0 is in
          subst (λ (l : List ℕ). cond (is_same q e.0) (Some x) (at es q) ≡ cond (is_same q l) (Some x) (cond (is_same q e.0) (Some e.1) (at es q))) (sym key)
          (elim (is_same q e.0) as (λ b. cond b (Some x) (at es q) ≡ cond b (Some x) (cond b (Some e.1) (at es q))) [ true ↦ refl | false ↦ refl ])
      | Greater ↦ λ is. ap (cond (is_same q e.0) (Some e.1)) (at_set es k x q) ∙ other_key k q e.0 x e.1 (at es q) is
    ] refl

pub at_unset : {X : Type 0} (t : Table X) (k q : List ℕ) → IsSorted t → at (unset t k) q ≡ cond (is_same q k) None (at t q)
at_unset {X} t k q sorted =
    let laws = eq_by_cmp_equiv nat_list_cmp_total in
    lookup-remove_entry laws (is_same k) (laws.congr k) q t (IsDistinct-from_sorted by_bytes (keys_of t) sorted) ∙ ap (λ b. cond b None (at t q)) (laws.symm k q)

-- ---- its keys

above_set : {X : Type 0} (k : List ℕ) (t : Table X) (q : List ℕ) (x : X) → by_bytes k q ≡ Less → AllAbove k t → AllAbove k (set t q x)
above_set k [] q x lt above = (lt, tt)
above_set {X} k (e ∷ es) q x lt above =
    elim (by_bytes q e.0) as (λ o. AllAbove k (match_ordering o ((q, x) ∷ e ∷ es) ((e.0, x) ∷ es) (e ∷ set es q x))) [
      | Less ↦ (lt, above)
      | Equal ↦ above
      | Greater ↦ (above.0, above_set k es q x lt above.1)
    ]

pub above_lower : {X : Type 0} (k q : List ℕ) (t : Table X) → by_bytes k q ≡ Less → AllAbove q t → AllAbove k t
above_lower k q [] lt above = tt
above_lower k q (e ∷ es) lt above = (nat_list_cmp_total.trans k q e.0 lt above.0, above_lower k q es lt above.1)

pub sorted_set : {X : Type 0} (t : Table X) (k : List ℕ) (x : X) → IsSorted t → IsSorted (set t k x)
unfolding IsStrictlySortedBy
sorted_set [] k x sorted = (tt, tt)
sorted_set {X} (e ∷ es) k x sorted =
    elim (by_bytes k e.0) as (λ o. by_bytes k e.0 ≡ o → IsSorted (match_ordering o ((k, x) ∷ e ∷ es) ((e.0, x) ∷ es) (e ∷ set es k x))) [
      | Less ↦ λ is. ((is, above_lower k e.0 es is sorted.0), sorted)
      | Equal ↦ λ is. sorted
      | Greater ↦ λ is. (above_set e.0 es k x (nat_list_cmp_total.antisymm e.0 k ∙ ap ordering_reverse is) sorted.0, sorted_set es k x sorted.1)
    ] refl

above_unset : {X : Type 0} (k : List ℕ) (t : Table X) (q : List ℕ) → AllAbove k t → AllAbove k (unset t q)
above_unset k [] q above = tt
above_unset k (e ∷ es) q above =
    elim (is_same q e.0) as (λ b. AllAbove k (cond b es (e ∷ unset es q))) [
      | true ↦ above.1
      | false ↦ (above.0, above_unset k es q above.1)
    ]

pub sorted_unset : {X : Type 0} (t : Table X) (k : List ℕ) → IsSorted t → IsSorted (unset t k)
unfolding IsStrictlySortedBy
sorted_unset [] k sorted = tt
sorted_unset (e ∷ es) k sorted =
    elim (is_same k e.0) as (λ b. IsSorted (cond b es (e ∷ unset es k))) [
      | true ↦ sorted.1
      | false ↦ (above_unset e.0 es k sorted.0, sorted_unset es k sorted.1)
    ]
