-- Tables whose keys are sorted.
use Rattle.std.proofs.Common.{◌≡◌, ℕ, Bool, true, false, cond, List, [], ◌∷◌, filter}
use Rattle.std.specs.Global.{Vec}
use Rattle.std.specs.List.{AllByRecursion}
use Rattle.std.specs.List.Sorted.{IsStrictlySortedBy}
use Rattle.std.specs.Map.{keys_of}
use Rattle.std.specs.declared.cmp.Ordering.TheVariants.{Less}
use Rattle.den_model.specs.Table.{Table, by_bytes}
use Rattle.den_table.specs.Keyed.{keyed}

abbrev pub IsSorted : {X : Type 0} → Table X → Type 0
IsSorted t = IsStrictlySortedBy by_bytes (keys_of t)

abbrev pub AllAbove : {X : Type 0} → List ℕ → Table X → Type 0
AllAbove k t = AllByRecursion (λ q. by_bytes k q ≡ Less) (keys_of t)

-- ---- the entries of a map

above_keyed : {X : Type 0} (k : Vec ℕ) (es : List (Vec ℕ × X)) → AllByRecursion (λ (q : Vec ℕ). by_bytes k.items q.items ≡ Less) (keys_of es) → AllAbove k.items (keyed es)
above_keyed k [] h = tt
above_keyed k (e ∷ es) h = (h.0, above_keyed k es h.1)

pub sorted_keyed : {X : Type 0} (es : List (Vec ℕ × X)) → IsStrictlySortedBy (λ (a b : Vec ℕ). by_bytes a.items b.items) (keys_of es) → IsSorted (keyed es)
unfolding IsStrictlySortedBy
sorted_keyed [] h = tt
sorted_keyed (e ∷ es) h = (above_keyed e.0 es h.0, sorted_keyed es h.1)

-- ---- some of them

above_filter : {X : Type 0} (p : List ℕ × X → Bool) (k : List ℕ) (t : Table X) → AllAbove k t → AllAbove k (filter p t)
above_filter p k [] h = tt
above_filter p k (e ∷ es) h = elim (p e) as (λ b. AllAbove k (cond b (e ∷ filter p es) (filter p es))) [ true ↦ (h.0, above_filter p k es h.1) | false ↦ above_filter p k es h.1 ]

pub sorted_filter : {X : Type 0} (p : List ℕ × X → Bool) (t : Table X) → IsSorted t → IsSorted (filter p t)
unfolding IsStrictlySortedBy
sorted_filter p [] h = tt
sorted_filter p (e ∷ es) h = elim (p e) as (λ b. IsSorted (cond b (e ∷ filter p es) (filter p es))) [ true ↦ (above_filter p e.0 es h.0, sorted_filter p es h.1) | false ↦ sorted_filter p es h.1 ]
