-- Tables whose keys rise.
use Rattle.std.proofs.Common.{◌≡◌, ℕ, zero, suc, ◌+◌, ◌<◌, Bool, true, List, [], ◌∷◌, ◌++◌, length, take, drop, get_or, refl, sym, ap, ◌∙◌, arith}
use Rattle.std.specs.Prelude.{◌&&◌}
use Rattle.std.specs.List.{AllByRecursion}
use Rattle.std.specs.List.Sorted.{IsStrictlySortedBy}
use Rattle.std.specs.Map.{keys_of}
use Rattle.std.specs.Ordering.{is_lt, match_ordering, ordering_reverse}
use Rattle.std.specs.declared.cmp.Ordering.{Ordering}
use Rattle.std.specs.declared.cmp.Ordering.TheVariants.{Less, Equal, Greater}
use Rattle.std.proofs.lemmas.Bool.{and_from, and_parts}
use Rattle.std.proofs.lemmas.Cmp.{nat_list_cmp_total}
use Rattle.std.proofs.lemmas.List.{drop_more, take_more}
use Rattle.den_model.specs.Table.{Table, by_bytes, set}
use Rattle.den_lease.specs.Rising.{rises, rises_above}
use Rattle.den_table.proofs.Sorted.{IsSorted, AllAbove}

less : (o : Ordering) → is_lt o ≡ true → o ≡ Less
less Less e = refl
less Equal e = absurd cc
less Greater e = absurd cc

-- ---- sorted keys rise

rises_if_sorted : {X : Type 0} (k : List ℕ) (t : Table X) → AllAbove k t → IsSorted t → rises_above k t ≡ true
unfolding IsStrictlySortedBy
rises_if_sorted k [] above sorted = refl
rises_if_sorted k (e ∷ es) above sorted = and_from _ _ (ap is_lt above.0) (rises_if_sorted e.0 es sorted.0 sorted.1)

pub rises_from_sorted : {X : Type 0} (t : Table X) → IsSorted t → rises t ≡ true
unfolding IsStrictlySortedBy
rises_from_sorted [] sorted = refl
rises_from_sorted (e ∷ es) sorted = rises_if_sorted e.0 es sorted.0 sorted.1

-- ---- and keys that rise are sorted

above_lower : {X : Type 0} (k q : List ℕ) (t : Table X) → by_bytes k q ≡ Less → rises_above q t ≡ true → AllAbove k t
above_lower k q [] lt h = tt
above_lower k q (e ∷ es) lt h =
    let p = and_parts (is_lt (by_bytes q e.0)) (rises_above e.0 es) h in
    let next = nat_list_cmp_total.trans k q e.0 lt (less (by_bytes q e.0) p.0) in
    (next, above_lower k e.0 es next p.1)

above_all : {X : Type 0} (k : List ℕ) (t : Table X) → rises_above k t ≡ true → AllAbove k t
above_all k [] h = tt
above_all k (e ∷ es) h =
    let p = and_parts (is_lt (by_bytes k e.0)) (rises_above e.0 es) h in
    let first = less (by_bytes k e.0) p.0 in
    (first, above_lower k e.0 es first p.1)

sorted_above : {X : Type 0} (k : List ℕ) (t : Table X) → rises_above k t ≡ true → IsSorted t
unfolding IsStrictlySortedBy
sorted_above k [] h = tt
sorted_above k (e ∷ es) h =
    let p = and_parts (is_lt (by_bytes k e.0)) (rises_above e.0 es) h in
    (above_all e.0 es p.1, sorted_above e.0 es p.1)

pub sorted_from_rises : {X : Type 0} (t : Table X) → rises t ≡ true → IsSorted t
unfolding IsStrictlySortedBy
sorted_from_rises [] h = tt
sorted_from_rises (e ∷ es) h = (above_all e.0 es h, sorted_above e.0 es h)

-- ---- a walk

pub front : {X : Type 0} (xs : List X) (i : ℕ) (x : X) → i < length xs → x ≡ get_or xs i x → drop i xs ≡ x ∷ drop (i + 1) xs
front {X} xs i x lt is = drop_more xs i x lt ∙ ap (λ (y : X). y ∷ drop (i + 1) xs) (sym is)

pub walk : {X : Type 0} (last : List ℕ) (t : Table X) (i : ℕ) (e : List ℕ × X) (b total : Bool) → i < length t → e ≡ get_or t i e → is_lt (by_bytes last e.0) ≡ b → rises_above last (drop i t) ≡ total
    → (b && rises_above e.0 (drop (i + 1) t)) ≡ total
walk last t i e b total lt is test so_far =
    ap (λ c. c && rises_above e.0 (drop (i + 1) t)) (sym test) ∙ sym (ap (rises_above last) (front t i e lt is)) ∙ so_far

-- ---- a key above all others

set_last : {X : Type 0} (t : Table X) (k : List ℕ) (x : X) → AllByRecursion (λ q. by_bytes k q ≡ Greater) (keys_of t) → set t k x ≡ t ++ (k, x) ∷ []
set_last [] k x h = refl
set_last {X} (e ∷ es) k x h =
    ap (λ o. match_ordering o ((k, x) ∷ e ∷ es) ((e.0, x) ∷ es) (e ∷ set es k x)) h.0 ∙ ap (λ (t : Table X). e ∷ t) (set_last es k x h.1)

above_at : {X : Type 0} (k : List ℕ) (t : Table X) (i : ℕ) (e : List ℕ × X) → AllAbove k t → i < length t → e ≡ get_or t i e → by_bytes k e.0 ≡ Less
above_at k [] i e h lt is = absurd (omega arith)
above_at {X} k (f ∷ t) zero e h lt is = ap (λ (p : List ℕ × X). by_bytes k p.0) is ∙ h.0
above_at k (f ∷ t) (suc i) e h lt is = above_at k t i e h.1 (omega arith) is

below_at : {X : Type 0} (t : Table X) (i : ℕ) (e : List ℕ × X) → IsSorted t → i < length t → e ≡ get_or t i e → AllByRecursion (λ q. by_bytes e.0 q ≡ Greater) (keys_of (take i t))
unfolding IsStrictlySortedBy
below_at [] i e h lt is = absurd (omega arith)
below_at (f ∷ t) zero e h lt is = tt
below_at (f ∷ t) (suc i) e h lt is = (
  nat_list_cmp_total.antisymm e.0 f.0 ∙ ap ordering_reverse (above_at f.0 t i e h.0 (omega arith) is),
  below_at t i e h.1 (omega arith) is,
)

-- sorted keys set in order make the table again
pub set_next : {X : Type 0} (t : Table X) (i : ℕ) (e : List ℕ × X) → rises t ≡ true → i < length t → e ≡ get_or t i e → set (take i t) e.0 e.1 ≡ take (i + 1) t
set_next {X} t i e h lt is =
    set_last (take i t) e.0 e.1 (below_at t i e (sorted_from_rises t h) lt is)
    ∙ ap (λ (p : List ℕ × X). take i t ++ p ∷ []) is ∙ sym (take_more t i e lt)
