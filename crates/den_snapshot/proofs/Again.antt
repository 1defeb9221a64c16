-- A snapshot whose keys rise is that of the map which it gives.
use Rattle.std.proofs.Common.{◌≡◌, ℕ, ◌==◌, true, false, cond, List, [], ◌∷◌, ◌++◌, map, Option, Some, None, if◌then◌else◌, unwrap_or, refl, sym, ap, ◌∙◌, append_assoc}
use Rattle.std.specs.Prelude.{is_some}
use Rattle.std.specs.List.{AllByRecursion}
use Rattle.std.specs.List.Sorted.{IsStrictlySortedBy}
use Rattle.std.specs.Map.{keys_of}
use Rattle.std.specs.Ordering.{is_eq, match_ordering, ordering_reverse}
use Rattle.std.specs.declared.cmp.Ordering.TheVariants.{Less, Equal, Greater}
use Rattle.std.proofs.lemmas.Bool.{eqb-true}
use Rattle.std.proofs.lemmas.Cmp.{nat_list_cmp_total}
use Rattle.std.proofs.lemmas.List.{append-nil, map-append}
use Rattle.den_model.specs.declared.held.Held.{Held}
use Rattle.den_model.specs.declared.log_id.LogId.{LogId}
use Rattle.den_model.specs.declared.region.StoredPair.{StoredPair}
use Rattle.den_model.specs.MapState.{MapState, with_expiry, with_stored, with_pairs}
use Rattle.den_model.specs.Table.{Table, by_bytes, is_same, at, is_held, set}
use Rattle.den_lease.proofs.Rising.{sorted_from_rises}
use Rattle.den_table.proofs.Entries.{same_itself}
use Rattle.den_table.proofs.Sorted.{IsSorted, AllAbove}
use Rattle.den_table.proofs.Tables.{at_set}
use Rattle.den_map.specs.Held.{AreExpiriesOf, IsSound}
use Rattle.den_map.specs.Pages.{stored, stored_pairs}
use Rattle.den_map.proofs.Soundness.{sound_empty, sound_with}
use Rattle.den_snapshot.specs.Snapshots.{Taken, taken_of, map_of, by_key, rises}

-- ---- keys below others

abbrev AllBelow : {X : Type 0} → List ℕ → Table X → Type 0
AllBelow k t = AllByRecursion (λ q. by_bytes k q ≡ Greater) (keys_of t)

-- all keys of the table are below those of the pairs
abbrev AreBehind : Table Held → List StoredPair → Type 0
AreBehind t [] = Unit {0}
AreBehind t (p ∷ ps) = AllBelow p.key t × AreBehind t ps

greater : (k q : List ℕ) → by_bytes k q ≡ Less → by_bytes q k ≡ Greater
greater k q lt = nat_list_cmp_total.antisymm q k ∙ ap ordering_reverse lt

differs : (k q : List ℕ) → by_bytes k q ≡ Greater → is_same q k ≡ false
differs k q gt = ap is_eq (nat_list_cmp_total.antisymm q k ∙ ap ordering_reverse gt)

below_set : {X : Type 0} (t : Table X) (k q : List ℕ) (x : X) → by_bytes q k ≡ Greater → AllBelow q t → AllBelow q (set t k x)
below_set [] k q x gt below = (gt, tt)
below_set (e ∷ es) k q x gt below =
    elim (by_bytes k e.0) as (λ o. AllBelow q (match_ordering o ((k, x) ∷ e ∷ es) ((e.0, x) ∷ es) (e ∷ set es k x))) [
      | Less ↦ (gt, below)
      | Equal ↦ below
      | Greater ↦ (below.0, below_set es k q x gt below.1)
    ]

behind_set : (t : Table Held) (k : List ℕ) (held : Held) (ps : List StoredPair) → AllAbove k (by_key ps) → AreBehind t ps → AreBehind (set t k held) ps
behind_set t k held [] above behind = tt
behind_set t k held (p ∷ ps) above behind = (below_set t k p.key held (greater k p.key above.0) behind.0, behind_set t k held ps above.1 behind.1)

behind_none : (ps : List StoredPair) → AreBehind [] ps
behind_none [] = tt
behind_none (p ∷ ps) = (tt, behind_none ps)

at_below : {X : Type 0} (k : List ℕ) (t : Table X) → AllBelow k t → at t k ≡ None
at_below k [] below = refl
at_below {X} k (e ∷ es) below = ap (λ o. cond (is_eq o) (Some e.1) (at es k)) below.0 ∙ at_below k es below.1

set_last : {X : Type 0} (t : Table X) (k : List ℕ) (x : X) → AllBelow k t → set t k x ≡ t ++ (k, x) ∷ []
set_last [] k x below = refl
set_last {X} (e ∷ es) k x below =
    ap (λ o. match_ordering o ((k, x) ∷ e ∷ es) ((e.0, x) ∷ es) (e ∷ set es k x)) below.0 ∙ ap (λ (t : Table X). e ∷ t) (set_last es k x below.1)

-- ---- one pair more

-- a key with no pair has no expiry
no_expiry : (t : Table Held) (x : Table ℕ) (k : List ℕ) → AreExpiriesOf t x → at t k ≡ None → at x k ≡ None
no_expiry t x k are none =
    elim (at x k) as (λ o. at x k ≡ o → o ≡ None) [
      | None ↦ λ is. refl
      | Some n ↦ λ is. let held : is_held t k ≡ true = are.held k (ap is_some is) in let not_held : is_held t k ≡ false = ap is_some none in cc
    ] refl

expiry_other : (x : Table ℕ) (k q : List ℕ) (n : ℕ) → by_bytes k q ≡ Greater → at (with_expiry x k n) q ≡ at x q
expiry_other x k q n gt =
    elim (n == 0) as (λ b. at (if b then x else set x k n) q ≡ at x q) [
      | true ↦ refl
      | false ↦ at_set x k n q ∙ ap (λ b. cond b (Some n) (at x q)) (differs k q gt)
    ]

expiry_same : (x : Table ℕ) (k : List ℕ) (n : ℕ) → at x k ≡ None → unwrap_or (at (with_expiry x k n) k) 0 ≡ n
expiry_same x k n none =
    elim (n == 0) as (λ b. (n == 0) ≡ b → unwrap_or (at (if b then x else set x k n) k) 0 ≡ n) [
      | true ↦ λ never. ap (λ (o : Option ℕ). unwrap_or o 0) none ∙ sym (eqb-true n 0 never)
      | false ↦ λ some. ap (λ (o : Option ℕ). unwrap_or o 0) (at_set x k n k ∙ ap (λ b. cond b (Some n) (at x k)) (same_itself k))
    ] refl

stored_before : (x : Table ℕ) (k : List ℕ) (n : ℕ) (t : Table Held) → AllBelow k t → map (stored (with_expiry x k n)) t ≡ map (stored x) t
stored_before x k n [] below = refl
stored_before x k n (e ∷ es) below =
    let expiry = expiry_other x k e.0 n below.0 in
    let rest = stored_before x k n es below.1 in
    λ i. record { key = e.0; value = e.1.value; term = e.1.term; expiry = unwrap_or (expiry i) 0 } ∷ rest i

pair_more : (s : MapState) (p : StoredPair) → IsSound s → AllBelow p.key s.pairs → stored_pairs (with_stored s p.key p.value p.term p.expiry) ≡ stored_pairs s ++ p ∷ []
pair_more s p sound below =
    let held : Held = record { value = p.value; term = p.term } in
    let x = with_expiry s.expiries p.key p.expiry in
    let expiry = expiry_same s.expiries p.key p.expiry (no_expiry s.pairs s.expiries p.key sound.expiries (at_below p.key s.pairs below)) in
    let last : stored x (p.key, held) ≡ p = λ i. record { key = p.key; value = p.value; term = p.term; expiry = expiry i } in
    ap (λ (t : Table Held). map (stored x) t) (set_last s.pairs p.key held below)
    ∙ map-append (stored x) s.pairs ((p.key, held) ∷ [])
    ∙ λ i. stored_before s.expiries p.key p.expiry s.pairs below i ++ last i ∷ []

-- ---- all of them

pairs_more : (s : MapState) (ps : List StoredPair) → IsSound s → AreBehind s.pairs ps → IsSorted (by_key ps) → stored_pairs (with_pairs s ps) ≡ stored_pairs s ++ ps
unfolding IsStrictlySortedBy
pairs_more s [] sound behind sorted = sym (append-nil (stored_pairs s))
pairs_more s (p ∷ ps) sound behind sorted =
    let held : Held = record { value = p.value; term = p.term } in
    pairs_more (with_stored s p.key p.value p.term p.expiry) ps (sound_with s (p ∷ []) sound) (behind_set s.pairs p.key held ps sorted.0 behind.1) sorted.1
    ∙ ap (λ (l : List StoredPair). l ++ ps) (pair_more s p sound behind.0)
    ∙ append_assoc (stored_pairs s) (p ∷ []) ps

pub taken_again : (t : Taken) → rises t.pairs ≡ true → (mark other : LogId) → taken_of mark (map_of other t) ≡ record t { mark = mark }
taken_again t h mark other =
    let pairs = pairs_more (record { pairs = []; expiries = []; mark = other }) t.pairs (sound_empty other) (behind_none t.pairs) (sorted_from_rises (by_key t.pairs) h) in
    ap (λ (ps : List StoredPair). record { mark = mark; pairs = ps }) pairs
