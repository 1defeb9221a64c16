-- The pairs of a map, put into an empty one page by page, give the map again.
use Rattle.std.proofs.Common.{◌≡◌, ℕ, ◌==◌, true, false, cond, List, [], ◌∷◌, ◌++◌, map, Option, Some, None, if◌then◌else◌, unwrap_or, refl, sym, ap, ◌∙◌, arith}
use Rattle.std.specs.List.Sorted.{IsStrictlySortedBy}
use Rattle.std.specs.Prelude.{is_some}
use Rattle.den_model.specs.declared.held.Held.{Held}
use Rattle.den_model.specs.declared.region.StoredPair.{StoredPair}
use Rattle.den_model.specs.MapState.{MapState, with_expiry, with_stored, with_pairs}
use Rattle.den_model.specs.Table.{Table, is_same, at, is_held, set}
use Rattle.den_table.proofs.Entries.{at_above, same_table}
use Rattle.den_table.proofs.Sorted.{IsSorted}
use Rattle.den_table.proofs.Tables.{same_is, at_set, sorted_set}
use Rattle.den_map.specs.Held.{AreExpiriesOf, EachIsMoment, IsSound}
use Rattle.den_map.specs.Pages.{stored, stored_pairs}

-- ---- some pairs behind others

pub with_both : (s : MapState) (ps qs : List StoredPair) → with_pairs (with_pairs s ps) qs ≡ with_pairs s (ps ++ qs)
with_both s [] qs = refl
with_both s (p ∷ ps) qs = with_both (with_stored s p.key p.value p.term p.expiry) ps qs

-- ---- what is kept

pub mark_kept : (s : MapState) (ps : List StoredPair) → (with_pairs s ps).mark ≡ s.mark
mark_kept s [] = refl
mark_kept s (p ∷ ps) = mark_kept (with_stored s p.key p.value p.term p.expiry) ps

pairs_sorted : (s : MapState) (ps : List StoredPair) → IsSorted s.pairs → IsSorted (with_pairs s ps).pairs
pairs_sorted s [] sorted = sorted
pairs_sorted s (p ∷ ps) sorted = pairs_sorted (with_stored s p.key p.value p.term p.expiry) ps (sorted_set s.pairs p.key (record { value = p.value; term = p.term }) sorted)

expiry_sorted : (t : Table ℕ) (k : List ℕ) (n : ℕ) → IsSorted t → IsSorted (with_expiry t k n)
expiry_sorted t k n sorted = elim (n == 0) as (λ b. IsSorted (if b then t else set t k n)) [ true ↦ sorted | false ↦ sorted_set t k n sorted ]

expiries_sorted : (s : MapState) (ps : List StoredPair) → IsSorted s.expiries → IsSorted (with_pairs s ps).expiries
expiries_sorted s [] sorted = sorted
expiries_sorted s (p ∷ ps) sorted = expiries_sorted (with_stored s p.key p.value p.term p.expiry) ps (expiry_sorted s.expiries p.key p.expiry sorted)

-- ---- what stands at a key

-- what a table has there, and else this
abbrev over : {X : Type 0} → Option X → Option X → Option X
over None other = other
over (Some x) other = Some x

abbrev behind_stored : Table ℕ → MapState → List ℕ × Held → MapState
behind_stored x s e = with_stored s e.0 e.1.value e.1.term (unwrap_or (at x e.0) 0)

pairs_at : (x : Table ℕ) (t : Table Held) (s : MapState) (q : List ℕ) → IsSorted t → at (with_pairs s (map (stored x) t)).pairs q ≡ over (at t q) (at s.pairs q)
unfolding IsStrictlySortedBy
pairs_at x [] s q sorted = refl
pairs_at x (e ∷ es) s q sorted =
    pairs_at x es (behind_stored x s e) q sorted.1
    ∙ ap (over (at es q)) (at_set s.pairs e.0 e.1 q)
    ∙ elim (is_same q e.0) as (λ b. is_same q e.0 ≡ b → over (at es q) (cond b (Some e.1) (at s.pairs q)) ≡ over (cond b (Some e.1) (at es q)) (at s.pairs q)) [
      | true ↦ λ same.
          let none : at es q ≡ None = ap (at es) (same_is q e.0 same) ∙ at_above e.0 es sorted.0 in
          ap (λ (o : Option Held). over o (Some e.1)) none
      | false ↦ λ other. refl
    ] refl

-- an expiry of 0 changes nothing
expiry_at : (x t : Table ℕ) (k q : List ℕ) → EachIsMoment x → at (with_expiry t k (unwrap_or (at x k) 0)) q ≡ cond (is_same q k) (over (at x q) (at t q)) (at t q)
expiry_at x t k q moments =
    elim (at x k) as (λ o. at x k ≡ o → at (with_expiry t k (unwrap_or o 0)) q ≡ cond (is_same q k) (over (at x q) (at t q)) (at t q)) [
      | None ↦ λ is. elim (is_same q k) as (λ b. is_same q k ≡ b → at t q ≡ cond b (over (at x q) (at t q)) (at t q)) [
        | true ↦ λ same. sym (ap (λ (o : Option ℕ). over o (at t q)) (ap (at x) (same_is q k same) ∙ is))
        | false ↦ λ other. refl
      ] refl
      | Some n ↦ λ is.
          let least = moments k n is in
          let some : (n == 0) ≡ false = grind arith in
          ap (λ b. at (if b then t else set t k n) q) some
          ∙ at_set t k n q
          ∙ elim (is_same q k) as (λ b. is_same q k ≡ b → cond b (Some n) (at t q) ≡ cond b (over (at x q) (at t q)) (at t q)) [
            | true ↦ λ same. sym (ap (λ (o : Option ℕ). over o (at t q)) (ap (at x) (same_is q k same) ∙ is))
            | false ↦ λ other. refl
          ] refl
    ] refl

expiries_at : (x : Table ℕ) (t : Table Held) (s : MapState) (q : List ℕ) → IsSorted t → EachIsMoment x → at (with_pairs s (map (stored x) t)).expiries q ≡ cond (is_held t q) (over (at x q) (at s.expiries q)) (at s.expiries q)
unfolding IsStrictlySortedBy
expiries_at x [] s q sorted moments = refl
expiries_at x (e ∷ es) s q sorted moments =
    let o = over (at x q) (at s.expiries q) in
    expiries_at x es (behind_stored x s e) q sorted.1 moments
    ∙ ap (λ (r : Option ℕ). cond (is_held es q) (over (at x q) r) r) (expiry_at x s.expiries e.0 q moments)
    ∙ elim (is_same q e.0) as (λ b. is_same q e.0 ≡ b → cond (is_held es q) (over (at x q) (cond b o (at s.expiries q))) (cond b o (at s.expiries q)) ≡ cond (is_some (cond b (Some e.1) (at es q))) o (at s.expiries q)) [
      | true ↦ λ same.
          let none : at es q ≡ None = ap (at es) (same_is q e.0 same) ∙ at_above e.0 es sorted.0 in
          ap (λ (h : Option Held). cond (is_some h) (over (at x q) o) o) none
      | false ↦ λ other. refl
    ] refl

-- ---- the whole map

over_none : {X : Type 0} (o : Option X) → over o None ≡ o
over_none None = refl
over_none (Some x) = refl

-- a key with no pair has no expiry
only_held : (x : Table ℕ) (t : Table Held) (q : List ℕ) → AreExpiriesOf t x → cond (is_held t q) (at x q) None ≡ at x q
only_held x t q are =
    elim (is_held t q) as (λ b. is_held t q ≡ b → cond b (at x q) None ≡ at x q) [
      | true ↦ λ held. refl
      | false ↦ λ none. elim (at x q) as (λ o. at x q ≡ o → None ≡ o) [
        | None ↦ λ is. refl
        | Some n ↦ λ is. let held : is_held t q ≡ true = are.held q (ap is_some is) in cc
      ] refl
    ] refl

-- the pairs of a map give it again
pub rebuilt : (m : MapState) → IsSound m → with_pairs (record { pairs = []; expiries = []; mark = m.mark }) (stored_pairs m) ≡ m
unfolding IsStrictlySortedBy
rebuilt m sound =
    let s : MapState = record { pairs = []; expiries = []; mark = m.mark } in
    let ps = stored_pairs m in
    let pairs : (with_pairs s ps).pairs ≡ m.pairs = same_table (with_pairs s ps).pairs m.pairs (pairs_sorted s ps tt) sound.sorted
    (λ q. pairs_at m.expiries m.pairs s q sound.sorted ∙ over_none (at m.pairs q)) in
    let expiries : (with_pairs s ps).expiries ≡ m.expiries = same_table (with_pairs s ps).expiries m.expiries (expiries_sorted s ps tt) sound.expiries.sorted
    (λ q. expiries_at m.expiries m.pairs s q sound.sorted sound.expiries.moments
    ∙ ap (λ (o : Option ℕ). cond (is_held m.pairs q) o None) (over_none (at m.expiries q)) ∙ only_held m.expiries m.pairs q sound.expiries) in
    let mark = mark_kept s ps in
    λ i. record { pairs = pairs i; expiries = expiries i; mark = mark i }
