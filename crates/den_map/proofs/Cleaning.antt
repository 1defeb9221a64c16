-- A cleanup, one key after the other.
use Rattle.std.proofs.Common.{◌≡◌, ℕ, ◌≤◌, Bool, true, false, not, cond, filter, List, [], ◌∷◌, Option, Some, None, nat_le, if◌then◌else◌, refl, sym, ap, ◌∙◌, arith}
use Rattle.std.proofs.lemmas.Bool.{leb-true}
use Rattle.den_model.specs.declared.held.Held.{Held}
use Rattle.den_model.specs.Apply.{is_expired, kept_pairs}
use Rattle.den_model.specs.MapState.{MapState}
use Rattle.den_model.specs.Table.{Table, is_same, at, is_held, set, unset}
use Rattle.std.specs.List.Sorted.{IsStrictlySortedBy}
use Rattle.den_lease.specs.Due.{has_due}
use Rattle.den_lease.proofs.Kept.{expiries_without, expiries_kept, not_expired}
use Rattle.den_table.proofs.Entries.{same_kept, filter_unset, held_set, held_unset}
use Rattle.den_table.proofs.Sorted.{IsSorted}
use Rattle.den_table.proofs.Tables.{same_is, at_set, at_unset, sorted_set, sorted_unset}
use Rattle.den_map.specs.Cleanup.{cleaned_map}
use Rattle.den_map.specs.Held.{AreExpiriesOf, EachIsHeld, EachIsMoment}

-- ---- a key that has expired

other_expired : (t : Table ℕ) (moment : ℕ) (k q : List ℕ) → IsSorted t → is_same q k ≡ false → is_expired (unset t k) moment q ≡ is_expired t moment q
other_expired t moment k q sorted other =
    ap (λ (o : Option ℕ). elim o [ None ↦ false | Some expiry ↦ nat_le expiry moment ]) (at_unset t k q sorted ∙ ap (λ b. cond b None (at t q)) other)

pairs_without : (t : Table ℕ) (pairs : Table Held) (moment : ℕ) (k : List ℕ) → IsSorted t → IsSorted pairs → is_expired t moment k ≡ true
    → kept_pairs (unset t k) moment (unset pairs k) ≡ kept_pairs t moment pairs
pairs_without t pairs moment k sorted order expired =
    same_kept (λ p. not (is_expired (unset t k) moment p.0)) (λ p. not (is_expired t moment p.0)) (unset pairs k) (sorted_unset pairs k order) (λ q held is.
    elim (is_same q k) as (λ b. is_same q k ≡ b → not (is_expired (unset t k) moment q) ≡ not (is_expired t moment q)) [
      | true ↦ λ same.
          let none : at (unset pairs k) q ≡ None = at_unset pairs k q order ∙ ap (λ b. cond b None (at pairs q)) same in
          cc
      | false ↦ λ other. ap not (other_expired t moment k q sorted other)
    ] refl)
    ∙ filter_unset (λ p. not (is_expired t moment p.0)) pairs k (λ e same is. ap not (ap (is_expired t moment) (sym (same_is k e.0 same)) ∙ expired))

-- the cleaned map has no need of it
pub clean_one : (s : MapState) (moment : ℕ) (k : List ℕ) → IsSorted s.expiries → IsSorted s.pairs → is_expired s.expiries moment k ≡ true
    → cleaned_map moment (record s { pairs = unset s.pairs k; expiries = unset s.expiries k }) ≡ cleaned_map moment s
clean_one s moment k sorted order expired =
    let pairs = pairs_without s.expiries s.pairs moment k sorted order expired in
    let expiries = expiries_without s.expiries moment k expired in
    λ i. record s { pairs = pairs i; expiries = expiries i }

-- ---- where nothing is due

keeps_all : {X : Type 0} (p : X → Bool) (xs : List X) → ((x : X) → p x ≡ true) → filter p xs ≡ xs
keeps_all p [] h = refl
keeps_all {X} p (x ∷ xs) h = ap (λ b. cond b (x ∷ filter p xs) (filter p xs)) (h x) ∙ ap (λ (l : List X). x ∷ l) (keeps_all p xs h)

pub clean_none : (s : MapState) (moment : ℕ) → has_due moment s.expiries ≡ false → cleaned_map moment s ≡ s
clean_none s moment none =
    let pairs = keeps_all (λ p. not (is_expired s.expiries moment p.0)) s.pairs (λ p. ap not (not_expired s.expiries moment p.0 none)) in
    let expiries = expiries_kept s.expiries moment none in
    λ i. record s { pairs = pairs i; expiries = expiries i }

-- ---- each key that expires is held

-- a pair more
held_pair : (t : Table ℕ) (pairs : Table Held) (k : List ℕ) (held : Held) → EachIsHeld t pairs → EachIsHeld t (set pairs k held)
held_pair t pairs k held each = λ q is.
    held_set pairs k held q ∙ elim (is_same q k) as (λ b. cond b true (is_held pairs q) ≡ true) [ true ↦ refl | false ↦ each q is ]

pub held_more : (t : Table ℕ) (pairs : Table Held) (k : List ℕ) (held : Held) → AreExpiriesOf pairs t → AreExpiriesOf (set pairs k held) t
held_more t pairs k held are = record { held = held_pair t pairs k held are.held; moments = are.moments; sorted = are.sorted }

-- an expiry of a key that is held
held_expiry : (t : Table ℕ) (pairs : Table Held) (k : List ℕ) (held : Held) (m : ℕ) → EachIsHeld t pairs → EachIsHeld (set t k m) (set pairs k held)
held_expiry t pairs k held m each = λ q is.
    held_set pairs k held q
    ∙ elim (is_same q k) as (λ b. cond b true (is_held t q) ≡ true → cond b true (is_held pairs q) ≡ true) [
      | true ↦ λ h. refl
      | false ↦ λ h. each q h
    ] (sym (held_set t k m q) ∙ is)

moments_set : (t : Table ℕ) (k : List ℕ) (m : ℕ) → 1 ≤ m → EachIsMoment t → EachIsMoment (set t k m)
moments_set t k m least each = λ q n is.
    elim (is_same q k) as (λ b. cond b (Some m) (at t q) ≡ Some n → 1 ≤ n) [
      | true ↦ λ h. let same : m ≡ n = cc in omega arith
      | false ↦ λ h. each q n h
    ] (sym (at_set t k m q) ∙ is)

pub expires_more : (t : Table ℕ) (pairs : Table Held) (k : List ℕ) (held : Held) (m : ℕ) → 1 ≤ m → AreExpiriesOf pairs t → AreExpiriesOf (set pairs k held) (set t k m)
expires_more t pairs k held m least are = record { held = held_expiry t pairs k held m are.held; moments = moments_set t k m least are.moments; sorted = sorted_set t k m are.sorted }

-- the moment of an expiry that is set
pub is_moment : (n m : ℕ) → (if nat_le 1 n then Some n else None) ≡ Some m → 1 ≤ m
is_moment n m is =
    elim (nat_le 1 n) as (λ b. nat_le 1 n ≡ b → (if b then Some n else None) ≡ Some m → 1 ≤ m) [
      | true ↦ λ le h. let least = leb-true 1 n le in let same : n ≡ m = cc in omega arith
      | false ↦ λ le h. cc
    ] refl is

-- neither pair nor expiry
moments_unset : (t : Table ℕ) (k : List ℕ) → IsSorted t → EachIsMoment t → EachIsMoment (unset t k)
moments_unset t k sorted each = λ q n is.
    elim (is_same q k) as (λ b. cond b None (at t q) ≡ Some n → 1 ≤ n) [
      | true ↦ λ h. cc
      | false ↦ λ h. each q n h
    ] (sym (at_unset t k q sorted) ∙ is)

held_without : (t : Table ℕ) (pairs : Table Held) (k : List ℕ) → IsSorted t → IsSorted pairs → EachIsHeld t pairs → EachIsHeld (unset t k) (unset pairs k)
held_without t pairs k sorted order each = λ q is.
    held_unset pairs k q order
    ∙ elim (is_same q k) as (λ b. cond b false (is_held t q) ≡ true → cond b false (is_held pairs q) ≡ true) [
      | true ↦ λ h. h
      | false ↦ λ h. each q h
    ] (sym (held_unset t k q sorted) ∙ is)

pub held_less : (t : Table ℕ) (pairs : Table Held) (k : List ℕ) → IsSorted pairs → AreExpiriesOf pairs t → AreExpiriesOf (unset pairs k) (unset t k)
held_less t pairs k order are = record {
  held = held_without t pairs k are.sorted order are.held;
  moments = moments_unset t k are.sorted are.moments;
  sorted = sorted_unset t k are.sorted;
}

-- where there is none
pub no_expiries : AreExpiriesOf [] []
unfolding IsStrictlySortedBy
no_expiries = record { held = λ q is. is; moments = λ q n is. cc; sorted = tt }
