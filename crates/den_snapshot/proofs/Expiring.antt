-- Whether a snapshot's map has a key that expires.
use Rattle.std.proofs.Common.{◌≡◌, ℕ, zero, suc, ◌+◌, ◌<◌, ◌≤◌, Bool, true, false, List, [], ◌∷◌, length, drop, get_or, nat_lt, refl, sym, ap, ◌∙◌, arith}
use Rattle.std.specs.Prelude.{◌||◌, ◌==◌, if◌then◌else◌}
use Rattle.std.specs.Ordering.{match_ordering}
use Rattle.std.specs.declared.cmp.Ordering.TheVariants.{Less, Equal, Greater}
use Rattle.std.proofs.lemmas.Bool.{lt-ltb}
use Rattle.std.proofs.Math.ListN.{drop_of_length-le}
use Rattle.den_model.specs.declared.log_id.LogId.{LogId}
use Rattle.den_model.specs.declared.region.StoredPair.{StoredPair}
use Rattle.den_model.specs.MapState.{MapState, with_expiry, with_stored, with_pairs}
use Rattle.den_model.specs.Table.{Table, by_bytes, set}
use Rattle.den_lease.proofs.Rising.{front}
use Rattle.den_map.specs.Leases.{has_expiry}
use Rattle.den_snapshot.specs.Snapshots.{Taken, map_of, some_expires}

-- ---- the map

above_none : (n : ℕ) → nat_lt 0 (suc n) ≡ true
above_none n = lt-ltb 0 (suc n) (omega arith)

some_set : {X : Type 0} (t : Table X) (k : List ℕ) (x : X) → nat_lt 0 (length (set t k x)) ≡ true
some_set [] k x = refl
some_set {X} (e ∷ es) k x =
    elim (by_bytes k e.0) as (λ o. nat_lt 0 (length (match_ordering o ((k, x) ∷ e ∷ es) ((e.0, x) ∷ es) (e ∷ set es k x))) ≡ true) [
      | Less ↦ above_none (length (e ∷ es))
      | Equal ↦ above_none (length es)
      | Greater ↦ above_none (length (set es k x))
    ]

some_with : (t : Table ℕ) (k : List ℕ) (n : ℕ) → nat_lt 0 (length (with_expiry t k n)) ≡ (nat_lt 0 n || nat_lt 0 (length t))
some_with t k zero = refl
some_with t k (suc n) =
    let some : (suc n == 0) ≡ false = grind arith in
    ap (λ b. nat_lt 0 (length (if b then t else set t k (suc n)))) some ∙ some_set t k (suc n) ∙ sym (ap (λ b. b || nat_lt 0 (length t)) (above_none n))

or_or : (a b c : Bool) → ((a || b) || c) ≡ (b || (a || c))
or_or true true c = refl
or_or true false c = refl
or_or false true c = refl
or_or false false c = refl

expires_with : (s : MapState) (ps : List StoredPair) → has_expiry (with_pairs s ps) ≡ (has_expiry s || some_expires ps)
expires_with s [] = elim (has_expiry s) as (λ b. b ≡ (b || false)) [ true ↦ refl | false ↦ refl ]
expires_with s (p ∷ ps) =
    expires_with (with_stored s p.key p.value p.term p.expiry) ps
    ∙ ap (λ b. b || some_expires ps) (some_with s.expiries p.key p.expiry)
    ∙ or_or (nat_lt 0 p.expiry) (has_expiry s) (some_expires ps)

pub expires_of : (mark : LogId) (t : Taken) → has_expiry (map_of mark t) ≡ some_expires t.pairs
expires_of mark t = expires_with (record { pairs = []; expiries = []; mark = mark }) t.pairs

-- ---- a walk

walk : (ps : List StoredPair) (i : ℕ) (p : StoredPair) → i < length ps → p ≡ get_or ps i p → 0 < p.expiry → some_expires (drop i ps) ≡ true
walk ps i p lt is some = ap some_expires (front ps i p lt is) ∙ ap (λ b. b || some_expires (drop (i + 1) ps)) (lt-ltb 0 p.expiry some)

pub walk_finds : (ps : List StoredPair) (i : ℕ) (p : StoredPair) (total : Bool) → i < length ps → p ≡ get_or ps i p → 0 < p.expiry → some_expires (drop i ps) ≡ total → true ≡ total
walk_finds ps i p total lt is some so_far = sym (walk ps i p lt is some) ∙ so_far

pub walk_ends : (ps : List StoredPair) (i : ℕ) (total : Bool) → length ps ≤ i → some_expires (drop i ps) ≡ total → false ≡ total
walk_ends ps i total le so_far = sym (ap some_expires (drop_of_length-le ps le)) ∙ so_far
