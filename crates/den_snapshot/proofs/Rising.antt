-- Pairs whose keys rise.
use Rattle.std.proofs.Common.{◌≡◌, ℕ, ◌+◌, ◌<◌, Bool, true, List, [], ◌∷◌, length, map, drop, get_or, refl, sym, ap, subst, ◌∙◌}
use Rattle.std.specs.Prelude.{◌&&◌}
use Rattle.std.specs.List.Sorted.{IsStrictlySortedBy}
use Rattle.std.specs.Map.{keys_of}
use Rattle.std.specs.Ordering.{is_lt}
use Rattle.den_model.specs.declared.held.Held.{Held}
use Rattle.den_model.specs.declared.region.StoredPair.{StoredPair}
use Rattle.den_model.specs.MapState.{MapState}
use Rattle.den_model.specs.Table.{Table, by_bytes}
use Rattle.den_lease.proofs.Rising.{front, rises_from_sorted}
use Rattle.den_map.specs.Held.{IsSound}
use Rattle.den_map.specs.Pages.{stored, stored_pairs}
use Rattle.den_snapshot.specs.Snapshots.{by_key, rises, rises_above}

-- ---- a walk

pub walk : (last : List ℕ) (ps : List StoredPair) (i : ℕ) (p : StoredPair) (b total : Bool) → i < length ps → p ≡ get_or ps i p → is_lt (by_bytes last p.key) ≡ b → rises_above last (drop i ps) ≡ total
    → (b && rises_above p.key (drop (i + 1) ps)) ≡ total
walk last ps i p b total lt is test so_far =
    ap (λ c. c && rises_above p.key (drop (i + 1) ps)) (sym test) ∙ sym (ap (rises_above last) (front ps i p lt is)) ∙ so_far

-- ---- the pairs of a map

same_keys : (x : Table ℕ) (t : Table Held) → keys_of (by_key (map (stored x) t)) ≡ keys_of t
same_keys x [] = refl
same_keys x (e ∷ es) = ap (λ (ks : List (List ℕ)). e.0 ∷ ks) (same_keys x es)

pub stored_rise : (m : MapState) → IsSound m → rises (stored_pairs m) ≡ true
stored_rise m sound = rises_from_sorted (by_key (stored_pairs m)) (subst (IsStrictlySortedBy by_bytes) (sym (same_keys m.expiries m.pairs)) sound.sorted)
