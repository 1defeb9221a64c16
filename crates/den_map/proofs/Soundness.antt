-- Pairs that are put into a map leave it sound.
use Rattle.std.proofs.Common.{◌≡◌, ℕ, ◌==◌, true, false, List, [], ◌∷◌, if◌then◌else◌, refl, arith}
use Rattle.std.specs.List.Sorted.{IsStrictlySortedBy}
use Rattle.den_model.specs.declared.held.Held.{Held}
use Rattle.den_model.specs.declared.log_id.LogId.{LogId}
use Rattle.den_model.specs.declared.region.StoredPair.{StoredPair}
use Rattle.den_model.specs.MapState.{MapState, with_stored, with_pairs}
use Rattle.den_model.specs.Table.{Table, set}
use Rattle.den_table.proofs.Tables.{sorted_set}
use Rattle.den_map.specs.Held.{AreExpiriesOf, IsSound}
use Rattle.den_map.proofs.Cleaning.{expires_more, held_more, no_expiries}

-- an expiry of 0 changes nothing
expiries_more : (t : Table ℕ) (pairs : Table Held) (k : List ℕ) (held : Held) (n : ℕ) → AreExpiriesOf pairs t → AreExpiriesOf (set pairs k held) (if n == 0 then t else set t k n)
expiries_more t pairs k held n are =
    elim (n == 0) as (λ b. (n == 0) ≡ b → AreExpiriesOf (set pairs k held) (if b then t else set t k n)) [
      | true ↦ λ none. held_more t pairs k held are
      | false ↦ λ some. expires_more t pairs k held n (grind arith) are
    ] refl

pub sound_with : (s : MapState) (ps : List StoredPair) → IsSound s → IsSound (with_pairs s ps)
sound_with s [] sound = sound
sound_with s (p ∷ ps) sound =
    let held : Held = record { value = p.value; term = p.term } in
    sound_with (with_stored s p.key p.value p.term p.expiry) ps (record {
      sorted = sorted_set s.pairs p.key held sound.sorted;
      expiries = expiries_more s.expiries s.pairs p.key held p.expiry sound.expiries;
    })

-- a map that holds nothing
pub sound_empty : (mark : LogId) → IsSound (record { pairs = []; expiries = []; mark = mark })
unfolding IsStrictlySortedBy
sound_empty mark = record { sorted = tt; expiries = no_expiries }
