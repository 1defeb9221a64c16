-- How many records a chunk adds, and what the slots have behind a change.
use Rattle.std.proofs.Common.{◌≡◌, ◌≤◌, ◌<◌, ◌+◌, ◌-◌, ◌^◌, ◌∙◌, ℕ, IsTrue, List, [], ◌∷◌, length, refl, sym, ap, subst, arith}
use Rattle.std.specs.Prelude.{min}
use Rattle.den_disk.specs.declared.disk.Disk.{Ghosts}
use Rattle.den_disk.specs.declared.place.Place.{Place}
use Rattle.den_model.specs.Entries.{LogEntry}
use Rattle.den_model.specs.MapState.{MapState, map_applied}
use Rattle.den_gate.specs.Slot.{payloads_of}
use Rattle.den_map.specs.Journal.{all_recorded}
use Rattle.den_journal.specs.declared.journal.Journal.{Journal}
use Rattle.den_journal.specs.Writes.{DiskTells}
use Rattle.den_state.specs.declared.stored_map.StoredMap.{StoredMap}
use Rattle.den_state.specs.Checkpoint.{IsCheckpoint}
use Rattle.den_state.specs.Regions.{Adds, AddsOrRenews, HoldsCheckpoint}

-- each entry has one record
pub recorded_long : (m : MapState) (es : List LogEntry) → length (all_recorded m es) ≡ length es
recorded_long m [] = refl
recorded_long m (e ∷ es) = let rest = recorded_long (map_applied m e) es in omega (arith, rest)

-- a region behind which the map was written anew where many records followed
pub adds_or_renews : {D : Type 0} (disk : Ghosts D) (was mid now : Journal StoredMap) (old d new : D) (records : ℕ) (word : List ℕ)
    → (DiskTells disk old → DiskTells disk d) → mid.held.tail ≡ min (was.held.tail + records) (2 ^ 64 - 1)
    → mid.gate.slot ≡ was.gate.slot → Adds disk was.gate.slot old d word
    → (mid.held.tail < 1000 → (now ≡ mid) × (new ≡ d)) → now.held.map ≡ mid.held.map → (1000 ≤ mid.held.tail → HoldsCheckpoint disk now.gate.slot d new mid.held.map)
    → AddsOrRenews disk was now old new records word now.held.map
adds_or_renews disk was mid now old d new records word on tail slot adds few same many = (
  λ less.
      let stays = few (omega (arith, tail, less)) in
      (ap (λ (j : Journal StoredMap). j.gate.slot) stays.0 ∙ slot, subst (λ (x : _). Adds disk was.gate.slot old x word) (sym stays.1) adds),
  λ more tells. subst (λ (m : MapState). IsCheckpoint m (payloads_of ((disk.content new).reading now.gate.slot))) (sym same) (many (omega (arith, tail, more)) (on tells)),
)
