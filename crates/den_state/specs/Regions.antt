-- What the calls of a state machine in files leave of the slots.
use Rattle.std.specs.Prelude.{◌≡◌, ◌≤◌, ◌<◌, ◌+◌, ℕ, List, [], ◌∷◌, ◌++◌}
use Rattle.den_disk.specs.declared.disk.Disk.{Ghosts}
use Rattle.den_disk.specs.declared.place.Place.{Place}
use Rattle.den_gate.specs.Slot.{payloads_of}
use Rattle.den_model.specs.MapState.{MapState}
use Rattle.den_journal.specs.declared.journal.Journal.{Journal}
use Rattle.den_journal.specs.Writes.{DiskTells}
use Rattle.den_state.specs.declared.stored_map.StoredMap.{StoredMap}
use Rattle.den_state.specs.Checkpoint.{IsCheckpoint}

-- one region of this word was added to the slot
abbrev pub Adds : {D : Type 0} → Ghosts D → (slot : Place) (old new : D) → List ℕ → Type 0
Adds disk slot old new word = DiskTells disk old → payloads_of ((disk.content new).reading slot) ≡ payloads_of ((disk.content old).reading slot) ++ word ∷ []

-- the payloads of the slot are a checkpoint of the map
abbrev pub HoldsCheckpoint : {D : Type 0} → Ghosts D → (slot : Place) (old new : D) → MapState → Type 0
HoldsCheckpoint disk slot old new map = DiskTells disk old → IsCheckpoint map (payloads_of ((disk.content new).reading slot))

-- The files of a call that made a change by one region of so many records. Where fewer than 1,000 follow the last beginning
-- then, the region is added to the slot, which stays in use; else the slot that is in use now has a checkpoint of the map.
abbrev pub AddsOrRenews : {D : Type 0} → Ghosts D → (was now : Journal StoredMap) (old new : D) → (records : ℕ) → List ℕ → MapState → Type 0
AddsOrRenews disk was now old new records word map =
    (was.held.tail + records < 1000 → (now.gate.slot ≡ was.gate.slot) × Adds disk was.gate.slot old new word)
    × (1000 ≤ was.held.tail + records → HoldsCheckpoint disk now.gate.slot old new map)
