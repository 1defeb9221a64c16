-- How far a reader of a gate file's regions came, and what one more call finds.
use Rattle.std.specs.Prelude.{◌≡◌, ◌≤◌, ℕ, ◌+◌, List, length, take, slice_get, Option, Some, None, Result, Ok, Err}
use Rattle.den_disk.specs.Files.{Files}
use Rattle.den_model.specs.Regions.{Region, regions, placed}
use Rattle.den_gate.specs.declared.error.GateError.{GateError}
use Rattle.den_gate.specs.declared.reader.RegionReader.{RegionReader}
use Rattle.den_gate.specs.Slot.{payloads_of, Begins}
use Rattle.den_gate.specs.Window.{Shows}

-- the payloads of the slot that a reader reads
abbrev pub payloads_before : RegionReader → Files → List (List ℕ)
payloads_before reader files = payloads_of (files reader.slot)

-- a reader stands behind the first regions of its slot, as many as it gave
pub record StandsIn (reader : RegionReader) (files : Files) : Type 0 where
  pub len : reader.len ≡ length (files reader.slot)
  pub shows : Shows reader.window (files reader.slot)
  pub whole : regions (files reader.slot) ≡ Ok (placed 0 (payloads_before reader files))
  pub given : reader.given ≤ length (payloads_before reader files)
  pub begins : Begins (take reader.given (payloads_before reader files)) reader.at (files reader.slot)

-- the region that a reader comes to next, or none behind the last one
abbrev pub next_region : RegionReader → Files → Option Region
next_region reader files = slice_get (placed 0 (payloads_before reader files)) reader.given

-- the region that a call found, by its gate's offset and its payload
abbrev pub region_found : Option ℕ → List ℕ → Option Region
region_found None payload = None
region_found (Some offset) payload = Some (record { offset = offset; payload = payload })

-- A reader goes on behind the region that it found; where it found none, or was refused, it stands where it stood.
abbrev pub Advances : Result (Option ℕ) GateError → List ℕ → RegionReader → RegionReader → Type 0
Advances (Ok (Some offset)) payload old new = (offset ≡ old.at) × (new.at ≡ old.at + (9 + length payload)) × (new.given ≡ old.given + 1)
Advances (Ok None) payload old new = (new.at ≡ old.at) × (new.given ≡ old.given)
Advances (Err e) payload old new = (new.at ≡ old.at) × (new.given ≡ old.given)
