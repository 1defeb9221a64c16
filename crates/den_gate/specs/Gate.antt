-- What a gate file stands for, now and after a crash.
use Rattle.std.specs.Prelude.{◌≡◌, ◌⊎◌, ◌≤◌, ℕ, Ok, List, [], ◌∷◌, ◌++◌}
use Rattle.den_disk.specs.declared.place.Place.{Place}
use Rattle.den_disk.specs.Files.{Files, Content}
use Rattle.den_model.specs.Regions.{regions, placed}
use Rattle.den_model.specs.Image.{named, head_of, slot_of}
use Rattle.den_gate.specs.declared.gate.GateFile.{GateFile}
use Rattle.den_gate.specs.Slot.{payloads_of}
use Rattle.den_gate.specs.Steps.{IsSettled, IsOpen}

-- the payloads of a gate file
abbrev pub payloads : GateFile → Files → List (List ℕ)
payloads gate files = payloads_of (files gate.slot)

-- the gate file's regions end where it says, and all of its slot is on the disk
abbrev pub IsAtRest : GateFile → Content → Type 0
IsAtRest gate content = IsOpen gate.slot (payloads gate content.reading) gate.end content

-- the family's head names this slot, on the disk
pub record IsCurrent (slot : Place) (content : Content) : Type 0 where
  pub head : named (content.reading (head_of slot.family)) ≡ slot.part
  pub settled : IsSettled (head_of slot.family) content

-- the family's head names this slot, and the regions of the slot that it names are these payloads
pub record HasList (slot : Place) (list : List (List ℕ)) (files : Files) : Type 0 where
  pub slot_same : slot_of slot.family files ≡ slot
  pub list_is : regions (files (slot_of slot.family files)) ≡ Ok (placed 0 list)

-- at each moment from one on up to another a crash leaves the family this list
pub record KeepsFamily (slot : Place) (list : List (List ℕ)) (images : ℕ → Files → Type 0) (from to : ℕ) : Type 0 where
  pub each : (t : ℕ) (files : Files) → from ≤ t → t ≤ to → images t files → HasList slot list files

-- the same, with one payload more or without it
pub record KeepsOrAddsFamily (slot : Place) (list : List (List ℕ)) (payload : List ℕ) (images : ℕ → Files → Type 0) (from to : ℕ) : Type 0 where
  pub each : (t : ℕ) (files : Files) → from ≤ t → t ≤ to → images t files → HasList slot list files ⊎ HasList slot (list ++ payload ∷ []) files
