-- Drafts and rewrites: what they make of a gate file, and what a crash in them leaves.
use Rattle.std.specs.Prelude.{◌≡◌, ◌⊎◌, ◌+◌, ◌<◌, ◌≤◌, ◌^◌, ℕ, List, length, None, IsSome, unwrap_or, Result, OnOk, IsTrue, IsErr, true, false, []}
use Rattle.den_disk.specs.declared.disk.Disk.{Ghosts}
use Rattle.den_disk.specs.declared.place.Part.{Part}
use Rattle.den_disk.specs.declared.place.Part.TheVariants.{Head, A, B}
use Rattle.den_disk.specs.declared.place.Place.{Place}
use Rattle.den_disk.specs.Files.{Files, Content}
use Rattle.den_disk.specs.Crash.{Leaves}
use Rattle.den_disk.specs.Goes.{DiskGoesOn}
use Rattle.den_disk.specs.Families.{SparesOthers, SparesImages}
use Rattle.den_gate.specs.declared.gate.GateFile.{GateFile}
use Rattle.den_model.specs.Regions.{open_regions}
use Rattle.den_gate.specs.Slot.{Holds, StopsAt, begin_of, size_of, room_for, whole_chunks}
use Rattle.den_gate.specs.Steps.{Spares, IsFromOthers}
use Rattle.den_gate.specs.Gate.{payloads, IsAtRest, IsCurrent, HasList, KeepsFamily}

-- B of A, and A of B
abbrev pub other_part : Part → Part
other_part Head = A
other_part A = B
other_part B = A

-- the family's other slot, in which a draft lies
abbrev pub other_slot : Place → Place
other_slot slot = record { family = slot.family; part = other_part slot.part }

-- where a gate file's draft ends
abbrev pub draft_end : GateFile → ℕ
draft_end gate = unwrap_or gate.draft 0

-- these payloads are the gate file's draft, with a closed gate or the file's end behind them
pub record IsDraft (gate : GateFile) (list : List (List ℕ)) (content : Content) : Type 0 where
  pub begun : IsSome gate.draft
  pub holds : Holds list (draft_end gate) (content.reading (other_slot gate.slot))

-- a gate file at rest with this list, in the slot that its family's head names
pub record RestsWith (gate : GateFile) (list : List (List ℕ)) (content : Content) : Type 0 where
  pub at_rest : IsAtRest gate content
  pub list_is : payloads gate content.reading ≡ list
  pub current : IsCurrent gate.slot content

-- a crash leaves the family the list of the one slot or that of the other, and nothing new in the other families' files
pub record Flips (slot other : Place) (list now : List (List ℕ)) (before : Files → Type 0) (files : Files) : Type 0 where
  pub from : IsFromOthers slot.family before files
  pub stands : HasList slot list files ⊎ HasList other now files

-- at each moment from one on up to another a crash leaves the family the list of the one slot or that of the other
pub record FlipsFamily (slot other : Place) (list now : List (List ℕ)) (images : ℕ → Files → Type 0) (from to : ℕ) : Type 0 where
  pub each : (t : ℕ) (files : Files) → from ≤ t → t ≤ to → images t files → HasList slot list files ⊎ HasList other now files

-- A slot that is filled meets the disk's limit at one of the payloads, whose room is told; those before it stand in the slot.
pub record PassesLimit {D : Type 0} (disk : Ghosts D) (slot : Place) (list : List (List ℕ)) (old new : D) (needed limit : ℕ) : Type 0 where
  pub at : ℕ
  pub within : at < length list
  pub needed_is : needed ≡ room_for (begin_of list at) (size_of list at)
  pub most : needed ≤ whole_chunks (length (open_regions list) + 1)
  pub limit_is : limit ≡ (disk.kind old).limit
  pub passes : limit < needed
  pub least : 2 ^ 43 ≤ limit
  pub stops : IsTrue (disk.kind old).tells → StopsAt list at ((disk.content new).reading slot)

module _ {D : Type 0} (disk : Ghosts D) (was now : GateFile) (old new : D) where
  -- A call that writes files of its own family alone, whatever comes of it. A refusal leaves the gate file failed.
  pub record WritesOwn {T E : Type 0} (result : Result T E) : Type 0 where
    pub goes_on : DiskGoesOn disk.kind disk.moment disk.images disk.faults old new
    pub others : IsTrue (disk.kind old).tells → SparesOthers was.slot.family (disk.content old) (disk.content new)
    pub images : IsTrue (disk.kind old).tells → SparesImages was.slot.family (disk.images old) (disk.images new) (disk.moment old) (disk.moment new)
    pub own : now.slot.family ≡ was.slot.family
    pub ready : OnOk result (now.failed ≡ false)
    pub failed : IsErr result → now.failed ≡ true

  -- A call on the draft alone, whatever comes of it: the list stays, and a crash at each moment leaves it where the head
  -- names its slot.
  pub record KeepsList : Type 0 where
    pub slot : now.slot ≡ was.slot
    pub end : now.end ≡ was.end
    pub spares : IsTrue (disk.kind old).tells → Spares (other_slot was.slot) (disk.content old) (disk.content new)
    pub at_rest : IsTrue (disk.kind old).tells → IsAtRest was (disk.content old) → IsAtRest now (disk.content new)
    pub same : IsTrue (disk.kind old).tells → payloads now (disk.content new).reading ≡ payloads was (disk.content old).reading
    pub current : IsTrue (disk.kind old).tells → IsCurrent was.slot (disk.content old) → IsCurrent now.slot (disk.content new)
    pub family : IsTrue (disk.kind old).tells → IsAtRest was (disk.content old) → IsCurrent was.slot (disk.content old)
        → KeepsFamily was.slot (payloads was (disk.content old).reading) (disk.images new) (disk.moment old) (disk.moment new)

  -- A call that puts a list in place of the old one, whatever comes of it: a crash at each moment leaves the old list in the
  -- old slot or the new one in the other, and nothing new in the other families' files.
  pub record Rewrites (list : List (List ℕ)) : Type 0 where
    pub any_moment : Leaves disk.content disk.moment disk.images
        (λ t files. Flips was.slot (other_slot was.slot) (payloads was (disk.content old).reading) list (disk.images old (disk.moment old)) files) old new
    pub family : FlipsFamily was.slot (other_slot was.slot) (payloads was (disk.content old).reading) list (disk.images new) (disk.moment old) (disk.moment new)

  -- where such a call left the gate file: in the other slot, without a draft, and with the old slot empty
  pub record Rewritten (size : ℕ) : Type 0 where
    pub slot : now.slot ≡ other_slot was.slot
    pub end : now.end ≡ size
    pub draft : now.draft ≡ None
    pub cleared : IsTrue (disk.kind old).tells → (disk.content new).reading was.slot ≡ []
