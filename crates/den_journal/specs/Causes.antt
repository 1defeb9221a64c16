-- Why a call of a store is refused.
use Rattle.std.specs.Prelude.{◌≡◌, ◌⊎◌, ◌<◌, ◌≤◌, ℕ}
use Rattle.den_disk.specs.declared.place.Family.{Family}
use Rattle.den_disk.specs.declared.place.Place.{Place}
use Rattle.den_disk.specs.Files.{Files}
use Rattle.den_model.specs.Regions.{regions}
use Rattle.den_model.specs.Image.{slot_of}
use Rattle.den_model.specs.Sizes.{found_size}
use Rattle.den_gate.specs.Slot.{IsShort, room_for}
use Rattle.den_gate.specs.Draft.{other_slot}
use Rattle.den_codec.specs.declared.error.Error.{Error}
use Rattle.den_codec.specs.declared.error.Error.TheVariants.{OutOfMemory, StorageIoError, DiskFull, LinkFault, DataCorruption, FeatureNotEnabled, ProposeFailed, UnorderedChunk, Config, ConfigFault, StateMachineError}

-- a refusal that every call which is lent a disk may answer, told apart from all others: want of memory, a fault of
-- the disk where its count rose, and a file that would pass the limit
abbrev pub IsRefusal : Type 0 → ℕ → Error → Type 0
IsRefusal rose most OutOfMemory = Unit {0}
IsRefusal rose most StorageIoError = rose
IsRefusal rose most (DiskFull needed limit) = (limit < needed) × (limit ≡ most)
IsRefusal rose most LinkFault = ⊥
IsRefusal rose most (DataCorruption place offset) = ⊥
IsRefusal rose most FeatureNotEnabled = ⊥
IsRefusal rose most ProposeFailed = ⊥
IsRefusal rose most (UnorderedChunk index) = ⊥
IsRefusal rose most (Config place) = ⊥
IsRefusal rose most ConfigFault = ⊥
IsRefusal rose most StateMachineError = ⊥

-- a refusal of the disk itself
abbrev pub IsOfDisk : Error → Type 0
IsOfDisk StorageIoError = Unit {0}
IsOfDisk (DiskFull needed limit) = Unit {0}
IsOfDisk OutOfMemory = ⊥
IsOfDisk LinkFault = ⊥
IsOfDisk (DataCorruption place offset) = ⊥
IsOfDisk FeatureNotEnabled = ⊥
IsOfDisk ProposeFailed = ⊥
IsOfDisk (UnorderedChunk index) = ⊥
IsOfDisk (Config place) = ⊥
IsOfDisk ConfigFault = ⊥
IsOfDisk StateMachineError = ⊥

-- how many bytes of regions a file has
abbrev pub slot_size : Place → Files → ℕ
slot_size slot files = found_size (regions (files slot))

-- a slot has too little room for a payload of one of these sizes behind its regions: the room that it would need
pub record IsTooShort (slot : Place) (sizes : ℕ → Type 0) (needed : ℕ) (files : Files) : Type 0 where
  pub size : ℕ
  pub meant : sizes size
  pub room : needed ≡ room_for (slot_size slot files) size
  pub short : IsShort (files slot) (slot_size slot files) size

-- the room of no more than so many bytes of regions
pub record IsRoomOf (most needed : ℕ) : Type 0 where
  pub size : ℕ
  pub within : size ≤ most
  pub room : needed ≡ room_for size 0

-- where the disk is full: exactly the room for a payload of this size behind so many bytes of regions
abbrev pub IsFullAt : (end size : ℕ) → Error → Type 0
IsFullAt end size (DiskFull needed limit) = needed ≡ room_for end size
IsFullAt end size OutOfMemory = Unit {0}
IsFullAt end size StorageIoError = Unit {0}
IsFullAt end size LinkFault = Unit {0}
IsFullAt end size (DataCorruption place offset) = Unit {0}
IsFullAt end size FeatureNotEnabled = Unit {0}
IsFullAt end size ProposeFailed = Unit {0}
IsFullAt end size (UnorderedChunk index) = Unit {0}
IsFullAt end size (Config place) = Unit {0}
IsFullAt end size ConfigFault = Unit {0}
IsFullAt end size StateMachineError = Unit {0}

-- where the disk is full: the room for at most so many bytes of regions and the gate behind them, and, where it is told what files hold, the room that the slot
-- in use would need for a payload of one of some sizes, or the family's other slot for one of others
abbrev pub IsFullFor : (told : Type 0) (family : Family) (files : Files) (most : ℕ) (adds drafts : ℕ → Type 0) → Error → Type 0
IsFullFor told family files most adds drafts (DiskFull needed limit) = IsRoomOf most needed
    × (told → IsTooShort (slot_of family files) adds needed files ⊎ IsTooShort (other_slot (slot_of family files)) drafts needed files)
IsFullFor told family files most adds drafts OutOfMemory = Unit {0}
IsFullFor told family files most adds drafts StorageIoError = Unit {0}
IsFullFor told family files most adds drafts LinkFault = Unit {0}
IsFullFor told family files most adds drafts (DataCorruption place offset) = Unit {0}
IsFullFor told family files most adds drafts FeatureNotEnabled = Unit {0}
IsFullFor told family files most adds drafts ProposeFailed = Unit {0}
IsFullFor told family files most adds drafts (UnorderedChunk index) = Unit {0}
IsFullFor told family files most adds drafts (Config place) = Unit {0}
IsFullFor told family files most adds drafts ConfigFault = Unit {0}
IsFullFor told family files most adds drafts StateMachineError = Unit {0}
