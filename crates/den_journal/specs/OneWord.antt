-- A family whose files hold one word.
use Rattle.std.specs.Prelude.{◌≡◌, ◌⊎◌, ◌<◌, ◌≤◌, ◌^◌, ℕ, List, [], ◌∷◌, length, Option, Some, None, Result, Ok, Err, IsErr, IfOk, IfErr, OnOk}
use Rattle.den_disk.specs.declared.disk.Disk.{Ghosts}
use Rattle.den_disk.specs.declared.place.Family.{Family}
use Rattle.den_disk.specs.declared.place.Part.TheVariants.{A}
use Rattle.den_disk.specs.declared.place.Place.{Place}
use Rattle.den_disk.specs.Place.{place_number}
use Rattle.den_disk.specs.Files.{Files}
use Rattle.den_disk.specs.Crash.{Leaves}
use Rattle.den_disk.specs.Families.{SparesAll, SparesOthers, SparesImages, NoNewImages}
use Rattle.den_model.specs.Regions.{Region, regions, placed}
use Rattle.den_model.specs.Image.{head_of, slot_of}
use Rattle.den_gate.specs.declared.error.GateError.{GateError}
use Rattle.den_gate.specs.declared.error.GateError.TheVariants as gate
use Rattle.den_gate.specs.Slot.{room_for}
use Rattle.den_gate.specs.Steps.{IsSettled}
use Rattle.den_gate.specs.Draft.{other_slot}
use Rattle.den_codec.specs.declared.error.Error.{Error}
use Rattle.den_codec.specs.declared.error.Error.TheVariants.{OutOfMemory, StorageIoError, DiskFull, LinkFault, DataCorruption, FeatureNotEnabled, ProposeFailed, UnorderedChunk, Config, ConfigFault, StateMachineError}
use Rattle.den_journal.specs.Causes.{IsTooShort}
use Rattle.den_journal.specs.Folding.{IsUnread}
use Rattle.den_journal.specs.Opening.{AllSynced}
use Rattle.den_journal.specs.Writes.{GoesOn, DiskTells, Faulted}

-- the value of one region, if there is exactly one and it is a word
abbrev pub one_of : {A : Type 0} → (List ℕ → Option A) → Result (List Region) ℕ → Option A
one_of read (Ok []) = None
one_of read (Ok (r ∷ [])) = read r.payload
one_of read (Ok (r ∷ s ∷ rs)) = None
one_of read (Err offset) = None

-- the regions of the slot that the family's head names, or the offset of the gate from which they cannot be read
abbrev pub family_regions : Family → Files → Result (List Region) ℕ
family_regions family files = regions (files (slot_of family files))

-- the slot with these regions, and A where they cannot be read
abbrev pub start_of : Result (List Region) ℕ → Place → Place
start_of (Ok rs) slot = slot
start_of (Err offset) slot = record { family = slot.family; part = A }

-- the slot that the family's head names, and A where its regions cannot be read: the files are emptied then
abbrev pub slot_at_start : Family → Files → Place
slot_at_start family files = start_of (family_regions family files) (slot_of family files)

-- the value whose word is the one region of the slot that the family's head names
abbrev pub one_in : {A : Type 0} → Family → (List ℕ → Option A) → Files → Option A
one_in family read files = one_of read (family_regions family files)

-- these words are the regions there
abbrev pub HasWords : Family → List (List ℕ) → Files → Type 0
HasWords family words files = family_regions family files ≡ Ok (placed 0 words)

-- this word is the one region there
abbrev pub HasOne : Family → List ℕ → Files → Type 0
HasOne family word files = HasWords family (word ∷ []) files

-- files whose regions are those of files that a crash before might have left
pub record IsAsBefore (family : Family) (before : Files → Type 0) (files : Files) : Type 0 where
  pub origin : Files
  pub was : before origin
  pub same : family_regions family files ≡ family_regions family origin

-- files that give what files give that a crash before might have left
pub record GivesAsBefore {A : Type 0} (family : Family) (read : List ℕ → Option A) (before : Files → Type 0) (files : Files) : Type 0 where
  pub origin : Files
  pub was : before origin
  pub same : one_in family read files ≡ one_in family read origin

-- the same regions as these files, or none
abbrev pub KeepsOrEmpties : Family → Files → Files → Type 0
KeepsOrEmpties family was files = (family_regions family files ≡ family_regions family was) ⊎ HasWords family [] files

-- the regions that a crash before might have left, or none, where those could not be read
abbrev pub IsKept : Family → (before : Files → Type 0) → Files → Files → Type 0
IsKept family before was files = IsAsBefore family before files ⊎ (IsErr (family_regions family was) × HasWords family [] files)

-- a gate file's refusal, told of a family; files that cannot be read are no word from their first byte on
abbrev pub refusal_at_start : Family → GateError → Error
refusal_at_start family gate.OutOfMemory = OutOfMemory
refusal_at_start family gate.StorageIoError = StorageIoError
refusal_at_start family (gate.Full needed limit) = DiskFull needed limit
refusal_at_start family (gate.DataCorruption part offset) = DataCorruption (place_number (record { family = family; part = part })) 0

-- a disk that is full of one word: it is told the room for that word alone, which the slot that is not in use lacks
pub record IsFullOfOne (told : Type 0) (family : Family) (files : Files) (size most needed limit : ℕ) : Type 0 where
  pub room : needed ≡ room_for 0 size
  pub limit_is : limit ≡ most
  pub passes : limit < needed
  pub least : 2 ^ 43 ≤ limit
  pub short : told → IsTooShort (other_slot (slot_of family files)) (λ n. n ≡ size) needed files

-- why a word of this size is not written: a fault of the disk, where its count rose; a full disk; and, where the disk
-- does not tell its bytes, files that cannot be read once they were emptied
abbrev pub IsRefusalOfOne : (rose told : Type 0) (family : Family) (files : Files) (size most : ℕ) → Error → Type 0
IsRefusalOfOne rose told family files size most StorageIoError = rose
IsRefusalOfOne rose told family files size most (DiskFull needed limit) = IsFullOfOne told family files size most needed limit
IsRefusalOfOne rose told family files size most (DataCorruption place offset) = told → ⊥
IsRefusalOfOne rose told family files size most OutOfMemory = ⊥
IsRefusalOfOne rose told family files size most LinkFault = ⊥
IsRefusalOfOne rose told family files size most FeatureNotEnabled = ⊥
IsRefusalOfOne rose told family files size most ProposeFailed = ⊥
IsRefusalOfOne rose told family files size most (UnorderedChunk index) = ⊥
IsRefusalOfOne rose told family files size most (Config place) = ⊥
IsRefusalOfOne rose told family files size most ConfigFault = ⊥
IsRefusalOfOne rose told family files size most StateMachineError = ⊥

module _ {D : Type 0} (disk : Ghosts D) (family : Family) where
  -- a family's files of one word, all of them on the disk
  pub record IsOne (word : List ℕ) (at : D) : Type 0 where
    pub reading : HasOne family word (disk.content at).reading
    pub images : (files : Files) → disk.images at (disk.moment at) files → HasOne family word files
    pub slot : IsSettled (slot_of family (disk.content at).reading) (disk.content at)
    pub head : IsSettled (head_of family) (disk.content at)

  -- A reading of the word that a family's files are, after a sync of all files. `DataCorruption` names the slot in use
  -- and its first byte; it comes exactly where the files are not one region that is a word.
  pub record ReadsOne {A : Type 0} (read : List ℕ → Option A) (old new : D) (result : Result A Error) : Type 0 where
    pub goes_on : GoesOn disk old new
    pub images : DiskTells disk old → NoNewImages (disk.images old) (disk.images new) (disk.moment old) (disk.moment new)
    pub spares : DiskTells disk old → SparesAll (disk.content old) (disk.content new)
    pub settled : DiskTells disk old → AllSynced result (disk.content old) (disk.content new)
    pub value : DiskTells disk old → IfOk result (λ value. one_in family read (disk.content old).reading ≡ Some value)
    pub refused : IfErr result (IsUnread (Faulted disk old new) (λ place offset. DiskTells disk old →
        (place ≡ place_number (slot_of family (disk.content old).reading)) × (offset ≡ 0) × (one_in family read (disk.content old).reading ≡ None)))

  -- A writing of one word in the place of all that a family's files hold: it stands in the slot that was not in use, and the
  -- other one is empty then. A crash at each moment leaves the regions that a crash before might have left, or this word, or
  -- none, where the regions could not be read. So where they were some words, they are those or this one.
  pub record WritesOne {T : Type 0} (word : List ℕ) (old new : D) (result : Result T Error) : Type 0 where
    pub goes_on : GoesOn disk old new
    pub images : DiskTells disk old → SparesImages family (disk.images old) (disk.images new) (disk.moment old) (disk.moment new)
    pub spares : DiskTells disk old → SparesOthers family (disk.content old) (disk.content new)
    pub written : DiskTells disk old → OnOk result (IsOne word new)
    pub slot : DiskTells disk old → OnOk result (slot_of family (disk.content new).reading ≡ other_slot (slot_at_start family (disk.content old).reading))
    pub cleared : DiskTells disk old → OnOk result ((disk.content new).reading (slot_at_start family (disk.content old).reading) ≡ [])
    pub any_moment : DiskTells disk old → Leaves disk.content disk.moment disk.images
        (λ t files. HasOne family word files ⊎ IsKept family (disk.images old (disk.moment old)) (disk.content old).reading files) old new
    pub kept : DiskTells disk old → (was : List (List ℕ)) → ((files : Files) → disk.images old (disk.moment old) files → HasWords family was files)
        → (t : ℕ) (files : Files) → disk.moment old ≤ t → t ≤ disk.moment new → disk.images new t files → HasWords family was files ⊎ HasOne family word files
    pub refused : IfErr result (IsRefusalOfOne (Faulted disk old new) (DiskTells disk old) family (disk.content new).reading (length word) (disk.kind old).limit)
