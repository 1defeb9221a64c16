-- What the calls of a store leave, of the disk that they are lent and of the store.
use Rattle.std.specs.Prelude.{◌≡◌, ◌⊎◌, ◌≤◌, ℕ, ◌+◌, List, [], ◌∷◌, Some, Result, Ok, Err, IsTrue, IfOk, IfErr, OnOk}
use Rattle.den_disk.specs.declared.disk.Disk.{Ghosts}
use Rattle.den_disk.specs.declared.place.Family.{Family}
use Rattle.den_disk.specs.Place.{place_number}
use Rattle.den_disk.specs.Files.{Files}
use Rattle.den_disk.specs.Goes.{DiskGoesOn, Rose}
use Rattle.den_disk.specs.Families.{SparesImages, SparesOthers, SparesAll, NoNewImages}
use Rattle.den_model.specs.Image.{slot_of}
use Rattle.den_model.specs.Sizes.{family_size}
use Rattle.den_codec.specs.declared.error.Error.{Error}
use Rattle.den_codec.specs.declared.error.Error.TheVariants.{OutOfMemory, StorageIoError}
use Rattle.den_codec.specs.Full.{IsHeavy}
use Rattle.den_journal.specs.Causes.{IsFullFor, IsOfDisk, IsRefusal}
use Rattle.den_journal.specs.Folding.{IsUnread}
use Rattle.den_journal.specs.Opening.{AllSynced}
use Rattle.den_journal.specs.Shown.{Effect, Held, IsOneOf, Shown, rewrite_size}

module _ {D : Type 0} (disk : Ghosts D) where
  -- the same kind of disk, which counts its faults and keeps the images of earlier moments
  abbrev pub GoesOn : D → D → Type 0
  GoesOn old new = DiskGoesOn disk.kind disk.moment disk.images disk.faults old new

  -- it tells its bytes
  abbrev pub DiskTells : D → Type 0
  DiskTells old = IsTrue (disk.kind old).tells

  -- the count of faults rose
  abbrev pub Faulted : D → D → Type 0
  Faulted old new = Rose (disk.faults old) (disk.faults new)

  -- At each moment of a call a crash leaves the family's files to give one of these values, where the store tells what
  -- they give, and those of the other families as a crash before it might have left them.
  pub record Moves {V : Type 0} (family : Family) (holds : Held V) (values : List V) (old new : D) : Type 0 where
    pub own : holds.told → (t : ℕ) (files : Files) → disk.moment old ≤ t → t ≤ disk.moment new → disk.images new t files → IsOneOf values (holds.of files)
    pub others : SparesImages family (disk.images old) (disk.images new) (disk.moment old) (disk.moment new)
    pub spares : SparesOthers family (disk.content old) (disk.content new)

  module _ {V : Type 0} (now : Shown V) (at : D) where
    -- a store that can go on
    pub record StoreStands : Type 0 where
      pub ready : now.ready
      pub rests : DiskTells at → now.rests (disk.content at)

  -- the last call of a store: it puts all files on the disk, and takes no memory
  pub record Ends {T V : Type 0} (was : Shown V) (old new : D) (family : Family) (holds : Held V) (result : Result T Error) : Type 0 where
    pub goes_on : GoesOn old new
    pub moves : DiskTells old → Moves family holds (was.value ∷ []) old new
    pub flushed : DiskTells old → OnOk result ((disk.content new).pending ≡ [])
    pub refused : IfErr result (λ e. (e ≡ StorageIoError) × Faulted old new)

  module _ {V : Type 0} (was now : Shown V) (old new : D) where
    -- a store that a call made so
    pub record Becomes (change : Effect V) : Type 0 where
      pub value : now.value ≡ change.to
      pub weight : now.weight ≤ was.weight + change.rise
      pub ready : now.ready
      pub rests : DiskTells old → now.rests (disk.content new)

    -- a call that changed nothing
    pub record Untouched : Type 0 where
      pub same_disk : new ≡ old
      pub same_value : now.value ≡ was.value
      pub same_weight : now.weight ≡ was.weight
      pub ready : now.ready
      pub rests : DiskTells old → now.rests (disk.content new)

    -- A call whose change is in the files and not in memory, since memory was wanting behind the write.
    pub record IsLost (holds : Held V) (change : Effect V) : Type 0 where
      pub may_be : change.lost
      pub failed : now.ready → ⊥
      pub held : DiskTells old → holds.told → (files : Files) → disk.images new (disk.moment new) files → holds.of files ≡ Some change.to

    -- A refusal of a call that writes. Want of memory changes nothing; after a refusal of the disk the store is of no more
    -- use, with the value that it had or the one that was to be made. A full disk is told the room that a slot would need.
    pub record IsRefused (family : Family) (holds : Held V) (change : Effect V) (e : Error) : Type 0 where
      pub cause : IsRefusal (Faulted old new) (disk.kind old).limit e
      pub full : IsFullFor (DiskTells old × holds.told) family (disk.content new).reading (was.weight + change.rise) change.adds change.drafts e
      pub heavy : IsHeavy (disk.kind old).limit (was.weight + change.rise) e
      pub untouched : e ≡ OutOfMemory → Untouched ⊎ IsLost holds change
      pub failed : IsOfDisk e → now.ready → ⊥
      pub kept : IsOfDisk e → (now.value ≡ was.value) ⊎ (now.value ≡ change.to)

    -- A call that makes one change of the family's files. A crash inside leaves the old value or the new one.
    pub record Writes {T : Type 0} (family : Family) (holds : Held V) (change : Effect V) (result : Result T Error) : Type 0 where
      pub goes_on : GoesOn old new
      pub moves : DiskTells old → Moves family holds (was.value ∷ change.to ∷ []) old new
      pub done : OnOk result (Becomes change)
      pub refused : IfErr result (IsRefused family holds change)

    -- A call that puts all files on the disk, and takes no memory.
    pub record Syncs {T : Type 0} (family : Family) (holds : Held V) (result : Result T Error) : Type 0 where
      pub ends : Ends was old new family holds result
      pub same_value : now.value ≡ was.value
      pub same_weight : now.weight ≡ was.weight
      pub ready : OnOk result now.ready
      pub rests : OnOk result (DiskTells old → now.rests (disk.content new))
      pub failed : IfErr result (λ e. now.ready → ⊥)

  -- a store as an opening makes it of files
  pub record IsOpened {V : Type 0} (family : Family) (gives : Files → Result V ℕ) (now : Shown V) (old new : D) : Type 0 where
    pub ready : now.ready
    pub value : DiskTells old → gives (disk.content old).reading ≡ Ok now.value
    pub weight : DiskTells old → now.weight ≤ rewrite_size (family_size family (disk.content old).reading)
    pub rests : DiskTells old → now.rests (disk.content new)

  -- An opening of a family's files, whatever they are, after a sync of all files. `DataCorruption` names the slot in use,
  -- and the gate of the first region that runs past the end, or else of the first that is not lawful.
  pub record Opens {S V : Type 0} (shown : S → Shown V) (family : Family) (gives : Files → Result V ℕ) (old new : D) (result : Result S Error) : Type 0 where
    pub goes_on : GoesOn old new
    pub images : DiskTells old → NoNewImages (disk.images old) (disk.images new) (disk.moment old) (disk.moment new)
    pub spares : DiskTells old → SparesAll (disk.content old) (disk.content new)
    pub settled : DiskTells old → AllSynced result (disk.content old) (disk.content new)
    pub opened : IfOk result (λ s. IsOpened family gives (shown s) old new)
    pub refused : IfErr result (IsUnread (Faulted old new) (λ place offset. DiskTells old →
        (place ≡ place_number (slot_of family (disk.content old).reading)) × (gives (disk.content old).reading ≡ Err offset)))
