-- What the calls of a state machine leave that store a snapshot, and that put one in the map's place.
use Rattle.std.specs.Prelude.{◌≡◌, ◌⊎◌, ◌≤◌, ◌<◌, ◌+◌, ◌&&◌, ℕ, Bool, true, false, not, List, [], ◌∷◌, length, Option, Some, None, unwrap_or, Result, IfErr, OnOk}
use Rattle.den_disk.specs.declared.disk.Disk.{Ghosts}
use Rattle.den_disk.specs.declared.place.Family.TheVariants.{State as state_family, Snapshot as snapshot_family}
use Rattle.den_disk.specs.Place.{place_number}
use Rattle.den_disk.specs.Files.{Files}
use Rattle.den_disk.specs.Families.{NoNewImages, SparesAll, SparesImages, SparesOthers}
use Rattle.den_model.specs.declared.log_id.LogId.{LogId}
use Rattle.den_model.specs.Image.{slot_of}
use Rattle.den_model.specs.MapState.{MapState}
use Rattle.den_model.specs.Sizes.{store_rise}
use Rattle.den_codec.specs.declared.error.Error.{Error}
use Rattle.den_codec.specs.declared.error.Error.TheVariants.{OutOfMemory, StorageIoError, DiskFull, LinkFault, DataCorruption, FeatureNotEnabled, ProposeFailed, UnorderedChunk, Config, ConfigFault, StateMachineError}
use Rattle.den_codec.specs.Full.{IsHeavy}
use Rattle.den_map.specs.Leases.{has_expiry}
use Rattle.den_snapshot.specs.Snapshots.{Taken, map_of}
use Rattle.den_snapshot.specs.Words.{snapshot_in, snapshot_word}
use Rattle.den_journal.specs.Causes.{IsFullAt, IsFullFor}
use Rattle.den_journal.specs.OneWord.{one_in, GivesAsBefore, HasOne}
use Rattle.den_journal.specs.Shown.{Held, Shown}
use Rattle.den_journal.specs.Writes.{DiskTells, Faulted, GoesOn, Moves, Untouched}
use Rattle.den_state.specs.Checkpoint.{IsCheckpointSize}
use Rattle.den_state.specs.Cleanup.{cleaned_where}

-- the snapshot whose word the Snapshot family's files are, if they are one
abbrev pub snapshot_of : Files → Option Taken
snapshot_of files = one_in snapshot_family snapshot_in files

-- they are this snapshot's word
pub record HoldsSnapshot (t : Taken) (files : Files) : Type 0 where
  pub one : HasOne snapshot_family (snapshot_word t) files
  pub is : snapshot_of files ≡ Some t

-- a snapshot has a key that expires, where no lease is configured
abbrev pub wants_lease : Bool → Taken → Bool
wants_lease leased t = has_expiry (map_of t.mark t) && not leased

-- the map that a snapshot gives under a mark, once its expired keys are gone
abbrev pub installed : Bool → ℕ → LogId → Taken → MapState
installed leased moment mark t = cleaned_where leased moment (map_of mark t)

-- the maps that a crash may find in the old one's place: the snapshot's, and what its cleanup leaves
abbrev pub installed_values : Bool → ℕ → LogId → Option Taken → List MapState
installed_values leased moment mark None = []
installed_values leased moment mark (Some t) = map_of mark t ∷ installed leased moment mark t ∷ []

-- the one that a crash may find there where the snapshot's is written after its cleanup alone
abbrev pub installed_value : Bool → ℕ → LogId → Option Taken → List MapState
installed_value leased moment mark None = []
installed_value leased moment mark (Some t) = installed leased moment mark t ∷ []

-- a fault of the disk
abbrev pub is_fault : Error → Bool
is_fault StorageIoError = true
is_fault OutOfMemory = false
is_fault (DiskFull needed limit) = false
is_fault LinkFault = false
is_fault (DataCorruption place offset) = false
is_fault FeatureNotEnabled = false
is_fault ProposeFailed = false
is_fault (UnorderedChunk index) = false
is_fault (Config place) = false
is_fault ConfigFault = false
is_fault StateMachineError = false

-- why no snapshot is stored: want of memory; a fault of the disk where its count rose; a file that would pass the limit; and,
-- where the disk does not tell its bytes, files that cannot be read once they were emptied
abbrev pub IsUnstored : (rose told : Type 0) → ℕ → Error → Type 0
IsUnstored rose told most OutOfMemory = Unit {0}
IsUnstored rose told most StorageIoError = rose
IsUnstored rose told most (DiskFull needed limit) = (limit < needed) × (limit ≡ most)
IsUnstored rose told most (DataCorruption place offset) = told → ⊥
IsUnstored rose told most LinkFault = ⊥
IsUnstored rose told most FeatureNotEnabled = ⊥
IsUnstored rose told most ProposeFailed = ⊥
IsUnstored rose told most (UnorderedChunk index) = ⊥
IsUnstored rose told most (Config place) = ⊥
IsUnstored rose told most ConfigFault = ⊥
IsUnstored rose told most StateMachineError = ⊥

module _ {D : Type 0} (disk : Ghosts D) where
  module _ (was now : Shown MapState) (old new : D) where
    -- a state machine that has stored this snapshot
    pub record IsStored (made : Taken) : Type 0 where
      pub ready : now.ready
      pub rests : DiskTells disk old → now.rests (disk.content new)
      pub reading : DiskTells disk old → HoldsSnapshot made (disk.content new).reading
      pub images : DiskTells disk old → (files : Files) → disk.images new (disk.moment new) files → HoldsSnapshot made files

    -- A call that stores this snapshot. The map and its files stay. A crash inside leaves this snapshot, or what
    -- a crash before might have left, one or none. Want of memory changes nothing; any other refusal ends its use.
    pub record Generates {T : Type 0} (made : Taken) (result : Result T Error) : Type 0 where
      pub goes_on : GoesOn disk old new
      pub others : DiskTells disk old → SparesImages snapshot_family (disk.images old) (disk.images new) (disk.moment old) (disk.moment new)
      pub spares : DiskTells disk old → SparesOthers snapshot_family (disk.content old) (disk.content new)
      pub same_value : now.value ≡ was.value
      pub same_weight : now.weight ≡ was.weight
      pub done : OnOk result (IsStored made)
      pub kept : DiskTells disk old → (t : ℕ) (files : Files) → disk.moment old ≤ t → t ≤ disk.moment new → disk.images new t files
          → HoldsSnapshot made files ⊎ GivesAsBefore snapshot_family snapshot_in (disk.images old (disk.moment old)) files
      pub cause : IfErr result (IsUnstored (Faulted disk old new) (DiskTells disk old) (disk.kind old).limit)
      pub full : IfErr result (IsFullFor (DiskTells disk old) snapshot_family (disk.content new).reading was.weight (λ n. ⊥) (λ n. n ≡ length (snapshot_word made)))
      pub heavy : IfErr result (IsHeavy (disk.kind old).limit was.weight)
      pub room : IfErr result (IsFullAt 0 (length (snapshot_word made)))
      pub untouched : IfErr result (λ e. e ≡ OutOfMemory → Untouched disk was now old new)
      pub failed : IfErr result (λ e. (e ≡ OutOfMemory → ⊥) → now.ready → ⊥)

  -- ---- a snapshot in the map's place

  -- the snapshot that the files hold, where the disk tells what they hold, and whether it wants a lease
  pub record IsFound (leased : Bool) (old : D) (t : Taken) (lacks : Bool) : Type 0 where
    pub there : DiskTells disk old → snapshot_of (disk.content old).reading ≡ Some t
    pub wants : wants_lease leased t ≡ lacks

  -- where the files' snapshot wants a lease
  pub record WantsLease (leased : Bool) (old : D) : Type 0 where
    pub taken : Taken
    pub found : IsFound leased old taken true

  -- the map and all files are as they were, and no image came that was none
  pub record IsLeft (was now : Shown MapState) (before after : MapState) (old new : D) : Type 0 where
    pub same_value : now.value ≡ was.value
    pub same_map : after ≡ before
    pub same_weight : now.weight ≡ was.weight
    pub ready : now.ready
    pub rests : DiskTells disk old → now.rests (disk.content new)
    pub spares : DiskTells disk old → SparesAll (disk.content old) (disk.content new)
    pub images : DiskTells disk old → NoNewImages (disk.images old) (disk.images new) (disk.moment old) (disk.moment new)

  module _ (leased : Bool) (moment : ℕ) (last : Option LogId) (was now : Shown MapState) (before after : MapState) (old new : D) where
    -- the map that the files' snapshot gives has taken the old one's place
    pub record IsPut : Type 0 where
      pub taken : Taken
      pub found : IsFound leased old taken false
      pub value : now.value ≡ installed leased moment (unwrap_or last was.value.mark) taken
      pub map : after ≡ installed leased moment (unwrap_or last before.mark) taken

    -- and its files give it
    pub record IsInstalled : Type 0 where
      pub put : IsPut
      pub weight : now.weight ≤ was.weight + store_rise (length (snapshot_word put.taken))
      pub ready : now.ready
      pub rests : DiskTells disk old → now.rests (disk.content new)

    -- where the disk is full of the map that the files' snapshot gives
    pub record IsFullOfMap (told : Type 0) (needed limit : ℕ) : Type 0 where
      pub taken : Taken
      pub found : IsFound leased old taken false
      pub passes : limit < needed
      pub limit_is : limit ≡ (disk.kind old).limit
      pub full : IsFullFor (DiskTells disk old × told) state_family (disk.content new).reading (was.weight + store_rise (length (snapshot_word taken)))
          (λ n. ⊥) (IsCheckpointSize (installed leased moment (unwrap_or last was.value.mark) taken)) (DiskFull needed limit)
      pub heavy : IsHeavy (disk.kind old).limit (was.weight + store_rise (length (snapshot_word taken))) (DiskFull needed limit)

    -- why no snapshot is put in the map's place, and what is left then
    abbrev pub IsUninstalled : (told : Type 0) → Error → Type 0
    IsUninstalled told OutOfMemory = IsLeft was now before after old new ⊎ (now.ready → ⊥)
    IsUninstalled told StorageIoError = Faulted disk old new × (now.ready → ⊥)
    IsUninstalled told (DiskFull needed limit) = IsFullOfMap told needed limit × (now.ready → ⊥)
    IsUninstalled told (DataCorruption place offset) = IsLeft was now before after old new × (DiskTells disk old
        → (snapshot_of (disk.content old).reading ≡ None) × (place ≡ place_number (slot_of snapshot_family (disk.content old).reading)) × (offset ≡ 0))
    IsUninstalled told FeatureNotEnabled = IsLeft was now before after old new × WantsLease leased old
    IsUninstalled told LinkFault = ⊥
    IsUninstalled told ProposeFailed = ⊥
    IsUninstalled told (UnorderedChunk index) = ⊥
    IsUninstalled told (Config place) = ⊥
    IsUninstalled told ConfigFault = ⊥
    IsUninstalled told StateMachineError = ⊥

    -- A call that puts the files' snapshot in the map's place, under this mark where one is given. A crash inside leaves the old
    -- map, the snapshot's, or that after its cleanup. A refusal leaves the old map in memory or the new one.
    pub record Installs {T : Type 0} (holds : Held MapState) (result : Result T Error) : Type 0 where
      pub goes_on : GoesOn disk old new
      pub moves : DiskTells disk old → Moves disk state_family holds
          (was.value ∷ installed_values leased moment (unwrap_or last was.value.mark) (snapshot_of (disk.content old).reading)) old new
      pub done : OnOk result IsInstalled
      pub refused : IfErr result (IsUninstalled holds.told)
      pub kept : IfErr result (λ e. ((now.value ≡ was.value) × (after ≡ before)) ⊎ IsPut)
