-- What contracts see of a state machine.
use Rattle.std.specs.Prelude.{◌≡◌, ◌↔◌, ℕ, Bool, Option, Some, ◌+◌, [], ◌∷◌, Result, IfErr, OnOk}
use Rattle.std.proofs.Common.{◌∙◌, ap}
use Rattle.den_disk.specs.declared.disk.Disk.{Ghosts}
use Rattle.den_disk.specs.declared.place.Family.{Family}
use Rattle.den_disk.specs.Files.{Files, Content, IsImage}
use Rattle.den_disk.specs.Families.{SparesOwn}
use Rattle.den_codec.specs.declared.error.Error.{Error}
use Rattle.den_codec.specs.declared.error.Error.TheVariants.{OutOfMemory}
use Rattle.den_codec.specs.Full.{IsHeavy}
use Rattle.den_model.specs.MapState.{MapState}
use Rattle.den_journal.specs.Causes.{IsFullFor, IsRefusal}
use Rattle.den_journal.specs.Lies.{Lies}
use Rattle.den_journal.specs.Shown.{Effect, Held, Shown}
use Rattle.den_journal.specs.Writes.{Faulted, GoesOn, Moves, DiskTells}
use Rattle.den_state.specs.declared.file_machine.SnapshotMetadata.{SnapshotMetadata}

-- whether a lease is configured, whether it runs, and what was last said of a snapshot
pub record Settings : Type 0 where
  pub leased : Bool
  pub running : Bool
  pub metadata : Option SnapshotMetadata

-- its files lie as its last call left them, and give its map: its applied mark is stored
pub record AtRest (shown : Shown MapState) (map : MapState) (c : Content) : Type 0 where
  pub rests : shown.rests c
  pub stored : shown.value ≡ map

-- only the files of its own family count
pub rest_own : {S : Type 0} {family : Family} {holds : Held MapState} {shown : S → Shown MapState} → Lies family holds shown → (s : S) (map : MapState) (old new : Content) → SparesOwn family old new → AtRest (shown s) map old → AtRest (shown s) map new
rest_own lies s map old new spares r = record { rests = lies.rests_own s old new spares r.rests; stored = r.stored }

-- and they give it, where the state machine tells what they give, whatever a crash does to what is pending
pub rest_hold : {S : Type 0} {family : Family} {holds : Held MapState} {shown : S → Shown MapState} → Lies family holds shown → holds.told → (s : S) (map : MapState) (c : Content) (files : Files) → (shown s).ready → AtRest (shown s) map c → IsImage c files → holds.of files ≡ Some map
rest_hold lies told s map c files ready r image = lies.rests_hold told s c files ready r.rests image ∙ ap (λ m. Some m) r.stored

-- its files, what they give and their length are as they were
pub record StaysAs {S : Type 0} (shown : S → Shown MapState) (short : S → Type 0) (old new : S) : Type 0 where
  pub same_value : (shown new).value ≡ (shown old).value
  pub same_weight : (shown new).weight ≡ (shown old).weight
  pub same_short : short old → short new
  pub same_ready : (shown old).ready ↔ (shown new).ready
  pub same_rests : (c : Content) → (shown old).rests c → (shown new).rests c

-- The last call of a store, which may write. What it leaves on the disk gives the value that it was to store, where the
-- store tells what files give.
module _ {D : Type 0} (disk : Ghosts D) where
  pub record Closes {T V : Type 0} (was : Shown V) (old new : D) (family : Family) (holds : Held V) (change : Effect V) (result : Result T Error) : Type 0 where
    pub goes_on : GoesOn disk old new
    pub moves : DiskTells disk old → Moves disk family holds (was.value ∷ change.to ∷ []) old new
    pub held : OnOk result (DiskTells disk old → holds.told → (files : Files) → disk.images new (disk.moment new) files → holds.of files ≡ Some change.to)
    pub cause : IfErr result (IsRefusal (Faulted disk old new) (disk.kind old).limit)
    pub full : IfErr result (IsFullFor (DiskTells disk old × holds.told) family (disk.content new).reading (was.weight + change.rise) change.adds change.drafts)
    pub heavy : IfErr result (IsHeavy (disk.kind old).limit (was.weight + change.rise))
    pub untouched : IfErr result (λ e. e ≡ OutOfMemory → new ≡ old)
