-- What a desk keeps between two calls, why a call of it fails, and what its end leaves.
use Rattle.std.specs.Prelude.{◌≡◌, ◌<◌, ◌≤◌, ◌+◌, ◌*◌, ℕ, Bool, true, false, List, Option, Some, None, IfSome, IfErr}
use Rattle.std.specs.List.{All}
use Rattle.den_codec.specs.declared.error.Error.{Error}
use Rattle.den_codec.specs.declared.error.Error.TheVariants as error
use Rattle.den_disk.specs.declared.disk.Disk.{Ghosts}
use Rattle.den_journal.specs.Causes.{IsRoomOf}
use Rattle.den_journal.specs.Writes.{DiskTells, Faulted, GoesOn}
use Rattle.den_model.specs.Crash.{Stands}
use Rattle.den_model.specs.Plan.{turn}
use Rattle.den_model.specs.Step.{moment_of}
use Rattle.den_core.specs.Making.{CanGoOn, IsCallTooShort, Says, Seen}
use Rattle.den_core.specs.Weights.{frame_rise}
use Rattle.den_desk.specs.declared.history.Call.{Call}
use Rattle.den_desk.specs.declared.history.Call.TheVariants.{Serve, Take, Unregister, Look, Stop}
use Rattle.den_desk.specs.declared.history.End.{End}
use Rattle.den_desk.specs.declared.history.FailKind.{FailKind}
use Rattle.den_desk.specs.declared.history.FailKind.TheVariants.{StorageIoError, DiskFull, OutOfMemory, Stopped}
use Rattle.den_desk.specs.declared.history.Finished.{Finished}
use Rattle.den_desk.specs.History.{Replays, Standing, asked_bytes, beginning, has_failure, standing_of}

-- what a refused step is told as; a step is refused for no other cause
abbrev pub kind_of : Error → FailKind
kind_of error.OutOfMemory = OutOfMemory
kind_of error.StorageIoError = StorageIoError
kind_of (error.DiskFull needed limit) = DiskFull needed limit
kind_of _ = OutOfMemory

-- the history ended by a failure, not by a stop
abbrev pub has_failed : Option End → Bool
has_failed None = false
has_failed (Some end) = elim end.kind [ Stopped ↦ false | StorageIoError ↦ true | DiskFull needed limit ↦ true | OutOfMemory ↦ true ]

-- the standing at which a history of an engine begins
abbrev pub first_standing : Seen → Standing
first_standing first = beginning first.kv first.waits

-- by how much a call makes an engine heavier, at most
abbrev pub call_rise : Call → ℕ
call_rise (Serve frame) = frame_rise frame
call_rise (Take watcher) = 0
call_rise (Unregister watcher) = 0
call_rise (Look from most) = 0
call_rise Stop = 0

module _ {D : Type 0} (disk : Ghosts D) where
  -- A call asks for more room than a file may have: it serves a frame, and four times the weight with the frame's rise is above the
  -- limit. Where it is told what files hold, the room is the one that a slot would need for a payload of the refused step.
  abbrev pub IsFullFor : (told : Type 0) → (was : Seen) → (old new : D) → (moment : ℕ) → Call → (needed : ℕ) → Type 0
  IsFullFor told was old new moment (Serve frame) needed = ((disk.kind old).limit < 4 * (was.weight + frame_rise frame)) × IsRoomOf (was.weight + frame_rise frame) needed
      × (DiskTells disk old × told → IsCallTooShort was (turn was.kv frame (moment_of moment)) (was.weight + frame_rise frame) needed (disk.content new).reading)
  IsFullFor told was old new moment (Take watcher) needed = ⊥
  IsFullFor told was old new moment (Unregister watcher) needed = ⊥
  IsFullFor told was old new moment (Look from most) needed = ⊥
  IsFullFor told was old new moment Stop needed = ⊥

  -- Why a call fails by itself: the disk's count of faults rose in it, it asks for more room than a file may have, or memory is
  -- wanting.
  abbrev pub Fails : (told : Type 0) → (was : Seen) → (old new : D) → (moment : ℕ) → Call → FailKind → Type 0
  Fails told was old new moment call StorageIoError = Faulted disk old new
  Fails told was old new moment call (DiskFull needed limit) = (limit < needed) × (limit ≡ (disk.kind old).limit) × IsFullFor told was old new moment call needed
  Fails told was old new moment call OutOfMemory = Unit {0}
  Fails told was old new moment call Stopped = ⊥

  -- an engine that can go on, of this state, with this in front of its watchers
  pub record StandsAt (s : Standing) (now : Seen) (at : D) : Type 0 where
    pub stands : CanGoOn disk now at
    pub kv : now.kv ≡ s.kv
    pub waits : now.waits ≡ s.waits

  -- Why entries of a kind are there: the disk's count rose since the first, or 32 times what the engine weighed then, with what was
  -- asked since, is above the limit of a file.
  abbrev pub HasCauseSince : (disk_first at : D) → (weight : ℕ) → FailKind → Type 0
  HasCauseSince disk_first at weight StorageIoError = Faulted disk disk_first at
  HasCauseSince disk_first at weight (DiskFull needed limit) = (limit ≡ (disk.kind disk_first).limit) × ((disk.kind disk_first).limit < 32 * weight)
  HasCauseSince disk_first at weight OutOfMemory = Unit {0}
  HasCauseSince disk_first at weight Stopped = Unit {0}

  -- Of an engine that was seen so first, and is now, on a disk that was so first: the history replays from there, and ended where
  -- it says, for a cause; the disk went on; and where no call failed the engine can go on, as the replay has it, and weighs no
  -- more than eight times what was asked.
  pub record IsKept (first now : Seen) (disk_first at : D) (ended : Option End) (history : List Finished) : Type 0 where
    pub replays : Replays (first_standing first) history
    pub ended_is : ended ≡ (standing_of 0 (first_standing first) history).ended
    pub since : GoesOn disk disk_first at
    pub goes_on : has_failed ended ≡ false → StandsAt (standing_of 0 (first_standing first) history) now at
    pub weighs : has_failed ended ≡ false → now.weight ≤ first.weight + 8 * asked_bytes history
    pub cause : IfSome ended (λ end. HasCauseSince disk_first at (first.weight + asked_bytes history) end.kind)

  -- What is told of a list of finished calls at its end: it replays from the first engine; the disk went on; where no call failed
  -- each image of the disk stands for the durable part of the replay; and each failed entry has a cause.
  pub record IsHistoryOf (says : Says) (first : Seen) (disk_first at : D) (history : List Finished) : Type 0 where
    pub replays : Replays (first_standing first) history
    pub since : GoesOn disk disk_first at
    pub stands : DiskTells disk at → says.told → has_failure history ≡ false
        → Stands says.holds (disk.images at) (disk.moment at) (standing_of 0 (first_standing first) history).kv.durable
    pub causes : All (λ f. IfErr f.outcome (HasCauseSince disk_first at (first.weight + asked_bytes history))) history
