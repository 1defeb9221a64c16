-- What contracts see of a stepper, and what its calls leave of it and of the disk that they are lent.
use Rattle.std.specs.Prelude.{◌≡◌, ◌≤◌, ℕ, ◌+◌, List, [], length, Option, Some, Result, OnOk, IfErr}
use Rattle.den_disk.specs.declared.disk.Disk.{Ghosts}
use Rattle.den_disk.specs.declared.place.Family.TheVariants.{Snapshot as snapshot_family}
use Rattle.den_disk.specs.Families.{OldOrNew}
use Rattle.den_disk.specs.Files.{Files, Content, IsImage}
use Rattle.den_model.specs.Crash.{Survives}
use Rattle.den_model.specs.Entries.{LogEntry}
use Rattle.den_model.specs.Grown.{appended, IsLogAfter, IsPurgedUpTo}
use Rattle.den_model.specs.Kv.{Durable, Kv}
use Rattle.den_model.specs.Log.{Log}
use Rattle.den_model.specs.Plan.{after}
use Rattle.den_model.specs.Step.{Step}
use Rattle.den_codec.specs.declared.error.Error.{Error}
use Rattle.den_journal.specs.Causes.{IsRefusal}
use Rattle.den_journal.specs.Writes.{Faulted, GoesOn, DiskTells}
use Rattle.den_watch.specs.Registry.{Registry}
use Rattle.den_core.specs.Full.{IsBegun, IsFullBy, IsSlotTooShort, IsStepTooShort}
use Rattle.den_core.specs.PayloadSizes.{PayloadSizes}
use Rattle.den_core.specs.Refusals.{FailsOrStays, HasJoined, IsServeRefusal}
use Rattle.den_core.specs.Spared.{SparesFamily}

-- What is seen of a stepper at a moment: all that it holds; who watches, with the events that wait for each; its log; how many entries the log may hold behind a step,
-- which no call changes; its weight, what its files take or would take when written anew, with what the calls since
-- handed it, at most; that its state machine is short: few records follow the last checkpoint; that it can go on; that a
-- refusal left it of no more use; and that its files lie on the disk as its last call left them.
pub record Seen : Type 1 where
  pub kv : Kv
  pub waits : Registry
  pub log : Log
  pub most : ℕ
  pub weight : ℕ
  pub short : Type 0
  pub ready : Type 0
  pub failed : Type 0
  pub rests : Content → Type 0

-- the log holds no more entries than it may
abbrev pub LogIsShort : Seen → Type 0
LogIsShort s = length s.log.entries ≤ s.most

-- one of the steps of a call was refused, of which nothing is sent yet
abbrev pub IsCallTooShort : Seen → List Step → (most needed : ℕ) → Files → Type 0
IsCallTooShort was steps = IsStepTooShort (IsBegun was.kv was.log steps) was.most

-- each image at this moment gives a log of no more than so many entries
pub record GivesShortLog (logs : Files → Option Log) (images : ℕ → Files → Type 0) (t most : ℕ) : Type 0 where
  pub each : (files : Files) → images t files → (log : Log) × (logs files ≡ Some log) × (length log.entries ≤ most)

-- What a stepper says of files: whether it tells what they give, which no call changes; what they stand for; and the
-- log that they give.
pub record Says : Type 1 where
  pub told : Type 0
  pub holds : Files → Option Durable
  pub logs : Files → Option Log

-- Files that lie as a stepper left them stand for its durable part and give its log, whatever a crash does to what is
-- pending; and one that failed cannot go on.
pub record Agrees {S : Type 0} (says : Says) (seen : S → Seen) : Type 0 where
  pub rests_hold : says.told → (s : S) (c : Content) (files : Files) → (seen s).ready → (seen s).rests c → IsImage c files → says.holds files ≡ Some (seen s).kv.durable
  pub rests_log : says.told → (s : S) (c : Content) (files : Files) → (seen s).ready → (seen s).rests c → IsImage c files → says.logs files ≡ Some (seen s).log
  pub failed_ends : (s : S) → (seen s).ready → (seen s).failed → ⊥

module _ {D : Type 0} (disk : Ghosts D) where
  -- a stepper that can go on, with its files as its last call left them
  pub record CanGoOn (now : Seen) (at : D) : Type 0 where
    pub ready : now.ready
    pub rests : DiskTells disk at → now.rests (disk.content at)

  module _ (was now : Seen) (old new : D) where
    -- A call left a stepper and the disk as they were: where the stepper could go on it still can.
    pub record IsUntouched : Type 0 where
      pub same_kv : now.kv ≡ was.kv
      pub same_waits : now.waits ≡ was.waits
      pub same_log : now.log ≡ was.log
      pub same_weight : now.weight ≡ was.weight
      pub same_disk : new ≡ old
      pub stays_short : was.short → now.short
      pub stays_ready : was.ready → now.ready
      pub stays_at_rest : DiskTells disk old → was.rests (disk.content old) → now.rests (disk.content new)

    -- A refusal of a call by which the weight rises so much at most. `short` is said of the room that a full disk is
    -- told, and `written` is what was written where want of memory left a stepper that has failed.
    pub record IsStepRefused (says : Says) (rise : ℕ) (short : (most needed : ℕ) → Files → Type 0) (written : Type 0) (e : Error) : Type 0 where
      pub cause : IsRefusal (Faulted disk old new) (disk.kind old).limit e
      pub full : IsFullBy (DiskTells disk old × says.told) (λ needed. short (was.weight + rise) needed (disk.content new).reading) (disk.kind old).limit (was.weight + rise) e
      pub left : FailsOrStays now.failed IsUntouched written e

    -- a stepper that made these steps
    pub record Made (steps : List Step) (rise : ℕ) : Type 0 where
      pub state : now.kv ≡ after was.kv steps
      pub logged : IsLogAfter was.log was.kv steps now.log
      pub weight : now.weight ≤ was.weight + rise
      pub ready : now.ready
      pub rests : DiskTells disk old → now.rests (disk.content new)

    -- A call that makes these steps, of which nothing is sent yet. A crash inside leaves what some of them make. The
    -- snapshot's files are left alone.
    pub record Makes {T : Type 0} (says : Says) (steps : List Step) (rise : ℕ) (short : (most needed : ℕ) → Files → Type 0) (written : Type 0) (result : Result T Error) : Type 0 where
      pub goes_on : GoesOn disk old new
      pub snapshot : DiskTells disk old → SparesFamily snapshot_family disk.content disk.moment disk.images old new
      pub same_most : now.most ≡ was.most
      pub survives : DiskTells disk old → says.told → Survives says.holds (disk.images new) (disk.moment old) (disk.moment new) [] was.kv steps
      pub done : OnOk result (Made steps rise)
      pub refused : IfErr result (IsStepRefused says rise short written)

    -- A stepper of this durable part, in whose log are these entries more. Entries up to the last that was applied may have
    -- been purged behind them.
    pub record Changed (to : Durable) (entries : List LogEntry) (rise : ℕ) : Type 0 where
      pub durable : now.kv.durable ≡ to
      pub logged : IsPurgedUpTo to.last_index (appended was.log entries) now.log
      pub weight : now.weight ≤ was.weight + rise
      pub rests : DiskTells disk old → now.rests (disk.content new)

    -- A call that makes this durable part and appends these entries, by payloads of these sizes. A crash inside
    -- leaves the old part or the new one. The snapshot's files are left alone.
    pub record ChangesStores {T : Type 0} (says : Says) (to : Durable) (entries : List LogEntry) (sizes : PayloadSizes) (rise : ℕ) (result : Result T Error) : Type 0 where
      pub goes_on : GoesOn disk old new
      pub snapshot : DiskTells disk old → SparesFamily snapshot_family disk.content disk.moment disk.images old new
      pub same_most : now.most ≡ was.most
      pub moves : DiskTells disk old → says.told → OldOrNew says.holds (disk.images new) (disk.moment old) (disk.moment new) was.kv.durable to
      pub done : OnOk result (Changed to entries rise)
      pub refused : IfErr result (IsStepRefused says rise (IsSlotTooShort sizes) (HasJoined was.log entries now.log))

    -- A call that serves frames. A log that was short at entry is at Ok, and so is a state machine. A full disk is
    -- told by the weight that it comes to at most, of a step that was begun so. The link may refuse it too, where its
    -- count of faults rose. The snapshot's files are left alone.
    pub record Serves {T : Type 0} (says : Says) (link_faulted : Type 0) (begun : Kv → Log → Step → Type 0) (most : ℕ) (result : Result T Error) : Type 0 where
      pub goes_on : GoesOn disk old new
      pub snapshot : DiskTells disk old → SparesFamily snapshot_family disk.content disk.moment disk.images old new
      pub same_most : now.most ≡ was.most
      pub ready : OnOk result now.ready
      pub rests : OnOk result (DiskTells disk old → now.rests (disk.content new))
      pub short : OnOk result (LogIsShort was → LogIsShort now)
      pub state_short : OnOk result (was.short → now.short)
      pub refused : IfErr result (IsServeRefusal (Faulted disk old new) link_faulted (disk.kind old).limit)
      pub full : IfErr result (IsFullBy (DiskTells disk old × says.told) (λ needed. IsStepTooShort begun was.most most needed (disk.content new).reading) (disk.kind old).limit most)
