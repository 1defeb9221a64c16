-- What a run promises, of the disk, the link and the clock that it is lent, as they are at entry and at its end.
use Rattle.std.specs.Prelude.{◌≡◌, ◌⊎◌, ◌<◌, ◌+◌, ◌-◌, ℕ, List, Option, Some, None, Result, Ok, Err, IsTrue, IsOk, OnOk, IfErr, length}
use Rattle.den_disk.specs.declared.clock.Clock.{Ghosts as Clocks}
use Rattle.den_disk.specs.declared.disk.Disk.{Ghosts as Disks}
use Rattle.den_disk.specs.declared.link.Link.{Ghosts as Links}
use Rattle.den_disk.specs.declared.place.Family.TheVariants.{Snapshot, State}
use Rattle.den_disk.specs.Families.{NoNewImages}
use Rattle.den_disk.specs.Files.{Files}
use Rattle.den_disk.specs.Goes.{Rose, IsPrefix, DiskGoesOn, LinkGoesOn, ClockGoesOn, added}
use Rattle.den_codec.specs.declared.config.RaftNodeConfig.{RaftNodeConfig}
use Rattle.den_codec.specs.declared.error.Error.{Error}
use Rattle.den_codec.specs.declared.error.Error.TheVariants.{OutOfMemory}
use Rattle.den_codec.specs.Standard.{running_of}
use Rattle.den_model.specs.Crash.{IsServed, Stands, Survives, bytes_of}
use Rattle.den_model.specs.Crash.{Tells}
use Rattle.den_model.specs.Frames.{frames}
use Rattle.den_model.specs.Image.{durable_in, in_regions, log_in, ok}
use Rattle.den_model.specs.Kv.{Durable, Kv, Running}
use Rattle.den_model.specs.Log.{Log}
use Rattle.den_model.specs.Plan.{output, plan_over}
use Rattle.den_model.specs.Sizes.{files_size}
use Rattle.den_model.specs.Step.{Step}
use Rattle.den_journal.specs.Writes.{Faulted, DiskTells}
use Rattle.den_state.specs.Stored.{Stored, nothing_stored, stored_from}
use Rattle.den_core.specs.Full.{IsReached, IsStepTooShort}
use Rattle.den_core.specs.Making.{GivesShortLog}
use Rattle.den_core.specs.Spared.{SparesFamily}
use Rattle.den_server.specs.Causes.{IsCatchUpTooShort, IsMuch, IsRunRefusal, IsTurnedAway}
use Rattle.den_server.specs.Opening.{IsUnwritten, SurvivesOpening, refusal_in}

-- What a configuration makes of a run: the run's part of what it begins with, the longest body of a frame, and how many
-- entries the log may hold behind a step.
pub record RunConfig : Type 0 where
  pub running : Running
  pub frame_limit : ℕ
  pub max_log_entries : ℕ

abbrev pub run_config : RaftNodeConfig → RunConfig
run_config c = record { running = running_of c; frame_limit = c.network.max_frame_size; max_log_entries = c.raft.max_log_entries }

-- why files are refused under a configuration
abbrev pub refused_for : RunConfig → Files → Option Error
refused_for config files = refusal_in config.running.setting.lease files

-- what a run begins with, over files that stand for a durable part
abbrev pub start : RunConfig → Durable → Kv
start config kept = record { durable = kept; running = config.running }

module _ {D L C : Type 0} (disk : Disks D) (link : Links L) (clock : Clocks C) where
  -- ---- what is sent, and what the files stand for

  module _ (config : RunConfig) (old new : D) (from to : L) (before after : C) where
    -- disk and link tell their bytes, and the clock still tells
    abbrev pub Told : Type 0
    Told = Tells (disk.kind old).tells (link.tells from) (clock.tells after)

    -- what is read at entry stands for this
    abbrev pub Reads : Durable → Type 0
    Reads kept = durable_in (disk.content old).reading ≡ Some kept

    abbrev pub readings : List ℕ
    readings = added (clock.readings before) (clock.readings after)

    abbrev pub sent : List (ℕ × ℕ)
    sent = added (link.sent from) (link.sent to)

    -- the steps of the plan, over the input that was left at entry
    abbrev pub planned : Durable → List Step
    planned kept = plan_over (start config kept) config.frame_limit (link.left from) readings

    -- The input was read to its end, one reading was taken at opening and one for each frame, exactly the plan's output
    -- was sent, and each image of the disk stands for the plan's end, with the plan's entries in the log.
    abbrev pub Served : Type 0
    Served = (kept : Durable) (log : Log) → Told → Reads kept → log_in (disk.content old).reading ≡ Ok log
        → IsServed durable_in (λ files. ok (log_in files)) (disk.images new) (disk.moment new) (link.left to) (length readings) (length (frames config.frame_limit (link.left from)))
        sent (start config kept) log (planned kept)

    -- each image of the disk gives a log of no more entries than the configuration allows
    abbrev pub KeepsLogShort : Type 0
    KeepsLogShort = DiskTells disk old → GivesShortLog (λ files. ok (log_in files)) (disk.images new) (disk.moment new) config.max_log_entries

    -- each image of the disk gives a journal of the map in which fewer than 1,000 records follow the last Begin region
    abbrev pub KeepsTailShort : Type 0
    KeepsTailShort = DiskTells disk old → (files : Files) → disk.images new (disk.moment new) files
        → (stored : Stored) × (ok (in_regions State (stored_from nothing_stored) files) ≡ Some stored) × (stored.tail < 1000)

    -- what was sent is a front of the plan's output
    abbrev pub SendsPrefix : Type 0
    SendsPrefix = (kept : Durable) → Told → Reads kept → IsPrefix (bytes_of sent) (output (start config kept) (planned kept))

    -- Where each image at entry stands for one durable part: after a crash at any moment, inside a call too, the disk
    -- stands for the state after a prefix of the plan that holds each step of which a byte was sent.
    abbrev pub SurvivesCrash : Type 0
    SurvivesCrash = (kept : Durable) → Told → Stands durable_in (disk.images old) (disk.moment old) kept
        → Survives durable_in (disk.images new) (disk.moment old) (disk.moment new) sent (start config kept) (planned kept)

    -- Where writes are pending at entry: until the first sync that succeeds a crash leaves what it could leave at entry,
    -- and nothing is sent; from then on the same holds of what was read at entry. A run that ended well had one succeed.
    abbrev pub SurvivesPending : (ended_well : Type 0) → Type 0
    SurvivesPending ended_well = (kept : Durable) → Told → Reads kept
        → SurvivesOpening durable_in (disk.images old) (disk.images new) (disk.moment old) (disk.moment new) ended_well (disk.content new ≡ disk.content old)
        sent (start config kept) (planned kept)

  -- ---- what goes on

  -- Disk, link and clock go on as they do over any call; the files of the snapshot stay as they are, and a crash leaves
  -- them as it could at entry.
  pub record AllGoOn (old new : D) (from to : L) (before after : C) : Type 0 where
    pub disk_goes_on : DiskGoesOn disk.kind disk.moment disk.images disk.faults old new
    pub link_goes_on : LinkGoesOn link.tells link.sent link.budget link.taken link.faults from to
    pub clock_goes_on : ClockGoesOn clock.tells clock.readings before after
    pub snapshot : DiskTells disk old → SparesFamily Snapshot disk.content disk.moment disk.images old new

  -- ---- why it ends early

  module _ (config : RunConfig) (old new : D) (from to : L) (before after : C) where
    -- The room that one slot would need, in the files as they read at the end. Either for a payload of the entries
    -- that opening lets the map take on; or for one that a step writes, which is the next of the plan: those before
    -- it were made, with their entries in the log, and just what they say was sent.
    abbrev pub IsRunTooShort : (most needed : ℕ) → Type 0
    IsRunTooShort most needed = IsCatchUpTooShort (disk.content old).reading most needed (disk.content new).reading
        ⊎ IsStepTooShort (λ kv log next. (kept : Durable) (held : Log) → Told config old new from to before after → Reads config old new from to before after kept → log_in (disk.content old).reading ≡ Ok held
        → IsReached (start config kept) held (planned config old new from to before after kept) (bytes_of (sent config old new from to before after)) kv log next)
        config.max_log_entries most needed (disk.content new).reading

    -- An answer other than Ok has its cause: files are refused for what they are refused for, and for nothing else;
    -- the disk is told to be full only with a room that is above its limit and that one of its slots would need at
    -- the end for a payload that was to be written then, and only where the bytes of its regions at entry and those
    -- taken from the link are much.
    abbrev pub EndsEarly : Error → Type 0
    EndsEarly e = IsRunRefusal (Faulted disk old new) (Rose (link.faults from) (link.faults to)) (DiskTells disk old) (refused_for config (disk.content old).reading)
        IsRunTooShort (disk.kind old).limit (files_size (disk.content old).reading) (link.taken to - link.taken from) e

-- Files that are to be refused are: nothing is written, read, sent or timed.
abbrev pub TurnsAway : {D L C : Type 0} (disk : Disks D) (config : RunConfig) (refused : Error → Type 0) (old new : D) (from to : L) (before after : C) → Type 0
TurnsAway disk config refused old new from to before after = (e : Error) → DiskTells disk old → refused_for config (disk.content old).reading ≡ Some e
    → refused e × IsUnwritten (disk.content old) (disk.content new) (NoNewImages (disk.images old) (disk.images new) (disk.moment old) (disk.moment new))
    × (to ≡ from) × (after ≡ before)

module _ {D L : Type 0} (disk : Disks D) (link : Links L) (config : RunConfig) (old new : D) (from to : L) where
  -- Files that are not refused and an input, neither of them much, are served, but for faults and want of memory.
  abbrev pub Completes : (served memory : Type 0) → Type 0
  Completes served memory = DiskTells disk old → IsTrue (link.tells from) → refused_for config (disk.content old).reading ≡ None
      → (Faulted disk old new → ⊥) → (Rose (link.faults from) (link.faults to) → ⊥)
      → (IsMuch (disk.kind old).limit (files_size (disk.content old).reading + length (link.left from)) → ⊥) → served ⊎ memory

module _ {D L C : Type 0} (disk : Disks D) (link : Links L) (clock : Clocks C) where
  -- All that is promised of a run, of what it was lent, as it was at entry and is at its end, and of its answer.
  pub record Runs (config : RunConfig) (old new : D) (from to : L) (before after : C) (answer : Result (Unit {0}) Error) : Type 0 where
    -- At Ok the input was read to its end, one reading was taken at opening and one for each frame, exactly the plan's
    -- output was sent, and each image of the disk stands for the plan's end, with the plan's entries in the log.
    pub served : OnOk answer (Served disk link clock config old new from to before after)
    -- At Ok the log that the files give holds no more entries than the configuration allows.
    pub short : OnOk answer (KeepsLogShort disk link clock config old new from to before after)
    -- At Ok fewer than 1,000 records follow the last Begin region of the map's journal.
    pub state_short : OnOk answer (KeepsTailShort disk link clock config old new from to before after)
    -- At every exit what was sent is a front of the plan's output.
    pub prefix : SendsPrefix disk link clock config old new from to before after
    -- Where each image at entry stands for one durable part: at every exit, and after a crash at any moment, inside a
    -- call too, the disk stands for the state after a prefix of the plan that holds each step of which a byte was sent.
    pub any_moment : SurvivesCrash disk link clock config old new from to before after
    -- Where writes are pending at entry: until the first sync that succeeds a crash leaves what it could leave at entry,
    -- and nothing is sent; from then on the same holds of what was read at entry.
    pub opening : SurvivesPending disk link clock config old new from to before after (IsOk answer)
    -- Each other answer has its cause: files are refused for what they are refused for, and for nothing else; the disk
    -- is told to be full only with a room, in whole chunks, that is above its limit and that one of its slots would need
    -- for a payload that was to be written then: of the plan's next step, or of the entries that the map lacked at
    -- opening; and only where the bytes of its regions at entry and those taken from the link are much.
    pub refused : IfErr answer (EndsEarly disk link clock config old new from to before after)
    -- Files that are to be refused are: nothing is written, read, sent or timed.
    pub turned_away : TurnsAway disk config (λ e. IsTurnedAway e answer) old new from to before after
    -- Files that are not refused and an input, neither of them much, are served, but for faults and want of memory.
    pub complete : Completes disk link config old new from to (answer ≡ Ok tt) (answer ≡ Err OutOfMemory)
