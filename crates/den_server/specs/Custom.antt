-- What a run over stores of somebody's own promises, of them as they are handed in, and of the disk, the link and the clock that
-- it is lent.
use Rattle.std.specs.Prelude.{◌≡◌, ◌⊎◌, ◌+◌, ◌-◌, ℕ, Bool, true, List, Option, Some, None, Result, IsTrue, OnOk, IfErr, length}
use Rattle.den_disk.specs.declared.clock.Clock.{Ghosts as Clocks}
use Rattle.den_disk.specs.declared.disk.Disk.{Ghosts as Disks}
use Rattle.den_disk.specs.declared.link.Link.{Ghosts as Links}
use Rattle.den_disk.specs.Files.{Content}
use Rattle.den_disk.specs.Goes.{Rose, IsPrefix, added}
use Rattle.den_codec.specs.declared.config.RaftNodeConfig.{RaftNodeConfig}
use Rattle.den_codec.specs.declared.error.Error.{Error}
use Rattle.den_codec.specs.declared.error.Error.TheVariants.{OutOfMemory}
use Rattle.den_model.specs.declared.log_id.HardState.{HardState}
use Rattle.den_model.specs.Crash.{IsAnswered, IsServed, Survives, Tells, bytes_of}
use Rattle.den_model.specs.Entries.{LogEntry}
use Rattle.den_model.specs.Frames.{frames}
use Rattle.den_model.specs.Image.{durable, joined}
use Rattle.den_model.specs.Kv.{Durable, Kv}
use Rattle.den_model.specs.Log.{Log, above}
use Rattle.den_model.specs.MapState.{MapState}
use Rattle.den_model.specs.Plan.{output, plan_over}
use Rattle.den_model.specs.Sizes.{entries_size, store_rise}
use Rattle.den_model.specs.Step.{Step, is_leader}
use Rattle.den_journal.specs.Shown.{Held, Shown}
use Rattle.den_journal.specs.Writes.{DiskTells, Faulted}
use Rattle.den_store.specs.declared.stores.LogStore.{Ghosts as Logs}
use Rattle.den_store.specs.declared.stores.MetaStore.{Ghosts as Metas}
use Rattle.den_state.specs.declared.machine.StateMachine.{Ghosts as Machines}
use Rattle.den_state.specs.Machine.{AtRest}
use Rattle.den_core.specs.Cores.{CoreView, running_under}
use Rattle.den_core.specs.Full.{IsFullBy, IsReached, IsSlotTooShort, IsStepTooShort}
use Rattle.den_core.specs.Making.{GivesShortLog, Says}
use Rattle.den_core.specs.Opening.{opening_refusal}
use Rattle.den_core.specs.Parts.{AllRest}
use Rattle.den_core.specs.PayloadSizes.{opened_sizes}
use Rattle.den_core.specs.Refusals.{IsServeRefusal}
use Rattle.den_core.specs.Weights.{run_weight, trim_rise}

-- Log, hard state and map as they are handed in: what is seen of each, the applied map, the number of the log's file, whether
-- the state machine has a lease, and what the three say of files.
pub record Stores : Type 1 where
  pub log : Shown Log
  pub meta : Shown (Option HardState)
  pub state : Shown MapState
  pub map : MapState
  pub place : ℕ
  pub leased : Bool
  pub says : Says

-- what three stores say of files together
abbrev pub says_of : Held Log → Held (Option HardState) → Held MapState → Says
says_of a b c = record {
  told = a.told × b.told × c.told;
  holds = λ files. joined (a.of files) (b.of files) (c.of files);
  logs = λ files. a.of files;
}

-- a log, a hard state and a state machine, as they are handed in
abbrev pub handed : {D G T M : Type 0} → Logs G D → Metas T D → Machines M D → G → T → M → Stores
handed logs metas machines log meta state = record {
  log = logs.shown log;
  meta = metas.shown meta;
  state = machines.shown state;
  map = machines.map state;
  place = logs.place log;
  leased = (machines.settings state).leased;
  says = says_of logs.holds metas.holds machines.holds;
}

-- none of the three has failed
pub record AreReady (s : Stores) : Type 0 where
  pub log : s.log.ready
  pub meta : s.meta.ready
  pub state : s.state.ready

-- their files lie as their last calls left them, and the map's applied mark is stored
abbrev pub AreAtRest : Stores → Content → Type 0
AreAtRest s content = AllRest (s.log.rests content) (s.meta.rests content) (AtRest s.state s.map content)

-- they stand for this together
abbrev pub Keep : Stores → Durable → Type 0
Keep s kept = durable s.log.value s.meta.value s.map ≡ Some kept

-- what opening refuses of them
abbrev pub refusal_of : Stores → Option Error
refusal_of s = opening_refusal s.leased s.place s.log.value s.meta.value s.map

-- the entries that opening lets the map take on
abbrev pub behind : Stores → List LogEntry
behind s = above s.map.mark.index s.log.value.entries

-- what they weigh, with the entries that the map takes on, and a purge of the log
abbrev pub brought_weight : Stores → ℕ
brought_weight s = s.log.weight + s.meta.weight + s.state.weight + store_rise (entries_size (behind s)) + trim_rise

-- a refusal of opening is answered, but for want of memory
pub record IsAnsweredSo {T : Type 0} (refusal : Error) (result : Result T Error) : Type 0 where
  pub never : OnOk result ⊥
  pub named : IfErr result (λ e. (e ≡ refusal) ⊎ (e ≡ OutOfMemory))

-- Why such a run ends early: what opening refuses; want of memory; or, where opening refuses nothing, a refusal of the disk or
-- the link, and where the disk is full this is said of it.
abbrev pub IsCustomRefusal : (disk_rose link_rose : Type 0) (most : ℕ) (refusal : Option Error) (full : Type 0) → Error → Type 0
IsCustomRefusal disk_rose link_rose most refusal full e = (refusal ≡ Some e) ⊎ (e ≡ OutOfMemory) ⊎ ((refusal ≡ None) × IsServeRefusal disk_rose link_rose most e × full)

module _ {D L C : Type 0} (disk : Disks D) (link : Links L) (clock : Clocks C) where
  module _ (s : Stores) (core : CoreView) (c : RaftNodeConfig) (old new : D) (from to : L) (before after : C) where
    -- what the run begins with
    abbrev pub begin : Durable → Kv
    begin kept = record { durable = kept; running = running_under c core s.leased }

    abbrev pub read_times : List ℕ
    read_times = added (clock.readings before) (clock.readings after)

    abbrev pub sent_then : List (ℕ × ℕ)
    sent_then = added (link.sent from) (link.sent to)

    -- the steps of the plan, over the input that was left at entry
    abbrev pub steps_over : Durable → List Step
    steps_over kept = plan_over (begin kept) c.network.max_frame_size (link.left from) read_times

    -- disk and link tell their bytes, and the clock still tells
    abbrev pub AllTell : Type 0
    AllTell = Tells (disk.kind old).tells (link.tells from) (clock.tells after)

    -- The input was read to its end, one reading was taken at opening and one for each frame, and exactly the plan's output was
    -- sent. Where the stores tell what their files give, each image of the disk stands for the plan's end, with the plan's
    -- entries in the log.
    abbrev pub ServesPlan : Type 0
    ServesPlan = (kept : Durable) → AllTell → Keep s kept
        → IsAnswered (link.left to) (length read_times) (length (frames c.network.max_frame_size (link.left from))) sent_then (begin kept) (steps_over kept)
        × (s.says.told → IsServed s.says.holds s.says.logs (disk.images new) (disk.moment new) (link.left to) (length read_times) (length (frames c.network.max_frame_size (link.left from)))
        sent_then (begin kept) s.log.value (steps_over kept))

    -- what was sent is a front of the plan's output
    abbrev pub SendsFront : Type 0
    SendsFront = (kept : Durable) → IsTrue (link.tells from) → IsTrue (clock.tells after) → Keep s kept → IsPrefix (bytes_of sent_then) (output (begin kept) (steps_over kept))

    -- after a crash at any moment the disk stands for the state after a prefix of the plan that holds each step of which a byte
    -- was sent
    abbrev pub SurvivesAlways : Type 0
    SurvivesAlways = (kept : Durable) → AllTell → s.says.told → Keep s kept
        → Survives s.says.holds (disk.images new) (disk.moment old) (disk.moment new) sent_then (begin kept) (steps_over kept)

    -- whatever the core's role, each image of the disk gives a log of no more entries than the configuration allows
    abbrev pub LeavesShortLog : Type 0
    LeavesShortLog = DiskTells disk old → s.says.told → GivesShortLog s.says.logs (disk.images new) (disk.moment new) c.raft.max_log_entries

    -- where the core leads, the state machine at the end asks for no checkpoint, with its files as its last call left them
    abbrev pub LeavesShortState : {M : Type 0} (shown : M → Shown MapState) (map : M → MapState) (short : M → Type 0) → Type 0
    LeavesShortState {M} shown map short = is_leader core.role ≡ true → (last : M) × short last × (shown last).ready × (DiskTells disk old → AtRest (shown last) (map last) (disk.content new))

    -- what the run comes to at most
    abbrev pub heaviest : ℕ
    heaviest = run_weight (brought_weight s) (link.taken to - link.taken from)

    -- The room that one slot would need, in the files as they read at the end. Either for a payload of the entries
    -- that opening lets the map take on, or, where the core does not lead and the log is too long, of the log that it
    -- purges; or for one that a step writes, which is the next of the plan: those before it were made, with their
    -- entries in the log, and just what they say was sent.
    abbrev pub IsOneTooShort : (needed : ℕ) → Type 0
    IsOneTooShort needed = IsSlotTooShort (opened_sizes core.role c.raft.max_log_entries s.log.value s.map (behind s)) heaviest needed (disk.content new).reading
        ⊎ IsStepTooShort (λ kv log next. (kept : Durable) → AllTell → Keep s kept → IsReached (begin kept) s.log.value (steps_over kept) (bytes_of sent_then) kv log next)
        c.raft.max_log_entries heaviest needed (disk.content new).reading

    -- An answer other than Ok has its cause: what opening refuses, and nothing else where it refuses; else a fault of disk or
    -- link where its count rose, or a file that would pass the disk's limit, only where four times what the run comes to is
    -- above it.
    abbrev pub HasCause : Error → Type 0
    HasCause e = IsCustomRefusal (Faulted disk old new) (Rose (link.faults from) (link.faults to)) (disk.kind old).limit (refusal_of s)
        (IsFullBy (DiskTells disk old × s.says.told) IsOneTooShort (disk.kind old).limit heaviest e) e

    -- What opening refuses is refused: nothing is written, read, sent or timed.
    abbrev pub RefusesUntouched : (answered : Error → Type 0) → Type 0
    RefusesUntouched answered = (e : Error) → refusal_of s ≡ Some e → answered e × (new ≡ old) × (to ≡ from) × (after ≡ before)
