-- What starting a node leaves of the disk that it was handed, and why it is refused.
use Rattle.std.specs.Prelude.{◌≡◌, ◌+◌, ℕ, [], List, Option, Some, None, IsTrue}
use Rattle.den_disk.specs.declared.clock.Clock.{Ghosts as Clocks}
use Rattle.den_disk.specs.declared.disk.Disk.{Ghosts as Disks}
use Rattle.den_disk.specs.declared.place.Family.TheVariants.{Snapshot as snapshot_family}
use Rattle.den_disk.specs.Goes.{Rose, added, ClockGoesOn, DiskGoesOn}
use Rattle.den_codec.specs.declared.config.RaftNodeConfig.{RaftNodeConfig}
use Rattle.den_codec.specs.declared.error.Error.{Error}
use Rattle.den_model.specs.Crash.{Survives}
use Rattle.den_model.specs.Kv.{Durable, Running}
use Rattle.den_core.specs.Beginning.{begun_weight, beginning, start, IsOpened, IsOpeningTooShort}
use Rattle.den_core.specs.Cores.{CoreView, running_under}
use Rattle.den_core.specs.Full.{IsFullBy}
use Rattle.den_core.specs.Making.{Seen}
use Rattle.den_core.specs.Opening.{IsOpeningFailure}
use Rattle.den_core.specs.Spared.{SparesFamily}
use Rattle.den_server.specs.Custom.{Stores, Keep, refusal_of}

-- this of both parts, where both are set
abbrev pub OfParts : {E M : Type 0} → Option E → Option M → (E → M → Type 0) → Type 0
OfParts (Some storage) (Some machine) holds = holds storage machine
OfParts (Some storage) None holds = Unit {0}
OfParts None machine holds = Unit {0}

-- the run's part as the run begins
abbrev pub run_of : Stores → CoreView → RaftNodeConfig → Running
run_of s core c = running_under c core s.leased

-- what the stores come to behind the opening
abbrev pub opened_weight : Stores → ℕ
opened_weight s = begun_weight (s.log.weight + s.meta.weight + s.state.weight) s.log.value s.map

module _ {D C : Type 0} (disk : Disks D) (clock : Clocks C) (s : Stores) (core : CoreView) (c : RaftNodeConfig) (old new : D) (before after : C) where
  abbrev pub read_at : List ℕ
  read_at = added (clock.readings before) (clock.readings after)

  -- At every exit: disk and clock go on as over any call, and the files of the snapshot are spared. A crash inside leaves what
  -- the stores stood for, or what some of the opening's steps make of it. What opening refuses leaves both as they were.
  pub record Begun : Type 0 where
    pub goes_on : DiskGoesOn disk.kind disk.moment disk.images disk.faults old new
    pub snapshot : IsTrue (disk.kind old).tells → SparesFamily snapshot_family disk.content disk.moment disk.images old new
    pub clock_on : ClockGoesOn clock.tells clock.readings before after
    pub survives : (kept : Durable) → IsTrue (disk.kind old).tells → IsTrue (clock.tells after) → s.says.told → Keep s kept
        → Survives s.says.holds (disk.images new) (disk.moment old) (disk.moment new) [] (start kept (run_of s core c)) (beginning kept (run_of s core c) read_at)
    pub untouched : (e : Error) → refusal_of s ≡ Some e → (new ≡ old) × (after ≡ before)

  -- the engine was opened over the stores, at one reading of the clock
  abbrev pub Opens : Seen → Type 0
  Opens now = IsOpened disk (IsTrue (clock.tells after)) s.log.value s.meta.value s.map (run_of s core c) read_at c.raft.max_log_entries (opened_weight s) now old new

  -- What opening refuses; want of memory; or, where opening refuses nothing, a refusal of the disk, and where that is full a
  -- slot has too little room for what opening writes.
  pub record FailsToOpen (e : Error) : Type 0 where
    pub cause : IsOpeningFailure (Rose (disk.faults old) (disk.faults new)) (disk.kind old).limit (refusal_of s) e
    pub full : IsFullBy (IsTrue (disk.kind old).tells × s.says.told)
        (λ needed. IsOpeningTooShort (IsTrue (clock.tells after)) s.log.value s.meta.value s.map (run_of s core c) read_at c.raft.max_log_entries (opened_weight s) needed (disk.content new).reading)
        (disk.kind old).limit (opened_weight s) e
