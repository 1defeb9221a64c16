-- What an engine begins with, and what opening it leaves.
use Rattle.std.specs.Prelude.{◌≡◌, ◌⊎◌, ◌≤◌, ℕ, ◌+◌, List, [], length, true, Option, Some}
use Rattle.den_disk.specs.declared.disk.Disk.{Ghosts}
use Rattle.den_disk.specs.Files.{Files}
use Rattle.den_journal.specs.Writes.{DiskTells}
use Rattle.den_model.specs.declared.log_id.HardState.{HardState}
use Rattle.den_model.specs.Grown.{IsLogAfter}
use Rattle.den_model.specs.Image.{durable}
use Rattle.den_model.specs.Kv.{Durable, Kv, Running}
use Rattle.den_model.specs.Log.{Log, above}
use Rattle.den_model.specs.MapState.{MapState}
use Rattle.den_model.specs.Plan.{after, plan}
use Rattle.den_model.specs.Sizes.{entries_size, store_rise}
use Rattle.den_model.specs.Step.{Step, leads}
use Rattle.den_watch.specs.Registry.{nobody}
use Rattle.den_core.specs.Full.{IsBegun, IsSlotTooShort, IsStepTooShort}
use Rattle.den_core.specs.Making.{LogIsShort, Seen}
use Rattle.den_core.specs.PayloadSizes.{opened_sizes}
use Rattle.den_core.specs.Weights.{opening_rise, trim_rise}

-- the state at the start
abbrev pub start : Durable → Running → Kv
start kept running = record { durable = kept; running = running }

-- the steps of an opening: those of a plan over no frame, with one reading or none
abbrev pub beginning : Durable → Running → List ℕ → List Step
beginning kept running readings = plan (start kept running) [] readings

-- what three stores of this weight come to: the entries above the mark are applied, the log may be purged, and the
-- opening's steps are made
abbrev pub begun_weight : (weight : ℕ) → Log → MapState → ℕ
begun_weight weight l s = weight + store_rise (entries_size (above s.mark.index l.entries)) + trim_rise + opening_rise

-- A slot has too little room for a chunk of the entries above the mark, or for the purge of a log that is too long
-- under a core that does not lead, or for what one of the opening's steps writes.
abbrev pub IsOpeningTooShort : (clock_told : Type 0) → Log → Option HardState → MapState → Running → (readings : List ℕ) → (entries most needed : ℕ) → Files → Type 0
IsOpeningTooShort clock_told l h s running readings entries most needed files =
    IsSlotTooShort (opened_sizes running.setting.role entries l s (above s.mark.index l.entries)) most needed files
    ⊎ IsStepTooShort (λ kv log next. clock_told → (kept : Durable) → durable l h s ≡ Some kept → IsBegun (start kept running) l (beginning kept running readings) kv log next) entries most needed files

module _ {D : Type 0} (disk : Ghosts D) where
  -- An engine that was opened over these stores: its run's part is this one but for the last cleanup, whatever the clock
  -- tells, and nobody watches; it made the opening's steps from what the stores stood for, at one reading of
  -- the clock. Its log is short, and where it leads so is its state machine.
  pub record IsOpened (clock_told : Type 0) (l : Log) (h : Option HardState) (s : MapState) (running : Running) (readings : List ℕ) (entries heaviest : ℕ) (now : Seen) (old new : D) : Type 0 where
    pub kept : Durable
    pub is_kept : durable l h s ≡ Some kept
    pub one_reading : clock_told → length readings ≡ 1
    pub state : clock_told → now.kv ≡ after (start kept running) (beginning kept running readings)
    pub logged : clock_told → IsLogAfter l (start kept running) (beginning kept running readings) now.log
    pub run_is : (let x : Running = record now.kv.running { cleaned = running.cleaned } in x) ≡ running
    pub waits : now.waits ≡ nobody running.setting.buffer running.setting.maximum
    pub same_most : now.most ≡ entries
    pub weight : now.weight ≤ heaviest
    pub short : LogIsShort now
    pub state_short : leads (start kept running) ≡ true → now.short
    pub ready : now.ready
    pub rests : DiskTells disk old → now.rests (disk.content new)
