-- When a disk may be told to be full by what an engine was handed, and what room is named then.
use Rattle.std.specs.Prelude.{◌≡◌, ◌⊎◌, ◌<◌, ◌≤◌, ◌*◌, ◌++◌, ℕ, List, [], ◌∷◌}
use Rattle.den_disk.specs.declared.place.Family.{Family}
use Rattle.den_disk.specs.Files.{Files}
use Rattle.den_gate.specs.Draft.{other_slot}
use Rattle.den_codec.specs.declared.error.Error.{Error}
use Rattle.den_codec.specs.declared.error.Error.TheVariants.{OutOfMemory, StorageIoError, DiskFull, LinkFault, DataCorruption, FeatureNotEnabled, ProposeFailed, UnorderedChunk, Config, ConfigFault, StateMachineError}
use Rattle.den_model.specs.Grown.{IsLogAfter}
use Rattle.den_model.specs.Image.{slot_of}
use Rattle.den_model.specs.Kv.{Kv}
use Rattle.den_model.specs.Log.{Log}
use Rattle.den_model.specs.Plan.{after, output}
use Rattle.den_model.specs.Step.{Step}
use Rattle.den_journal.specs.Causes.{IsRoomOf, IsTooShort}
use Rattle.den_core.specs.PayloadSizes.{PayloadSizes, step_sizes}

-- A family's slot in use has too little room for one of the payloads that are added to it, or its other slot for one
-- of those that are put there, of no more than so many bytes, behind the slot's regions: the room that it would need.
pub record IsSlotTooShort (sizes : PayloadSizes) (most needed : ℕ) (files : Files) : Type 0 where
  pub family : Family
  pub short : IsTooShort (slot_of family files) (λ n. sizes.adds family n × (n ≤ most)) needed files
      ⊎ IsTooShort (other_slot (slot_of family files)) (λ n. sizes.drafts family n × (n ≤ most)) needed files

-- Only where four times this weight, of what was handed in so far, is above the limit of a file. The room that is
-- named is that of regions of no more bytes, with the gate behind them, in whole chunks; and, where it is told what
-- files hold, this is said of it.
abbrev pub IsFullBy : (told : Type 0) (short : ℕ → Type 0) (most weight : ℕ) → Error → Type 0
IsFullBy told short most weight (DiskFull needed limit) = (most < 4 * weight) × IsRoomOf weight needed × (told → short needed)
IsFullBy told short most weight OutOfMemory = Unit {0}
IsFullBy told short most weight StorageIoError = Unit {0}
IsFullBy told short most weight LinkFault = Unit {0}
IsFullBy told short most weight (DataCorruption place offset) = Unit {0}
IsFullBy told short most weight FeatureNotEnabled = Unit {0}
IsFullBy told short most weight ProposeFailed = Unit {0}
IsFullBy told short most weight (UnorderedChunk index) = Unit {0}
IsFullBy told short most weight (Config place) = Unit {0}
IsFullBy told short most weight ConfigFault = Unit {0}
IsFullBy told short most weight StateMachineError = Unit {0}

-- ---- of a step

-- One of some steps, and the state and the log over which it was begun: the steps before it were made from a first
-- state, and this is said of them and of the log.
pub record IsNext (left : List Step → Log → Type 0) (first : Kv) (steps : List Step) (kv : Kv) (log : Log) (next : Step) : Type 0 where
  pub made : List Step
  pub rest : List Step
  pub parts : made ++ next ∷ rest ≡ steps
  pub state : kv ≡ after first made
  pub left_is : left made log

-- one of a call's steps: the log is one after those before it, and they say nothing
abbrev pub IsBegun : Kv → Log → List Step → Kv → Log → Step → Type 0
IsBegun first old steps = IsNext (λ made l. IsLogAfter old first made l × (output first made ≡ [])) first steps

-- one of a run's steps: the log is one after those before it, and just what they say was sent
abbrev pub IsReached : Kv → Log → List Step → (sent : List ℕ) → Kv → Log → Step → Type 0
IsReached first old steps sent = IsNext (λ made l. IsLogAfter old first made l × (sent ≡ output first made)) first steps

-- A step that was begun so was refused: a slot has too little room for a payload that this step writes. The log may
-- hold so many entries behind a step.
pub record IsStepTooShort (begun : Kv → Log → Step → Type 0) (entries most needed : ℕ) (files : Files) : Type 0 where
  pub kv : Kv
  pub log : Log
  pub next : Step
  pub is_begun : begun kv log next
  pub short : IsSlotTooShort (step_sizes entries log kv next) most needed files
