-- Why reading, sending and serving end early, and what a refused step leaves.
use Rattle.std.specs.Prelude.{◌≡◌, ◌⊎◌, ◌≤◌, ℕ, true, List, [], ◌∷◌, length}
use Rattle.den_model.specs.Entries.{LogEntry}
use Rattle.den_model.specs.Grown.{appended}
use Rattle.den_lease.specs.Due.{has_due}
use Rattle.den_model.specs.Kv.{Kv}
use Rattle.den_model.specs.Log.{Log}
use Rattle.den_model.specs.Step.{Step, Raise, Noop, Cleanup, Ask}
use Rattle.den_codec.specs.declared.error.Error.{Error}
use Rattle.den_codec.specs.declared.error.Error.TheVariants.{OutOfMemory, StorageIoError, DiskFull, LinkFault, DataCorruption, FeatureNotEnabled, ProposeFailed, UnorderedChunk, Config, ConfigFault, StateMachineError}
use Rattle.den_journal.specs.Causes.{IsRefusal}

-- of a call that is lent a link: want of memory, or a fault of the link where its count rose
abbrev pub IsLinkRefusal : Type 0 → Error → Type 0
IsLinkRefusal rose OutOfMemory = Unit {0}
IsLinkRefusal rose LinkFault = rose
IsLinkRefusal rose StorageIoError = ⊥
IsLinkRefusal rose (DiskFull needed limit) = ⊥
IsLinkRefusal rose (DataCorruption place offset) = ⊥
IsLinkRefusal rose FeatureNotEnabled = ⊥
IsLinkRefusal rose ProposeFailed = ⊥
IsLinkRefusal rose (UnorderedChunk index) = ⊥
IsLinkRefusal rose (Config place) = ⊥
IsLinkRefusal rose ConfigFault = ⊥
IsLinkRefusal rose StateMachineError = ⊥

-- of a call that is lent a disk and a link: a refusal of the disk, or a fault of the link where its count rose
abbrev pub IsServeRefusal : Type 0 → Type 0 → ℕ → Error → Type 0
IsServeRefusal disk_rose link_rose most LinkFault = link_rose
IsServeRefusal disk_rose link_rose most OutOfMemory = Unit {0}
IsServeRefusal disk_rose link_rose most StorageIoError = disk_rose
IsServeRefusal disk_rose link_rose most (DiskFull needed limit) = IsRefusal disk_rose most (DiskFull needed limit)
IsServeRefusal disk_rose link_rose most (DataCorruption place offset) = ⊥
IsServeRefusal disk_rose link_rose most FeatureNotEnabled = ⊥
IsServeRefusal disk_rose link_rose most ProposeFailed = ⊥
IsServeRefusal disk_rose link_rose most (UnorderedChunk index) = ⊥
IsServeRefusal disk_rose link_rose most (Config place) = ⊥
IsServeRefusal disk_rose link_rose most ConfigFault = ⊥
IsServeRefusal disk_rose link_rose most StateMachineError = ⊥

-- these entries joined the log, and they are some
pub record HasJoined (old : Log) (entries : List LogEntry) (new : Log) : Type 0 where
  pub some : 1 ≤ length entries
  pub joined : new ≡ appended old entries

-- these steps begin with a cleanup, which takes keys away
abbrev pub HasCleaned : Kv → List Step → Type 0
HasCleaned kv [] = ⊥
HasCleaned kv (Cleanup moment ∷ steps) = has_due moment kv.durable.expiries ≡ true
HasCleaned kv (Raise ∷ steps) = ⊥
HasCleaned kv (Noop moment ∷ steps) = ⊥
HasCleaned kv (Ask frame moment ∷ steps) = ⊥

-- What a refusal of a step leaves. Want of memory leaves all as it was, or, only where a part of the step was written, a
-- stepper that has failed; any other refusal leaves one that has failed.
abbrev pub FailsOrStays : (failed untouched written : Type 0) → Error → Type 0
FailsOrStays failed untouched written OutOfMemory = untouched ⊎ (failed × written)
FailsOrStays failed untouched written StorageIoError = failed
FailsOrStays failed untouched written (DiskFull needed limit) = failed
FailsOrStays failed untouched written LinkFault = failed
FailsOrStays failed untouched written (DataCorruption place offset) = failed
FailsOrStays failed untouched written FeatureNotEnabled = failed
FailsOrStays failed untouched written ProposeFailed = failed
FailsOrStays failed untouched written (UnorderedChunk index) = failed
FailsOrStays failed untouched written (Config place) = failed
FailsOrStays failed untouched written ConfigFault = failed
FailsOrStays failed untouched written StateMachineError = failed
