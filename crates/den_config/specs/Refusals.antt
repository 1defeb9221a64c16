-- Outcomes: a value, or the key whose test fails.
use Rattle.std.specs.Prelude.{◌≡◌, Result, Ok, Err}
use Rattle.den_codec.specs.declared.config_place.ConfigPlace.{ConfigPlace}
use Rattle.den_codec.specs.declared.error.Error.{Error}
use Rattle.den_codec.specs.declared.error.Error.TheVariants.{OutOfMemory, StorageIoError, DiskFull, LinkFault, DataCorruption, FeatureNotEnabled, ProposeFailed, UnorderedChunk, Config, ConfigFault, StateMachineError}

-- the outcome of a step on the value of the one before, or that one's key
abbrev pub and_then : {A B : Type 0} → Result A ConfigPlace → (A → Result B ConfigPlace) → Result B ConfigPlace
and_then (Ok a) step = step a
and_then (Err key) step = Err key

-- a refusal where this is the outcome: the key that it has, or want of memory, which says nothing of it
abbrev pub IsRefusal : {A : Type 0} → Result A ConfigPlace → Error → Type 0
IsRefusal outcome OutOfMemory = Unit {0}
IsRefusal outcome (Config key) = outcome ≡ Err key
IsRefusal outcome StorageIoError = ⊥
IsRefusal outcome (DiskFull needed limit) = ⊥
IsRefusal outcome LinkFault = ⊥
IsRefusal outcome (DataCorruption place offset) = ⊥
IsRefusal outcome FeatureNotEnabled = ⊥
IsRefusal outcome ProposeFailed = ⊥
IsRefusal outcome (UnorderedChunk index) = ⊥
IsRefusal outcome ConfigFault = ⊥
IsRefusal outcome StateMachineError = ⊥
