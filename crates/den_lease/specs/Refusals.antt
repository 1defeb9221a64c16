-- Why a lease is not reloaded.
use Rattle.std.specs.Prelude.{◌≡◌, ℕ, Option, None}
use Rattle.den_codec.specs.declared.error.Error.{Error}
use Rattle.den_codec.specs.declared.error.Error.TheVariants.{OutOfMemory, StorageIoError, DiskFull, LinkFault, DataCorruption, FeatureNotEnabled, ProposeFailed, UnorderedChunk, Config, ConfigFault, StateMachineError}
use Rattle.den_model.specs.Table.{Table}

-- want of memory, or bytes that are the word of no table
abbrev pub IsReloadRefusal : Option (Table ℕ) → Error → Type 0
IsReloadRefusal read OutOfMemory = Unit {0}
IsReloadRefusal read ConfigFault = read ≡ None
IsReloadRefusal read StateMachineError = read ≡ None
IsReloadRefusal read StorageIoError = ⊥
IsReloadRefusal read (DiskFull needed limit) = ⊥
IsReloadRefusal read LinkFault = ⊥
IsReloadRefusal read (DataCorruption place offset) = ⊥
IsReloadRefusal read FeatureNotEnabled = ⊥
IsReloadRefusal read ProposeFailed = ⊥
IsReloadRefusal read (UnorderedChunk index) = ⊥
IsReloadRefusal read (Config place) = ⊥
