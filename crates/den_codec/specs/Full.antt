-- When a disk may be told to be full.
use Rattle.std.specs.Prelude.{ℕ, ◌<◌, ◌*◌}
use Rattle.den_codec.specs.declared.error.Error.{Error}
use Rattle.den_codec.specs.declared.error.Error.TheVariants.{OutOfMemory, StorageIoError, DiskFull, LinkFault, DataCorruption, FeatureNotEnabled, ProposeFailed, UnorderedChunk, Config, ConfigFault, StateMachineError}

-- only where four times this weight, of what was handed in so far, is above the limit of a file
abbrev pub IsHeavy : (most weight : ℕ) → Error → Type 0
IsHeavy most weight (DiskFull needed limit) = most < 4 * weight
IsHeavy most weight OutOfMemory = Unit {0}
IsHeavy most weight StorageIoError = Unit {0}
IsHeavy most weight LinkFault = Unit {0}
IsHeavy most weight (DataCorruption place offset) = Unit {0}
IsHeavy most weight FeatureNotEnabled = Unit {0}
IsHeavy most weight ProposeFailed = Unit {0}
IsHeavy most weight (UnorderedChunk index) = Unit {0}
IsHeavy most weight (Config place) = Unit {0}
IsHeavy most weight ConfigFault = Unit {0}
IsHeavy most weight StateMachineError = Unit {0}
