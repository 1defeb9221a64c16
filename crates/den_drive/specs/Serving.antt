-- What is served in memory.
use Rattle.std.specs.Prelude.{ℕ, ◌+◌, List, length}
use Rattle.den_codec.specs.declared.error.Error.{Error}
use Rattle.den_codec.specs.declared.error.Error.TheVariants.{OutOfMemory, StorageIoError, DiskFull, LinkFault, DataCorruption, FeatureNotEnabled, ProposeFailed, UnorderedChunk, Config, ConfigFault, StateMachineError}
use Rattle.den_model.specs.Frames.{frames}
use Rattle.den_model.specs.Plan.{output, plan_over}
use Rattle.den_server.specs.Default.{standard_run}
use Rattle.den_drive.specs.Report.{drive_start, moments}

-- an input is answered so: what the plan over it says, with a reading at the opening and one for each frame
abbrev pub answered : List ℕ → List ℕ
answered input = output drive_start (plan_over drive_start standard_run.frame_limit input (moments (length (frames standard_run.frame_limit input) + 1)))

-- an error that want of the machine's memory makes, where no other fault is set
abbrev pub IsWant : Error → Type 0
IsWant OutOfMemory = Unit {0}
IsWant StorageIoError = Unit {0}
IsWant LinkFault = Unit {0}
IsWant (DiskFull needed limit) = ⊥
IsWant (DataCorruption place offset) = ⊥
IsWant FeatureNotEnabled = ⊥
IsWant ProposeFailed = ⊥
IsWant (UnorderedChunk index) = ⊥
IsWant (Config place) = ⊥
IsWant ConfigFault = ⊥
IsWant StateMachineError = ⊥
