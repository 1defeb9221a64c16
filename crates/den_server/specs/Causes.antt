-- Why a run ends early.
use Rattle.std.specs.Prelude.{◌≡◌, ◌<◌, ◌≤◌, ◌⊎◌, ◌+◌, ◌*◌, ℕ, Option, Some, None, Result, Ok, OnOk, IfErr}
use Rattle.den_disk.specs.Files.{Files}
use Rattle.den_gate.specs.Slot.{room_for}
use Rattle.den_codec.specs.declared.error.Error.{Error}
use Rattle.den_codec.specs.declared.error.Error.TheVariants.{OutOfMemory, StorageIoError, DiskFull, LinkFault, DataCorruption, FeatureNotEnabled, ProposeFailed, UnorderedChunk, Config, ConfigFault, StateMachineError}
use Rattle.den_model.specs.Image.{log_in, map_in}
use Rattle.den_model.specs.Log.{Log, above}
use Rattle.den_model.specs.MapState.{MapState}
use Rattle.den_core.specs.Full.{IsSlotTooShort}
use Rattle.den_core.specs.PayloadSizes.{chunk_sizes}

-- of reading a folder's files: want of memory; a fault of the disk where its count rose; and, where the disk tells its
-- bytes, what they are refused for
abbrev pub IsUnreadFolder : (disk_rose told : Type 0) (refusal : Option Error) → Error → Type 0
IsUnreadFolder disk_rose told refusal OutOfMemory = Unit {0}
IsUnreadFolder disk_rose told refusal StorageIoError = disk_rose
IsUnreadFolder disk_rose told refusal (DataCorruption place offset) = told → refusal ≡ Some (DataCorruption place offset)
IsUnreadFolder disk_rose told refusal (DiskFull needed limit) = ⊥
IsUnreadFolder disk_rose told refusal LinkFault = ⊥
IsUnreadFolder disk_rose told refusal FeatureNotEnabled = ⊥
IsUnreadFolder disk_rose told refusal ProposeFailed = ⊥
IsUnreadFolder disk_rose told refusal (UnorderedChunk index) = ⊥
IsUnreadFolder disk_rose told refusal (Config place) = ⊥
IsUnreadFolder disk_rose told refusal ConfigFault = ⊥
IsUnreadFolder disk_rose told refusal StateMachineError = ⊥

-- so many bytes, of files and of input, are much beside the limit of a file
abbrev pub IsMuch : (most bytes : ℕ) → Type 0
IsMuch most bytes = most < 1024 * (bytes + 4096)

-- what a run comes to at most, over files with so many bytes of regions, which takes so many bytes
abbrev pub most_run : (held taken : ℕ) → ℕ
most_run held taken = 5120 + 8 * held + 256 * taken

-- Of files as they are read at entry, the entries of the log above the map's mark, which opening lets the map take
-- on: a slot of the map, in files as these, has too little room for a payload that they make, of no more than so many
-- bytes.
pub record IsCatchUpTooShort (read : Files) (most needed : ℕ) (files : Files) : Type 0 where
  pub log : Log
  pub map : MapState
  pub log_read : log_in read ≡ Ok log
  pub map_read : map_in read ≡ Ok map
  pub short : IsSlotTooShort (chunk_sizes map (above map.mark.index log.entries)) most needed files

-- A file would need so many bytes: the room of regions of some size with the gate behind them, in whole chunks, which is
-- above the disk's limit. Where the disk tells its bytes, the files are not refused, that size is no more than what a run
-- comes to, which is said of the room beside it, and what is held and taken is much.
pub record IsFull (told : Type 0) (refusal : Option Error) (short : (most needed : ℕ) → Type 0) (most held taken needed : ℕ) : Type 0 where
  pub size : ℕ
  pub room : needed ≡ room_for size 0
  pub above : most < needed
  pub accepted : told → refusal ≡ None
  pub bounded : told → size ≤ most_run held taken
  pub slot : told → short (most_run held taken) needed
  pub much : told → IsMuch most (held + taken)

-- Of a run, and of its opening, where no link is lent and nothing is taken: want of memory; a fault of the disk or
-- the link where its count rose; a room that is above the disk's limit, of which this is said; and, where the disk
-- tells its bytes, exactly what files are refused for.
abbrev pub IsRunRefusal : (disk_rose link_rose told : Type 0) (refusal : Option Error) (short : (most needed : ℕ) → Type 0) (most held taken : ℕ) → Error → Type 0
IsRunRefusal disk_rose link_rose told refusal short most held taken OutOfMemory = Unit {0}
IsRunRefusal disk_rose link_rose told refusal short most held taken StorageIoError = disk_rose
IsRunRefusal disk_rose link_rose told refusal short most held taken LinkFault = link_rose
IsRunRefusal disk_rose link_rose told refusal short most held taken (DiskFull needed limit) = (limit ≡ most) × IsFull told refusal short most held taken needed
IsRunRefusal disk_rose link_rose told refusal short most held taken (DataCorruption place offset) = told → refusal ≡ Some (DataCorruption place offset)
IsRunRefusal disk_rose link_rose told refusal short most held taken FeatureNotEnabled = told → refusal ≡ Some FeatureNotEnabled
IsRunRefusal disk_rose link_rose told refusal short most held taken ProposeFailed = told → refusal ≡ Some ProposeFailed
IsRunRefusal disk_rose link_rose told refusal short most held taken (UnorderedChunk index) = ⊥
IsRunRefusal disk_rose link_rose told refusal short most held taken (Config place) = ⊥
IsRunRefusal disk_rose link_rose told refusal short most held taken ConfigFault = ⊥
IsRunRefusal disk_rose link_rose told refusal short most held taken StateMachineError = ⊥

-- files that are refused are answered so, but for want of memory and faults of the disk
abbrev pub IsTurnedAway : {T : Type 0} → Error → Result T Error → Type 0
IsTurnedAway refusal result = OnOk result ⊥ × IfErr result (λ e. (e ≡ refusal) ⊎ (e ≡ OutOfMemory) ⊎ (e ≡ StorageIoError))
