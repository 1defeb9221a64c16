-- Why a call of a gate file is refused.
use Rattle.std.specs.Prelude.{ℕ}
use Rattle.den_disk.specs.declared.place.Part.{Part}
use Rattle.den_gate.specs.declared.error.GateError.{GateError}
use Rattle.den_gate.specs.declared.error.GateError.TheVariants.{OutOfMemory, StorageIoError, Full, DataCorruption}

-- what each refusal says: want of memory, a fault of the disk, a slot that would pass the limit, and bytes that are no list
abbrev pub Because : (memory fault : Type 0) → (full : ℕ → ℕ → Type 0) → (corrupt : Part → ℕ → Type 0) → GateError → Type 0
Because memory fault full corrupt OutOfMemory = memory
Because memory fault full corrupt StorageIoError = fault
Because memory fault full corrupt (Full needed limit) = full needed limit
Because memory fault full corrupt (DataCorruption part offset) = corrupt part offset
