-- What a load makes durable, and what a look at an offset of a slot finds.
use Rattle.std.specs.Prelude.{◌≡◌, ◌≢◌, ◌⊎◌, ◌≤◌, ℕ, ◌+◌, ◌-◌, List, [], take, drop, slice_index, Result, Ok, Err}
use Rattle.den_disk.specs.Files.{Content}
use Rattle.den_gate.specs.declared.error.GateError.{GateError}
use Rattle.den_gate.specs.declared.error.GateError.TheVariants.{OutOfMemory, StorageIoError, Full, DataCorruption}
use Rattle.den_gate.specs.declared.look.Found.{Found}
use Rattle.den_gate.specs.declared.look.Found.TheVariants.{Closed, Region, CutShort}
use Rattle.den_gate.specs.Slot.{IsRegion, IsCutShort}

-- the next offset is further on, and no further than the end
abbrev pub IsFurther : ℕ → ℕ → Found → Type 0
IsFurther at len Closed = Unit {0}
IsFurther at len (Region next) = (at + 9 ≤ next) × (next ≤ len)
IsFurther at len CutShort = Unit {0}

-- the payload of a region
abbrev pub payload_between : ℕ → ℕ → List ℕ → List ℕ
payload_between at next file = take (next - (at + 9)) (drop (at + 9) file)

-- what stands there in the file
abbrev pub Finds : ℕ → List ℕ → Found → Type 0
Finds at file Closed = slice_index file at ≢ 1
Finds at file (Region next) = IsRegion at next (payload_between at next file) file
Finds at file CutShort = IsCutShort at file

-- Nothing is pending after a load; at a fault of the disk the content is what it was, or nothing is.
abbrev pub IsDurable : {A : Type 0} → Result A GateError → Content → Content → Type 0
IsDurable (Ok x) old new = new.pending ≡ []
IsDurable (Err OutOfMemory) old new = ⊥
IsDurable (Err StorageIoError) old new = (new ≡ old) ⊎ (new.pending ≡ [])
IsDurable (Err (Full needed limit)) old new = ⊥
IsDurable (Err (DataCorruption part offset)) old new = new.pending ≡ []
