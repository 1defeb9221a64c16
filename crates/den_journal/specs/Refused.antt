-- What a store makes of its gate file's refusals.
use Rattle.den_disk.specs.declared.place.Family.{Family}
use Rattle.den_disk.specs.Place.{place_number}
use Rattle.den_gate.specs.declared.error.GateError.{GateError}
use Rattle.den_gate.specs.declared.error.GateError.TheVariants as gate
use Rattle.den_codec.specs.declared.error.Error.{Error}
use Rattle.den_codec.specs.declared.error.Error.TheVariants.{OutOfMemory, StorageIoError, DiskFull, DataCorruption}

-- the same refusal, told of a family
abbrev pub refusal : Family → GateError → Error
refusal family gate.OutOfMemory = OutOfMemory
refusal family gate.StorageIoError = StorageIoError
refusal family (gate.Full needed limit) = DiskFull needed limit
refusal family (gate.DataCorruption part offset) = DataCorruption (place_number (record { family = family; part = part })) offset
