-- What opening a family's files finds.
use Rattle.std.specs.Prelude.{◌≡◌, ◌⊎◌, [], Result, Ok, Err}
use Rattle.den_disk.specs.declared.place.Family.{Family}
use Rattle.den_disk.specs.Files.{Content}
use Rattle.den_model.specs.Image.{slot_of}
use Rattle.den_gate.specs.declared.gate.GateFile.{GateFile}
use Rattle.den_gate.specs.Gate.{IsAtRest, IsCurrent}
use Rattle.den_codec.specs.declared.error.Error.{Error}
use Rattle.den_codec.specs.declared.error.Error.TheVariants.{StorageIoError}

-- the gate file of a family, once all of the disk's files are as they read
pub record IsLoaded (family : Family) (gate : GateFile) (old new : Content) : Type 0 where
  pub slot : gate.slot ≡ slot_of family old.reading
  pub at_rest : IsAtRest gate new
  pub current : IsCurrent gate.slot new

-- Nothing is pending after files were opened, for whatever answer; at a fault of the disk the content may also be what
-- it was.
abbrev pub AllSynced : {A : Type 0} → Result A Error → Content → Content → Type 0
AllSynced (Ok x) old new = new.pending ≡ []
AllSynced (Err StorageIoError) old new = (new ≡ old) ⊎ (new.pending ≡ [])
AllSynced (Err e) old new = new.pending ≡ []
