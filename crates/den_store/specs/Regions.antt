-- What the calls of the stores in files leave of the slot in use.
use Rattle.std.specs.Prelude.{◌≡◌, ℕ, List, [], ◌∷◌, ◌++◌}
use Rattle.den_disk.specs.declared.disk.Disk.{Ghosts}
use Rattle.den_gate.specs.declared.gate.GateFile.{GateFile}
use Rattle.den_gate.specs.Draft.{other_slot}
use Rattle.den_gate.specs.Gate.{payloads}
use Rattle.den_journal.specs.Writes.{DiskTells}

module _ {D : Type 0} (disk : Ghosts D) (was now : GateFile) (old new : D) where
  -- one region of this word was added to the slot in use, which stays
  pub record AddsRegion (word : List ℕ) : Type 0 where
    pub slot : now.slot ≡ was.slot
    pub list : DiskTells disk old → payloads now (disk.content new).reading ≡ payloads was (disk.content old).reading ++ word ∷ []

  -- the family's other slot is in use, and its regions are these words
  pub record WritesAnew (words : List (List ℕ)) : Type 0 where
    pub slot : now.slot ≡ other_slot was.slot
    pub list : DiskTells disk old → payloads now (disk.content new).reading ≡ words
