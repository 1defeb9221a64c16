-- What the calls of a journal say of its slot, as the stores in files say it.
use Rattle.std.proofs.Common.{◌≡◌, ℕ, List, [], ◌∷◌, ◌++◌, Result, Ok, Err}
use Rattle.std.specs.Prelude.{OnOk}
use Rattle.den_disk.specs.declared.disk.Disk.{Ghosts}
use Rattle.den_gate.specs.declared.gate.GateFile.{GateFile}
use Rattle.den_gate.specs.Draft.{other_slot}
use Rattle.den_gate.specs.Gate.{payloads}
use Rattle.den_codec.specs.declared.error.Error.{Error}
use Rattle.den_journal.specs.Writes.{DiskTells}
use Rattle.den_store.specs.Regions.{AddsRegion, WritesAnew}

module _ {D : Type 0} (disk : Ghosts D) (was now : GateFile) (old new : D) where
  pub region_added : {T : Type 0} (word : List ℕ) (result : Result T Error) → now.slot ≡ was.slot
      → OnOk result (DiskTells disk old → payloads now (disk.content new).reading ≡ payloads was (disk.content old).reading ++ word ∷ [])
      → OnOk result (AddsRegion disk was now old new word)
  region_added word (Ok x) slot list = record { slot = slot; list = list }
  region_added word (Err e) slot list = tt

  pub written_anew : {T : Type 0} (words : List (List ℕ)) (result : Result T Error) → OnOk result (now.slot ≡ other_slot was.slot)
      → OnOk result (DiskTells disk old → payloads now (disk.content new).reading ≡ words)
      → OnOk result (WritesAnew disk was now old new words)
  written_anew words (Ok x) slot list = record { slot = slot; list = list }
  written_anew words (Err e) slot list = tt
