-- What the end of an engine leaves of its three stores.
use Rattle.std.specs.Prelude.{◌≡◌, ◌≤◌, ℕ, Option, Some}
use Rattle.den_disk.specs.declared.disk.Disk.{Ghosts}
use Rattle.den_disk.specs.Files.{Files}
use Rattle.den_model.specs.declared.log_id.HardState.{HardState}
use Rattle.den_model.specs.Log.{Log}
use Rattle.den_model.specs.MapState.{MapState}
use Rattle.den_journal.specs.Shown.{Held}

module _ {D : Type 0} (disk : Ghosts D) (old new : D) where
  -- at each moment of a call a crash leaves files that give this value, where the store tells what they give
  abbrev pub GivesStill : {V : Type 0} → Held V → V → Type 0
  GivesStill holds value = holds.told → (t : ℕ) (files : Files) → disk.moment old ≤ t → t ≤ disk.moment new → disk.images new t files
      → holds.of files ≡ Some value

  -- the files of each of the three stores give still what it held: the log, the hard state, the map
  pub record KeepsStores (logs : Held Log) (hard_states : Held (Option HardState)) (maps : Held MapState)
      (l : Log) (h : Option HardState) (s : MapState) : Type 0 where
    pub log : GivesStill logs l
    pub hard_state : GivesStill hard_states h
    pub map : GivesStill maps s
