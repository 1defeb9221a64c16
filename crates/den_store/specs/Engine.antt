-- What a storage engine over files is.
use Rattle.std.specs.Prelude.{◌≡◌, ◌⊎◌, ℕ, Err, IsOk}
use Rattle.den_disk.specs.declared.place.Family.TheVariants.{Log as log_family, Meta as meta_family}
use Rattle.den_disk.specs.Place.{place_number}
use Rattle.den_disk.specs.Files.{Files}
use Rattle.den_model.specs.Image.{slot_of, log_in, hard_state_held}

-- the log's files are corrupt there, or the log's are not and those of the hard state are
abbrev pub IsFirstCorrupt : Files → ℕ → ℕ → Type 0
IsFirstCorrupt files place offset =
    ((place ≡ place_number (slot_of log_family files)) × (log_in files ≡ Err offset))
    ⊎ (IsOk (log_in files) × (place ≡ place_number (slot_of meta_family files)) × (hard_state_held files ≡ Err offset))
