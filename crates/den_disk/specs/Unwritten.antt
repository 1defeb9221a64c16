-- What a crash leaves that takes back each write since the last sync.
use Rattle.std.specs.Prelude.{◌≡◌, ◌≤◌, ℕ, ◌+◌, ◌++◌, ◌||◌, Bool, true, false, if◌then◌else◌, List, [], ◌∷◌, length, take, Vec, ⊤}
use Rattle.std.specs.declared.alloc.Global.{Global}
use Rattle.den_disk.specs.declared.place.Place.{Place}
use Rattle.den_disk.specs.declared.memory.Step.{Step}
use Rattle.den_disk.specs.declared.memory.Step.TheVariants.{Write, Resize, Sync}
use Rattle.den_disk.specs.Place.{is_place}
use Rattle.den_disk.specs.Files.{fit}
use Rattle.den_disk.specs.Memory.{file_of, undone, is_sync}

abbrev pub has_sync : List Step → Bool
has_sync [] = false
has_sync (step ∷ steps) = is_sync step || has_sync steps

-- the calls since the last sync
abbrev pub since_sync : List Step → List Step
since_sync [] = []
since_sync (step ∷ steps) = if has_sync (step ∷ steps) then since_sync steps else step ∷ steps

-- a file with the resizes among these calls, and none of the writes
abbrev pub resized_by : List Step → Place → List ℕ → List ℕ
resized_by [] q file = file
resized_by (Write place at was ∷ steps) q file = resized_by steps q file
resized_by (Resize place len from was ∷ steps) q file = resized_by steps q (if is_place q place then fit len file else file)
resized_by (Sync ∷ steps) q file = resized_by steps q file

-- a file as it was at the last sync, with the resizes since then and none of the writes
abbrev pub unwritten : List Step → Place → List ℕ → List ℕ
unwritten steps q file = resized_by (since_sync steps) q (undone (since_sync steps) q file)

-- what a call left of a file is what it makes of the file before it
abbrev pub IsMade : Step → Place → List ℕ → Type 0
IsMade (Write place at was) q file = is_place q place ≡ true → at + length was.items ≤ length file
IsMade (Resize place len from was) q file = is_place q place ≡ true → fit len (take from (file ++ was.items)) ≡ file
IsMade Sync q file = ⊤

abbrev pub AreMade : List Step → Place → List ℕ → Type 0
AreMade [] q file = ⊤
AreMade (step ∷ steps) q file = IsMade step q (undone steps q file) × AreMade steps q file

-- the record is of calls that made these files
abbrev pub IsRecord : List (Vec ℕ Global) → List Step → Type 0
IsRecord files steps = (q : Place) → AreMade steps q (file_of files q)
