-- What the bytes of a slot stand for, by the payloads of its regions.
use Rattle.std.specs.Prelude.{◌≡◌, ◌≢◌, ◌<◌, ◌≤◌, ◌⊎◌, ◌^◌, ℕ, ◌+◌, ◌*◌, ◌/◌, ◌-◌, min, Result, Ok, Err, List, [], ◌∷◌, ◌++◌, length, take, drop, get_or, slice_index}
use Rattle.den_model.specs.Spelling.{u64_word}
use Rattle.den_model.specs.Reading.{size_at}
use Rattle.den_model.specs.Regions.{Region, regions, open_region, open_regions}

-- the payloads of regions
abbrev pub payloads_in : List Region → List (List ℕ)
payloads_in [] = []
payloads_in (r ∷ rs) = r.payload ∷ payloads_in rs

abbrev pub payloads_or_none : Result (List Region) ℕ → List (List ℕ)
payloads_or_none (Ok rs) = payloads_in rs
payloads_or_none (Err at) = []

-- the payloads of a slot that can be read
abbrev pub payloads_of : List ℕ → List (List ℕ)
payloads_of slot = payloads_or_none (regions slot)

-- these payloads in open regions, and then a closed gate or the file's end
pub record Holds (list : List (List ℕ)) (end : ℕ) (file : List ℕ) : Type 0 where
  pub front : take end file ≡ open_regions list
  pub size : length (open_regions list) ≡ end
  pub small : end < 2 ^ 64
  pub closed : slice_index file end ≢ 1

-- behind the gate at the end stand a payload with its length, and another closed gate
pub record Staged (list : List (List ℕ)) (payload : List ℕ) (end : ℕ) (file : List ℕ) : Type 0 where
  pub front : take end file ≡ open_regions list
  pub size : length (open_regions list) ≡ end
  pub small : end + 9 + length payload < 2 ^ 64
  pub behind : take (9 + length payload) (drop (end + 1) file) ≡ u64_word (length payload) ++ payload ++ 0 ∷ []

-- these payloads stand in open regions before the offset
pub record Begins (list : List (List ℕ)) (at : ℕ) (file : List ℕ) : Type 0 where
  pub front : take at file ≡ open_regions list
  pub size : length (open_regions list) ≡ at

-- a whole open region of this payload stands at the offset, up to the next
pub record IsRegion (at next : ℕ) (payload file : List ℕ) : Type 0 where
  pub next_is : next ≡ at + 9 + length payload
  pub region : take (9 + length payload) (drop at file) ≡ open_region payload

-- an open region at the offset runs past the file's end
pub record IsCutShort (at : ℕ) (file : List ℕ) : Type 0 where
  pub opened : slice_index file at ≡ 1
  pub short : (length file < at + 9) ⊎ (length file < at + 9 + size_at (drop (at + 1) file))

-- the least multiple of 65,536 that is not below n
abbrev pub whole_chunks : ℕ → ℕ
whole_chunks n = (n + 65535) / 65536 * 65536

-- the room for a region behind the end with the gate after it, in whole chunks; 2 ^ 64 - 1 stands for more than that
abbrev pub room_for : ℕ → ℕ → ℕ
room_for end size = min (whole_chunks (end + 10 + size)) (2 ^ 64 - 1)

-- a file has not the room for a region behind the end with the gate after it
abbrev pub IsShort : List ℕ → ℕ → ℕ → Type 0
IsShort file end size = length file < end + 10 + size

-- a file that was short of this room is as long as it now, and one that was not is as long as before
pub record SlotGrows (old new : List ℕ) (end size : ℕ) : Type 0 where
  pub grown : IsShort old end size → length new ≡ room_for end size
  pub kept : end + 10 + size ≤ length old → length new ≡ length old

-- a file that was filled from nothing up to this end: empty where nothing came, and else with room for the gate at the end, in whole chunks
pub record IsFilled (end : ℕ) (file : List ℕ) : Type 0 where
  pub none : end ≡ 0 → length file ≡ 0
  pub some : 1 ≤ end → length file ≡ whole_chunks (end + 1)

-- where the payload of this number begins, if these payloads are put one behind the other
abbrev pub begin_of : List (List ℕ) → ℕ → ℕ
begin_of list at = length (open_regions (take at list))

-- how long the payload of this number is
abbrev pub size_of : List (List ℕ) → ℕ → ℕ
size_of list at = length (get_or list at [])

-- the payloads before one of this number, in a file that has not the room for that one
pub record StopsAt (list : List (List ℕ)) (at : ℕ) (file : List ℕ) : Type 0 where
  pub holds : Holds (take at list) (begin_of list at) file
  pub filled : IsFilled (begin_of list at) file
  pub short : IsShort file (begin_of list at) (size_of list at)
