-- Sizes in bytes: of what files hold, and of what a call is handed. By them a disk is told to be full of what it was given.
use Rattle.std.specs.Prelude.{ℕ, ◌+◌, ◌*◌, List, [], ◌∷◌, length, Result, Ok, Err}
use Rattle.den_disk.specs.declared.place.Family.{Family}
use Rattle.den_disk.specs.declared.place.Family.TheVariants.{Log, Meta, State}
use Rattle.den_disk.specs.Files.{Files}
use Rattle.den_model.specs.declared.request.Frame.{Frame}
use Rattle.den_model.specs.declared.request.Frame.TheVariants.{Good, Bad}
use Rattle.den_model.specs.Entries.{LogEntry}
use Rattle.den_model.specs.Spelling.{entry_word, request_word}
use Rattle.den_model.specs.Regions.{Region, regions}
use Rattle.den_model.specs.Image.{slot_of}

-- the words of these entries
abbrev pub entries_size : List LogEntry → ℕ
entries_size [] = 0
entries_size (e ∷ es) = length (entry_word e) + entries_size es

-- the word of a frame's request
abbrev pub frame_size : Frame → ℕ
frame_size Bad = 0
frame_size (Good r) = length (request_word r)

-- regions, with their gates and lengths
abbrev pub regions_size : List Region → ℕ
regions_size [] = 0
regions_size (r ∷ rs) = 9 + length r.payload + regions_size rs

abbrev pub found_size : Result (List Region) ℕ → ℕ
found_size (Ok rs) = regions_size rs
found_size (Err offset) = 0

-- the regions in the slot that the family's head names
abbrev pub family_size : Family → Files → ℕ
family_size family files = found_size (regions (files (slot_of family files)))

-- the regions of log, meta and state
abbrev pub files_size : Files → ℕ
files_size files = family_size Log files + family_size Meta files + family_size State files

-- ---- by how much a weight rises

-- at most, where a store is handed words of this size
abbrev pub store_rise : ℕ → ℕ
store_rise size = 256 + 4 * size

-- at most, where an engine is handed a request of this size
abbrev pub step_rise : ℕ → ℕ
step_rise size = 2048 + 8 * size
