-- Twelve files, and the durable part that they stand for.
use Rattle.std.specs.Prelude.{◌≡◌, ℕ, ◌+◌, ◌==◌, ◌&&◌, Bool, true, List, [], ◌∷◌, Option, Some, None, Result, Ok, Err, nat_le, if◌then◌else◌}
use Rattle.den_disk.specs.declared.place.Family.{Family}
use Rattle.den_disk.specs.declared.place.Family.TheVariants as family
use Rattle.den_disk.specs.declared.place.Part.{Part}
use Rattle.den_disk.specs.declared.place.Part.TheVariants.{Head, A, B}
use Rattle.den_disk.specs.declared.place.Place.{Place}
use Rattle.den_disk.specs.Place.{place_number}
use Rattle.den_disk.specs.Files.{Files}
use Rattle.den_model.specs.declared.log_id.HardState.{HardState}
use Rattle.den_model.specs.Entries.{LogEntry}
use Rattle.den_model.specs.Kv.{Durable}
use Rattle.den_model.specs.Apply.{applied}
use Rattle.den_model.specs.Regions.{Region, regions}
use Rattle.den_model.specs.Reading.{hard_state_in}
use Rattle.den_model.specs.Log.{Log, empty_log, floor, above, log_from}
use Rattle.den_model.specs.MapState.{MapState, empty_map, map_from, part_of}

-- twelve empty files
abbrev pub no_files : Files
no_files = λ place. []

-- the slot that a head names: b where its first byte is 1
abbrev pub named : List ℕ → Part
named [] = A
named (first ∷ rest) = if first == 1 then B else A

abbrev pub head_of : Family → Place
head_of family = record { family = family; part = Head }

-- the slot that the family's head names
abbrev pub slot_of : Family → Files → Place
slot_of family files = record { family = family; part = named (files (head_of family)) }

-- the last hard state, or the offset of the first payload that is no word
unfoldable pub hard_state_from : Option HardState → List Region → Result (Option HardState) ℕ
hard_state_from last [] = Ok last
hard_state_from last (r ∷ rs) = elim (hard_state_in r.payload) [ None ↦ Err r.offset | Some h ↦ hard_state_from (Some h) rs ]

-- ---- what each family gives, or the offset at which it is unreadable, or else unlawful

abbrev pub meaning_of : {A : Type 0} → (List Region → Result A ℕ) → Result (List Region) ℕ → Result A ℕ
meaning_of meaning (Ok rs) = meaning rs
meaning_of meaning (Err offset) = Err offset

abbrev pub in_regions : {A : Type 0} → Family → (List Region → Result A ℕ) → Files → Result A ℕ
in_regions family meaning files = meaning_of meaning (regions (files (slot_of family files)))

abbrev pub log_in : Files → Result Log ℕ
log_in files = in_regions family.Log (log_from empty_log) files

abbrev pub hard_state_held : Files → Result (Option HardState) ℕ
hard_state_held files = in_regions family.Meta (hard_state_from None) files

abbrev pub map_in : Files → Result MapState ℕ
map_in files = in_regions family.State (map_from empty_map) files

-- ---- the whole

-- the indices run without a gap from this one
abbrev pub gapless_from : ℕ → List LogEntry → Bool
gapless_from index [] = true
gapless_from index (e ∷ es) = e.index == index && gapless_from (index + 1) es

abbrev pub applied_all : Durable → List LogEntry → Durable
applied_all d [] = d
applied_all d (e ∷ es) = applied_all (applied d e) es

abbrev pub term_of : Option HardState → ℕ
term_of None = 0
term_of (Some h) = h.current_term

-- The map, and then the log's entries above its mark; none where they leave a gap.
unfoldable pub durable : Log → Option HardState → MapState → Option Durable
durable l h s =
    if nat_le (floor l) s.mark.index && gapless_from (s.mark.index + 1) (above s.mark.index l.entries)
    then Some (applied_all (part_of s (term_of h)) (above s.mark.index l.entries))
    else None

abbrev pub ok : {A : Type 0} → Result A ℕ → Option A
ok (Ok x) = Some x
ok (Err offset) = None

-- what log, hard state and map stand for together
abbrev pub joined : Option Log → Option (Option HardState) → Option MapState → Option Durable
joined (Some l) (Some h) (Some s) = durable l h s
joined (Some l) (Some h) None = None
joined (Some l) None s = None
joined None h s = None

abbrev pub durable_in : Files → Option Durable
durable_in files = joined (ok (log_in files)) (ok (hard_state_held files)) (ok (map_in files))

abbrev pub StandsFor : Files → Durable → Type 0
StandsFor files d = durable_in files ≡ Some d

-- where files are corrupt: the number of the file, and the offset in it
pub record Corruption : Type 0 where
  pub place : ℕ
  pub offset : ℕ

abbrev pub of_family : {A : Type 0} → Family → Files → Result A ℕ → Result A Corruption
of_family family files (Ok x) = Ok x
of_family family files (Err offset) = Err (record { place = place_number (slot_of family files); offset = offset })

abbrev pub or_corrupt : {A : Type 0} → Corruption → Option A → Result A Corruption
or_corrupt c None = Err c
or_corrupt c (Some x) = Ok x

infixl 10 ◌>>=◌
abbrev pub ◌>>=◌ : {A B : Type 0} → Result A Corruption → (A → Result B Corruption) → Result B Corruption
(Ok x >>= next) = next x
(Err c >>= next) = Err c

-- What the files stand for, or where they are corrupt: log, meta and state in this order, and then where log and
-- state disagree.
unfoldable pub recovered : Files → Result Durable Corruption
recovered files = do
  l ← of_family family.Log files (log_in files)
  h ← of_family family.Meta files (hard_state_held files)
  s ← of_family family.State files (map_in files)
  or_corrupt (record { place = place_number (slot_of family.Log files); offset = 0 }) (durable l h s)
