-- The map that a journal's regions give, with the number of records behind its last Begin region.
use Rattle.std.specs.Prelude.{◌≡◌, ℕ, List, [], ◌∷◌, Option, Some, None, Result, Ok, Err}
use Rattle.den_model.specs.declared.journal.JournalRecord.{JournalRecord}
use Rattle.den_model.specs.declared.journal.JournalRecord.TheVariants.{Cleanup}
use Rattle.den_model.specs.declared.region.StateRegion.{StateRegion}
use Rattle.den_model.specs.declared.region.StateRegion.TheVariants.{Begin, Mark, Pairs, Records}
use Rattle.den_model.specs.MapState.{MapState, empty_map, map_after, map_after_payload}
use Rattle.den_model.specs.Regions.{Region}
use Rattle.den_map.specs.Tail.{tail_after, tail_after_payload}

pub record Stored : Type 0 where
  pub map : MapState
  pub tail : ℕ

abbrev pub nothing_stored : Stored
nothing_stored = record { map = empty_map; tail = 0 }

-- after one more payload, where that is a lawful region
unfoldable pub stored_after : Stored → List ℕ → Option Stored
stored_after s payload = elim (map_after_payload s.map payload) [ None ↦ None | Some m ↦ Some (record { map = m; tail = tail_after_payload s.tail payload }) ]

-- after these regions, or the offset of the first that is not lawful
unfoldable pub stored_from : Stored → List Region → Result Stored ℕ
stored_from s [] = Ok s
stored_from s (r ∷ rs) = elim (stored_after s r.payload) [ None ↦ Err r.offset | Some n ↦ stored_from n rs ]

-- what a lawful region gives, and the same map where it is not
abbrev pub map_by : MapState → Option MapState → MapState
map_by s None = s
map_by s (Some next) = next

abbrev pub stored_by : Stored → StateRegion → Stored
stored_by s r = record { map = map_by s.map (map_after s.map r); tail = tail_after s.tail r }

-- a region is lawful there
abbrev pub IsLawful : Stored → StateRegion → Type 0
IsLawful s r = map_after s.map r ≡ Some (map_by s.map (map_after s.map r))

-- the moment of records that are one cleanup's
abbrev pub cleanup_of : List JournalRecord → Option ℕ
cleanup_of (Cleanup moment ∷ []) = Some moment
cleanup_of _ = None

-- a region that may want memory once it is written: a beginning, a mark and a cleanup do not
abbrev pub MayWant : StateRegion → Type 0
MayWant (Begin index term) = ⊥
MayWant (Mark index term) = ⊥
MayWant (Records records) = cleanup_of records ≡ None
MayWant (Pairs pairs) = Unit {0}
