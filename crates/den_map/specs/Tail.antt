-- How many records follow the last Begin region of a journal, at most 2 ^ 64 - 1.
use Rattle.std.specs.Prelude.{ℕ, ◌+◌, ◌-◌, ◌^◌, min, List, length, None, Some}
use Rattle.den_model.specs.declared.region.StateRegion.{StateRegion}
use Rattle.den_model.specs.declared.region.StateRegion.TheVariants.{Begin, Pairs, Records, Mark}
use Rattle.den_model.specs.Reading.{state_region_in}

-- after a region, where so many follow before it
abbrev pub tail_after : ℕ → StateRegion → ℕ
tail_after tail (Begin index term) = 0
tail_after tail (Pairs pairs) = tail
tail_after tail (Records records) = min (tail + length records) (2 ^ 64 - 1)
tail_after tail (Mark index term) = tail

-- the same of a region's word; what is no word counts for nothing
unfoldable pub tail_after_payload : ℕ → List ℕ → ℕ
tail_after_payload tail payload = elim (state_region_in payload) [ None ↦ tail | Some region ↦ tail_after tail region ]
