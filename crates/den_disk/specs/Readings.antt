-- The readings of a clock in memory.
use Rattle.std.specs.Prelude.{ℕ, ◌+◌, ◌-◌, ◌*◌, ◌^◌, min, Bool, nat_lt, List, [], ◌∷◌, length, map, slice_index}
use Rattle.std.specs.List.{range_with_len}
use Rattle.den_disk.specs.declared.list_clock.Readings.{Readings}
use Rattle.den_disk.specs.declared.list_clock.Readings.TheVariants.{Listed, Steps}
use Rattle.den_disk.specs.declared.list_clock.ListClock.{ListClock}

-- the reading of this number in a list, whose last one stands for those past it, and 1 for an empty one
abbrev pub listed_at : List ℕ → ℕ → ℕ
listed_at [] n = 1
listed_at (reading ∷ rest) n = slice_index (reading ∷ rest) (min n (length rest))

-- the reading of this number of a clock that goes by steps up to the last number of 64 bits
abbrev pub step_at : ℕ → ℕ → ℕ → ℕ
step_at first step n = min (first + step * n) (2 ^ 64 - 1)

-- the reading of this number, from 0 on
abbrev pub reading_of : Readings → ℕ → ℕ
reading_of (Listed readings) n = listed_at readings.items n
reading_of (Steps first step) n = step_at first step n

-- the reading of this number that a clock gives
abbrev pub reading_at : ListClock → ℕ → ℕ
reading_at clock n = reading_of clock.readings n

-- how many readings a clock gave, as far as it counts them
abbrev pub given_by : ListClock → ℕ
given_by clock = clock.given

-- whether its count is exact
abbrev pub still_counts : ListClock → Bool
still_counts clock = nat_lt clock.given (2 ^ 64 - 1)

-- the readings that it gave
abbrev pub readings_given : ListClock → List ℕ
readings_given clock = map (reading_at clock) (range_with_len 0 clock.given)
