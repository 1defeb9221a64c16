-- What a value has to be.
use Rattle.std.specs.Prelude.{ℕ, ℤ, pos, negsuc, Bool, List, Option, Some, None, option_and_then, ◌&&◌, nat_le, if◌then◌else◌}
use Rattle.toml.specs.Data.{Data, as_integer}
use Rattle.den_config.specs.Places.{Standing, missing, holds, blocked}

-- an integer that is not below zero
abbrev pub natural : ℤ → Option ℕ
natural (pos n) = Some n
natural (negsuc n) = None

-- a number, if it is no less than the least
abbrev pub no_less : ℕ → ℕ → Option ℕ
no_less least n = if nat_le least n then Some n else None

-- a number, if it is no more than the most
abbrev pub no_more : ℕ → ℕ → Option ℕ
no_more most n = if nat_le n most then Some n else None

-- an integer that is no less than the least
abbrev pub at_least : ℕ → Data → Option ℕ
at_least least d = option_and_then (no_less least) (option_and_then natural (as_integer d))

-- an integer from the least to the most
abbrev pub between : ℕ → ℕ → Data → Option ℕ
between least most d = option_and_then (no_more most) (at_least least d)

-- the value at a place, or the default where nothing stands there
abbrev pub value_or : {A : Type 0} → A → (Data → Option A) → Standing → Option A
value_or default test missing = Some default
value_or default test (holds d) = test d
value_or default test blocked = None

-- the value at a place that must not be missing
abbrev pub value_at : {A : Type 0} → (Data → Option A) → Standing → Option A
value_at test missing = None
value_at test (holds d) = test d
value_at test blocked = None
