-- The order of a chunk of entries.
use Rattle.std.specs.Prelude.{ℕ, List, [], ◌∷◌, Option, Some, None, nat_lt, if◌then◌else◌}
use Rattle.den_model.specs.Entries.{LogEntry}

-- the first index that is not above the one before it, or above this one where it is the first
abbrev pub out_of_order : ℕ → List LogEntry → Option ℕ
out_of_order index [] = None
out_of_order index (e ∷ es) = if nat_lt index e.index then out_of_order e.index es else Some e.index
