-- The first of some entries.
use Rattle.std.specs.Prelude.{ℕ, List, [], ◌∷◌, Option, Some, None}
use Rattle.den_model.specs.Entries.{LogEntry}

-- the index of the first of them, if there is one
abbrev pub first_index : List LogEntry → Option ℕ
first_index [] = None
first_index (e ∷ es) = Some e.index
