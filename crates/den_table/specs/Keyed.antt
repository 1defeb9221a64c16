-- A map keyed by vectors of bytes, as a table.
use Rattle.std.specs.Prelude.{ℕ, List, map, filter, Option, Some, None}
use Rattle.std.specs.Global.{Vec}
use Rattle.std.specs.Ordering.{is_lt}
use Rattle.den_model.specs.Table.{Table, by_bytes}

-- the pairs in the order of their keys
abbrev pub keyed : {X : Type 0} → List (Vec ℕ × X) → Table X
keyed es = map (λ e. (e.0.items, e.1)) es

-- the pairs whose keys are above this one, and all where there is none
abbrev pub behind : {X : Type 0} → Option (List ℕ) → Table X → Table X
behind None t = t
behind (Some key) t = filter (λ e. is_lt (by_bytes key e.0)) t
