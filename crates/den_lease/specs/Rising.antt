-- Tables whose keys rise.
use Rattle.std.specs.Prelude.{ℕ, Bool, true, List, [], ◌∷◌, ◌&&◌}
use Rattle.std.specs.Ordering.{is_lt}
use Rattle.den_model.specs.Table.{Table, by_bytes}

-- each key stands above the one before it, and the first above this one
abbrev pub rises_above : {X : Type 0} → List ℕ → Table X → Bool
rises_above key [] = true
rises_above key (e ∷ es) = is_lt (by_bytes key e.0) && rises_above e.0 es

-- each key stands above the one before it
abbrev pub rises : {X : Type 0} → Table X → Bool
rises [] = true
rises (e ∷ es) = rises_above e.0 es
