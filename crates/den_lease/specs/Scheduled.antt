-- Expiries in the order of their moments.
use Rattle.std.specs.Prelude.{◌≡◌, ℕ, Bool, false, List, Some, None}
use Rattle.std.specs.List.{list_any}
use Rattle.std.specs.Global.{Vec}
use Rattle.std.specs.Ordering.{is_eq, nat_cmp, ordering_then}
use Rattle.den_model.specs.Table.{Table, by_bytes, at}

-- the test for the entry of a key at a moment
abbrev pub is_entry : ℕ → List ℕ → ℕ × Vec ℕ → Bool
is_entry moment key e = is_eq (ordering_then (nat_cmp moment e.0) (by_bytes key e.1.items))

-- whether the key expires at the moment
abbrev pub expires_at : Table ℕ → ℕ → List ℕ → Bool
expires_at t moment key = elim (at t key) [ None ↦ false | Some expiry ↦ is_eq (nat_cmp moment expiry) ]

-- entries by moment that are the expiries of the table
abbrev pub IsScheduleOf : Table ℕ → List (ℕ × Vec ℕ) → Type 0
IsScheduleOf t entries = (moment : ℕ) (key : List ℕ) → list_any (is_entry moment key) entries ≡ expires_at t moment key
