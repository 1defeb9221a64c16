-- Keys that have expired.
use Rattle.std.specs.Prelude.{ℕ, Bool, List, nat_le, filter, map}
use Rattle.std.specs.List.{list_any}
use Rattle.den_model.specs.Table.{Table}

-- the keys whose expiry is at most the moment, in the order of the table
abbrev pub due_keys : ℕ → Table ℕ → List (List ℕ)
due_keys moment t = map (λ e. e.0) (filter (λ e. nat_le e.1 moment) t)

-- whether there is one
abbrev pub has_due : ℕ → Table ℕ → Bool
has_due moment t = list_any (λ e. nat_le e.1 moment) t
