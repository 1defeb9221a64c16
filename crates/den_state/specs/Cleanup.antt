-- What a cleanup makes of the map under a lease.
use Rattle.std.specs.Prelude.{ℕ, Bool, List, [], if◌then◌else◌}
use Rattle.den_model.specs.MapState.{MapState}
use Rattle.den_lease.specs.Due.{due_keys}
use Rattle.den_map.specs.Cleanup.{cleaned_map}

-- where a lease is configured each key that has expired at the moment loses pair and expiry, without one none does
abbrev pub cleaned_where : Bool → ℕ → MapState → MapState
cleaned_where leased moment s = if leased then cleaned_map moment s else s

-- the keys that go then
abbrev pub removed_where : Bool → ℕ → MapState → List (List ℕ)
removed_where leased moment s = if leased then due_keys moment s.expiries else []
