-- What asks for a lease.
use Rattle.std.specs.Prelude.{◌||◌, ◌&&◌, Bool, false, not, List, [], ◌∷◌, length, nat_lt}
use Rattle.den_model.specs.Entries.{LogEntry}
use Rattle.den_model.specs.MapState.{MapState}
use Rattle.den_model.specs.Step.{has_ttl}

-- whether a key has an expiry
abbrev pub has_expiry : MapState → Bool
has_expiry s = nat_lt 0 (length s.expiries)

-- whether an entry has a time to live
abbrev pub asks_lease : List LogEntry → Bool
asks_lease [] = false
asks_lease (e ∷ es) = has_ttl e.command || asks_lease es

-- whether an entry has a time to live where no lease is configured
abbrev pub lacks_lease : Bool → List LogEntry → Bool
lacks_lease leased chunk = asks_lease chunk && not leased
