-- What a cleanup makes of the map.
use Rattle.std.specs.Prelude.{ℕ}
use Rattle.den_model.specs.Apply.{kept_pairs, kept_expiries}
use Rattle.den_model.specs.MapState.{MapState}

-- each key that has expired at the moment loses pair and expiry
abbrev pub cleaned_map : ℕ → MapState → MapState
cleaned_map moment s = record s { pairs = kept_pairs s.expiries moment s.pairs; expiries = kept_expiries moment s.expiries }
