-- Laws of what a client reads.
use Rattle.std.specs.Prelude.{◌≡◌, ℕ, List, filter_map, map}
use Rattle.den_model.specs.Apply.{value_at}
use Rattle.den_model.specs.Kv.{Durable}
use Rattle.den_model.specs.Step.{held_pair}
use Rattle.den_client.specs.Mapped.{values_in}

-- of the pairs that a read of keys finds each key is given its value in the map, one that was asked for twice at both places
abbrev pub ReadsGiveValues : Type 0
ReadsGiveValues = (d : Durable) (keys : List (List ℕ)) → values_in keys (filter_map (held_pair d) keys) ≡ map (value_at d) keys
