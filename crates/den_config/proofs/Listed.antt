-- The nodes of an array, read one behind the other.
use Rattle.std.proofs.Common.{List, ◌++◌}
use Rattle.std.specs.Prelude.{Result, Ok}
use Rattle.toml.specs.View.{items_view}
use Rattle.toml.specs.declared.value.Value.{Value}
use Rattle.den_model.specs.declared.reply.NodeMeta.{NodeMeta}
use Rattle.den_codec.specs.declared.config_place.ConfigPlace.{ConfigPlace}
use Rattle.den_config.specs.Nodes.{nodes}
use Rattle.den_config.specs.Refusals.{and_then}

-- nodes in front of an outcome
abbrev pub onto : List NodeMeta → Result (List NodeMeta) ConfigPlace → Result (List NodeMeta) ConfigPlace
onto ns r = and_then r (λ more. Ok (ns ++ more))

-- nodes in front of those of values
abbrev pub in_front : List NodeMeta → List Value → Result (List NodeMeta) ConfigPlace
in_front ns vs = onto ns (nodes (items_view vs))
