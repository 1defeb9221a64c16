-- The nodes of a cluster, of an array of tables.
use Rattle.std.specs.Prelude.{ℕ, pos, List, [], ◌∷◌, Option, Some, None, Result, Ok, Err, ok_or, codes, if◌then◌else◌}
use Rattle.toml.specs.Data.{Data, Items, no_items, item, as_str, as_array}
use Rattle.den_model.specs.declared.reply.NodeMeta.{NodeMeta}
use Rattle.den_codec.specs.Nodes.{is_cluster}
use Rattle.den_codec.specs.Standard.{standard_nodes}
use Rattle.den_codec.specs.declared.config_place.ConfigPlace.{ConfigPlace}
use Rattle.den_codec.specs.declared.config_place.ConfigPlace.TheVariants.{InitialCluster}
use Rattle.den_config.specs.Places.{Standing, missing, holds, blocked, below, place}
use Rattle.den_config.specs.Refusals.{and_then}
use Rattle.den_config.specs.Values.{between, value_at, value_or}

-- a node: its id of 32 bits and its address, its role up to 3 or else 0, and its status up to 2 or else 2
unfoldable pub node : Data → Result NodeMeta ConfigPlace
node d =
    and_then (ok_or (value_at (between 0 4294967295) (below (codes "id") (holds d))) InitialCluster) (λ id.
    and_then (ok_or (value_at as_str (below (codes "address") (holds d))) InitialCluster) (λ address.
    and_then (ok_or (value_or 0 (between 0 3) (below (codes "role") (holds d))) InitialCluster) (λ role.
    and_then (ok_or (value_or 2 (between 0 2) (below (codes "status") (holds d))) InitialCluster) (λ status.
    Ok (record { id = id; address = address; role = pos role; status = pos status })))))

-- a node of each table
abbrev pub nodes : Items → Result (List NodeMeta) ConfigPlace
nodes no_items = Ok []
nodes (item d ds) = and_then (node d) (λ n. and_then (nodes ds) (λ ns. Ok (n ∷ ns)))

-- the nodes of an array, and of no other value
abbrev pub listed : Option Items → Result (List NodeMeta) ConfigPlace
listed (Some ds) = nodes ds
listed None = Err InitialCluster

-- the nodes that stand at a place, or the default
abbrev pub nodes_or_standard : Standing → Result (List NodeMeta) ConfigPlace
nodes_or_standard missing = Ok standard_nodes
nodes_or_standard (holds d) = listed (as_array d)
nodes_or_standard blocked = Err InitialCluster

-- nodes whose ids differ, this node's among them
abbrev pub with_own : ℕ → List NodeMeta → Result (List NodeMeta) ConfigPlace
with_own own ns = if is_cluster own ns then Ok ns else Err InitialCluster

-- the nodes of the configuration
unfoldable pub cluster_nodes : ℕ → Data → Result (List NodeMeta) ConfigPlace
cluster_nodes own root = and_then (nodes_or_standard (place InitialCluster root)) (with_own own)
