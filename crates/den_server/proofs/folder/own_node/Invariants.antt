use Rattle.std.proofs.Common.{◌≡◌, drop}
use Rattle.den_codec.specs.Nodes.{has_id}
use Rattle.den_server.proofs.folder.own_node.Given as goal

abbrev pub invariant-loop-node : goal.invariant-loop-node
invariant-loop-node l = has_id l.config.cluster.node_id (drop l.node-index l.node-items) ≡ has_id l.config.cluster.node_id l.node-items
