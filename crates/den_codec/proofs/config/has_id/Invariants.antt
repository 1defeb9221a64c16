use Rattle.std.proofs.Common.{◌≡◌, drop}
use Rattle.den_codec.specs.Nodes.{has_id}
use Rattle.den_codec.proofs.config.has_id.Given as goal

abbrev pub invariant-loop-node : goal.invariant-loop-node
invariant-loop-node l = has_id l.id (drop l.node-index l.nodes) ≡ has_id l.id l.nodes
