use Rattle.std.proofs.Common.{◌≡◌, drop}
use Rattle.den_codec.specs.Nodes.{is_solo}
use Rattle.den_codec.proofs.config.is_solo.Given as goal

abbrev pub invariant-loop-node : goal.invariant-loop-node
invariant-loop-node l = is_solo l.own (drop l.node-index l.nodes) ≡ is_solo l.own l.nodes
