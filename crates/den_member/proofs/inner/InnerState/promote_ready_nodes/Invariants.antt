use Rattle.std.proofs.Common.{◌≡◌, drop}
use Rattle.den_member.specs.Leading.{readied}
use Rattle.den_member.proofs.inner.InnerState.promote_ready_nodes.Given as goal

-- what is left to do comes to the whole
abbrev pub invariant-loop-node_id : goal.invariant-loop-node_id
invariant-loop-node_id l = readied (drop l.node_id-index l.node_ids) l.status l.self ≡ readied l.node_ids l.status l.fn.self
