use Rattle.std.proofs.Common.{◌≡◌, drop}
use Rattle.den_member.specs.Changes.{promoted_all}
use Rattle.den_member.specs.Status.{status_number}
use Rattle.den_member.proofs.inner.InnerState.promote_nodes.Given as goal

-- what is left to do comes to the whole
abbrev pub invariant-loop-node_id : goal.invariant-loop-node_id
invariant-loop-node_id l = promoted_all (drop l.node_id-index l.node_ids) (status_number l.status) l.self ≡ promoted_all l.node_ids (status_number l.status) l.fn.self
