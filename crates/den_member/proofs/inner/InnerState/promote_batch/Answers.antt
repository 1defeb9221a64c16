use Rattle.std.proofs.Common.{◌≡◌, subst, rules}
use Rattle.den_member.specs.Answers.{Comes}
use Rattle.den_member.specs.Changes.{promoted_all, status_or}
use Rattle.den_member.specs.Status.{status_number}
use Rattle.den_member.specs.declared.node_status.NodeStatus.{NodeStatus}
use Rattle.den_member.specs.declared.node_status.NodeStatus.TheVariants.{Active}
use Rattle.den_member.proofs.Members.{makes_from}
use Rattle.den_member.proofs.inner.InnerState.promote_batch.Goals as goal

pub returns : goal.returns
returns c =
    let is : c.status_or.result ≡ status_or c.args.new_status Active = search rules in
    makes_from c.promote_nodes.result c.args.self.now (promoted_all c.args.node_ids.now (status_number (status_or c.args.new_status Active)) c.args.self.now) c.promote_nodes.new.self
    (subst (λ (s : NodeStatus). Comes c.promote_nodes.result (promoted_all c.args.node_ids.now (status_number s) c.args.self.now) c.promote_nodes.new.self) is c.promote_nodes.ensures)
