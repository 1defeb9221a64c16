use Rattle.std.proofs.Common.{rules}
use Rattle.den_member.specs.Changes.{with_status}
use Rattle.den_member.specs.Status.{status_number}
use Rattle.den_member.proofs.inner.InnerState.update_node_status.Goals as goal

pub returns : goal.returns
returns c = c.update_node.ensures.made (with_status (status_number c.args.status)) (λ node after post. search rules)
