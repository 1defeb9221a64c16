use Rattle.std.proofs.Common.{rules}
use Rattle.den_member.specs.Changes.{promoted}
use Rattle.den_member.specs.Status.{status_number}
use Rattle.den_member.proofs.inner.InnerState.promote_node.Goals as goal

pub returns : goal.returns
returns c = c.update_node.ensures.made (promoted (status_number c.args.status)) (λ node after post. search rules)
