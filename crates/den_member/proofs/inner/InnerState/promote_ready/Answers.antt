use Rattle.std.proofs.Common.{rules}
use Rattle.den_member.specs.Leading.{ready}
use Rattle.den_member.proofs.inner.InnerState.promote_ready.Goals as goal

pub returns : goal.returns
returns c = (c.update_node.ensures.made (ready c.args.status) (λ node after post. search rules)).members
