use Rattle.std.proofs.Common.{◌≡◌, ap, map, List, subst}
use Rattle.std.specs.Prelude.{IfOk}
use Rattle.den_model.specs.declared.reply.NodeMeta.{NodeMeta}
use Rattle.den_member.specs.Numbered.{Numbered}
use Rattle.den_member.proofs.Members.{all_pass}
use Rattle.den_member.proofs.inner.InnerState.all_nodes.Goals as goal

pub returns-clause-nodes : goal.returns-clause-nodes
returns-clause-nodes c = subst (λ (nodes : List NodeMeta). IfOk c.nodes_that.result (λ got. got ≡ nodes)) (ap (λ (t : Numbered NodeMeta). map (λ e. e.1) t) (all_pass c.args.self.now.nodes)) c.nodes_that.ensures.nodes
