use Rattle.std.proofs.Common.{ap}
use Rattle.den_node.proofs.builder.NodeBuilder.from_cluster_config.Goals as goal

pub returns-in-Ok-clause-defaults : goal.returns-in-Ok-clause-defaults
returns-in-Ok-clause-defaults g c = (c.in-Ok.standard, c.in-Ok.ensures.standard, ap (λ b. b.config) c.from_node_config.ensures)
