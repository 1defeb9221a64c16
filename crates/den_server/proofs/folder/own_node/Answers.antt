use Rattle.den_server.proofs.Entered.{has_own}
use Rattle.den_server.proofs.folder.own_node.Goals as goal

pub unreachable-requires : goal.unreachable-requires
unreachable-requires c = has_own c.args.config.now.cluster.node_id c.args.config.now.cluster.initial_cluster c.as_slice-node-items.result.now c.loop-node.node-index
    c.as_slice-node-items.ensures c.args.config.now.cluster.named c.loop-node-test.false c.loop-node.invariant
