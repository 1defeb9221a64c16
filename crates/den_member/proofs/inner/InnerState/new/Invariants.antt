use Rattle.std.proofs.Common.{◌≡◌, []}
use Rattle.den_member.specs.Members.{joined}
use Rattle.den_member.proofs.inner.InnerState.new.Given as goal

-- those so far, with the rest, are all
abbrev pub invariant-loop-node : goal.invariant-loop-node
invariant-loop-node l = joined l.nodes.entries l.node-iterator.rest.items ≡ joined [] l.fn.initial_nodes
