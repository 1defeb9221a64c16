use Rattle.std.proofs.Common.{◌≡◌, ◌++◌}
use Rattle.den_member.proofs.inner.InnerState.copy.Given as goal

-- the nodes so far, and the rest
abbrev pub invariant-loop-id : goal.invariant-loop-id
invariant-loop-id l = l.nodes.entries ++ l.id-iterator ≡ l.self-inside.nodes.entries
