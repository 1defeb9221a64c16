use Rattle.std.proofs.Common.{◌≡◌, ◌++◌, filter, map}
use Rattle.den_member.specs.Queries.{passes}
use Rattle.den_member.proofs.inner.InnerState.nodes_that.Given as goal

-- those so far, and those among the rest
abbrev pub invariant-loop-id : goal.invariant-loop-id
invariant-loop-id l = l.nodes.items ++ map (λ e. e.1) (filter (passes l.filter) l.id-iterator) ≡ map (λ e. e.1) (filter (passes l.filter) l.self.nodes)
