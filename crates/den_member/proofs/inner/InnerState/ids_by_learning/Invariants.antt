use Rattle.std.proofs.Common.{◌≡◌, ◌++◌, filter, map}
use Rattle.den_member.specs.Snapshots.{learns}
use Rattle.den_member.proofs.inner.InnerState.ids_by_learning.Given as goal

-- those so far, and those among the rest
abbrev pub invariant-loop-id : goal.invariant-loop-id
invariant-loop-id l = l.ids.keys ++ map (λ e. e.0) (filter (learns l.learner) l.id-iterator) ≡ map (λ e. e.0) (filter (learns l.learner) l.self.nodes)
