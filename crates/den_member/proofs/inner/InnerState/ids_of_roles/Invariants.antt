use Rattle.std.proofs.Common.{◌≡◌, ◌++◌, ℤ, Bool, filter, map}
use Rattle.den_member.proofs.inner.InnerState.ids_of_roles.Given as goal

-- those so far, and those among the rest
abbrev pub invariant-loop-id : goal.invariant-loop-id
invariant-loop-id g l =
    goal.F-IsAlwaysCallable g l.condition
    × ((meets : ℤ → Bool) → ((role : ℤ) (answer : Bool) → goal.F-post g l.condition role answer → answer ≡ meets role) → l.ids.items ++ map (λ e. e.0) (filter (λ e. meets e.1.role) l.id-iterator) ≡ map (λ e. e.0) (filter (λ e. meets e.1.role) l.self.nodes))
