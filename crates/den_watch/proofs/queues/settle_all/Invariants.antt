use Rattle.den_watch.specs.Queues.{settled}
use Rattle.den_watch.proofs.Walking.{MapsInPlace}
use Rattle.den_watch.proofs.queues.settle_all.Given as goal

-- the first of them are settled
abbrev pub invariant-loop-queue : goal.invariant-loop-queue
invariant-loop-queue l = MapsInPlace settled l.initial.queues l.queues l.queue-index
