use Rattle.std.proofs.Common.{◌≡◌}
use Rattle.den_watch.specs.Queues.{staged, waiting_in}
use Rattle.den_watch.proofs.Walking.{MapsInPlace}
use Rattle.den_watch.proofs.queues.stage_all.Given as goal

-- the first of them are staged, and what waits is as it was
abbrev pub invariant-loop-queue : goal.invariant-loop-queue
invariant-loop-queue l = record {
  noted : MapsInPlace (staged l.buffer l.change) l.initial.queues l.queues l.queue-index;
  waiting : waiting_in l.queues ≡ waiting_in l.initial.queues;
}
