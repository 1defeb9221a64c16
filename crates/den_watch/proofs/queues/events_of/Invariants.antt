use Rattle.std.proofs.Common.{◌≡◌, ◌++◌, drop}
use Rattle.den_model.specs.Step.{events_of}
use Rattle.den_watch.specs.Queues.{watchers_in}
use Rattle.den_watch.proofs.queues.events_of.Given as goal

-- the events so far, and those of the watchers that are left
abbrev pub invariant-loop-queue : goal.invariant-loop-queue
invariant-loop-queue l = l.events.items ++ events_of (watchers_in (drop l.queue-index l.queues)) l.change ≡ events_of (watchers_in l.queues) l.change
