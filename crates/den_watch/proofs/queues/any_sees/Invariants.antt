use Rattle.std.proofs.Common.{◌≡◌, drop}
use Rattle.std.specs.List.{list_any}
use Rattle.den_model.specs.Step.{sees}
use Rattle.den_watch.specs.Queues.{watchers_in}
use Rattle.den_watch.proofs.queues.any_sees.Given as goal

-- whether one of those that are left sees the key
abbrev pub invariant-loop-queue : goal.invariant-loop-queue
invariant-loop-queue l = list_any (λ w. sees w l.key) (watchers_in (drop l.queue-index l.queues)) ≡ list_any (λ w. sees w l.key) (watchers_in l.queues)
