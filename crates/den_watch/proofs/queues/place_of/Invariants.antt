use Rattle.std.proofs.Common.{◌≡◌, drop}
use Rattle.std.specs.List.{list_any}
use Rattle.den_watch.specs.Queues.{waiting_in}
use Rattle.den_watch.specs.Registry.{is_numbered}
use Rattle.den_watch.proofs.queues.place_of.Given as goal

-- whether one of those that are left has the number
abbrev pub invariant-loop-place : goal.invariant-loop-place
invariant-loop-place l = list_any (is_numbered l.number) (waiting_in (drop l.place l.queues)) ≡ list_any (is_numbered l.number) (waiting_in l.queues)
