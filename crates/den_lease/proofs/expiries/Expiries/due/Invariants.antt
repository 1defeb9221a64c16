use Rattle.std.proofs.Common.{◌≡◌, []}
use Rattle.den_lease.proofs.Schedules.{gather}
use Rattle.den_lease.proofs.expiries.Expiries.due.Given as goal

-- what is gathered from here makes what all would
abbrev pub invariant-loop-entry : goal.invariant-loop-entry
invariant-loop-entry l = gather l.moment l.entry-iterator l.due ≡ gather l.moment l.initial.entry-iterator []
