use Rattle.std.proofs.Common.{◌≡◌, ◌++◌, IsTrue, ◌-◌}
use Rattle.den_member.specs.Backoff.{FailsTimes, pause_behind, pauses_of}
use Rattle.den_member.proofs.backoff.task_with_exponential_backoff.Given as goal

-- the tries so far failed, each but the first behind a pause, and the next pause is known
abbrev pub invariant-loop-failed : goal.invariant-loop-failed
invariant-loop-failed g l =
    goal.F-IsAlwaysCallable g l.task
    × FailsTimes (goal.F-step g) l.failed l.fn.task l.task
    × (l.delay ≡ pause_behind l.policy (l.failed - 1))
    × (IsTrue (g.P.Pause.tells l.pause) → g.P.Pause.delays l.pause ≡ g.P.Pause.delays l.fn.pause ++ pauses_of l.policy (l.failed - 1))
    × (IsTrue (g.P.Pause.tells l.pause) → IsTrue (g.P.Pause.tells l.fn.pause))
