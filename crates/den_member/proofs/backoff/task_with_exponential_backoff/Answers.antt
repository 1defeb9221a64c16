use Rattle.std.proofs.Common.{◌≡◌, sym, ap, arith, subst, of_calls}
use Rattle.den_member.proofs.Pauses.{fails_more, pause_then, pauses_next, pauses_then}
use Rattle.den_member.specs.declared.error.MemberError.TheVariants.{TaskBackoffFailed}
use Rattle.den_member.proofs.backoff.task_with_exponential_backoff.Goals as goal

pub returns-in-Ok-clause-tries : goal.returns-in-Ok-clause-tries
returns-in-Ok-clause-tries g c = (
  record {
    failed = c.loop-failed.failed;
    last = c.loop-failed.task;
    first = c.loop-failed.invariant.1;
    answer = (c.loop-failed-test.true, (c.task.new.self, subst (λ a. goal.F-step g c.loop-failed.task a c.task.new.self) c.in-Ok.is c.task.ensures));
  },
  λ tells. pauses_next c.args.policy c.loop-failed.failed (g.P.Pause.delays c.loop-failed.pause) (g.P.Pause.delays c.pause_before-delay.new.pause) (g.P.Pause.delays c.args.pause.now)
      (c.pause_before-delay.ensures.told tells) (c.loop-failed.invariant.3 (c.pause_before-delay.ensures.tells tells)),
)

pub loop-failed-preserved : goal.loop-failed-preserved
loop-failed-preserved g c = (
  search of_calls,
  fails_more (goal.F-step g) c.loop-failed.failed c.args.task c.loop-failed.task c.task.new.self c.in_default.field-0 c.loop-failed.invariant.1
      (subst (λ a. goal.F-step g c.loop-failed.task a c.task.new.self) c.in_default.is c.task.ensures),
  pause_then c.args.policy c.loop-failed.failed c.pause_before-delay.result c.pause_before-delay.ensures.next,
  λ tells. pauses_then c.args.policy c.loop-failed.failed (g.P.Pause.delays c.loop-failed.pause) (g.P.Pause.delays c.pause_before-delay.new.pause) (g.P.Pause.delays c.args.pause.now)
      (c.pause_before-delay.ensures.told tells) (c.loop-failed.invariant.3 (c.pause_before-delay.ensures.tells tells)),
  λ tells. c.loop-failed.invariant.4 (c.pause_before-delay.ensures.tells tells),
)

pub returns-clause-tries : goal.returns-clause-tries
returns-clause-tries g c =
    let all : c.loop-failed.failed ≡ c.args.policy.max_retries = omega (arith, c.loop-failed.auto.failed-end, c.loop-failed-test.false) in (
      record {
        failed = c.loop-failed.failed;
        last = c.loop-failed.task;
        first = c.loop-failed.invariant.1;
        answer = (all, sym (ap TaskBackoffFailed all));
      },
      c.loop-failed.invariant.3,
    )
