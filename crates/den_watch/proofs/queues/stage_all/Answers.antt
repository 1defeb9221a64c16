use Rattle.std.proofs.Common.{arith, ◌∙◌}
use Rattle.std.specs.Prelude.{OnErr, Result, Ok, Err}
use Rattle.den_model.specs.declared.watcher.Watcher.{Watcher}
use Rattle.den_model.specs.Step.{sees}
use Rattle.den_watch.specs.Queues.{staged}
use Rattle.den_watch.proofs.Walking.{any_item_at_first, maps_more, waiting_set}
use Rattle.den_watch.proofs.queues.stage_all.Goals as goal

pub loop-queue-preserved : goal.loop-queue-preserved
loop-queue-preserved c =
    let qs = c.loop-queue.queues in
    let i = c.loop-queue.queue-index in
    let q = c.queue-item.result in
    let p = c.stage.new.self in
    record {
      noted = maps_more (staged c.args.buffer c.args.change.now) c.args.queues.now qs i q p c.loop-queue.invariant.noted (omega arith) c.in_ok-stage.ensures.noted;
      waiting = waiting_set qs i q p c.in_ok-stage.ensures.waiting ∙ c.loop-queue.invariant.waiting;
    }

pub returns-in_err-stage-clause-waiting : goal.returns-in_err-stage-clause-waiting
returns-in_err-stage-clause-waiting c =
    waiting_set c.loop-queue.queues c.loop-queue.queue-index c.queue-item.result c.stage.new.self c.stage.ensures.waiting ∙ c.loop-queue.invariant.waiting

-- what holds, holds of any error
on_err : {T E P : Type 0} (r : Result T E) → P → OnErr r P
on_err (Ok x) h = tt
on_err (Err e) h = h

pub returns-in_err-stage-clause-seen : goal.returns-in_err-stage-clause-seen
returns-in_err-stage-clause-seen c =
    let p = λ (w : Watcher). sees w c.args.change.now.key in
    on_err c.from_residual.result
    (any_item_at_first p c.loop-queue.queues c.args.queues.now c.loop-queue.queue-index c.queue-item.result c.loop-queue.invariant.waiting (omega arith) c.in_err-stage.ensures.seen)
