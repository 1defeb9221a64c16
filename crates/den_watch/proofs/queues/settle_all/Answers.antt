use Rattle.std.proofs.Common.{arith}
use Rattle.den_watch.specs.Queues.{settled}
use Rattle.den_watch.proofs.Walking.{maps_more}
use Rattle.den_watch.proofs.queues.settle_all.Goals as goal

pub loop-queue-preserved : goal.loop-queue-preserved
loop-queue-preserved c = maps_more settled c.args.queues.now c.loop-queue.queues c.loop-queue.queue-index c.queue-item.result c.settle.new.self c.loop-queue.invariant (omega arith) c.settle.ensures
