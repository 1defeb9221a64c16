use Rattle.std.proofs.Common.{arith}
use Rattle.den_core.proofs.Trimming.{floor_below}
use Rattle.den_core.proofs.commits.is_long.Goals as goal

pub overflow_sub-result : goal.overflow_sub-result
overflow_sub-result g c = omega (arith, floor_below (g.G.LogStore.shown c.args.log.now).value (g.met.G.LogStore.in_order c.args.log.now), c.floor.ensures, c.last_index.ensures)
