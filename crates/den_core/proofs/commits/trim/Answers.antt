use Rattle.std.proofs.Common.{ap, arith}
use Rattle.den_model.specs.declared.log_id.LogId.{LogId}
use Rattle.den_core.proofs.Trimming.{last_within}
use Rattle.den_core.proofs.commits.trim.Goals as goal

-- the map has each entry of the log
pub trim_to-requires-clause-last : goal.trim_to-requires-clause-last
trim_to-requires-clause-last g c =
    let engine = c.args.engine.now in
    omega (arith, last_within (g.G.LogStore.shown engine.log).value (g.M.StateMachine.map engine.state) c.requires.stands.ready.1.caught_up, ap (λ (i : LogId). i.index) c.last_applied-applied.ensures)
