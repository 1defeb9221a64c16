use Rattle.std.proofs.Common.{◌+◌, ◌&&◌, true, ap, arith}
use Rattle.std.proofs.lemmas.Bool.{le-leb}
use Rattle.den_model.specs.Log.{floor}
use Rattle.den_core.proofs.Trimming.{floor_below}
use Rattle.den_core.proofs.cores.add.Goals as goal

-- what is above the last index is above the boundary
pub persist_entries-requires-clause-rise : goal.persist_entries-requires-clause-rise
persist_entries-requires-clause-rise g c =
    let log = (g.G.LogStore.shown c.args.log.now).value in
    let below = floor_below log (g.met.G.LogStore.in_order c.args.log.now) in
    ap (λ b. b && true) (le-leb (floor log + 1) c.args.entry.index (omega (arith, below, c.requires.above)))
