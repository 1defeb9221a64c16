use Rattle.den_core.proofs.Spared.{gives_now, gives_old, spares_none}
use Rattle.den_core.proofs.recovery.apply_all.Goals as goal
use Rattle.den_state.specs.Machine.{AtRest, rest_hold}

pub returns-then-is_empty-clause-own : goal.returns-then-is_empty-clause-own
returns-then-is_empty-clause-own g c = λ told held.
    let disk = c.args.disk.now in
    let state = c.args.state.now in
    gives_old _ _ _ _ _ _ (gives_now _ (AtRest (g.M.StateMachine.shown state) (g.M.StateMachine.map state)) _ _ _ _ (λ files. g.met.D.Disk.images_now disk files told)
    (λ files rest at. rest_hold g.met.M.StateMachine.lies held state (g.M.StateMachine.map state) (g.D.Disk.content disk) files c.requires.ready rest at) (c.requires.rests told))

pub returns-then-is_empty-clause-others : goal.returns-then-is_empty-clause-others
returns-then-is_empty-clause-others g c = λ told. spares_none _ _ _
