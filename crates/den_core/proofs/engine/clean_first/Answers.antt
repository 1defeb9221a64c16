use Rattle.std.proofs.Common.{refl, arith}
use Rattle.den_state.specs.Machine.{rest_hold}
use Rattle.den_core.specs.Parts.{kv_of}
use Rattle.den_core.proofs.GoesOn.{disk_same}
use Rattle.den_core.proofs.Spared.{all_at_rest, spares_still}
use Rattle.den_core.proofs.Cleaned.{first_none, none_logged, none_state, none_survives}
use Rattle.den_core.proofs.engine.clean_first.Goals as goal

-- no lease is configured
pub returns-then-not-engine-clause-makes : goal.returns-then-not-engine-clause-makes
returns-then-not-engine-clause-makes g c =
    let engine = c.args.engine.now in
    let l = (g.G.LogStore.shown engine.log).value in
    let kv = kv_of (g.T.MetaStore.shown engine.meta).value (g.M.StateMachine.map engine.state) engine.running in
    let none = first_none kv c.args.time c.if-not-engine.true in
    record {
      goes_on = disk_same _ _ _ _ _;
      snapshot = λ told. spares_still _ _ _ _ _;
      same_most = refl;
      survives = λ told held.
          let content = g.D.Disk.content c.args.disk.now in
          let ready = c.requires.stands.ready.1 in
          let rests = c.requires.stands.rests told in
          none_survives _ _ _ _ kv _ none
          (all_at_rest g.G.LogStore.holds.of g.T.MetaStore.holds.of g.M.StateMachine.holds.of _ _ content _ _ _ ready.caught_up (λ files. g.met.D.Disk.images_now c.args.disk.now files told)
          (λ files at. g.met.G.LogStore.lies.rests_hold held.0 engine.log content files ready.log rests.log at)
          (λ files at. g.met.T.MetaStore.lies.rests_hold held.1 engine.meta content files ready.meta rests.meta at)
          (λ files at. rest_hold g.met.M.StateMachine.lies held.2 engine.state (g.M.StateMachine.map engine.state) content files ready.state rests.state at));
      done = record { state = none_state kv _ none; logged = none_logged l kv _ none; weight = omega arith; ready = c.requires.stands.ready; rests = c.requires.stands.rests };
      refused = tt;
    }
