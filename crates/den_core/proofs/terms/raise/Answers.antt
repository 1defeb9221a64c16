use Rattle.std.proofs.Common.{◌+◌, Some, inl, inr, refl, sym, ap, subst, arith}
use Rattle.den_journal.proofs.Moving.{old_or_new}
use Rattle.den_core.specs.Joined.{durable_is}
use Rattle.den_core.specs.Parts.{GoesWith, durable_of, kv_of, raised_by}
use Rattle.den_core.specs.PayloadSizes.{hard_state_sizes}
use Rattle.den_core.proofs.Refusing.{at_exit, fails_or_stays, not_done, untouched_only}
use Rattle.den_core.proofs.Spared.{apart_own, gives_now, log_meta, meta_moves, snapshot_meta, spared, spares_by, state_meta}
use Rattle.den_core.proofs.Weighing.{full_by, hard_state_length, heavier, one_size, same_short}
use Rattle.den_core.proofs.terms.raise.Goals as goal
use Rattle.den_state.specs.Machine.{AtRest, rest_hold, rest_own}

-- the hard state was saved, or was not
pub returns-in_err-raise-clause-makes : goal.returns-in_err-raise-clause-makes
returns-in_err-raise-clause-makes g c =
    let D = g.D.Disk in
    let engine = c.args.engine.now in
    let writes = c.in_err-raise.ensures.writes in
    let h = (g.T.MetaStore.shown engine.meta).value in
    let raised = raised_by (g.K.Core.view engine.core).id h in
    record {
      goes_on = writes.goes_on;
      same_most = refl;
      snapshot = λ told. spares_by _ _ _ _ _ _ _ snapshot_meta ((writes.moves told).spares) ((writes.moves told).others);
      moves = λ told held.
          let disk = c.args.disk.now in
          let moves = writes.moves told in
          let caught = c.requires.ready.caught_up in
          meta_moves g.G.LogStore.holds.of g.T.MetaStore.holds.of g.M.StateMachine.holds.of _ _ _ _ _ _ _ _ _
          (durable_is _ h _ caught) (durable_is _ (Some raised) _ caught)
          (spared _ _ _ _ _ _ _ _ log_meta g.met.G.LogStore.lies.holds_own
          (gives_now _ (g.G.LogStore.shown engine.log).rests _ _ _ _ (λ files. g.met.D.Disk.images_now disk files told)
          (λ files rest at. g.met.G.LogStore.lies.rests_hold held.0 engine.log (D.content disk) files c.requires.ready.log rest at) (c.requires.rests told).log) moves.others)
          (old_or_new held.1 moves)
          (spared _ _ _ _ _ _ _ _ state_meta g.met.M.StateMachine.lies.holds_own
          (gives_now _ (AtRest (g.M.StateMachine.shown engine.state) (g.M.StateMachine.map engine.state)) _ _ _ _ (λ files. g.met.D.Disk.images_now disk files told)
          (λ files rest at. rest_hold g.met.M.StateMachine.lies held.2 engine.state (g.M.StateMachine.map engine.state) (D.content disk) files c.requires.ready.state rest at) (c.requires.rests told).state) moves.others);
      done = not_done c.from_residual.result c.in_err-raise.field-0.0 _ c.from_residual.ensures.1;
      refused = at_exit c.from_residual.result c.in_err-raise.field-0.0 _ c.from_residual.ensures.1 (record {
        cause = writes.refused.cause;
        full = heavier _ _ _ _ _ _ _ _ c.in_err-raise.field-0.0 (λ t. (t.0, t.1.1)) (λ needed t short. same_short (hard_state_sizes raised) _ _ needed _ (omega (arith, hard_state_length raised)) short) refl
            (omega (arith, hard_state_length raised))
            (full_by _ _ _ _ _ _ _ (hard_state_sizes raised) c.in_err-raise.field-0.0 (λ t n never. absurd never)
            (λ t n size. let small = one_size _ n size in (size, omega (arith, small)))
            writes.refused.full writes.refused.heavy);
        left = fails_or_stays _ _ c.in_err-raise.field-0.0 _ _ _ writes.refused.cause
            (λ memory.
            let same = untouched_only (λ lost. lost.may_be) (writes.refused.untouched memory) in
            inl (record {
              same_kv = ap (λ x. kv_of x (g.M.StateMachine.map engine.state) engine.running) same.same_value;
              same_waits = refl;
              same_log = refl;
              same_weight = ap (λ n. (g.G.LogStore.shown engine.log).weight + n + (g.M.StateMachine.shown engine.state).weight) same.same_weight;
              same_disk = same.same_disk;
              stays_short = λ short. short;
              stays_ready = λ ready. (
                ready.0,
                record {
                  log = ready.1.log;
                  meta = same.ready;
                  state = ready.1.state;
                  caught_up = ready.1.caught_up;
                  goes_with = subst (λ role. GoesWith role (g.M.StateMachine.settings engine.state).leased engine.running) (sym c.raise.ensures.same.same_role) ready.1.goes_with;
                  runs = ready.1.runs;
                },
              );
              stays_at_rest = λ told rests. record {
                log = subst (λ d. (g.G.LogStore.shown engine.log).rests (D.content d)) (sym same.same_disk) rests.log;
                meta = same.rests told;
                state = subst (λ d. AtRest (g.M.StateMachine.shown engine.state) (g.M.StateMachine.map engine.state) (D.content d)) (sym same.same_disk) rests.state;
              };
            }))
            (λ disk. inr (inr (inl (writes.refused.failed disk))));
      });
    }

-- it was saved
pub returns-clause-makes : goal.returns-clause-makes
returns-clause-makes g c =
    let D = g.D.Disk in
    let engine = c.args.engine.now in
    let writes = c.in_ok-raise.ensures.writes in
    let h = (g.T.MetaStore.shown engine.meta).value in
    let raised = raised_by (g.K.Core.view engine.core).id h in
    record {
      goes_on = writes.goes_on;
      same_most = refl;
      snapshot = λ told. spares_by _ _ _ _ _ _ _ snapshot_meta ((writes.moves told).spares) ((writes.moves told).others);
      moves = λ told held.
          let disk = c.args.disk.now in
          let moves = writes.moves told in
          let caught = c.requires.ready.caught_up in
          meta_moves g.G.LogStore.holds.of g.T.MetaStore.holds.of g.M.StateMachine.holds.of _ _ _ _ _ _ _ _ _
          (durable_is _ h _ caught) (durable_is _ (Some raised) _ caught)
          (spared _ _ _ _ _ _ _ _ log_meta g.met.G.LogStore.lies.holds_own
          (gives_now _ (g.G.LogStore.shown engine.log).rests _ _ _ _ (λ files. g.met.D.Disk.images_now disk files told)
          (λ files rest at. g.met.G.LogStore.lies.rests_hold held.0 engine.log (D.content disk) files c.requires.ready.log rest at) (c.requires.rests told).log) moves.others)
          (old_or_new held.1 moves)
          (spared _ _ _ _ _ _ _ _ state_meta g.met.M.StateMachine.lies.holds_own
          (gives_now _ (AtRest (g.M.StateMachine.shown engine.state) (g.M.StateMachine.map engine.state)) _ _ _ _ (λ files. g.met.D.Disk.images_now disk files told)
          (λ files rest at. rest_hold g.met.M.StateMachine.lies held.2 engine.state (g.M.StateMachine.map engine.state) (D.content disk) files c.requires.ready.state rest at) (c.requires.rests told).state) moves.others);
      done = record {
        durable = ap (λ x. durable_of x (g.M.StateMachine.map engine.state)) writes.done.value;
        logged = inl refl;
        weight = omega (arith, writes.done.weight, hard_state_length raised);
        rests = λ told. record {
          log = g.met.G.LogStore.lies.rests_own engine.log _ _ (apart_own _ _ _ _ log_meta ((writes.moves told).spares)) (c.requires.rests told).log;
          meta = writes.done.rests told;
          state = rest_own g.met.M.StateMachine.lies engine.state (g.M.StateMachine.map engine.state) _ _ (apart_own _ _ _ _ state_meta ((writes.moves told).spares)) (c.requires.rests told).state;
        };
      };
      refused = tt;
    }

-- the three go together still
pub returns-clause-ready : goal.returns-clause-ready
returns-clause-ready g c =
    let engine = c.args.engine.now in
    record {
      log = c.requires.ready.log;
      meta = c.in_ok-raise.ensures.writes.done.ready;
      state = c.requires.ready.state;
      caught_up = c.requires.ready.caught_up;
      goes_with = subst (λ role. GoesWith role (g.M.StateMachine.settings engine.state).leased engine.running) (sym c.raise.ensures.same.same_role) c.requires.ready.goes_with;
      runs = c.requires.ready.runs;
    }
