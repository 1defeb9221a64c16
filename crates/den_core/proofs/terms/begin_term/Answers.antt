use Rattle.std.proofs.Common.{◌+◌, IsTrue, inl, refl, ap, sym, subst, ◌∙◌, arith}
use Rattle.den_model.specs.Image.{term_of}
use Rattle.den_core.specs.Parts.{kv_of, running_seen}
use Rattle.den_core.proofs.GoesOn.{disk_twice}
use Rattle.den_core.proofs.Spared.{spares_twice}
use Rattle.den_core.specs.Full.{IsSlotTooShort}
use Rattle.den_core.specs.PayloadSizes.{step_sizes}
use Rattle.den_core.specs.Weights.{term_rise}
use Rattle.den_core.proofs.Weighing.{heavier, same_short, short_slot}
use Rattle.den_model.specs.Step.{Noop, Raise}
use Rattle.den_disk.specs.Files.{Kind}
use Rattle.den_core.proofs.Steps.{noop_begun, raise_among, raise_begun, raised_is, term_begun, term_log, term_made, term_state, term_trimmed}
use Rattle.den_core.proofs.Refusing.{at_exit, fails_behind, left_weaker, not_done, refusal_behind}
use Rattle.den_core.proofs.terms.begin_term.Goals as goal

pub returns-in_err-raise-clause-makes : goal.returns-in_err-raise-clause-makes
returns-in_err-raise-clause-makes g c =
    let makes = c.in_err-raise.ensures.makes in
    record {
      goes_on = makes.goes_on;
      same_most = makes.same_most;
      snapshot = makes.snapshot;
      survives = λ told held.
          let engine = c.args.engine.now in
          term_begun _ _ _ _ (kv_of (g.T.MetaStore.shown engine.meta).value (g.M.StateMachine.map engine.state) engine.running) c.args.time (c.raise.ensures.makes.moves told held);
      done = not_done c.from_residual.result c.in_err-raise.field-0.0 _ c.from_residual.ensures.1;
      refused = at_exit c.from_residual.result c.in_err-raise.field-0.0 _ c.from_residual.ensures.1 (record {
        cause = makes.refused.cause;
        full = heavier _ _ _ _ _ _ _ _ c.in_err-raise.field-0.0 (λ t. t)
            (λ needed t short.
            let engine = c.args.engine.now in
            record {
              kv = kv_of (g.T.MetaStore.shown engine.meta).value (g.M.StateMachine.map engine.state) engine.running;
              log = (g.G.LogStore.shown engine.log).value;
              next = Raise;
              is_begun = raise_begun _ _ c.args.time;
              short = short_slot _ _ _ _ needed _ (raise_among (g.K.Core.view engine.core).id (g.T.MetaStore.shown engine.meta).value (g.M.StateMachine.map engine.state) engine.running) (omega arith) short;
            })
            refl (omega arith) makes.refused.full;
        left = left_weaker c.in_err-raise.field-0.0 _ _ _ _ (λ joined. absurd (omega (arith, joined.some))) makes.refused.left;
      });
    }

-- the term is raised and lacks its first entry
pub returns-in_err-commit_and_trim-clause-makes : goal.returns-in_err-commit_and_trim-clause-makes
returns-in_err-commit_and_trim-clause-makes g c =
    let raised = c.in_ok-raise.ensures in
    let makes = c.in_err-commit_and_trim.ensures.makes in
    record {
      goes_on = disk_twice _ _ _ _ _ _ _ raised.makes.goes_on makes.goes_on;
      same_most = makes.same_most ∙ raised.makes.same_most;
      snapshot = spares_twice _ _ _ _ _ _ _ _ _ raised.makes.goes_on makes.goes_on raised.makes.snapshot makes.snapshot;
      survives = λ told held.
          let then : IsTrue (g.D.Disk.kind c.raise.new.disk).tells = subst (λ k. IsTrue k.tells) (sym c.raise.ensures.makes.goes_on.same) told in
          let engine = c.args.engine.now in
          let kv = kv_of (g.T.MetaStore.shown engine.meta).value (g.M.StateMachine.map engine.state) engine.running in
          term_made _ _ _ _ _ _ kv _ c.args.time
          (raised_is _ (g.T.MetaStore.shown engine.meta).value _ _ _ _ _ c.in_ok-raise.ensures.raised c.raise.ensures.map c.raise.ensures.running)
          (c.commit_and_trim.ensures.makes.goes_on.told then).past (c.raise.ensures.makes.moves told held) (c.commit_and_trim.ensures.makes.moves then held);
      done = not_done c.from_residual-in_err-commit_and_trim.result c.in_err-commit_and_trim.field-0.0 _ c.from_residual-in_err-commit_and_trim.ensures.1;
      refused = at_exit c.from_residual-in_err-commit_and_trim.result c.in_err-commit_and_trim.field-0.0 _ c.from_residual-in_err-commit_and_trim.ensures.1 (record {
        cause = refusal_behind _ _ _ _ c.in_err-commit_and_trim.field-0.0 (λ rose. omega (arith, rose, raised.makes.goes_on.counts)) (ap (λ (k : Kind). k.limit) raised.makes.goes_on.same) makes.refused.cause;
        full = heavier _ _ _ _ _ _ _ _ c.in_err-commit_and_trim.field-0.0 (λ t. (subst (λ k. IsTrue k.tells) (sym c.raise.ensures.makes.goes_on.same) t.0, t.1))
            (λ needed t short.
            let engine = c.args.engine.now in
            let then = c.raise.new.engine in
            let kv = kv_of (g.T.MetaStore.shown then.meta).value (g.M.StateMachine.map then.state) then.running in
            let log = (g.G.LogStore.shown then.log).value in
            let most = (g.G.LogStore.shown engine.log).weight + (g.T.MetaStore.shown engine.meta).weight + (g.M.StateMachine.shown engine.state).weight + term_rise in
            let files = (g.D.Disk.content c.commit_and_trim.new.disk).reading in
            record {
              kv = kv;
              log = log;
              next = Noop c.args.time;
              is_begun = noop_begun _ _ _ _ c.args.time
                  (raised_is _ (g.T.MetaStore.shown engine.meta).value _ _ _ _ _ raised.raised c.raise.ensures.map c.raise.ensures.running) c.raise.ensures.log;
              short = subst (λ n. IsSlotTooShort (step_sizes n log kv (Noop c.args.time)) most needed files) raised.makes.same_most (same_short _ _ most needed files (omega (arith, raised.makes.done.weight)) short);
            })
            (ap (λ (k : Kind). k.limit) raised.makes.goes_on.same) (omega (arith, raised.makes.done.weight)) makes.refused.full;
        left = fails_behind c.in_err-commit_and_trim.field-0.0 _ _ _ (inl (c.in_err-commit_and_trim.ensures.still refl))
            (ap (λ m. term_of (g.T.MetaStore.shown m).value) c.commit_and_trim.ensures.meta ∙ ap term_of raised.raised);
      });
    }

-- the first entry is in the log
pub returns-clause-makes : goal.returns-clause-makes
returns-clause-makes g c =
    let engine = c.args.engine.now in
    let raised = c.in_ok-raise.ensures in
    let makes = c.in_ok-commit_and_trim.ensures.makes in
    let between = raised_is _ (g.T.MetaStore.shown engine.meta).value _ _ _ _ _ c.in_ok-raise.ensures.raised c.raise.ensures.map c.raise.ensures.running in
    record {
      goes_on = disk_twice _ _ _ _ _ _ _ raised.makes.goes_on makes.goes_on;
      same_most = makes.same_most ∙ raised.makes.same_most;
      snapshot = spares_twice _ _ _ _ _ _ _ _ _ raised.makes.goes_on makes.goes_on raised.makes.snapshot makes.snapshot;
      survives = λ told held.
          let then : IsTrue (g.D.Disk.kind c.raise.new.disk).tells = subst (λ k. IsTrue k.tells) (sym c.raise.ensures.makes.goes_on.same) told in
          let engine = c.args.engine.now in
          let kv = kv_of (g.T.MetaStore.shown engine.meta).value (g.M.StateMachine.map engine.state) engine.running in
          term_made _ _ _ _ _ _ kv _ c.args.time
          (raised_is _ (g.T.MetaStore.shown engine.meta).value _ _ _ _ _ c.in_ok-raise.ensures.raised c.raise.ensures.map c.raise.ensures.running)
          (c.commit_and_trim.ensures.makes.goes_on.told then).past (c.raise.ensures.makes.moves told held) (c.commit_and_trim.ensures.makes.moves then held);
      done = record {
        state = term_state _ _ _ _ c.args.time between makes.done.durable (ap running_seen c.commit_and_trim.ensures.running);
        logged = term_log _ _ _ (kv_of (g.T.MetaStore.shown engine.meta).value (g.M.StateMachine.map engine.state) engine.running) _ c.args.time between c.raise.ensures.log makes.done.logged;
        weight = omega (arith, raised.makes.done.weight, makes.done.weight);
        ready = c.in_ok-commit_and_trim.ensures.ready;
        rests = λ told. makes.done.rests (subst (λ k. IsTrue k.tells) (sym raised.makes.goes_on.same) told);
      };
      refused = tt;
    }

pub returns-clause-log : goal.returns-clause-log
returns-clause-log g c =
    let engine = c.args.engine.now in
    let raised = c.in_ok-raise.ensures in
    term_trimmed _ _ _ _ _ _ (kv_of (g.T.MetaStore.shown engine.meta).value (g.M.StateMachine.map engine.state) engine.running) _ c.args.time
    (raised_is _ (g.T.MetaStore.shown engine.meta).value _ _ _ _ _ raised.raised c.raise.ensures.map c.raise.ensures.running) c.raise.ensures.log raised.makes.same_most c.in_ok-commit_and_trim.ensures.trimmed
