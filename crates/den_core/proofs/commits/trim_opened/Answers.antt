use Rattle.std.proofs.Common.{◌≡◌, inl, refl, sym, ◌∙◌, ap, subst, arith}
use Rattle.std.specs.Result.{IsErrAnd}
use Rattle.den_codec.specs.declared.error.Error.TheVariants.{OutOfMemory}
use Rattle.den_model.specs.declared.log_id.LogId.{LogId}
use Rattle.den_model.specs.Grown.{HasTermOf}
use Rattle.den_state.specs.Machine.{rest_hold}
use Rattle.den_core.specs.Parts.{kv_of}
use Rattle.den_core.proofs.GoesOn.{disk_same}
use Rattle.den_core.proofs.Opened.{makes_among}
use Rattle.den_core.proofs.Quiet.{stays}
use Rattle.den_core.proofs.Refusing.{at_exit, not_done}
use Rattle.den_core.proofs.Spared.{all_at_rest, spares_still}
use Rattle.den_core.proofs.Trimming.{ends_last, last_within, not_led, stays_short}
use Rattle.den_core.proofs.Weighing.{last_among}
use Rattle.den_core.proofs.commits.trim_opened.Goals as goal

-- nothing is to be done
pub returns-then-stays-clause-makes : goal.returns-then-stays-clause-makes
returns-then-stays-clause-makes g c = record {
  goes_on = disk_same _ _ _ _ _;
  snapshot = λ told. spares_still _ _ _ _ _;
  same_most = refl;
  survives = λ told held.
      let engine = c.args.engine.now in
      let content = g.D.Disk.content c.args.disk.now in
      let ready = c.requires.stands.ready.1 in
      let rests = c.requires.stands.rests told in
      stays _ _ _ _ (kv_of (g.T.MetaStore.shown engine.meta).value (g.M.StateMachine.map engine.state) engine.running)
      (all_at_rest g.G.LogStore.holds.of g.T.MetaStore.holds.of g.M.StateMachine.holds.of _ _ content _ _ _ ready.caught_up (λ files. g.met.D.Disk.images_now c.args.disk.now files told)
      (λ files at. g.met.G.LogStore.lies.rests_hold held.0 engine.log content files ready.log rests.log at)
      (λ files at. g.met.T.MetaStore.lies.rests_hold held.1 engine.meta content files ready.meta rests.meta at)
      (λ files at. rest_hold g.met.M.StateMachine.lies held.2 engine.state (g.M.StateMachine.map engine.state) content files ready.state rests.state at));
  done = record { state = refl; logged = inl refl; weight = omega arith; ready = c.requires.stands.ready; rests = c.requires.stands.rests };
  refused = tt;
}

pub returns-then-stays-clause-short : goal.returns-then-stays-clause-short
returns-then-stays-clause-short g c =
    let engine = c.args.engine.now in
    stays_short engine.running.role (g.G.LogStore.shown engine.log).value engine.most c.leads.result c.is_long.result (g.met.G.LogStore.in_order engine.log) c.leads.ensures c.is_long.ensures c.if-stays.true

-- nothing was written
pub returns-in_err-id-clause-makes : goal.returns-in_err-id-clause-makes
returns-in_err-id-clause-makes g c =
    let exit : IsErrAnd c.from_residual.result (λ y. y ≡ OutOfMemory) = subst (λ e. IsErrAnd c.from_residual.result (λ y. y ≡ e)) c.in_err-id.ensures.refused c.from_residual.ensures.1 in
    record {
      goes_on = disk_same _ _ _ _ _;
      snapshot = λ told. spares_still _ _ _ _ _;
      same_most = refl;
      survives = λ told held.
          let engine = c.args.engine.now in
          let content = g.D.Disk.content c.args.disk.now in
          let ready = c.requires.stands.ready.1 in
          let rests = c.requires.stands.rests told in
          stays _ _ _ _ (kv_of (g.T.MetaStore.shown engine.meta).value (g.M.StateMachine.map engine.state) engine.running)
          (all_at_rest g.G.LogStore.holds.of g.T.MetaStore.holds.of g.M.StateMachine.holds.of _ _ content _ _ _ ready.caught_up (λ files. g.met.D.Disk.images_now c.args.disk.now files told)
          (λ files at. g.met.G.LogStore.lies.rests_hold held.0 engine.log content files ready.log rests.log at)
          (λ files at. g.met.T.MetaStore.lies.rests_hold held.1 engine.meta content files ready.meta rests.meta at)
          (λ files at. rest_hold g.met.M.StateMachine.lies held.2 engine.state (g.M.StateMachine.map engine.state) content files ready.state rests.state at));
      done = not_done c.from_residual.result OutOfMemory _ exit;
      refused = at_exit c.from_residual.result OutOfMemory _ exit (record {
        cause = tt;
        full = tt;
        left = inl (record { same_kv = refl; same_waits = refl; same_log = refl; same_weight = refl; same_disk = refl; stays_short = λ short. short; stays_ready = λ ready. ready; stays_at_rest = λ told rests. rests });
      });
    }

-- the map has each entry of the log
pub trim_to-requires-clause-within : goal.trim_to-requires-clause-within
trim_to-requires-clause-within g c =
    let engine = c.args.engine.now in
    omega (arith, last_within (g.G.LogStore.shown engine.log).value (g.M.StateMachine.map engine.state) c.requires.stands.ready.1.caught_up, ap (λ (i : LogId). i.index) (rw c.in-Some.is at c.in_ok-id.ensures.id))

pub trim_to-requires-clause-ends : goal.trim_to-requires-clause-ends
trim_to-requires-clause-ends g c =
    let engine = c.args.engine.now in
    let l = (g.G.LogStore.shown engine.log).value in
    subst (HasTermOf l) (sym (rw c.in-Some.is at c.in_ok-id.ensures.id)) (ends_last l (g.met.G.LogStore.in_order engine.log))

-- the core does not lead
pub returns-in-Some-clause-makes : goal.returns-in-Some-clause-makes
returns-in-Some-clause-makes g c =
    let engine = c.args.engine.now in
    makes_among _ _ _ _ _ _ _ _ _ _ _ _
    (last_among engine.running.role engine.most (g.G.LogStore.shown engine.log).value (sym c.leads.ensures ∙ not_led c.leads.result c.is_long.result c.if-stays.false) c.in-Some.id (rw c.in-Some.is at c.in_ok-id.ensures.id))
    c.trim_to.ensures.makes
