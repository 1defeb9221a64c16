use Rattle.std.proofs.Common.{◌≡◌, ◌<◌, [], inl, inr, refl, sym, ◌∙◌, arith}
use Rattle.den_journal.proofs.Moving.{old_or_new}
use Rattle.den_model.specs.Log.{above, floor}
use Rattle.den_state.specs.Machine.{AtRest, rest_hold, rest_own}
use Rattle.den_core.specs.Joined.{durable_is}
use Rattle.den_core.specs.Parts.{kv_of}
use Rattle.den_core.proofs.GoesOn.{disk_same}
use Rattle.den_core.proofs.Quiet.{stays}
use Rattle.den_core.proofs.Refusing.{at_exit, fails_or_stays, not_done, untouched_only}
use Rattle.den_core.proofs.Spared.{all_at_rest, apart_own, gives_now, log_moves, meta_log, same_gives, snapshot_log, spared, spares_by, spares_still, state_log}
use Rattle.den_core.proofs.Trimming.{few_entries, mark_above, none_behind, purged_long, stays_whole, trimmed_caught_up, trimmed_is, trimmed_short, trimmed_words}
use Rattle.den_core.specs.PayloadSizes.{trim_sizes}
use Rattle.den_core.proofs.Weighing.{full_by, heavier, same_short}
use Rattle.den_core.proofs.commits.trim_to.Goals as goal

-- the log is short
pub returns-then-not-is_long-clause-makes : goal.returns-then-not-is_long-clause-makes
returns-then-not-is_long-clause-makes g c = record {
  goes_on = disk_same _ _ _ _ _;
  snapshot = λ told. spares_still _ _ _ _ _;
  same_most = refl;
  survives = λ told held.
      let engine = c.args.engine.now in
      let content = g.D.Disk.content c.args.disk.now in
      let ready = c.requires.stands.ready.1 in
      let rests = c.requires.stands.rests told in
      stays _ _ _ _ (kv_of (g.T.MetaStore.shown engine.meta).value (g.M.StateMachine.map engine.state) engine.running)
      (all_at_rest g.G.LogStore.holds.of g.T.MetaStore.holds.of g.M.StateMachine.holds.of _ _ content _ _ _ ready.caught_up (λ files. g.met.D.Disk.images_now c.args.disk.now files told)
      (λ files at. g.met.G.LogStore.lies.rests_hold held.0 engine.log content files ready.log rests.log at)
      (λ files at. g.met.T.MetaStore.lies.rests_hold held.1 engine.meta content files ready.meta rests.meta at)
      (λ files at. rest_hold g.met.M.StateMachine.lies held.2 engine.state (g.M.StateMachine.map engine.state) content files ready.state rests.state at));
  done = record { state = refl; logged = inl refl; weight = omega arith; ready = c.requires.stands.ready; rests = c.requires.stands.rests };
  refused = tt;
}

pub returns-then-not-is_long-clause-short : goal.returns-then-not-is_long-clause-short
returns-then-not-is_long-clause-short g c =
    let engine = c.args.engine.now in
    few_entries (g.G.LogStore.shown engine.log).value engine.most (g.met.G.LogStore.in_order engine.log) (sym c.is_long.ensures ∙ c.if-not-is_long.true)

-- the purge was begun
pub returns-in_err-purge-clause-makes : goal.returns-in_err-purge-clause-makes
returns-in_err-purge-clause-makes g c =
    let engine = c.args.engine.now in
    let l = (g.G.LogStore.shown engine.log).value in
    let h = (g.T.MetaStore.shown engine.meta).value in
    let s = g.M.StateMachine.map engine.state in
    let ready = c.requires.stands.ready.1 in
    let writes = c.in_err-purge.ensures.writes in
    let id = c.args.id in
    let none : above id.index l.entries ≡ [] = none_behind l id.index (g.met.G.LogStore.in_order engine.log) c.requires.last in
    let over : floor l < id.index = mark_above l id engine.most c.requires.last (sym c.is_long.ensures ∙ c.if-not-is_long.false) in
    record {
      goes_on = writes.goes_on;
      snapshot = λ told. spares_by _ _ _ _ _ _ _ snapshot_log ((writes.moves told).spares) ((writes.moves told).others);
      same_most = refl;
      survives = λ told held.
          let D = g.D.Disk in
          let disk = c.args.disk.now in
          let rests = c.requires.stands.rests told in
          let moves = writes.moves told in
          stays _ _ _ _ (kv_of h s engine.running) (same_gives _ _ _ _ _
          (log_moves g.G.LogStore.holds.of g.T.MetaStore.holds.of g.M.StateMachine.holds.of _ _ _ _ _ _ _ _ _
          (durable_is l h s ready.caught_up) (durable_is _ h s (trimmed_caught_up l id none over _ refl s c.requires.within))
          (old_or_new held.0 moves)
          (spared _ _ _ _ _ _ _ _ meta_log g.met.T.MetaStore.lies.holds_own
          (gives_now _ (g.T.MetaStore.shown engine.meta).rests _ _ _ _ (λ files. g.met.D.Disk.images_now disk files told)
          (λ files rest at. g.met.T.MetaStore.lies.rests_hold held.1 engine.meta (D.content disk) files ready.meta rest at) rests.meta) moves.others)
          (spared _ _ _ _ _ _ _ _ state_log g.met.M.StateMachine.lies.holds_own
          (gives_now _ (AtRest (g.M.StateMachine.shown engine.state) s) _ _ _ _ (λ files. g.met.D.Disk.images_now disk files told)
          (λ files rest at. rest_hold g.met.M.StateMachine.lies held.2 engine.state s (D.content disk) files ready.state rest at) rests.state) moves.others)));
      done = not_done c.from_residual.result c.in_err-purge.field-0.0 _ c.from_residual.ensures.1;
      refused = at_exit c.from_residual.result c.in_err-purge.field-0.0 _ c.from_residual.ensures.1 (record {
        cause = writes.refused.cause;
        full = heavier _ _ _ _ _ _ _ _ c.in_err-purge.field-0.0 (λ t. (t.0, t.1.0)) (λ needed t short. same_short (trim_sizes engine.most l id) _ _ needed _ (omega arith) short) refl (omega arith)
            (full_by _ _ _ _ _ _ _ (trim_sizes engine.most l id) c.in_err-purge.field-0.0 (λ t n never. absurd never)
            (λ t n size.
            let small = trimmed_words l id none n size in
            ((sym c.is_long.ensures ∙ c.if-not-is_long.false, size), omega (arith, small)))
            writes.refused.full writes.refused.heavy);
        left = fails_or_stays _ _ c.in_err-purge.field-0.0 _ _ _ writes.refused.cause
            (λ memory. inr (inl refl, (untouched_only (λ lost. lost.may_be) (writes.refused.untouched memory)).same_value)) (λ disk. inl refl);
      });
    }

-- the log is behind the mark
pub returns-clause-makes : goal.returns-clause-makes
returns-clause-makes g c =
    let engine = c.args.engine.now in
    let l = (g.G.LogStore.shown engine.log).value in
    let h = (g.T.MetaStore.shown engine.meta).value in
    let s = g.M.StateMachine.map engine.state in
    let ready = c.requires.stands.ready.1 in
    let writes = c.in_ok-purge.ensures.writes in
    let id = c.args.id in
    let none : above id.index l.entries ≡ [] = none_behind l id.index (g.met.G.LogStore.in_order engine.log) c.requires.last in
    let over : floor l < id.index = mark_above l id engine.most c.requires.last (sym c.is_long.ensures ∙ c.if-not-is_long.false) in
    let caught = trimmed_caught_up l id none over _ writes.done.value s c.requires.within in
    record {
      goes_on = writes.goes_on;
      snapshot = λ told. spares_by _ _ _ _ _ _ _ snapshot_log ((writes.moves told).spares) ((writes.moves told).others);
      same_most = refl;
      survives = λ told held.
          let D = g.D.Disk in
          let disk = c.args.disk.now in
          let rests = c.requires.stands.rests told in
          let moves = writes.moves told in
          stays _ _ _ _ (kv_of h s engine.running) (same_gives _ _ _ _ _
          (log_moves g.G.LogStore.holds.of g.T.MetaStore.holds.of g.M.StateMachine.holds.of _ _ _ _ _ _ _ _ _
          (durable_is l h s ready.caught_up) (durable_is _ h s (trimmed_caught_up l id none over _ refl s c.requires.within))
          (old_or_new held.0 moves)
          (spared _ _ _ _ _ _ _ _ meta_log g.met.T.MetaStore.lies.holds_own
          (gives_now _ (g.T.MetaStore.shown engine.meta).rests _ _ _ _ (λ files. g.met.D.Disk.images_now disk files told)
          (λ files rest at. g.met.T.MetaStore.lies.rests_hold held.1 engine.meta (D.content disk) files ready.meta rest at) rests.meta) moves.others)
          (spared _ _ _ _ _ _ _ _ state_log g.met.M.StateMachine.lies.holds_own
          (gives_now _ (AtRest (g.M.StateMachine.shown engine.state) s) _ _ _ _ (λ files. g.met.D.Disk.images_now disk files told)
          (λ files rest at. rest_hold g.met.M.StateMachine.lies held.2 engine.state s (D.content disk) files ready.state rest at) rests.state) moves.others)));
      done = record {
        state = refl;
        logged = trimmed_is l id none over _ writes.done.value s.mark.index c.requires.within c.requires.ends;
        weight = omega (arith, writes.done.weight);
        ready = (refl, record { log = writes.done.ready; meta = ready.meta; state = ready.state; caught_up = caught; goes_with = ready.goes_with; runs = ready.runs });
        rests = λ told. record {
          log = writes.done.rests told;
          meta = g.met.T.MetaStore.lies.rests_own engine.meta _ _ (apart_own _ _ _ _ meta_log ((writes.moves told).spares)) (c.requires.stands.rests told).meta;
          state = rest_own g.met.M.StateMachine.lies engine.state s _ _ (apart_own _ _ _ _ state_log ((writes.moves told).spares)) (c.requires.stands.rests told).state;
        };
      };
      refused = tt;
    }

pub returns-clause-short : goal.returns-clause-short
returns-clause-short g c =
    let engine = c.args.engine.now in
    let l = (g.G.LogStore.shown engine.log).value in
    trimmed_short l c.args.id (none_behind l c.args.id.index (g.met.G.LogStore.in_order engine.log) c.requires.last)
    (mark_above l c.args.id engine.most c.requires.last (sym c.is_long.ensures ∙ c.if-not-is_long.false)) _ c.in_ok-purge.ensures.writes.done.value engine.most

pub returns-then-not-is_long-clause-trimmed : goal.returns-then-not-is_long-clause-trimmed
returns-then-not-is_long-clause-trimmed g c =
    let engine = c.args.engine.now in
    stays_whole (g.G.LogStore.shown engine.log).value engine.most c.args.id (sym c.is_long.ensures ∙ c.if-not-is_long.true)

pub returns-clause-trimmed : goal.returns-clause-trimmed
returns-clause-trimmed g c =
    let engine = c.args.engine.now in
    purged_long (g.G.LogStore.shown engine.log).value _ engine.most c.args.id (sym c.is_long.ensures ∙ c.if-not-is_long.false) c.in_ok-purge.ensures.writes.done.value
