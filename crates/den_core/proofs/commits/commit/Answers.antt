use Rattle.std.proofs.Common.{◌≡◌, length, IsTrue, IfErr, [], ◌∷◌, ◌+◌, Some, inl, inr, refl, sym, ap, subst, ◌∙◌, arith}
use Rattle.den_disk.specs.Families.{OldOrNew}
use Rattle.den_journal.proofs.Moving.{old_or_new}
use Rattle.den_disk.specs.Files.{Kind}
use Rattle.den_model.specs.declared.region.LogRegion.TheVariants.{Append}
use Rattle.den_model.specs.Image.{durable, joined}
use Rattle.den_model.specs.MapState.{map_applied}
use Rattle.den_model.specs.Sizes.{entries_size}
use Rattle.den_codec.specs.declared.error.Error.TheVariants.{OutOfMemory}
use Rattle.den_model.specs.Log.{changed}
use Rattle.den_core.specs.Joined.{durable_is}
use Rattle.den_core.specs.Parts.{durable_of, kv_of}
use Rattle.den_core.proofs.Committing.{chunk_refusal, copied, next_above}
use Rattle.den_core.proofs.GoesOn.{disk_same, disk_twice}
use Rattle.den_disk.specs.Goes.{Rose}
use Rattle.den_journal.specs.Causes.{IsRefusal}
use Rattle.den_core.proofs.Durables.{logged_is, applied_again, applied_is, applied_next, caught_up_now, next_index, next_is}
use Rattle.den_core.proofs.Spared.{all_at_rest, gives_now, gives_old, spares_still, spared, apart_own, log_moves, state_moves, moves_then, meta_log, state_log, log_state, meta_state, snapshot_log, snapshot_state, spares_by, spares_twice}
use Rattle.den_store.specs.Folds.{log_rises}
use Rattle.den_core.specs.PayloadSizes.{entry_sizes}
use Rattle.den_core.proofs.Weighing.{chunk_among, entry_is, full_by, heavier, heavier_out, same_short, short_slot}
use Rattle.den_model.specs.Entries.{LogEntry}
use Rattle.den_model.specs.Spelling.{log_region_word}
use Rattle.den_model.specs.Step.{next_entry}
use Rattle.den_core.proofs.Refusing.{at_exit, fails_behind, fails_or_stays, if_err_three, not_done, refusal_behind, untouched_only}
use Rattle.den_core.specs.Cores.{CoreView}
use Rattle.den_core.specs.Parts.{GoesWith, IsCaughtUp}
use Rattle.den_core.proofs.Trimming.{ends_with}
use Rattle.den_core.proofs.commits.commit.Goals as goal
use Rattle.den_state.specs.Machine.{AtRest, Settings, rest_hold, rest_own}

-- nothing was written
pub returns-in_err-copy-clause-makes : goal.returns-in_err-copy-clause-makes
returns-in_err-copy-clause-makes g c = record {
  goes_on = disk_same _ _ _ _ _;
  same_most = refl;
  snapshot = λ told. spares_still _ _ _ _ _;
  moves = λ told held.
      let engine = c.args.engine.now in
      let content = g.D.Disk.content c.args.disk.now in
      let ready = c.requires.ready in
      let rests = c.requires.rests told in
      gives_old _ _ _ _ _ _
      (all_at_rest g.G.LogStore.holds.of g.T.MetaStore.holds.of g.M.StateMachine.holds.of _ _ content _ (g.T.MetaStore.shown engine.meta).value _ ready.caught_up (λ files. g.met.D.Disk.images_now c.args.disk.now files told)
      (λ files at. g.met.G.LogStore.lies.rests_hold held.0 engine.log content files ready.log rests.log at)
      (λ files at. g.met.T.MetaStore.lies.rests_hold held.1 engine.meta content files ready.meta rests.meta at)
      (λ files at. rest_hold g.met.M.StateMachine.lies held.2 engine.state (g.M.StateMachine.map engine.state) content files ready.state rests.state at));
  done = not_done c.from_residual.result OutOfMemory _ c.from_residual.ensures.1;
  refused = at_exit c.from_residual.result OutOfMemory _ c.from_residual.ensures.1 (record {
    cause = tt;
    full = tt;
    left = inl (record { same_kv = refl; same_waits = refl; same_log = refl; same_weight = refl; same_disk = refl; stays_short = λ short. short; stays_ready = λ ready. ready; stays_at_rest = λ told rests. rests });
  });
}

-- the log ends at the map's mark
pub commit-requires-clause-above : goal.commit-requires-clause-above
commit-requires-clause-above g c =
    let engine = c.args.engine.now in
    let s = g.M.StateMachine.map engine.state in
    next_above (g.G.LogStore.shown engine.log).value s c.of-entry.result c.requires.ready.caught_up (next_index s _ _ _ c.args.command c.of-entry.result c.of-entry.ensures (ap (λ i. i.index) c.last_applied.ensures))

-- the entry joined the log, or did not
pub returns-in_err-commit-clause-makes : goal.returns-in_err-commit-clause-makes
returns-in_err-commit-clause-makes g c =
    let writes = c.in_err-commit.ensures.writes in
    record {
      goes_on = writes.goes_on;
      same_most = refl;
      snapshot = λ told. spares_by _ _ _ _ _ _ _ snapshot_log ((writes.moves told).spares) ((writes.moves told).others);
      moves = λ told held.
          let D = g.D.Disk in
          let engine = c.args.engine.now in
          let disk = c.args.disk.now in
          let joins = c.commit.ensures in
          let h = (g.T.MetaStore.shown engine.meta).value in
          let s = g.M.StateMachine.map engine.state in
          let next = next_index s _ _ _ c.args.command c.of-entry.result c.of-entry.ensures (ap (λ i. i.index) c.last_applied.ensures) in
          let same = applied_next h s engine.running _ _ c.args.time c.args.command c.of-entry.result c.of-entry.ensures (ap (λ i. i.index) c.last_applied.ensures) c.current_term-term.ensures in
          subst (λ d. OldOrNew (λ files. joined (g.G.LogStore.holds.of files) (g.T.MetaStore.holds.of files) (g.M.StateMachine.holds.of files)) (D.images c.commit.new.disk) (D.moment disk) (D.moment c.commit.new.disk) (durable_of h s) d) same
          (log_moves g.G.LogStore.holds.of g.T.MetaStore.holds.of g.M.StateMachine.holds.of _ _ _ _ _ _ _ _ _
          (durable_is (g.G.LogStore.shown engine.log).value h s c.requires.ready.caught_up)
          (logged_is (g.G.LogStore.shown engine.log).value s c.of-entry.result c.requires.ready.caught_up next h)
          (old_or_new held.0 (joins.writes.moves told))
          (spared _ _ _ _ _ _ _ _ meta_log g.met.T.MetaStore.lies.holds_own
          (gives_now _ (g.T.MetaStore.shown engine.meta).rests _ _ _ _ (λ files. g.met.D.Disk.images_now disk files told)
          (λ files rest at. g.met.T.MetaStore.lies.rests_hold held.1 engine.meta (D.content disk) files c.requires.ready.meta rest at) (c.requires.rests told).meta) ((joins.writes.moves told).others))
          (spared _ _ _ _ _ _ _ _ state_log g.met.M.StateMachine.lies.holds_own
          (gives_now _ (AtRest (g.M.StateMachine.shown engine.state) (g.M.StateMachine.map engine.state)) _ _ _ _ (λ files. g.met.D.Disk.images_now disk files told)
          (λ files rest at. rest_hold g.met.M.StateMachine.lies held.2 engine.state (g.M.StateMachine.map engine.state) (D.content disk) files c.requires.ready.state rest at) (c.requires.rests told).state) ((joins.writes.moves told).others)));
      done = not_done c.from_residual-in_err-commit.result c.in_err-commit.field-0.0 _ c.from_residual-in_err-commit.ensures.1;
      refused = at_exit c.from_residual-in_err-commit.result c.in_err-commit.field-0.0 _ c.from_residual-in_err-commit.ensures.1 (record {
        cause = writes.refused.cause;
        full =
            let engine = c.args.engine.now in
            let l = (g.G.LogStore.shown engine.log).value in
            let h = (g.T.MetaStore.shown engine.meta).value in
            let s = g.M.StateMachine.map engine.state in
            let is = next_is h s engine.running _ _ c.args.time c.args.command c.of-entry.result c.of-entry.ensures (ap (λ i. i.index) c.last_applied.ensures) c.current_term-term.ensures in
            let sizes = entry_sizes engine.most l s (next_entry (kv_of h s engine.running) c.args.time c.args.command ∷ []) in
            heavier _ _ _ _ _ _ _ _ c.in_err-commit.field-0.0 (λ t. (t.0, t.1.0)) (λ needed t short. same_short sizes _ _ needed _ (omega (arith, entry_is c.of-entry.result _ _ _ c.args.command c.of-entry.ensures)) short) refl
            (omega (arith, entry_is c.of-entry.result _ _ _ c.args.command c.of-entry.ensures))
            (full_by _ _ _ _ _ _ _ sizes c.in_err-commit.field-0.0
            (λ t n size. (subst (λ (x : LogEntry). n ≡ length (log_region_word (Append (x ∷ [])))) is size, omega (arith, size, log_rises (Append (c.of-entry.result ∷ [])))))
            (λ t n never. absurd never) writes.refused.full writes.refused.heavy);
        left = let D = g.D.Disk in
            let engine = c.args.engine.now in
            let refused = c.in_err-commit.ensures.writes.refused in
            fails_or_stays _ _ c.in_err-commit.field-0.0 _ _ _ refused.cause
            (λ memory.
            let same = untouched_only (λ lost. lost.may_be) (refused.untouched memory) in
            inl (record {
              same_kv = refl;
              same_waits = refl;
              same_log = same.same_value;
              same_weight = ap (λ n. n + (g.T.MetaStore.shown engine.meta).weight + (g.M.StateMachine.shown engine.state).weight) same.same_weight;
              same_disk = same.same_disk;
              stays_short = λ short. short;
              stays_ready = λ ready. (
                ready.0,
                record {
                  log = same.ready;
                  meta = ready.1.meta;
                  state = ready.1.state;
                  caught_up = subst (λ l. IsCaughtUp l (g.M.StateMachine.map engine.state)) (sym same.same_value) ready.1.caught_up;
                  goes_with = subst (λ (v : CoreView). GoesWith v.role (g.M.StateMachine.settings engine.state).leased engine.running) (sym c.commit.ensures.same) ready.1.goes_with;
                  runs = ready.1.runs;
                },
              );
              stays_at_rest = λ told rests. record {
                log = same.rests told;
                meta = subst (λ d. (g.T.MetaStore.shown engine.meta).rests (D.content d)) (sym same.same_disk) rests.meta;
                state = subst (λ d. AtRest (g.M.StateMachine.shown engine.state) (g.M.StateMachine.map engine.state) (D.content d)) (sym same.same_disk) rests.state;
              };
            }))
            (λ disk. inr (inl (refused.failed disk)));
      });
    }

-- the map's files lie as before behind the append
pub apply_at_rest-requires-clause-rests : goal.apply_at_rest-requires-clause-rests
apply_at_rest-requires-clause-rests g c = λ then.
    let joins = c.in_ok-commit.ensures in
    let told : IsTrue (g.D.Disk.kind c.args.disk.now).tells = subst (λ k. IsTrue k.tells) joins.writes.goes_on.same then in
    let engine = c.args.engine.now in
    rest_own g.met.M.StateMachine.lies engine.state (g.M.StateMachine.map engine.state) _ _ (apart_own _ _ _ _ state_log ((joins.writes.moves told).spares)) (c.requires.rests told).state

-- the log has the entry, and the map may lack it
pub returns-in_err-results-clause-makes : goal.returns-in_err-results-clause-makes
returns-in_err-results-clause-makes g c =
    let joins = c.commit.ensures in
    let cause : IfErr c.from_residual-in_err-results.result (λ e. IsRefusal (Rose (g.D.Disk.faults c.args.disk.now) (g.D.Disk.faults c.apply_at_rest.new.disk)) (g.D.Disk.kind c.args.disk.now).limit e) =
    let s = g.M.StateMachine.map c.args.engine.now.state in
    let next = next_index s _ _ _ c.args.command c.of-entry.result c.of-entry.ensures (ap (λ i. i.index) c.last_applied.ensures) in
    at_exit c.from_residual-in_err-results.result c.in_err-results.field-0.0 _ c.from_residual-in_err-results.ensures.1
    (refusal_behind _ _ _ _ c.in_err-results.field-0.0 (λ rose. omega (arith, rose, joins.writes.goes_on.counts)) (ap (λ (k : Kind). k.limit) joins.writes.goes_on.same)
    (chunk_refusal _ _ _ _ _ _ c.of-entry.result c.args.command c.in_err-results.field-0.0 c.in_ok-copy.ensures next (ap (λ (x : LogEntry). x.command) c.of-entry.ensures)
    c.requires.ready.goes_with.lease_is c.requires.may.1 c.in_err-results.ensures.refused)) in
    record {
      goes_on = disk_twice _ _ _ _ _ _ _ joins.writes.goes_on c.apply_at_rest.ensures.disk;
      same_most = refl;
      snapshot = spares_twice _ _ _ _ _ _ _ _ _ c.commit.ensures.writes.goes_on c.apply_at_rest.ensures.disk
          (λ told. spares_by _ _ _ _ _ _ _ snapshot_log ((c.commit.ensures.writes.moves told).spares) ((c.commit.ensures.writes.moves told).others))
          (λ told. spares_by _ _ _ _ _ _ _ snapshot_state (c.apply_at_rest.ensures.spares told) (c.apply_at_rest.ensures.others told));
      moves = λ told held.
          let D = g.D.Disk in
          let engine = c.args.engine.now in
          let disk = c.args.disk.now in
          let between = c.commit.new.disk in
          let joins = c.in_ok-commit.ensures in
          let apply = c.apply_at_rest.ensures in
          let then : IsTrue (D.kind between).tells = subst (λ k. IsTrue k.tells) (sym joins.writes.goes_on.same) told in
          let l = (g.G.LogStore.shown engine.log).value in
          let h = (g.T.MetaStore.shown engine.meta).value in
          let s = g.M.StateMachine.map engine.state in
          let next = next_index s _ _ _ c.args.command c.of-entry.result c.of-entry.ensures (ap (λ i. i.index) c.last_applied.ensures) in
          let same = applied_next h s engine.running _ _ c.args.time c.args.command c.of-entry.result c.of-entry.ensures (ap (λ i. i.index) c.last_applied.ensures) c.current_term-term.ensures in
          let caught = c.requires.ready.caught_up in
          let meta_rests = g.met.T.MetaStore.lies.rests_own engine.meta _ _ (apart_own _ _ _ _ meta_log ((joins.writes.moves told).spares)) (c.requires.rests told).meta in
          subst (λ d. OldOrNew (λ files. joined (g.G.LogStore.holds.of files) (g.T.MetaStore.holds.of files) (g.M.StateMachine.holds.of files)) (D.images c.apply_at_rest.new.disk) (D.moment disk) (D.moment c.apply_at_rest.new.disk) (durable_of h s) d) same
          (moves_then _ _ _ _ (D.moment between) _ _ _ (apply.disk.told then).past
          (log_moves g.G.LogStore.holds.of g.T.MetaStore.holds.of g.M.StateMachine.holds.of _ _ _ _ _ _ _ _ _
          (durable_is l h s caught) (logged_is l s c.of-entry.result caught next h)
          (old_or_new held.0 (joins.writes.moves told))
          (spared _ _ _ _ _ _ _ _ meta_log g.met.T.MetaStore.lies.holds_own
          (gives_now _ (g.T.MetaStore.shown engine.meta).rests _ _ _ _ (λ files. g.met.D.Disk.images_now disk files told)
          (λ files rest at. g.met.T.MetaStore.lies.rests_hold held.1 engine.meta (D.content disk) files c.requires.ready.meta rest at) (c.requires.rests told).meta) ((joins.writes.moves told).others))
          (spared _ _ _ _ _ _ _ _ state_log g.met.M.StateMachine.lies.holds_own
          (gives_now _ (AtRest (g.M.StateMachine.shown engine.state) (g.M.StateMachine.map engine.state)) _ _ _ _ (λ files. g.met.D.Disk.images_now disk files told)
          (λ files rest at. rest_hold g.met.M.StateMachine.lies held.2 engine.state (g.M.StateMachine.map engine.state) (D.content disk) files c.requires.ready.state rest at) (c.requires.rests told).state) ((joins.writes.moves told).others)))
          (state_moves g.G.LogStore.holds.of g.T.MetaStore.holds.of g.M.StateMachine.holds.of _ _ _ _ _ _ _ _ _
          (logged_is l s c.of-entry.result caught next h) (ap (λ y. durable (changed l (Append (c.of-entry.result ∷ []))) h (map_applied s y)) c.in_ok-copy.ensures ∙ applied_again l h s c.of-entry.result caught next)
          (spared _ _ _ _ _ _ _ _ log_state g.met.G.LogStore.lies.holds_own
          (gives_now _ (g.G.LogStore.shown c.commit.new.log).rests _ _ _ _ (λ files. g.met.D.Disk.images_now between files then)
          (λ files rest at. g.met.G.LogStore.lies.rests_hold held.0 c.commit.new.log (D.content between) files joins.writes.done.ready rest at ∙ ap (λ x. Some x) joins.writes.done.value) (joins.writes.done.rests told)) (apply.others then))
          (spared _ _ _ _ _ _ _ _ meta_state g.met.T.MetaStore.lies.holds_own
          (gives_now _ (g.T.MetaStore.shown engine.meta).rests _ _ _ _ (λ files. g.met.D.Disk.images_now between files then)
          (λ files rest at. g.met.T.MetaStore.lies.rests_hold held.1 engine.meta (D.content between) files c.requires.ready.meta rest at) meta_rests) (apply.others then))
          (apply.own then held.2)));
      done = not_done c.from_residual-in_err-results.result c.in_err-results.field-0.0 _ c.from_residual-in_err-results.ensures.1;
      refused = if_err_three c.from_residual-in_err-results.result _ _ _ _ (λ e cause full left. record { cause = cause; full = full; left = left }) cause
          (heavier_out c.from_residual-in_err-results.result c.in_err-results.field-0.0 _ _ _ _ _ _ _ _ c.from_residual-in_err-results.ensures.1
          (λ t. (subst (λ k. IsTrue k.tells) (sym c.commit.ensures.writes.goes_on.same) t.0, t.1.2))
          (λ needed t short.
          let engine = c.args.engine.now in
          let h = (g.T.MetaStore.shown engine.meta).value in
          let s = g.M.StateMachine.map engine.state in
          let is = next_is h s engine.running _ _ c.args.time c.args.command c.of-entry.result c.of-entry.ensures (ap (λ i. i.index) c.last_applied.ensures) c.current_term-term.ensures in
          short_slot _ _ _ _ needed _ (chunk_among engine.most (g.G.LogStore.shown engine.log).value s c.in_ok-copy.field-0 _ (c.in_ok-copy.ensures ∙ is)) (omega (arith, entry_is c.of-entry.result _ _ _ c.args.command c.of-entry.ensures, ap (λ (y : LogEntry). entries_size (y ∷ [])) c.in_ok-copy.ensures)) short)
          (ap (λ (k : Kind). k.limit) c.commit.ensures.writes.goes_on.same)
          (omega (arith, entry_is c.of-entry.result _ _ _ c.args.command c.of-entry.ensures, ap (λ (y : LogEntry). entries_size (y ∷ [])) c.in_ok-copy.ensures)) c.in_err-results.ensures.full)
          (let engine = c.args.engine.now in
          let l = (g.G.LogStore.shown engine.log).value in
          let is = next_is (g.T.MetaStore.shown engine.meta).value (g.M.StateMachine.map engine.state) engine.running _ _ c.args.time c.args.command c.of-entry.result c.of-entry.ensures (ap (λ i. i.index) c.last_applied.ensures) c.current_term-term.ensures in
          at_exit c.from_residual-in_err-results.result c.in_err-results.field-0.0 _ c.from_residual-in_err-results.ensures.1
          (fails_behind c.in_err-results.field-0.0 _ _ _ (inl refl)
          (record { some = omega arith; joined = c.in_ok-commit.ensures.writes.done.value ∙ ap (λ e. changed l (Append (e ∷ []))) is })));
    }

pub returns-clause-makes : goal.returns-clause-makes
returns-clause-makes g c =
    record {
      goes_on = disk_twice _ _ _ _ _ _ _ c.commit.ensures.writes.goes_on c.apply_at_rest.ensures.disk;
      same_most = refl;
      snapshot = spares_twice _ _ _ _ _ _ _ _ _ c.commit.ensures.writes.goes_on c.apply_at_rest.ensures.disk
          (λ told. spares_by _ _ _ _ _ _ _ snapshot_log ((c.commit.ensures.writes.moves told).spares) ((c.commit.ensures.writes.moves told).others))
          (λ told. spares_by _ _ _ _ _ _ _ snapshot_state (c.apply_at_rest.ensures.spares told) (c.apply_at_rest.ensures.others told));
      moves = λ told held.
          let D = g.D.Disk in
          let engine = c.args.engine.now in
          let disk = c.args.disk.now in
          let between = c.commit.new.disk in
          let joins = c.in_ok-commit.ensures in
          let apply = c.apply_at_rest.ensures in
          let then : IsTrue (D.kind between).tells = subst (λ k. IsTrue k.tells) (sym joins.writes.goes_on.same) told in
          let l = (g.G.LogStore.shown engine.log).value in
          let h = (g.T.MetaStore.shown engine.meta).value in
          let s = g.M.StateMachine.map engine.state in
          let next = next_index s _ _ _ c.args.command c.of-entry.result c.of-entry.ensures (ap (λ i. i.index) c.last_applied.ensures) in
          let same = applied_next h s engine.running _ _ c.args.time c.args.command c.of-entry.result c.of-entry.ensures (ap (λ i. i.index) c.last_applied.ensures) c.current_term-term.ensures in
          let caught = c.requires.ready.caught_up in
          let meta_rests = g.met.T.MetaStore.lies.rests_own engine.meta _ _ (apart_own _ _ _ _ meta_log ((joins.writes.moves told).spares)) (c.requires.rests told).meta in
          subst (λ d. OldOrNew (λ files. joined (g.G.LogStore.holds.of files) (g.T.MetaStore.holds.of files) (g.M.StateMachine.holds.of files)) (D.images c.apply_at_rest.new.disk) (D.moment disk) (D.moment c.apply_at_rest.new.disk) (durable_of h s) d) same
          (moves_then _ _ _ _ (D.moment between) _ _ _ (apply.disk.told then).past
          (log_moves g.G.LogStore.holds.of g.T.MetaStore.holds.of g.M.StateMachine.holds.of _ _ _ _ _ _ _ _ _
          (durable_is l h s caught) (logged_is l s c.of-entry.result caught next h)
          (old_or_new held.0 (joins.writes.moves told))
          (spared _ _ _ _ _ _ _ _ meta_log g.met.T.MetaStore.lies.holds_own
          (gives_now _ (g.T.MetaStore.shown engine.meta).rests _ _ _ _ (λ files. g.met.D.Disk.images_now disk files told)
          (λ files rest at. g.met.T.MetaStore.lies.rests_hold held.1 engine.meta (D.content disk) files c.requires.ready.meta rest at) (c.requires.rests told).meta) ((joins.writes.moves told).others))
          (spared _ _ _ _ _ _ _ _ state_log g.met.M.StateMachine.lies.holds_own
          (gives_now _ (AtRest (g.M.StateMachine.shown engine.state) (g.M.StateMachine.map engine.state)) _ _ _ _ (λ files. g.met.D.Disk.images_now disk files told)
          (λ files rest at. rest_hold g.met.M.StateMachine.lies held.2 engine.state (g.M.StateMachine.map engine.state) (D.content disk) files c.requires.ready.state rest at) (c.requires.rests told).state) ((joins.writes.moves told).others)))
          (state_moves g.G.LogStore.holds.of g.T.MetaStore.holds.of g.M.StateMachine.holds.of _ _ _ _ _ _ _ _ _
          (logged_is l s c.of-entry.result caught next h) (ap (λ y. durable (changed l (Append (c.of-entry.result ∷ []))) h (map_applied s y)) c.in_ok-copy.ensures ∙ applied_again l h s c.of-entry.result caught next)
          (spared _ _ _ _ _ _ _ _ log_state g.met.G.LogStore.lies.holds_own
          (gives_now _ (g.G.LogStore.shown c.commit.new.log).rests _ _ _ _ (λ files. g.met.D.Disk.images_now between files then)
          (λ files rest at. g.met.G.LogStore.lies.rests_hold held.0 c.commit.new.log (D.content between) files joins.writes.done.ready rest at ∙ ap (λ x. Some x) joins.writes.done.value) (joins.writes.done.rests told)) (apply.others then))
          (spared _ _ _ _ _ _ _ _ meta_state g.met.T.MetaStore.lies.holds_own
          (gives_now _ (g.T.MetaStore.shown engine.meta).rests _ _ _ _ (λ files. g.met.D.Disk.images_now between files then)
          (λ files rest at. g.met.T.MetaStore.lies.rests_hold held.1 engine.meta (D.content between) files c.requires.ready.meta rest at) meta_rests) (apply.others then))
          (apply.own then held.2)));
      done = record {
        durable =
            let engine = c.args.engine.now in
            let h = (g.T.MetaStore.shown engine.meta).value in
            let s = g.M.StateMachine.map engine.state in
            ap (durable_of h) (copied s _ _ _ c.in_ok-results.ensures.applied c.in_ok-copy.ensures) ∙ applied_is h s c.of-entry.result
            ∙ applied_next h s engine.running _ _ c.args.time c.args.command c.of-entry.result c.of-entry.ensures (ap (λ i. i.index) c.last_applied.ensures) c.current_term-term.ensures;
        logged =
            let engine = c.args.engine.now in
            let l = (g.G.LogStore.shown engine.log).value in
            let is = next_is (g.T.MetaStore.shown engine.meta).value (g.M.StateMachine.map engine.state) engine.running _ _ c.args.time c.args.command c.of-entry.result c.of-entry.ensures (ap (λ i. i.index) c.last_applied.ensures) c.current_term-term.ensures in
            inl (c.in_ok-commit.ensures.writes.done.value ∙ ap (λ e. changed l (Append (e ∷ []))) is);
        weight = omega (arith, c.in_ok-commit.ensures.writes.done.weight, c.in_ok-results.ensures.weight, entry_is c.of-entry.result _ _ _ c.args.command c.of-entry.ensures, ap (λ (y : LogEntry). entries_size (y ∷ [])) c.in_ok-copy.ensures);
        rests = λ told.
            let joins = c.in_ok-commit.ensures in
            let apply = c.in_ok-results.ensures in
            let then : IsTrue (g.D.Disk.kind c.commit.new.disk).tells = subst (λ k. IsTrue k.tells) (sym joins.writes.goes_on.same) told in
            let engine = c.args.engine.now in
            record {
              log = g.met.G.LogStore.lies.rests_own c.commit.new.log _ _ (apart_own _ _ _ _ log_state (apply.spares then)) (joins.writes.done.rests told);
              meta = g.met.T.MetaStore.lies.rests_own engine.meta _ _ (apart_own _ _ _ _ meta_state (apply.spares then))
                  (g.met.T.MetaStore.lies.rests_own engine.meta _ _ (apart_own _ _ _ _ meta_log ((joins.writes.moves told).spares)) (c.requires.rests told).meta);
              state = apply.rests then;
            };
      };
      refused = tt;
    }

pub returns-clause-logged : goal.returns-clause-logged
returns-clause-logged g c =
    let engine = c.args.engine.now in
    let l = (g.G.LogStore.shown engine.log).value in
    let is = next_is (g.T.MetaStore.shown engine.meta).value (g.M.StateMachine.map engine.state) engine.running _ _ c.args.time c.args.command c.of-entry.result c.of-entry.ensures (ap (λ i. i.index) c.last_applied.ensures) c.current_term-term.ensures in
    c.in_ok-commit.ensures.writes.done.value ∙ ap (λ e. changed l (Append (e ∷ []))) is

pub returns-clause-ends : goal.returns-clause-ends
returns-clause-ends g c =
    let engine = c.args.engine.now in
    ends_with (g.G.LogStore.shown engine.log).value (g.M.StateMachine.map engine.state) c.of-entry.result _ _ c.in_ok-commit.ensures.writes.done.value (copied _ _ _ _ c.in_ok-results.ensures.applied c.in_ok-copy.ensures)

pub returns-clause-ready : goal.returns-clause-ready
returns-clause-ready g c =
    let engine = c.args.engine.now in
    let l = (g.G.LogStore.shown engine.log).value in
    let s = g.M.StateMachine.map engine.state in (
      refl,
      record {
        log = c.in_ok-commit.ensures.writes.done.ready;
        meta = c.requires.ready.meta;
        state = c.in_ok-results.ensures.ready;
        caught_up = caught_up_now l s c.of-entry.result _ _ c.requires.ready.caught_up (next_index s _ _ _ c.args.command c.of-entry.result c.of-entry.ensures (ap (λ i. i.index) c.last_applied.ensures)) c.in_ok-commit.ensures.writes.done.value (copied _ _ _ _ c.in_ok-results.ensures.applied c.in_ok-copy.ensures);
        goes_with = subst (λ (v : CoreView). GoesWith v.role (g.M.StateMachine.settings c.apply_at_rest.new.state).leased engine.running) (sym c.commit.ensures.same)
            (subst (λ (x : Settings). GoesWith (g.K.Core.view engine.core).role x.leased engine.running) (sym c.apply_at_rest.ensures.settings) c.requires.ready.goes_with);
        runs = ap (λ (x : Settings). x.running) c.apply_at_rest.ensures.settings ∙ c.requires.ready.runs;
      },
    )
