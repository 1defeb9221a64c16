use Rattle.std.proofs.Common.{◌≡◌, ◌+◌, [], Some, true, inl, inr, refl, sym, ap, subst, ◌∙◌, arith}
use Rattle.den_map.specs.Cleanup.{cleaned_map}
use Rattle.den_model.specs.Sizes.{store_rise}
use Rattle.den_model.specs.Step.{Cleanup}
use Rattle.den_journal.proofs.Moving.{old_or_new}
use Rattle.den_state.proofs.Weighing.{light_cleanup}
use Rattle.den_state.specs.Checkpoint.{IsCheckpointSize}
use Rattle.den_state.specs.Machine.{Settings}
use Rattle.den_core.specs.Parts.{kv_of, GoesWith, IsCaughtUp}
use Rattle.den_core.specs.PayloadSizes.{cleanup_sizes}
use Rattle.den_core.proofs.Cleaned.{cleaned_caught_up, cleaned_is, cleaned_light, cleans_as, cleanup_begun, cleanup_survives, due_there, none_due, took_is}
use Rattle.den_core.proofs.Refusing.{at_exit, fails_or_stays, not_done}
use Rattle.den_core.proofs.Spared.{apart_own, log_state, meta_state, snapshot_state, spares_by}
use Rattle.den_core.proofs.Weighing.{full_by, heavier, same_short}
use Rattle.den_core.proofs.cleaning.clean.Goals as goal

-- the map was cleaned, or was not
pub returns-in_err-removed-clause-makes : goal.returns-in_err-removed-clause-makes
returns-in_err-removed-clause-makes g c =
    let D = g.D.Disk in
    let engine = c.args.engine.now in
    let new = c.lease_background_cleanup.new.self in
    let l = (g.G.LogStore.shown engine.log).value in
    let h = (g.T.MetaStore.shown engine.meta).value in
    let s = g.M.StateMachine.map engine.state in
    let v = (g.M.StateMachine.shown engine.state).value in
    let time = c.args.time in
    let e = c.in_err-removed.field-0.0 in
    let call = c.in_err-removed.ensures in
    let ready = c.requires.stands.ready.1 in
    let leased : (g.M.StateMachine.settings engine.state).leased ≡ true = sym ready.goes_with.lease_is ∙ c.requires.lease in
    let writes = cleans_as D (g.M.StateMachine.shown engine.state) (g.M.StateMachine.shown new) c.args.disk.now c.lease_background_cleanup.new.disk g.M.StateMachine.holds (g.M.StateMachine.settings engine.state).leased time v _ leased c.requires.time call.writes in
    record {
      goes_on = writes.goes_on;
      snapshot = λ told. spares_by _ _ _ _ _ _ _ snapshot_state ((writes.moves told).spares) ((writes.moves told).others);
      same_most = refl;
      survives = λ told held.
          let disk = c.args.disk.now in
          let rests = c.requires.stands.rests told in
          let told_moves = writes.moves told in
          cleanup_survives g.G.LogStore.holds.of g.T.MetaStore.holds.of g.M.StateMachine.holds.of (D.images disk) (D.images c.lease_background_cleanup.new.disk) (D.moment disk) (D.moment c.lease_background_cleanup.new.disk)
          (D.content disk) l h s v engine.running time ready.caught_up (λ files. g.met.D.Disk.images_now disk files told) g.met.G.LogStore.lies.holds_own g.met.T.MetaStore.lies.holds_own
          (λ files at. g.met.G.LogStore.lies.rests_hold held.0 engine.log (D.content disk) files ready.log rests.log at)
          (λ files at. g.met.T.MetaStore.lies.rests_hold held.1 engine.meta (D.content disk) files ready.meta rests.meta at)
          rests.state.stored (old_or_new held.2 told_moves) told_moves.others;
      done = not_done c.from_residual.result e _ c.from_residual.ensures.1;
      refused = at_exit c.from_residual.result e _ c.from_residual.ensures.1 (
          let refused = writes.refused in
          record {
            cause = refused.cause;
            full = heavier _ _ _ _ _ _ _ _ e (λ t. (t.0, t.1.2))
                (λ needed t short. record {
                  kv = kv_of h s engine.running;
                  log = l;
                  next = Cleanup time;
                  is_begun = cleanup_begun _ _ time;
                  short = same_short (cleanup_sizes s time) _ _ needed _ (omega arith) short;
                }) refl (omega arith)
                (full_by _ _ _ _ _ _ _ (cleanup_sizes s time) e
                (λ t n size. (size, omega (arith, size, light_cleanup time)))
                (λ t n size. (
                  subst (λ m. IsCheckpointSize (cleaned_map time m) n) (c.requires.stands.rests t.0).state.stored size,
                  cleaned_light time ((g.M.StateMachine.shown engine.state).weight + store_rise 0) v (λ k is. g.met.M.StateMachine.light engine.state [] k is) n size,
                ))
                refused.full refused.heavy);
            left = fails_or_stays _ _ e _ _ _ refused.cause
                (λ memory. elim (refused.untouched memory) [
                  | inl same ↦
                      let same_map = call.same same.ready in
                      inl (record {
                        same_kv = ap (λ m. kv_of h m engine.running) same_map;
                        same_waits = refl;
                        same_log = refl;
                        same_weight = ap (λ n. (g.G.LogStore.shown engine.log).weight + (g.T.MetaStore.shown engine.meta).weight + n) same.same_weight;
                        same_disk = same.same_disk;
                        stays_short = call.short_kept same.ready;
                        stays_ready = λ was. (
                          was.0,
                          record {
                            log = was.1.log;
                            meta = was.1.meta;
                            state = same.ready;
                            caught_up = subst (λ m. IsCaughtUp l m) (sym same_map) was.1.caught_up;
                            goes_with = subst (λ (x : Settings). GoesWith (g.K.Core.view engine.core).role x.leased engine.running) (sym call.settings) was.1.goes_with;
                            runs = ap (λ (x : Settings). x.running) call.settings ∙ was.1.runs;
                          },
                        );
                        stays_at_rest = λ told rests. record {
                          log = subst (λ d. (g.G.LogStore.shown engine.log).rests (D.content d)) (sym same.same_disk) rests.log;
                          meta = subst (λ d. (g.T.MetaStore.shown engine.meta).rests (D.content d)) (sym same.same_disk) rests.meta;
                          state = record { rests = same.rests told; stored = same.same_value ∙ rests.state.stored ∙ sym same_map };
                        };
                      })
                  | inr lost ↦ inr (inr (inr (inr lost.failed)), due_there _ time s.expiries leased c.requires.time call.nothing)
                ])
                (λ disk. inr (inr (inr (refused.failed disk))));
          }
          );
    }

-- it was
pub returns-clause-makes : goal.returns-clause-makes
returns-clause-makes g c =
    let D = g.D.Disk in
    let engine = c.args.engine.now in
    let new = c.lease_background_cleanup.new.self in
    let l = (g.G.LogStore.shown engine.log).value in
    let h = (g.T.MetaStore.shown engine.meta).value in
    let s = g.M.StateMachine.map engine.state in
    let v = (g.M.StateMachine.shown engine.state).value in
    let time = c.args.time in
    let call = c.in_ok-removed.ensures in
    let ready = c.requires.stands.ready.1 in
    let leased : (g.M.StateMachine.settings engine.state).leased ≡ true = sym ready.goes_with.lease_is ∙ c.requires.lease in
    let writes = cleans_as D (g.M.StateMachine.shown engine.state) (g.M.StateMachine.shown new) c.args.disk.now c.lease_background_cleanup.new.disk g.M.StateMachine.holds (g.M.StateMachine.settings engine.state).leased time v _ leased c.requires.time call.writes in
    let cleaned = call.cleaned ∙ cleaned_is (g.M.StateMachine.settings engine.state).leased time s leased c.requires.time in
    record {
      goes_on = writes.goes_on;
      snapshot = λ told. spares_by _ _ _ _ _ _ _ snapshot_state ((writes.moves told).spares) ((writes.moves told).others);
      same_most = refl;
      survives = λ told held.
          let disk = c.args.disk.now in
          let rests = c.requires.stands.rests told in
          let told_moves = writes.moves told in
          cleanup_survives g.G.LogStore.holds.of g.T.MetaStore.holds.of g.M.StateMachine.holds.of (D.images disk) (D.images c.lease_background_cleanup.new.disk) (D.moment disk) (D.moment c.lease_background_cleanup.new.disk)
          (D.content disk) l h s v engine.running time ready.caught_up (λ files. g.met.D.Disk.images_now disk files told) g.met.G.LogStore.lies.holds_own g.met.T.MetaStore.lies.holds_own
          (λ files at. g.met.G.LogStore.lies.rests_hold held.0 engine.log (D.content disk) files ready.log rests.log at)
          (λ files at. g.met.T.MetaStore.lies.rests_hold held.1 engine.meta (D.content disk) files ready.meta rests.meta at)
          rests.state.stored (old_or_new held.2 told_moves) told_moves.others;
      done = record {
        state = ap (λ m. kv_of h m (record engine.running { cleaned = Some time })) cleaned;
        logged = (l, inl refl, inl refl);
        weight = omega (arith, writes.done.weight);
        ready = (
          c.requires.stands.ready.0,
          record {
            log = ready.log;
            meta = ready.meta;
            state = writes.done.ready;
            caught_up = cleaned_caught_up l s _ time ready.caught_up cleaned;
            goes_with = subst (λ (x : Settings). GoesWith (g.K.Core.view engine.core).role x.leased (record engine.running { cleaned = Some time })) (sym call.settings)
                (record { role_is = ready.goes_with.role_is; lease_is = ready.goes_with.lease_is });
            runs = ap (λ (x : Settings). x.running) call.settings ∙ ready.runs;
          },
        );
        rests = λ told.
            let rests = c.requires.stands.rests told in
            let spares = (writes.moves told).spares in
            record {
              log = g.met.G.LogStore.lies.rests_own engine.log _ _ (apart_own _ _ _ _ log_state spares) rests.log;
              meta = g.met.T.MetaStore.lies.rests_own engine.meta _ _ (apart_own _ _ _ _ meta_state spares) rests.meta;
              state = record { rests = writes.done.rests told; stored = writes.done.value ∙ ap (cleaned_map time) rests.state.stored ∙ sym cleaned };
            };
      };
      refused = tt;
    }

-- whether keys went
pub returns-clause-took : goal.returns-clause-took
returns-clause-took g c =
    let engine = c.args.engine.now in
    let leased = sym c.requires.stands.ready.1.goes_with.lease_is ∙ c.requires.lease in
    took_is (g.M.StateMachine.settings engine.state).leased c.args.time (g.M.StateMachine.map engine.state).expiries _ c.is_empty.result leased c.requires.time c.is_empty.ensures
    (c.as_slice.ensures ∙ c.in_ok-removed.ensures.keys)

pub returns-clause-idle : goal.returns-clause-idle
returns-clause-idle g c = λ idle.
    let engine = c.args.engine.now in
    let leased = sym c.requires.stands.ready.1.goes_with.lease_is ∙ c.requires.lease in
    let took = took_is (g.M.StateMachine.settings engine.state).leased c.args.time (g.M.StateMachine.map engine.state).expiries _ c.is_empty.result leased c.requires.time c.is_empty.ensures
    (c.as_slice.ensures ∙ c.in_ok-removed.ensures.keys) in
    let nothing = c.in_ok-removed.ensures.nothing (none_due (g.M.StateMachine.settings engine.state).leased c.args.time (g.M.StateMachine.map engine.state).expiries _ leased c.requires.time took idle) in
    (ap (λ x. record engine { state = x; running = record engine.running { cleaned = Some c.args.time } }) nothing.0, nothing.1)
