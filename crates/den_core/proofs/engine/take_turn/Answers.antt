use Rattle.std.proofs.Common.{◌≡◌, ◌+◌, false, [], ◌∷◌, inl, inr, refl, sym, ◌∙◌, ap, subst, arith}
use Rattle.den_model.specs.Plan.{due_cleanup, is_due, logged}
use Rattle.den_model.specs.Step.{answer, Ask}
use Rattle.den_core.specs.Kept.{IsTurned}
use Rattle.den_core.specs.declared.run.Run.{Run}
use Rattle.den_state.specs.Machine.{AtRest}
use Rattle.den_core.specs.Parts.{kv_of, running_seen, AllRest, HasFailed, IsReady}
use Rattle.den_core.proofs.Turns.{cleaned_more, cleanup_logged, cleanup_quiet, either_way, joined_aside, left_behind, ready_aside, untouched_aside}
use Rattle.den_core.proofs.Twice.{left_by, made_twice, refused_first, refused_second}
use Rattle.den_core.proofs.engine.take_turn.Goals as goal

-- the cleanup was refused
pub returns-in_err-took-clause-makes : goal.returns-in_err-took-clause-makes
returns-in_err-took-clause-makes g c =
    let old = c.args.engine.now in
    let kv = kv_of (g.T.MetaStore.shown old.meta).value (g.M.StateMachine.map old.state) old.running in
    refused_first _ _ _ _ _ _ (due_cleanup kv c.args.time) (Ask c.args.frame c.args.time ∷ []) _ _ _ _ c.in_err-took.field-0.0 _ c.from_residual.ensures.1 (omega arith)
    (λ cleaned. inl (cleaned_more (is_due kv c.args.time) kv c.args.time (Ask c.args.frame c.args.time ∷ []) cleaned)) c.in_err-took.ensures.makes

-- the cleanup was made, and what was asked for
pub returns-in-Ok-clause-makes : goal.returns-in-Ok-clause-makes
returns-in-Ok-clause-makes g c =
    let old = c.args.engine.now in
    let kv = kv_of (g.T.MetaStore.shown old.meta).value (g.M.StateMachine.map old.state) old.running in
    made_twice _ _ _ _ _ _ (due_cleanup kv c.args.time) (Ask c.args.frame c.args.time ∷ []) _ _ _ _ _ _ _ c.in_ok-took.ensures.makes (cleanup_quiet (is_due kv c.args.time) kv c.args.time) (omega arith)
    _ _ _ _ c.in-Ok.ensures.makes

-- the cleanup was made, and what was asked for refused
pub returns-in-Err-clause-makes : goal.returns-in-Err-clause-makes
returns-in-Err-clause-makes g c =
    let old = c.args.engine.now in
    let kv = kv_of (g.T.MetaStore.shown old.meta).value (g.M.StateMachine.map old.state) old.running in
    let took = c.in_ok-took.took in
    let made = c.in_ok-took.ensures in
    refused_second _ _ _ _ _ _ (due_cleanup kv c.args.time) (Ask c.args.frame c.args.time ∷ []) _ _ _ _ _ _ _ made.makes (cleanup_quiet (is_due kv c.args.time) kv c.args.time) (omega arith)
    _ _ _ c.in-Err.error _ refl
    (either_way took (λ is. ap (λ x. x.most) (c.leave.ensures.took is)) (λ is. ap (λ x. x.most) (c.leave.ensures.idle is)))
    (left_behind took c.in-Err.error _ _ _
    (λ is. (inl (ap (λ x. x.failed) (c.leave.ensures.took is)), inl (cleaned_more (is_due kv c.args.time) kv c.args.time (Ask c.args.frame c.args.time ∷ []) (made.took is))))
    (λ is.
    let idle = made.idle is in
    let back : record c.answer.new.engine.running { cleaned = old.running.cleaned } ≡ old.running =
    ap (λ (r : Run). let x : Run = record r { cleaned = old.running.cleaned } in x) c.in-Err.ensures.running ∙ idle.1 in
    let left = subst (λ r. c.leave.new.engine ≡ record c.answer.new.engine { running = r }) back (c.leave.ensures.idle is) in
    left_by c.in-Err.error _ _ _ _ _ _
    (subst (λ x. HasFailed x.failed (g.G.LogStore.shown x.log).ready (g.T.MetaStore.shown x.meta).ready (g.M.StateMachine.shown x.state).ready) (sym left))
    (untouched_aside _ _ _ _ _ _ _ _ (running_seen c.clean_due.new.engine.running)
    (record {
      kv = ap (λ x. kv_of (g.T.MetaStore.shown x.meta).value (g.M.StateMachine.map x.state) x.running) idle.0;
      waits = made.registry;
      log = ap (λ x. (g.G.LogStore.shown x.log).value) idle.0;
      weight = ap (λ x. (g.G.LogStore.shown x.log).weight + (g.T.MetaStore.shown x.meta).weight + (g.M.StateMachine.shown x.state).weight) idle.0;
      short = subst (λ x. g.M.StateMachine.short x.state) (sym idle.0);
      ready = λ ready. subst (λ x. (x.failed ≡ false) × IsReady (g.G.LogStore.shown x.log).ready (g.T.MetaStore.shown x.meta).ready (g.M.StateMachine.shown x.state).ready
          (g.G.LogStore.shown x.log).value (g.M.StateMachine.map x.state) (g.K.Core.view x.core).role (g.M.StateMachine.settings x.state) x.running) (sym idle.0)
          (ready.0, ready_aside _ _ _ _ _ _ _ _ _ (ap (λ (r : Run). r.role) idle.1) (ap (λ (r : Run). r.lease) idle.1) ready.1);
      rests = λ content. subst (λ x. AllRest ((g.G.LogStore.shown x.log).rests content) ((g.T.MetaStore.shown x.meta).rests content)
          (AtRest (g.M.StateMachine.shown x.state) (g.M.StateMachine.map x.state) content)) (sym idle.0);
    })
    (record {
      kv = ap (λ x. kv_of (g.T.MetaStore.shown x.meta).value (g.M.StateMachine.map x.state) x.running) left;
      waits = ap (λ x. x.running.registry) left ∙ sym (ap (λ (r : Run). r.registry) back);
      log = ap (λ x. (g.G.LogStore.shown x.log).value) left;
      weight = ap (λ x. (g.G.LogStore.shown x.log).weight + (g.T.MetaStore.shown x.meta).weight + (g.M.StateMachine.shown x.state).weight) left;
      short = subst (λ x. g.M.StateMachine.short x.state) (sym left);
      ready = λ ready. subst (λ x. (x.failed ≡ false) × IsReady (g.G.LogStore.shown x.log).ready (g.T.MetaStore.shown x.meta).ready (g.M.StateMachine.shown x.state).ready
          (g.G.LogStore.shown x.log).value (g.M.StateMachine.map x.state) (g.K.Core.view x.core).role (g.M.StateMachine.settings x.state) x.running) (sym left)
          (ready.0, ready_aside _ _ _ _ _ _ _ _ _ (sym (ap (λ (r : Run). r.role) back)) (sym (ap (λ (r : Run). r.lease) back)) ready.1);
      rests = λ content. subst (λ x. AllRest ((g.G.LogStore.shown x.log).rests content) ((g.T.MetaStore.shown x.meta).rests content)
          (AtRest (g.M.StateMachine.shown x.state) (g.M.StateMachine.map x.state) content)) (sym left);
    })
    idle.2)
    (λ joined. inr (joined_aside _ _ _ _ _ _ made.log (ap (λ x. (g.G.LogStore.shown x.log).value) left)
    (ap (λ k. logged k (Ask c.args.frame c.args.time ∷ [])) made.makes.done.state ∙ sym (cleanup_logged (is_due kv c.args.time) kv c.args.time (Ask c.args.frame c.args.time ∷ []))) joined))
    c.in-Err.ensures.makes.refused.left))
    c.in-Err.ensures.makes

-- the cleanup leaves who watches
pub returns-in-Ok-clause-turned : goal.returns-in-Ok-clause-turned
returns-in-Ok-clause-turned g c =
    let mid = c.clean_due.new.engine in
    let kv = kv_of (g.T.MetaStore.shown mid.meta).value (g.M.StateMachine.map mid.state) mid.running in
    subst (λ k. IsTurned (answer k c.args.time c.args.frame) c.args.engine.now.running.registry c.answer.new.engine.running.registry c.in-Ok.turned) c.in_ok-took.ensures.makes.done.state
    (subst (λ r. IsTurned (answer kv c.args.time c.args.frame) r c.answer.new.engine.running.registry c.in-Ok.turned) c.in_ok-took.ensures.registry c.in-Ok.ensures.turned)
