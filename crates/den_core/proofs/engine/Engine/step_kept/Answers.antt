use Rattle.std.proofs.Common.{◌≤◌, List, length, inl, inr, refl, sym, ◌∙◌, ap, subst}
use Rattle.den_model.specs.declared.reply.WatchEvent.{WatchEvent}
use Rattle.den_core.specs.declared.run.Run.{Run}
use Rattle.den_core.specs.Parts.{kv_of}
use Rattle.den_core.proofs.Keeping.{either_more, kv_kept, made_aside, refused_so, wanted_behind}
use Rattle.den_core.proofs.Turns.{ready_aside}
use Rattle.den_core.proofs.engine.Engine.step_kept.Goals as goal

-- the turn was refused
pub returns-in_err-turned-clause-makes : goal.returns-in_err-turned-clause-makes
returns-in_err-turned-clause-makes g c =
    refused_so _ _ _ _ _ _ _ _ _ _ _ c.in_err-turned.field-0.0 _ c.from_residual.ensures.1 either_more c.in_err-turned.ensures.makes

-- its events wait for their watchers
pub returns-in-Ok-clause-makes : goal.returns-in-Ok-clause-makes
returns-in-Ok-clause-makes g c =
    let mid = c.take_turn.new.engine in
    let is = c.in-Ok.ensures.kept in
    made_aside _ _ _ _ _ _ _ _ _ _ _ _ c.in_ok-turned.turned refl c.in_ok-turned.ensures.makes c.in_ok-turned.turned.out.reply
    (kv_kept (g.T.MetaStore.shown mid.meta).value (g.M.StateMachine.map mid.state) mid.running c.keep.new.run c.in_ok-turned.turned.out.events is) refl refl
    (λ ready. (ready.0, ready_aside _ _ _ _ _ _ _ _ _ (ap (λ (r : Run). r.role) is) (ap (λ (r : Run). r.lease) is) ready.1)) (λ content rests. rests)

-- memory was wanting for them
pub returns-in-Err-clause-makes : goal.returns-in-Err-clause-makes
returns-in-Err-clause-makes g c =
    let mid = c.take_turn.new.engine in
    let left = c.in-Err.ensures.refused in
    wanted_behind _ _ _ _ _ _ _ _ _ _ _ _ c.in_ok-turned.turned refl c.in_ok-turned.ensures.makes c.in-Err.error left.0 (inl refl)
    (inr (inr (record {
      some = subst (λ (events : List WatchEvent). 1 ≤ length events) (sym c.in_ok-turned.ensures.turned.events) left.2;
      made = ap (λ (r : Run). kv_of (g.T.MetaStore.shown mid.meta).value (g.M.StateMachine.map mid.state) r) left.1 ∙ c.in_ok-turned.ensures.makes.done.state;
    })))
