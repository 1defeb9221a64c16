use Rattle.std.proofs.Common.{sym, ap, ◌∙◌}
use Rattle.den_model.specs.Apply.{value_at}
use Rattle.den_model.specs.MapState.{part_of}
use Rattle.den_watch.specs.Registry.{watchers}
use Rattle.den_core.proofs.Telling.{none_see, same_events}
use Rattle.den_core.proofs.watching.change_at.Goals as goal

-- nobody sees the key
pub returns-then-not-watches-clause-change : goal.returns-then-not-watches-clause-change
returns-then-not-watches-clause-change g c = λ term. none_see (watchers c.args.registry.now) _ (record {
  index = c.args.index;
  kind = c.args.kind;
  key = c.args.key.now;
  value = c.args.value.now;
  prev = value_at (part_of (g.M.StateMachine.map c.args.state.now) term) c.args.key.now;
}) c.as_slice.ensures (sym c.watches.ensures ∙ c.if-not-watches.true)

pub returns-clause-change : goal.returns-clause-change
returns-clause-change g c = λ term. same_events (watchers c.args.registry.now) _ _ _ _ _ _ _ _ c.in_ok-copy.ensures c.in_ok-copy-2.ensures
    (c.in_ok-copy_value.ensures.copy ∙ c.get.ensures ∙ ap (λ k. value_at (part_of (g.M.StateMachine.map c.args.state.now) 0) k) c.as_slice-2.ensures)
