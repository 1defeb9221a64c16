use Rattle.std.proofs.Common.{◌≡◌, ℕ, IfOk, List, Some, sym, subst}
use Rattle.den_model.specs.declared.reply.WatchEventType.TheVariants as event
use Rattle.den_model.specs.declared.watcher.Change.{Change}
use Rattle.den_model.specs.Apply.{value_at}
use Rattle.den_model.specs.MapState.{part_of}
use Rattle.den_model.specs.Step.{change_made, raised}
use Rattle.den_watch.specs.Registry.{watchers}
use Rattle.den_core.proofs.watching.watched_change.Goals as goal

pub returns-in_ok-nothing-in-Delete-clause-change : goal.returns-in_ok-nothing-in-Delete-clause-change
returns-in_ok-nothing-in-Delete-clause-change g c =
    let s = g.M.StateMachine.map c.args.state.now in
    let ws = watchers c.args.registry.now in
    let key = c.in-Delete.key in
    subst (λ command. IfOk c.change_at-in-Delete.result (λ change. (term : ℕ) → raised ws change ≡ raised ws (change_made (part_of s term) c.args.index command))) (sym c.in-Delete.is)
    (subst (λ (v : List ℕ). IfOk c.change_at-in-Delete.result (λ change. (term : ℕ) → raised ws change
    ≡ raised ws (Some (let x : Change = record { index = c.args.index; kind = event.Delete; key = key; value = v; prev = value_at (part_of s term) key } in x)))) c.in_ok-nothing-in-Delete.ensures
    c.change_at-in-Delete.ensures.change)

pub returns-in-Insert-clause-change : goal.returns-in-Insert-clause-change
returns-in-Insert-clause-change g c =
    subst (λ command. IfOk c.change_at.result (λ change. (term : ℕ) → raised (watchers c.args.registry.now) change
    ≡ raised (watchers c.args.registry.now) (change_made (part_of (g.M.StateMachine.map c.args.state.now) term) c.args.index command))) (sym c.in-Insert.is) c.change_at.ensures.change

pub returns-in-CompareAndSwap-clause-change : goal.returns-in-CompareAndSwap-clause-change
returns-in-CompareAndSwap-clause-change g c =
    subst (λ command. IfOk c.change_at-in-CompareAndSwap.result (λ change. (term : ℕ) → raised (watchers c.args.registry.now) change
    ≡ raised (watchers c.args.registry.now) (change_made (part_of (g.M.StateMachine.map c.args.state.now) term) c.args.index command))) (sym c.in-CompareAndSwap.is) c.change_at-in-CompareAndSwap.ensures.change
