use Rattle.std.proofs.Common.{List, ap, ◌∙◌}
use Rattle.den_model.specs.Step.{events_of}
use Rattle.den_watch.specs.Queues.{Queued, watchers_in}
use Rattle.den_watch.specs.Registry.{Registry, watchers}
use Rattle.den_watch.proofs.registry.WatchRegistry.events_of.Goals as goal

pub returns-clause-events : goal.returns-clause-events
returns-clause-events c =
    let change = c.args.change.now in
    c.of.ensures ∙ c.in_ok-events_of.ensures ∙ ap (λ (qs : List Queued). events_of (watchers_in qs) change) c.as_slice.ensures.value
    ∙ ap (λ (r : Registry). events_of (watchers r) change) c.self.view_is
