use Rattle.std.proofs.Common.{List, ap, ◌∙◌}
use Rattle.std.specs.List.{list_any}
use Rattle.den_model.specs.Step.{sees}
use Rattle.den_watch.specs.Queues.{Queued, watchers_in}
use Rattle.den_watch.specs.Registry.{Registry, watchers}
use Rattle.den_watch.proofs.registry.WatchRegistry.watches.Goals as goal

pub returns : goal.returns
returns c =
    let key = c.args.key.now in
    c.any_sees.ensures ∙ ap (λ (qs : List Queued). list_any (λ w. sees w key) (watchers_in qs)) c.as_slice.ensures.value
    ∙ ap (λ (r : Registry). list_any (λ w. sees w key) (watchers r)) c.self.view_is
