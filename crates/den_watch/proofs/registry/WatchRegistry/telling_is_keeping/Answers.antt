use Rattle.std.proofs.Common.{subst}
use Rattle.den_watch.specs.Queues.{RiseUpTo}
use Rattle.den_watch.specs.Registry.{Registry}
use Rattle.den_watch.proofs.Telling.{kept_as_told}
use Rattle.den_watch.proofs.registry.WatchRegistry.telling_is_keeping.Goals as goal

pub returns : goal.returns
returns c = kept_as_told c.args.change.now c.args.self.now (subst (λ (r : Registry). RiseUpTo r.registered 0 r.waiting) c.self.view_is c.self.invariant.rises)
