use Rattle.den_store.specs.Held.{log_of}
use Rattle.den_store.proofs.Fitting.{same_fit}
use Rattle.den_store.proofs.HeldLogs.{same_order}
use Rattle.den_store.proofs.held_log.HeldLog.reserve.Goals as goal

pub invariant_of-self : goal.invariant_of-self
invariant_of-self c = record { order = same_order (log_of c.args.self.now) _ c.reserve.ensures.items c.args.self.now.order; fits = same_fit c.args.self.now.entries.items _ c.reserve.ensures.items c.args.self.now.fits }
