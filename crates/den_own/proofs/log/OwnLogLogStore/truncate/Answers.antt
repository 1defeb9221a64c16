use Rattle.den_disk.specs.declared.place.Family.TheVariants.{Log as log_family}
use Rattle.den_model.specs.declared.region.LogRegion.TheVariants.{Truncate}
use Rattle.den_store.proofs.HeldLogs.{truncated_order}
use Rattle.den_own.specs.Logs.{log_of, log_weight}
use Rattle.den_own.proofs.Adding.{log_lighter}
use Rattle.den_own.proofs.Unwritten.{makes}
use Rattle.den_own.proofs.log.OwnLogLogStore.truncate.Goals as goal

pub invariant_of-self : goal.invariant_of-self
invariant_of-self g c = record { order = truncated_order (log_of c.args.self.now) c.args.from_index _ c.args.self.now.order c.cut_from.ensures }

pub returns-clause-writes : goal.returns-clause-writes
returns-clause-writes g c =
    let l = log_of c.args.self.now in
    makes g.D.Disk log_family _ c.args.self.now.failed log_weight l c.args._disk.now _ _ _ c.requires.stands.ready (λ i. record { boundary = l.boundary; entries = c.cut_from.ensures i }) (log_lighter l (Truncate c.args.from_index))
