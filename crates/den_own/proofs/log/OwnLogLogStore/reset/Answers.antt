use Rattle.std.proofs.Common.{None}
use Rattle.den_disk.specs.declared.place.Family.TheVariants.{Log as log_family}
use Rattle.den_model.specs.declared.region.LogRegion.TheVariants.{Reset}
use Rattle.den_own.specs.Logs.{log_of, log_weight}
use Rattle.den_own.proofs.Adding.{log_lighter}
use Rattle.den_own.proofs.Unwritten.{makes}
use Rattle.den_own.proofs.log.OwnLogLogStore.reset.Goals as goal

pub returns-clause-writes : goal.returns-clause-writes
returns-clause-writes g c =
    let l = log_of c.args.self.now in
    makes g.D.Disk log_family _ c.args.self.now.failed log_weight l c.args._disk.now _ _ _ c.requires.stands.ready (λ i. record { boundary = None; entries = c.clear.ensures.items i }) (log_lighter l Reset)
