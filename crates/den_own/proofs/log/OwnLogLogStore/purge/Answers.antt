use Rattle.std.proofs.Common.{arith, ◌<◌, ◌≤◌}
use Rattle.den_disk.specs.declared.place.Family.TheVariants.{Log as log_family}
use Rattle.den_model.specs.declared.region.LogRegion.TheVariants.{Purge}
use Rattle.den_model.specs.Log.{floor}
use Rattle.den_store.proofs.HeldLogs.{not_purged, purged, purged_order}
use Rattle.den_own.specs.Logs.{log_of, log_weight}
use Rattle.den_own.proofs.Adding.{log_lighter}
use Rattle.den_own.proofs.Unwritten.{makes}
use Rattle.den_own.proofs.log.OwnLogLogStore.purge.Goals as goal

pub invariant_of-self : goal.invariant_of-self
invariant_of-self g c = record { order = purged_order (log_of c.args.self.now) c.args.cutoff.index c.args.cutoff.term _ c.args.self.now.order c.cut_to.ensures }

pub returns-then-floor-cutoff-clause-writes : goal.returns-then-floor-cutoff-clause-writes
returns-then-floor-cutoff-clause-writes g c =
    let l = log_of c.args.self.now in
    let cutoff = c.args.cutoff in
    let over : floor l < cutoff.index = omega (arith, c.floor.ensures, c.if-floor-cutoff.true) in
    makes g.D.Disk log_family _ c.args.self.now.failed log_weight l c.args._disk.now _ _ _ c.requires.stands.ready (purged l cutoff.index cutoff.term _ over c.cut_to.ensures) (log_lighter l (Purge cutoff.index cutoff.term))

pub returns-else-floor-cutoff-clause-writes : goal.returns-else-floor-cutoff-clause-writes
returns-else-floor-cutoff-clause-writes g c =
    let l = log_of c.args.self.now in
    let cutoff = c.args.cutoff in
    let under : cutoff.index ≤ floor l = omega (arith, c.floor.ensures, c.if-floor-cutoff.false) in
    makes g.D.Disk log_family _ c.args.self.now.failed log_weight l c.args._disk.now _ _ _ c.requires.stands.ready (not_purged l cutoff.index cutoff.term under) (log_lighter l (Purge cutoff.index cutoff.term))
