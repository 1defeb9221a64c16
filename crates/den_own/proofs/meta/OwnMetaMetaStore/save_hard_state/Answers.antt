use Rattle.std.proofs.Common.{refl, arith}
use Rattle.den_disk.specs.declared.place.Family.TheVariants.{Meta}
use Rattle.den_own.proofs.Unwritten.{makes}
use Rattle.den_own.proofs.meta.OwnMetaMetaStore.save_hard_state.Goals as goal

pub returns-clause-writes : goal.returns-clause-writes
returns-clause-writes g c = makes g.D.Disk Meta _ c.args.self.now.failed (λ h. 0) c.args.self.now.last c.args._disk.now _ _ _ c.requires.stands.ready refl (omega arith)
