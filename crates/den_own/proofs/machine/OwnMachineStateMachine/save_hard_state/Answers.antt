use Rattle.std.proofs.Common.{arith}
use Rattle.den_disk.specs.declared.place.Family.TheVariants.{State}
use Rattle.den_own.specs.Machines.{map_weight, stored_of}
use Rattle.den_own.proofs.Unwritten.{makes}
use Rattle.den_own.proofs.machine.OwnMachineStateMachine.save_hard_state.Goals as goal

pub returns-clause-writes : goal.returns-clause-writes
returns-clause-writes g c =
    makes g.D.Disk State _ c.args.self.now.failed map_weight (stored_of c.args.self.now) c.args._disk.now _ _ _ c.requires.stands.ready (λ i. record c.args.self.now.map { mark = c.mark-self.ensures i }) (omega arith)
