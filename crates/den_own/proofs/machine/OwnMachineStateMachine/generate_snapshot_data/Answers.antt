use Rattle.den_own.specs.Machines.{machine_shown}
use Rattle.den_own.proofs.Snapshots.{stores_none}
use Rattle.den_own.proofs.machine.OwnMachineStateMachine.generate_snapshot_data.Goals as goal

pub returns-clause-generates : goal.returns-clause-generates
returns-clause-generates g c = stores_none g.D.Disk (machine_shown c.args.self.now) c.args._disk.now c.requires.stands.ready tt _
