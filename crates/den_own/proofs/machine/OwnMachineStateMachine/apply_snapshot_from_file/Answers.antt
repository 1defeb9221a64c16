use Rattle.den_own.specs.Machines.{machine_shown}
use Rattle.den_own.proofs.Snapshots.{installs_none}
use Rattle.den_own.proofs.machine.OwnMachineStateMachine.apply_snapshot_from_file.Goals as goal

pub returns-clause-installs : goal.returns-clause-installs
returns-clause-installs g c = installs_none g.D.Disk (machine_shown c.args.self.now) c.args._disk.now c.requires.stands.ready tt _ _ _ _
