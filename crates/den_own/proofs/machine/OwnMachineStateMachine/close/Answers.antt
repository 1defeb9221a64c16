use Rattle.std.proofs.Common.{[], ◌∷◌}
use Rattle.den_disk.specs.declared.place.Family.TheVariants.{State}
use Rattle.den_journal.proofs.Moving.{goes_nowhere, moves_nothing}
use Rattle.den_own.specs.Machines.{stored_of}
use Rattle.den_own.specs.Memory.{nothing_told}
use Rattle.den_own.proofs.machine.OwnMachineStateMachine.close.Goals as goal

pub returns-clause-closes : goal.returns-clause-closes
returns-clause-closes g c = record {
  goes_on = goes_nowhere g.D.Disk c.args._disk.now;
  moves = λ tells. moves_nothing g.D.Disk State nothing_told (stored_of c.args.self) (_ ∷ []) c.args._disk.now (λ told. absurd told);
  held = λ tells told. absurd told;
  cause = tt;
  full = tt;
  heavy = tt;
  untouched = tt;
}
