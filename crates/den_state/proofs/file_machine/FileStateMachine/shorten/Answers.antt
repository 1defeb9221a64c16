use Rattle.std.proofs.Common.{refl, arith}
use Rattle.den_disk.specs.declared.place.Family.TheVariants.{State}
use Rattle.den_journal.proofs.Moving.{writes_nothing}
use Rattle.den_state.specs.FileState.{map_held, state_lies}
use Rattle.den_state.proofs.file_machine.FileStateMachine.shorten.Goals as goal

pub returns-then-held-lt-LONG_TAIL-clause-writes : goal.returns-then-held-lt-LONG_TAIL-clause-writes
returns-then-held-lt-LONG_TAIL-clause-writes g c =
    let s = c.requires.stands in
    let d = c.args.disk.now in
    writes_nothing g.D.Disk State map_held _ _ _ d s.ready s.rests
    (λ tells told files i. state_lies.rests_hold told c.args.self.now (g.D.Disk.content d) files s.ready (s.rests tells) ((g.met.D.Disk.images_now d files tells).0 i))
    tt refl (omega arith)
