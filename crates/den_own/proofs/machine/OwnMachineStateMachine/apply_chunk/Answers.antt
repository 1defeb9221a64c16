use Rattle.std.proofs.Common.{sym, ◌∙◌}
use Rattle.den_disk.specs.declared.place.Family.TheVariants.{State}
use Rattle.den_own.specs.Machines.{map_weight, stored_of}
use Rattle.den_own.proofs.Maps.{applied_stored, chunk_lighter, none_applied, refused_stored}
use Rattle.den_own.proofs.Unwritten.{either_or_loses, makes}
use Rattle.den_own.proofs.machine.OwnMachineStateMachine.apply_chunk.Goals as goal

pub returns-then-is_empty-clause-writes : goal.returns-then-is_empty-clause-writes
returns-then-is_empty-clause-writes g c = λ none.
    let m = stored_of c.args.self.now in
    let chunk = c.args.chunk.now in
    makes g.D.Disk State _ c.args.self.now.failed map_weight m c.args._disk.now _ _ _ c.requires.stands.ready (none_applied m chunk (sym c.is_empty.ensures ∙ c.if-is_empty.true)) (chunk_lighter m chunk)

pub returns-clause-writes : goal.returns-clause-writes
returns-clause-writes g c = λ none.
    let s = c.args.self.now in
    let n = c.apply.new.self in
    let chunk = c.args.chunk.now in
    either_or_loses g.D.Disk State _ s.failed map_weight (stored_of s) c.args._disk.now c.apply.result _ _ tt (chunk_lighter (stored_of s) chunk)
    (applied_stored s n chunk c.apply.result (sym c.is_empty.ensures ∙ c.if-is_empty.false) c.apply.ensures.applied c.apply.ensures.stored c.apply.ensures.going)
    (refused_stored s n c.apply.result c.requires.stands.ready c.apply.ensures.refused)
