use Rattle.std.proofs.Common.{◌≡◌, sym, ap, ◌∙◌, arith}
use Rattle.den_disk.specs.declared.place.Family.TheVariants.{State}
use Rattle.den_model.specs.declared.log_id.LogId.{LogId}
use Rattle.den_journal.proofs.Moving.{writes_nothing}
use Rattle.den_state.specs.declared.stored_map.StoredMap.{StoredMap}
use Rattle.den_state.specs.FileState.{map_held, state_lies}
use Rattle.den_state.proofs.file_machine.FileStateMachineStateMachine.save_hard_state.Goals as goal

pub returns-then-stored-mark-2-clause-writes : goal.returns-then-stored-mark-2-clause-writes
returns-then-stored-mark-2-clause-writes g c =
    let s = c.requires.stands in
    let d = c.args.disk.now in
    let m = c.args.self.now.journal.held.map in
    let applied = c.args.self.now.applied in
    let stored : c.mark-stored.result ≡ m.mark = c.mark-stored.ensures ∙ ap (λ (h : StoredMap). h.map.mark) c.held.ensures in
    let index : m.mark.index ≡ applied.index = ap (λ (p : LogId). p.index) (sym stored) ∙ c.if-stored-mark.true in
    let term : m.mark.term ≡ applied.term = ap (λ (p : LogId). p.term) (sym stored) ∙ c.if-stored-mark-2.true in
    writes_nothing g.D.Disk State map_held _ _ _ d s.ready s.rests
    (λ tells told files i. state_lies.rests_hold told c.args.self.now (g.D.Disk.content d) files s.ready (s.rests tells) ((g.met.D.Disk.images_now d files tells).0 i))
    tt (λ i. record m { mark = record { index = index i; term = term i } }) (omega arith)
