use Rattle.std.proofs.Common.{◌≡◌, true, List, [], ◌∷◌, length, refl, sym, ◌∙◌, arith}
use Rattle.std.specs.Prelude.{◌==◌}
use Rattle.std.proofs.lemmas.Bool.{eqb-true}
use Rattle.std.proofs.lemmas.Result.{on_ok_weaker}
use Rattle.den_disk.specs.declared.place.Family.TheVariants.{State}
use Rattle.den_model.specs.Entries.{LogEntry}
use Rattle.den_model.specs.MapState.{MapState, map_applied_all}
use Rattle.den_journal.proofs.Moving.{writes_nothing}
use Rattle.den_state.specs.FileState.{map_held, state_lies}
use Rattle.den_state.proofs.file_machine.FileStateMachineStateMachine.apply_chunk.Goals as goal

none_applied : (m : MapState) (es : List LogEntry) → (length es == 0) ≡ true → m ≡ map_applied_all m es
none_applied m [] none = refl
none_applied m (e ∷ es) none = absurd (omega (arith, eqb-true (length (e ∷ es)) 0 none))

pub returns-then-is_empty-clause-writes : goal.returns-then-is_empty-clause-writes
returns-then-is_empty-clause-writes g c = λ none.
    let s = c.requires.stands in
    let d = c.args.disk.now in
    writes_nothing g.D.Disk State map_held _ _ _ d s.ready s.rests
    (λ tells told files i. state_lies.rests_hold told c.args.self.now (g.D.Disk.content d) files s.ready (s.rests tells) ((g.met.D.Disk.images_now d files tells).0 i))
    _ (none_applied c.args.self.now.journal.held.map c.args.chunk.now (sym c.is_empty.ensures ∙ c.if-is_empty.true)) (omega arith)

pub returns-clause-region : goal.returns-clause-region
returns-clause-region g c = on_ok_weaker c.apply.result (λ files _. files) c.apply.ensures.region
