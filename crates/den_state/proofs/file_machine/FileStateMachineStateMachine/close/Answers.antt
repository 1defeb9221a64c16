use Rattle.std.proofs.Common.{IsTrue, Some, ⊎_elim, ap, sym, subst, ◌∙◌}
use Rattle.std.proofs.lemmas.Result.{on_ok_weaker, IfErr-weaker}
use Rattle.den_disk.specs.Files.{Kind}
use Rattle.den_model.specs.MapState.{MapState}
use Rattle.den_state.specs.FileState.{state_lies}
use Rattle.den_state.proofs.file_machine.FileStateMachineStateMachine.close.Goals as goal

pub returns-clause-closes : goal.returns-clause-closes
returns-clause-closes g c =
    let D = g.D.Disk in
    let new = c.save_hard_state.new.disk in
    let w = c.save_hard_state.ensures.writes in
    record {
      goes_on = w.goes_on;
      moves = w.moves;
      held = on_ok_weaker c.save_hard_state.result (λ b tells told files image.
          let still = subst (λ (k : Kind). IsTrue k.tells) (sym w.goes_on.same) tells in
          state_lies.rests_hold told c.save_hard_state.new.self (D.content new) files b.ready (b.rests tells) ((g.met.D.Disk.images_now new files still).0 image) ∙ ap (λ (m : MapState). Some m) b.value) w.done;
      cause = IfErr-weaker c.save_hard_state.result _ _ (λ e r. r.cause) w.refused;
      full = IfErr-weaker c.save_hard_state.result _ _ (λ e r. r.full) w.refused;
      heavy = IfErr-weaker c.save_hard_state.result _ _ (λ e r. r.heavy) w.refused;
      untouched = IfErr-weaker c.save_hard_state.result _ _ (λ e r is. ⊎_elim (λ u. u.same_disk) (λ l. absurd l.may_be) (r.untouched is)) w.refused;
    }
