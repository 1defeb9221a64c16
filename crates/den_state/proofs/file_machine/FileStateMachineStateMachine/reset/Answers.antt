use Rattle.std.proofs.Common.{◌≡◌, Ok, Err, refl, [], ap, ◌∙◌, arith}
use Rattle.den_disk.specs.declared.place.Family.TheVariants.{State}
use Rattle.den_model.specs.MapState.{MapState, empty_map}
use Rattle.den_journal.specs.Shown.{held_in}
use Rattle.den_journal.proofs.Seen.{writes_part}
use Rattle.den_state.specs.FileState.{map_held, stored_of}
use Rattle.den_state.specs.Folds.{held_map}
use Rattle.den_state.specs.Stored.{Stored, nothing_stored, stored_from}
use Rattle.den_state.proofs.Resetting.{reset_by, reset_gives, reset_lawful, reset_small}
use Rattle.den_state.proofs.Weighing.{light_begin}
use Rattle.den_state.proofs.file_machine.FileStateMachineStateMachine.reset.Goals as goal

pub rewrite-requires-clause-stands : goal.rewrite-requires-clause-stands
rewrite-requires-clause-stands g c = record { ready = c.requires.stands.ready; rests = c.requires.stands.rests }

pub rewrite-requires-clause-lawful : goal.rewrite-requires-clause-lawful
rewrite-requires-clause-lawful g c = reset_lawful (stored_of c.args.self.now)

pub rewrite-requires-clause-gives : goal.rewrite-requires-clause-gives
rewrite-requires-clause-gives g c = reset_gives (stored_of c.args.self.now)

pub rewrite-requires-clause-small : goal.rewrite-requires-clause-small
rewrite-requires-clause-small g c = reset_small _

pub returns-in-Ok-clause-writes : goal.returns-in-Ok-clause-writes
returns-in-Ok-clause-writes g c =
    writes_part g.D.Disk State (held_in State (stored_from nothing_stored)) map_held (λ (v : Stored). v.map) _ _ _ _ _ _ (λ told. told) held_map (reset_by c.args.self.now.journal.held.map) (λ n is. is) (λ n is. is) (light_begin 0 0) (λ h. h) (Ok _) (Ok _) tt c.in-Ok.ensures.writes

pub returns-in-Err-clause-writes : goal.returns-in-Err-clause-writes
returns-in-Err-clause-writes g c =
    writes_part g.D.Disk State (held_in State (stored_from nothing_stored)) map_held (λ (v : Stored). v.map) _ _ _ _ _ _ (λ told. told) held_map (reset_by c.args.self.now.journal.held.map) (λ n is. is) (λ n is. is) (light_begin 0 0) (λ h. h) (Err _) (Err _) refl c.in-Err.ensures.writes

pub invariant_of-self : goal.invariant_of-self
invariant_of-self g c =
    let m = c.args.self.now.journal.held.map in
    let value : c.rewrite.new.self.held.map ≡ empty_map = ap (λ (v : Stored). v.map) c.in-Ok.ensures.writes.done.value ∙ reset_by m in
    record { below = omega (arith, ap (λ (x : MapState). x.mark.index) value) }

pub returns-in-Ok-clause-map : goal.returns-in-Ok-clause-map
returns-in-Ok-clause-map g c =
    let m = c.args.self.now.journal.held.map in
    let value : c.rewrite.new.self.held.map ≡ empty_map = ap (λ (v : Stored). v.map) c.in-Ok.ensures.writes.done.value ∙ reset_by m in
    λ i. record (value i) { mark = record { index = 0; term = 0 } }

pub returns-in-Ok-clause-checkpoint : goal.returns-in-Ok-clause-checkpoint
returns-in-Ok-clause-checkpoint g c = λ tells. record { pages = []; words = c.in-Ok.ensures.rewritten tells; all = refl; short = tt }
