use Rattle.std.proofs.Common.{◌≡◌, Ok, Err, refl, sym, ap, ◌∙◌, arith}
use Rattle.den_disk.specs.declared.place.Family.TheVariants.{State}
use Rattle.den_disk.specs.declared.place.Place.{Place}
use Rattle.den_gate.specs.Slot.{payloads_of}
use Rattle.den_model.specs.declared.region.StateRegion.TheVariants.{Mark}
use Rattle.den_model.specs.MapState.{MapState}
use Rattle.den_journal.specs.Shown.{held_in}
use Rattle.den_journal.proofs.Seen.{writes_part}
use Rattle.den_state.specs.FileState.{map_held, stored_of}
use Rattle.den_state.specs.Folds.{held_map}
use Rattle.den_state.specs.Stored.{Stored, map_by, nothing_stored, stored_from}
use Rattle.den_state.proofs.Marks.{lawful_by, mark_after}
use Rattle.den_state.proofs.Weighing.{light_mark}
use Rattle.den_state.proofs.file_machine.FileStateMachineStateMachine.persist_last_applied.Goals as goal

pub change-requires-clause-stands : goal.change-requires-clause-stands
change-requires-clause-stands g c = record { ready = c.requires.stands.ready; rests = c.requires.stands.rests }

pub change-requires-clause-lawful : goal.change-requires-clause-lawful
change-requires-clause-lawful g c =
    let s = c.args.self.now in
    let p = c.args.last_applied in
    lawful_by (stored_of s) (Mark p.index p.term) _ (mark_after s.journal.held.map p.index p.term (omega (arith, s.below, c.requires.above)))

pub returns-in-Ok-clause-writes : goal.returns-in-Ok-clause-writes
returns-in-Ok-clause-writes g c =
    let s = c.args.self.now in
    let p = c.args.last_applied in
    let m = s.journal.held.map in
    let after = mark_after m p.index p.term (omega (arith, s.below, c.requires.above)) in
    writes_part g.D.Disk State (held_in State (stored_from nothing_stored)) map_held (λ (v : Stored). v.map) _ _ _ _ _ _ (λ told. told) held_map (ap (map_by m) after) (λ n is. is) (λ n is. is) (light_mark p.index p.term) (λ h. h) (Ok _) (Ok _) tt c.in-Ok.ensures.writes

pub returns-in-Err-clause-writes : goal.returns-in-Err-clause-writes
returns-in-Err-clause-writes g c =
    let s = c.args.self.now in
    let p = c.args.last_applied in
    let m = s.journal.held.map in
    let after = mark_after m p.index p.term (omega (arith, s.below, c.requires.above)) in
    writes_part g.D.Disk State (held_in State (stored_from nothing_stored)) map_held (λ (v : Stored). v.map) _ _ _ _ _ _ (λ told. told) held_map (ap (map_by m) after) (λ n is. is) (λ n is. is) (light_mark p.index p.term) (λ h. h) (Err _) (Err _) refl c.in-Err.ensures.writes

pub invariant_of-self : goal.invariant_of-self
invariant_of-self g c =
    let s = c.args.self.now in
    let p = c.args.last_applied in
    let m = s.journal.held.map in
    let after = mark_after m p.index p.term (omega (arith, s.below, c.requires.above)) in
    let value : c.change.new.self.held.map ≡ record m { mark = p } = ap (λ (v : Stored). v.map) c.in-Ok.ensures.writes.done.value ∙ ap (map_by m) after in
    record { below = omega (arith, ap (λ (x : MapState). x.mark.index) value) }

pub returns-in-Ok-clause-map : goal.returns-in-Ok-clause-map
returns-in-Ok-clause-map g c =
    let s = c.args.self.now in
    let p = c.args.last_applied in
    let m = s.journal.held.map in
    let after = mark_after m p.index p.term (omega (arith, s.below, c.requires.above)) in
    let value : c.change.new.self.held.map ≡ record m { mark = p } = ap (λ (v : Stored). v.map) c.in-Ok.ensures.writes.done.value ∙ ap (map_by m) after in
    λ i. record (value i) { mark = p }

pub returns-in-Ok-clause-region : goal.returns-in-Ok-clause-region
returns-in-Ok-clause-region g c = λ tells. sym (ap (λ (p : Place). payloads_of ((g.D.Disk.content c.change.new.disk).reading p)) c.change.ensures.slot) ∙ c.in-Ok.ensures.appended tells
