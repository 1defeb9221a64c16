use Rattle.std.proofs.Common.{◌≡◌, ◌≤◌, ◌+◌, ◌*◌, ℕ, [], ◌∷◌, ◌++◌, length, Some, None, Ok, Err, refl, ap, sym, subst, ◌∙◌, arith}
use Rattle.std.proofs.lemmas.Result.{on_ok_weaker}
use Rattle.den_disk.specs.declared.place.Family.TheVariants.{State}
use Rattle.den_model.specs.declared.journal.JournalRecord.TheVariants.{Cleanup}
use Rattle.den_model.specs.declared.region.StateRegion.{StateRegion}
use Rattle.den_model.specs.declared.region.StateRegion.TheVariants.{Records}
use Rattle.den_model.specs.MapState.{MapState, map_after}
use Rattle.den_model.specs.Sizes.{store_rise}
use Rattle.den_model.specs.Spelling.{state_region_word}
use Rattle.den_disk.specs.declared.place.Place.{Place}
use Rattle.den_gate.specs.Gate.{payloads}
use Rattle.den_gate.specs.Slot.{payloads_of}
use Rattle.den_lease.specs.Due.{has_due}
use Rattle.den_map.specs.Cleanup.{cleaned_map}
use Rattle.den_map.specs.Tail.{tail_after}
use Rattle.den_journal.specs.Shown.{held_in}
use Rattle.den_journal.proofs.Moving.{writes_refused}
use Rattle.den_journal.proofs.Seen.{writes_part, refused_same}
use Rattle.den_state.specs.FileState.{map_held, state_lies, state_map, stored_of}
use Rattle.den_state.specs.Folds.{held_map}
use Rattle.den_state.specs.Stored.{Stored, MayWant, map_by, nothing_stored, stored_from}
use Rattle.den_state.proofs.Chunks.{at_both, both_ways}
use Rattle.den_state.proofs.Cleaning.{due_cleaned}
use Rattle.den_state.proofs.Marks.{lawful_by, cleanup_after}
use Rattle.den_state.proofs.Weighing.{light_cleanup}
use Rattle.den_state.proofs.file_machine.FileStateMachine.remove.Goals as goal

-- what the region of a cleanup gives of the map, and that it wants no memory
region_gives : (m : MapState) (at : ℕ) (r : StateRegion) → r ≡ Records (Cleanup at ∷ []) → map_after m r ≡ Some (cleaned_map at m)
region_gives m at r is = ap (map_after m) is ∙ cleanup_after m at

wants_none : (at : ℕ) (r : StateRegion) → r ≡ Records (Cleanup at ∷ []) → MayWant r → ⊥
wants_none at r is may = let never : ◌≡◌ {A = _} (Some at) None = subst MayWant is may in absurd (cc never)

region_size : (at moment : ℕ) (r : StateRegion) → r ≡ Records (Cleanup at ∷ []) → at ≡ moment
    → (length (state_region_word r) ≡ length (state_region_word (Records (Cleanup moment ∷ [])))) × (9 + 2 * length (state_region_word r) ≤ store_rise 0)
region_size at moment r is same =
    let size : length (state_region_word r) ≡ length (state_region_word (Records (Cleanup moment ∷ []))) = ap (λ (x : StateRegion). length (state_region_word x)) (is ∙ ap (λ (n : ℕ). Records (Cleanup n ∷ [])) same) in
    (size, omega (arith, light_cleanup moment, size))

pub returns-in_err-due-clause-writes : goal.returns-in_err-due-clause-writes
returns-in_err-due-clause-writes g c =
    let s = c.requires.stands in
    let d = c.args.disk.now in
    writes_refused g.D.Disk State map_held _ _ _ d s.ready s.rests
    (λ tells told files i. state_lies.rests_hold told c.args.self.now (g.D.Disk.content d) files s.ready (s.rests tells) ((g.met.D.Disk.images_now d files tells).0 i))
    c.from_residual.result c.from_residual.ensures.1 refl refl

pub change-requires-clause-lawful : goal.change-requires-clause-lawful
change-requires-clause-lawful g c =
    let s = c.args.self.now in
    lawful_by (stored_of s) c.in_ok-due.due.region _ (region_gives s.journal.held.map c.args.moment c.in_ok-due.due.region c.in_ok-due.ensures.region)

pub invariant_of-self : goal.invariant_of-self
invariant_of-self g c =
    let s = c.args.self.now in
    let m = s.journal.held.map in
    let w = c.change.ensures.writes in
    let n = c.change.new.self.held.map in
    let r = c.in_ok-due.due.region in
    let at = c.args.moment in
    let after = region_gives m at r c.in_ok-due.ensures.region in
    record {
      below = both_ways c.change.result
          (on_ok_weaker c.change.result (λ b. let value : n ≡ cleaned_map at m = ap (λ (v : Stored). v.map) b.value ∙ ap (map_by m) after in omega (arith, s.below, ap (λ (x : MapState). x.mark.index) value)) w.done)
          (at_both c.change.result (λ e x stays. let same : n ≡ m = ap (λ (v : Stored). v.map) (refused_same g.D.Disk _ _ _ _ State _ _ e (wants_none at r c.in_ok-due.ensures.region) stays x) in omega (arith, s.below, ap (λ (y : MapState). y.mark.index) same)) w.refused c.change.ensures.same);
    }

pub returns-in-Ok-clause-writes : goal.returns-in-Ok-clause-writes
returns-in-Ok-clause-writes g c =
    let s = c.args.self.now in
    let m = s.journal.held.map in
    let r = c.in_ok-due.due.region in
    let at = c.args.moment in
    let same : c.args.moment ≡ c.args.moment = refl in
    let after = region_gives m at r c.in_ok-due.ensures.region in
    let cleaned = due_cleaned s.leased (has_due c.args.moment m.expiries) at c.args.moment m c.requires.due same in
    let size = region_size at c.args.moment r c.in_ok-due.ensures.region same in
    writes_part g.D.Disk State (held_in State (stored_from nothing_stored)) map_held (λ (v : Stored). v.map) _ _ _ _ _ _ (λ told. told) held_map (ap (map_by m) after ∙ cleaned) (λ n is. is ∙ size.0) (λ n never. absurd never) size.1 (λ _. tt) (Ok _) (Ok _) tt c.in-Ok.ensures.writes

pub returns-in-Ok-clause-cleaned : goal.returns-in-Ok-clause-cleaned
returns-in-Ok-clause-cleaned g c =
    let s = c.args.self.now in
    let m = s.journal.held.map in
    let r = c.in_ok-due.due.region in
    let at = c.args.moment in
    let same : c.args.moment ≡ c.args.moment = refl in
    let after = region_gives m at r c.in_ok-due.ensures.region in
    let value : c.change.new.self.held.map ≡ cleaned_map at m = ap (λ (v : Stored). v.map) c.in-Ok.ensures.writes.done.value ∙ ap (map_by m) after in
    let marked : record c.change.new.self.held.map { mark = s.applied } ≡ cleaned_map at (state_map s) = λ i. record (value i) { mark = s.applied } in
    marked ∙ due_cleaned s.leased (has_due c.args.moment m.expiries) at c.args.moment (state_map s) c.requires.due same

pub returns-in-Err-clause-writes : goal.returns-in-Err-clause-writes
returns-in-Err-clause-writes g c =
    let s = c.args.self.now in
    let m = s.journal.held.map in
    let r = c.in_ok-due.due.region in
    let at = c.args.moment in
    let same : c.args.moment ≡ c.args.moment = refl in
    let after = region_gives m at r c.in_ok-due.ensures.region in
    let cleaned = due_cleaned s.leased (has_due c.args.moment m.expiries) at c.args.moment m c.requires.due same in
    let size = region_size at c.args.moment r c.in_ok-due.ensures.region same in
    writes_part g.D.Disk State (held_in State (stored_from nothing_stored)) map_held (λ (v : Stored). v.map) _ _ _ _ _ _ (λ told. told) held_map (ap (map_by m) after ∙ cleaned) (λ n is. is ∙ size.0) (λ n never. absurd never) size.1 (λ _. tt) (Err _) (Err _) refl c.in-Err.ensures.writes

pub returns-in-Err-clause-same : goal.returns-in-Err-clause-same
returns-in-Err-clause-same g c =
    let s = c.args.self.now in
    let r = c.in_ok-due.due.region in
    let same : c.change.new.self.held.map ≡ s.journal.held.map = ap (λ (v : Stored). v.map) (refused_same g.D.Disk _ _ _ _ State _ _ c.in-Err.error (wants_none c.args.moment r c.in_ok-due.ensures.region) c.in-Err.ensures.same c.in-Err.ensures.writes.refused) in
    λ i. record (same i) { mark = s.applied }

pub returns-in-Err-clause-short_kept : goal.returns-in-Err-clause-short_kept
returns-in-Err-clause-short_kept g c = λ short.
    let r = c.in_ok-due.due.region in
    let same : c.change.new.self.held.tail ≡ c.args.self.now.journal.held.tail =
    ap (λ (v : Stored). v.tail) (refused_same g.D.Disk _ _ _ _ State _ _ c.in-Err.error (wants_none c.args.moment r c.in_ok-due.ensures.region) c.in-Err.ensures.same c.in-Err.ensures.writes.refused) in
    omega (arith, same, short)

pub returns-in-Ok-clause-region : goal.returns-in-Ok-clause-region
returns-in-Ok-clause-region g c = λ tells.
    let s = c.args.self.now in
    let list = payloads s.journal.gate (g.D.Disk.content c.args.disk.now).reading in
    let same : c.args.moment ≡ c.args.moment = refl in
    sym (ap (λ (p : Place). payloads_of ((g.D.Disk.content c.change.new.disk).reading p)) c.change.ensures.slot) ∙ c.in-Ok.ensures.appended tells ∙ ap (λ (r : StateRegion). list ++ state_region_word r ∷ []) (c.in_ok-due.ensures.region ∙ ap (λ (n : ℕ). Records (Cleanup n ∷ [])) same)

pub returns-in-Ok-clause-tail : goal.returns-in-Ok-clause-tail
returns-in-Ok-clause-tail g c =
    ap (λ (v : Stored). v.tail) c.in-Ok.ensures.writes.done.value ∙ ap (λ (r : StateRegion). tail_after c.args.self.now.journal.held.tail r) c.in_ok-due.ensures.region
