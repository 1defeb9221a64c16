use Rattle.std.proofs.Common.{◌≡◌, ◌≤◌, ◌+◌, ◌*◌, ℕ, [], ◌∷◌, max, length, false, Some, None, ap, sym, subst, ◌∙◌, arith}
use Rattle.std.specs.Prelude.{◌&&◌}
use Rattle.std.specs.List.Sorted.{IsStrictlySortedBy}
use Rattle.den_disk.specs.declared.place.Family.TheVariants.{State}
use Rattle.den_model.specs.declared.journal.JournalRecord.TheVariants.{Cleanup}
use Rattle.den_model.specs.declared.region.StateRegion.{StateRegion}
use Rattle.den_model.specs.declared.region.StateRegion.TheVariants.{Records}
use Rattle.den_model.specs.MapState.{MapState, map_after}
use Rattle.den_model.specs.Sizes.{store_rise}
use Rattle.den_model.specs.Spelling.{state_region_word}
use Rattle.den_model.specs.Table.{by_bytes}
use Rattle.den_lease.specs.Due.{has_due}
use Rattle.den_map.specs.Cleanup.{cleaned_map}
use Rattle.den_journal.proofs.Moving.{writes_nothing}
use Rattle.den_state.specs.FileState.{map_held, state_lies, state_map}
use Rattle.den_state.specs.Stored.{MayWant}
use Rattle.den_state.proofs.Cleaning.{nothing_cleaned, nothing_removed}
use Rattle.den_state.proofs.Marks.{cleanup_after}
use Rattle.den_state.proofs.Weighing.{light_cleanup}
use Rattle.den_state.proofs.file_machine.FileStateMachineStateMachine.lease_background_cleanup.Goals as goal

-- what the region of a cleanup gives of the map, and that it wants no memory
region_gives : (m : MapState) (at : ℕ) (r : StateRegion) → r ≡ Records (Cleanup at ∷ []) → map_after m r ≡ Some (cleaned_map at m)
region_gives m at r is = ap (map_after m) is ∙ cleanup_after m at

wants_none : (at : ℕ) (r : StateRegion) → r ≡ Records (Cleanup at ∷ []) → MayWant r → ⊥
wants_none at r is may = let never : ◌≡◌ {A = _} (Some at) None = subst MayWant is may in absurd (cc never)

region_size : (at moment : ℕ) (r : StateRegion) → r ≡ Records (Cleanup at ∷ []) → at ≡ moment
    → (length (state_region_word r) ≡ length (state_region_word (Records (Cleanup moment ∷ [])))) × (9 + 2 * length (state_region_word r) ≤ store_rise 0)
region_size at moment r is same =
    let size : length (state_region_word r) ≡ length (state_region_word (Records (Cleanup moment ∷ []))) = ap (λ (x : StateRegion). length (state_region_word x)) (is ∙ ap (λ (n : ℕ). Records (Cleanup n ∷ [])) same) in
    (size, omega (arith, light_cleanup moment, size))

pub returns-then-not-is_due-clause-writes : goal.returns-then-not-is_due-clause-writes
returns-then-not-is_due-clause-writes g c =
    let s = c.args.self.now in
    let d = c.args.disk.now in
    let stands = c.requires.stands in
    let moment : c.get.result ≡ max c.args.now 1 = c.get.ensures.is ∙ c.of-moment.ensures ∙ c.max.ensures in
    let none : (s.leased && has_due (max c.args.now 1) s.journal.held.map.expiries) ≡ false = ap (λ n. s.leased && has_due n s.journal.held.map.expiries) (sym moment) ∙ sym c.is_due.ensures ∙ c.if-not-is_due.true in
    writes_nothing g.D.Disk State map_held _ _ _ d stands.ready stands.rests
    (λ tells told files i. state_lies.rests_hold told s (g.D.Disk.content d) files stands.ready (stands.rests tells) ((g.met.D.Disk.images_now d files tells).0 i))
    _ (sym (nothing_cleaned s.leased (max c.args.now 1) s.journal.held.map none)) (omega arith)

pub returns-then-not-is_due-clause-cleaned : goal.returns-then-not-is_due-clause-cleaned
returns-then-not-is_due-clause-cleaned g c =
    let s = c.args.self.now in
    let moment : c.get.result ≡ max c.args.now 1 = c.get.ensures.is ∙ c.of-moment.ensures ∙ c.max.ensures in
    let none : (s.leased && has_due (max c.args.now 1) s.journal.held.map.expiries) ≡ false = ap (λ n. s.leased && has_due n s.journal.held.map.expiries) (sym moment) ∙ sym c.is_due.ensures ∙ c.if-not-is_due.true in
    sym (nothing_cleaned s.leased (max c.args.now 1) (state_map s) none)

pub returns-then-not-is_due-clause-keys : goal.returns-then-not-is_due-clause-keys
returns-then-not-is_due-clause-keys g c =
    let s = c.args.self.now in
    let moment : c.get.result ≡ max c.args.now 1 = c.get.ensures.is ∙ c.of-moment.ensures ∙ c.max.ensures in
    let none : (s.leased && has_due (max c.args.now 1) s.journal.held.map.expiries) ≡ false = ap (λ n. s.leased && has_due n s.journal.held.map.expiries) (sym moment) ∙ sym c.is_due.ensures ∙ c.if-not-is_due.true in
    c.of.ensures ∙ c.new.ensures.items ∙ sym (nothing_removed s.leased (max c.args.now 1) (state_map s) none)

pub returns-then-not-is_due-clause-sorted : goal.returns-then-not-is_due-clause-sorted
unfolding IsStrictlySortedBy
returns-then-not-is_due-clause-sorted g c = subst (IsStrictlySortedBy by_bytes) (sym (c.of.ensures ∙ c.new.ensures.items)) tt
