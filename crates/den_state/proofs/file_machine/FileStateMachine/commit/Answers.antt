use Rattle.std.specs.Prelude.{min}
use Rattle.std.proofs.Common.{◌≡◌, ◌≤◌, ◌+◌, ◌*◌, ◌-◌, ◌^◌, ℕ, List, [], ◌∷◌, ◌++◌, length, Some, None, Ok, Err, refl, sym, ap, subst, ◌∙◌, arith}
use Rattle.den_disk.specs.declared.place.Family.TheVariants.{State}
use Rattle.den_model.specs.declared.journal.JournalRecord.{JournalRecord}
use Rattle.den_model.specs.declared.region.StateRegion.TheVariants.{Records}
use Rattle.den_model.specs.Entries.{LogEntry}
use Rattle.den_model.specs.MapState.{MapState, map_after, map_after_records, map_applied_all, results_of}
use Rattle.den_model.specs.Sizes.{entries_size, store_rise}
use Rattle.den_model.specs.Spelling.{state_region_word}
use Rattle.den_disk.specs.declared.place.Place.{Place}
use Rattle.den_gate.specs.Gate.{payloads}
use Rattle.den_gate.specs.Slot.{payloads_of}
use Rattle.den_map.specs.Journal.{all_recorded}
use Rattle.den_map.specs.Order.{out_of_order}
use Rattle.den_journal.specs.Shown.{held_in}
use Rattle.den_journal.proofs.Moving.{writes_refused}
use Rattle.den_journal.proofs.Seen.{writes_part, refused_ready}
use Rattle.den_state.specs.declared.stored_map.StoredMap.{StoredMap}
use Rattle.den_state.specs.FileState.{map_held, state_lies, stored_of}
use Rattle.den_state.specs.Folds.{held_map}
use Rattle.den_state.specs.Stored.{Stored, map_by, nothing_stored, stored_from}
use Rattle.den_state.proofs.Marks.{applied_at, lawful_by, order_lower, records_after, results_at}
use Rattle.den_state.proofs.Tails.{recorded_long}
use Rattle.den_state.proofs.Weighing.{light_chunk}
use Rattle.den_state.proofs.file_machine.FileStateMachine.commit.Goals as goal

-- what the records of entries give of the map that they were made over
after_records : (m over : MapState) (chunk : List LogEntry) (rs js : List JournalRecord) → over ≡ m → rs ≡ js → map_after_records over js ≡ Some (map_applied_all over chunk) → map_after m (Records rs) ≡ Some (map_applied_all m chunk)
after_records m over chunk rs js same is lawful =
    records_after m rs ∙ ap (map_after_records m) is ∙ subst (λ (x : MapState). map_after_records x js ≡ Some (map_applied_all x chunk)) same lawful

light_records : (m over : MapState) (chunk : List LogEntry) (rs js : List JournalRecord) → over ≡ m → rs ≡ js → js ≡ all_recorded over chunk
    → (length (state_region_word (Records rs)) ≡ length (state_region_word (Records (all_recorded m chunk)))) × (9 + 2 * length (state_region_word (Records rs)) ≤ store_rise (entries_size chunk))
light_records m over chunk rs js same is records =
    let all : rs ≡ all_recorded m chunk = is ∙ records ∙ ap (λ (x : MapState). all_recorded x chunk) same in
    let size : length (state_region_word (Records rs)) ≡ length (state_region_word (Records (all_recorded m chunk))) = ap (λ (x : List JournalRecord). length (state_region_word (Records x))) all in
    (size, omega (arith, light_chunk m chunk, size))

pub journal-requires : goal.journal-requires
journal-requires g c =
    let s = c.args.self.now in
    subst (λ (h : StoredMap). out_of_order h.map.mark.index c.args.chunk.now ≡ None) (sym c.held.ensures) (order_lower s.journal.held.map.mark.index s.applied.index c.args.chunk.now s.below c.requires.in_order)

pub change-requires-clause-stands : goal.change-requires-clause-stands
change-requires-clause-stands g c = record { ready = c.requires.stands.ready; rests = c.requires.stands.rests }

pub change-requires-clause-lawful : goal.change-requires-clause-lawful
change-requires-clause-lawful g c =
    let s = c.args.self.now in
    lawful_by (stored_of s) (Records c.of-records.result) _
    (after_records s.journal.held.map c.held.result.now.map c.args.chunk.now c.of-records.result _ (ap (λ (h : StoredMap). h.map) c.held.ensures) c.of-records.ensures c.in_ok-journaled.ensures.lawful)

pub returns-in_err-journaled-clause-writes : goal.returns-in_err-journaled-clause-writes
returns-in_err-journaled-clause-writes g c =
    let s = c.requires.stands in
    let d = c.args.disk.now in
    writes_refused g.D.Disk State map_held _ _ _ d s.ready s.rests
    (λ tells told files i. state_lies.rests_hold told c.args.self.now (g.D.Disk.content d) files s.ready (s.rests tells) ((g.met.D.Disk.images_now d files tells).0 i))
    c.from_residual.result c.from_residual.ensures.1 refl refl

pub returns-in-Ok-clause-writes : goal.returns-in-Ok-clause-writes
returns-in-Ok-clause-writes g c =
    let s = c.args.self.now in
    let m = s.journal.held.map in
    let over = ap (λ (h : StoredMap). h.map) c.held.ensures in
    let after = after_records m c.held.result.now.map c.args.chunk.now c.of-records.result _ over c.of-records.ensures c.in_ok-journaled.ensures.lawful in
    let light = light_records m c.held.result.now.map c.args.chunk.now c.of-records.result _ over c.of-records.ensures c.in_ok-journaled.ensures.records in
    writes_part g.D.Disk State (held_in State (stored_from nothing_stored)) map_held (λ (v : Stored). v.map) _ _ _ _ _ _ (λ told. told) held_map (ap (map_by m) after) (λ n is. is ∙ light.0) (λ n never. absurd never) light.1 (λ _. tt) (Ok _) (Ok _) tt c.in-Ok.ensures.writes

pub returns-in-Err-clause-writes : goal.returns-in-Err-clause-writes
returns-in-Err-clause-writes g c =
    let s = c.args.self.now in
    let m = s.journal.held.map in
    let over = ap (λ (h : StoredMap). h.map) c.held.ensures in
    let after = after_records m c.held.result.now.map c.args.chunk.now c.of-records.result _ over c.of-records.ensures c.in_ok-journaled.ensures.lawful in
    let light = light_records m c.held.result.now.map c.args.chunk.now c.of-records.result _ over c.of-records.ensures c.in_ok-journaled.ensures.records in
    writes_part g.D.Disk State (held_in State (stored_from nothing_stored)) map_held (λ (v : Stored). v.map) _ _ _ _ _ _ (λ told. told) held_map (ap (map_by m) after) (λ n is. is ∙ light.0) (λ n never. absurd never) light.1 (λ _. tt) (Err _) (Err _) refl c.in-Err.ensures.writes

pub returns-in-Err-clause-short_kept : goal.returns-in-Err-clause-short_kept
returns-in-Err-clause-short_kept g c = λ ready short.
    let same : c.change.new.self.held.tail ≡ c.args.self.now.journal.held.tail =
    ap (λ (v : Stored). v.tail) (refused_ready g.D.Disk _ _ _ _ State _ _ c.in-Err.error ready c.in-Err.ensures.writes.refused) in
    omega (arith, same, short)

pub returns-in-Ok-clause-applied : goal.returns-in-Ok-clause-applied
returns-in-Ok-clause-applied g c =
    let s = c.args.self.now in
    let m = s.journal.held.map in
    let n = c.change.new.self.held.map in
    let over = ap (λ (h : StoredMap). h.map) c.held.ensures in
    let after = after_records m c.held.result.now.map c.args.chunk.now c.of-records.result _ over c.of-records.ensures c.in_ok-journaled.ensures.lawful in
    let value : n ≡ map_applied_all m c.args.chunk.now = ap (λ (v : Stored). v.map) c.in-Ok.ensures.writes.done.value ∙ ap (map_by m) after in
    let at : c.mark-self.result ≡ n.mark = c.mark-self.ensures ∙ ap (λ (h : StoredMap). h.map.mark) c.held-in-Ok.ensures in
    let whole : record n { mark = c.mark-self.result } ≡ n = λ i. record n { mark = at i } in
    whole ∙ value ∙ sym (applied_at m s.applied c.args.chunk.now c.requires.some)

pub returns-in-Ok-clause-results : goal.returns-in-Ok-clause-results
returns-in-Ok-clause-results g c =
    let s = c.args.self.now in
    c.of.ensures ∙ c.in_ok-journaled.ensures.results ∙ ap (λ (h : StoredMap). results_of h.map c.args.chunk.now) c.held.ensures ∙ sym (results_at s.journal.held.map s.applied c.args.chunk.now)

pub returns-in-Ok-clause-region : goal.returns-in-Ok-clause-region
returns-in-Ok-clause-region g c = λ tells.
    let s = c.args.self.now in
    let list = payloads s.journal.gate (g.D.Disk.content c.args.disk.now).reading in
    let all : c.of-records.result ≡ all_recorded s.journal.held.map c.args.chunk.now =
    c.of-records.ensures ∙ c.in_ok-journaled.ensures.records ∙ ap (λ (h : StoredMap). all_recorded h.map c.args.chunk.now) c.held.ensures in
    sym (ap (λ (p : Place). payloads_of ((g.D.Disk.content c.change.new.disk).reading p)) c.change.ensures.slot) ∙ c.in-Ok.ensures.appended tells ∙ ap (λ (rs : List JournalRecord). list ++ state_region_word (Records rs) ∷ []) all

pub returns-in-Ok-clause-tail : goal.returns-in-Ok-clause-tail
returns-in-Ok-clause-tail g c =
    let s = c.args.self.now in
    let all : c.of-records.result ≡ all_recorded s.journal.held.map c.args.chunk.now =
    c.of-records.ensures ∙ c.in_ok-journaled.ensures.records ∙ ap (λ (h : StoredMap). all_recorded h.map c.args.chunk.now) c.held.ensures in
    let long : length c.of-records.result ≡ length c.args.chunk.now = ap (λ (rs : List JournalRecord). length rs) all ∙ recorded_long s.journal.held.map c.args.chunk.now in
    ap (λ (v : Stored). v.tail) c.in-Ok.ensures.writes.done.value ∙ ap (λ (n : ℕ). min (s.journal.held.tail + n) (2 ^ 64 - 1)) long
