-- What entries make of a map whatever its mark is, and what a mark and a cleanup make of it.
use Rattle.std.proofs.Common.{◌≡◌, ℕ, ◌≤◌, Bool, true, false, List, [], ◌∷◌, length, Option, Some, None, refl, sym, ap, ◌∙◌, if◌then◌else◌, nat_lt, nat_le, arith}
use Rattle.std.proofs.lemmas.Bool.{le-leb, lt-ltb, ltb-true}
use Rattle.den_model.specs.declared.command.Command.{Command}
use Rattle.den_model.specs.declared.command.Command.TheVariants as command
use Rattle.den_model.specs.declared.journal.JournalRecord.{JournalRecord}
use Rattle.den_model.specs.declared.journal.JournalRecord.TheVariants.{Cleanup, CasFailed, Delete, Insert, Noop}
use Rattle.den_model.specs.declared.log_id.LogId.{LogId}
use Rattle.den_model.specs.declared.region.StateRegion.{StateRegion}
use Rattle.den_model.specs.declared.region.StateRegion.TheVariants.{Begin, Mark, Records}
use Rattle.den_model.specs.Apply.{succeeds, with_pair}
use Rattle.den_model.specs.Entries.{LogEntry}
use Rattle.den_model.specs.MapState.{MapState, part_of, map_after, map_after_record, map_after_records, map_applied, map_applied_all, results_of}
use Rattle.den_map.specs.Cleanup.{cleaned_map}
use Rattle.den_map.specs.Order.{out_of_order}
use Rattle.den_state.specs.Stored.{Stored, IsLawful, cleanup_of, map_by}

-- ---- entries over another mark

applied_as : (s : MapState) (at : LogId) (index term moment : ℕ) (c : Command)
    → map_applied (record s { mark = at }) (record { index = index; term = term; moment = moment; command = c }) ≡ map_applied s (record { index = index; term = term; moment = moment; command = c })
applied_as s at index term moment command.Noop = refl
applied_as s at index term moment (command.Insert key value ttl_secs) = refl
applied_as s at index term moment (command.Delete key) = refl
applied_as s at index term moment (command.CompareAndSwap key expected value) =
    let m : MapState = record s { mark = at } in
    elim (succeeds (part_of s 0) (command.CompareAndSwap key expected value)) as (λ b.
    let one = if b then with_pair (part_of m 0) key value term else part_of m 0 in
    let other = if b then with_pair (part_of s 0) key value term else part_of s 0 in
    ◌≡◌ {A = MapState} (record { pairs = one.pairs; expiries = one.expiries; mark = record { index = index; term = term } })
    (record { pairs = other.pairs; expiries = other.expiries; mark = record { index = index; term = term } })) [
      | true ↦ refl
      | false ↦ refl
    ]

succeeds_as : (s : MapState) (at : LogId) (c : Command) → succeeds (part_of (record s { mark = at }) 0) c ≡ succeeds (part_of s 0) c
succeeds_as s at command.Noop = refl
succeeds_as s at (command.Insert key value ttl_secs) = refl
succeeds_as s at (command.Delete key) = refl
succeeds_as s at (command.CompareAndSwap key expected value) = refl

pub applied_at : (s : MapState) (at : LogId) (es : List LogEntry) → 1 ≤ length es → map_applied_all (record s { mark = at }) es ≡ map_applied_all s es
applied_at s at [] some = absurd (omega arith)
applied_at s at (e ∷ es) some = ap (λ m. map_applied_all m es) (applied_as s at e.index e.term e.moment e.command)

pub results_at : (s : MapState) (at : LogId) (es : List LogEntry) → results_of (record s { mark = at }) es ≡ results_of s es
results_at s at [] = refl
results_at s at (e ∷ es) =
    ap (λ b. record { index = e.index; succeeded = b } ∷ results_of (map_applied (record s { mark = at }) e) es) (succeeds_as s at e.command)
    ∙ ap (λ m. record { index = e.index; succeeded = succeeds (part_of s 0) e.command } ∷ results_of m es) (applied_as s at e.index e.term e.moment e.command)

-- entries above an index are above a lower one
order_first : (low high index : ℕ) (rest : Option ℕ) → low ≤ high → (if nat_lt high index then rest else Some index) ≡ None → (if nat_lt low index then rest else Some index) ≡ None
order_first low high index rest le order =
    elim (nat_lt high index) as (λ b. nat_lt high index ≡ b → (if b then rest else Some index) ≡ None → (if nat_lt low index then rest else Some index) ≡ None) [
      | true ↦ λ is h. rw (lt-ltb low index (omega (arith, ltb-true high index is))) h
      | false ↦ λ is h. absurd (cc h)
    ] refl order

pub order_lower : (low high : ℕ) (es : List LogEntry) → low ≤ high → out_of_order high es ≡ None → out_of_order low es ≡ None
order_lower low high [] le order = refl
order_lower low high (e ∷ es) le order = order_first low high e.index (out_of_order e.index es) le order

-- ---- regions

pub lawful_by : (s : Stored) (r : StateRegion) (next : MapState) → map_after s.map r ≡ Some next → IsLawful s r
lawful_by s r next is = is ∙ ap (λ m. Some m) (sym (ap (map_by s.map) is))

pub mark_after : (s : MapState) (index term : ℕ) → s.mark.index ≤ index → map_after s (Mark index term) ≡ Some (record s { mark = record { index = index; term = term } })
unfolding map_after
mark_after s index term le = rw (le-leb s.mark.index index le) refl

pub begin_after : (s : MapState) (index term : ℕ) → map_after s (Begin index term) ≡ Some (record { pairs = []; expiries = []; mark = record { index = index; term = term } })
unfolding map_after
begin_after s index term = refl

pub cleanup_after : (s : MapState) (moment : ℕ) → map_after s (Records (Cleanup moment ∷ [])) ≡ Some (cleaned_map moment s)
unfolding map_after map_after_records map_after_record
cleanup_after s moment = refl

pub records_after : (s : MapState) (rs : List JournalRecord) → map_after s (Records rs) ≡ map_after_records s rs
unfolding map_after
records_after s rs = refl

-- what a lawful mark gives
marked_if : (s next : MapState) (test : Bool) (to : MapState) → (if test then Some to else None) ≡ Some next → to ≡ next
marked_if s next true to is = cc
marked_if s next false to is = absurd (cc is)

pub mark_by : (s next : MapState) (index term : ℕ) → map_after s (Mark index term) ≡ Some next → record s { mark = record { index = index; term = term } } ≡ next
unfolding map_after
mark_by s next index term lawful = marked_if s next (nat_le s.mark.index index) (record s { mark = record { index = index; term = term } }) lawful

cleanup_by : (s : MapState) (moment : ℕ) → cleaned_map moment s ≡ map_by s (map_after s (Records (Cleanup moment ∷ [])))
cleanup_by s moment = sym (ap (map_by s) (cleanup_after s moment))

-- records that are one cleanup's
cleanup_is : (rs : List JournalRecord) (moment : ℕ) → cleanup_of rs ≡ Some moment → rs ≡ Cleanup moment ∷ []
cleanup_is [] moment is = absurd (cc is)
cleanup_is (Cleanup x ∷ []) moment is = cc
cleanup_is (Noop index term ∷ []) moment is = absurd (cc is)
cleanup_is (Insert index term key value expiry ∷ []) moment is = absurd (cc is)
cleanup_is (Delete index term key ∷ []) moment is = absurd (cc is)
cleanup_is (CasFailed index term ∷ []) moment is = absurd (cc is)
cleanup_is (Cleanup x ∷ r ∷ rs) moment is = absurd (cc is)
cleanup_is (Noop index term ∷ r ∷ rs) moment is = absurd (cc is)
cleanup_is (Insert index term key value expiry ∷ r ∷ rs) moment is = absurd (cc is)
cleanup_is (Delete index term key ∷ r ∷ rs) moment is = absurd (cc is)
cleanup_is (CasFailed index term ∷ r ∷ rs) moment is = absurd (cc is)

pub cleaned_by : (s : MapState) (rs : List JournalRecord) (moment : ℕ) → cleanup_of rs ≡ Some moment → cleaned_map moment s ≡ map_by s (map_after s (Records rs))
cleaned_by s rs moment is = cleanup_by s moment ∙ ap (λ (x : List JournalRecord). map_by s (map_after s (Records x))) (sym (cleanup_is rs moment is))
