-- What entries in order make of the map, their records and their results.
use Rattle.std.proofs.Common.{◌≡◌, ℕ, ◌+◌, ◌<◌, ◌≤◌, ◌==◌, Bool, true, false, List, [], ◌∷◌, ◌++◌, length, get_or, take, drop, Option, Some, None, refl, sym, ap, ◌∙◌, if◌then◌else◌, nat_lt, arith}
use Rattle.std.proofs.lemmas.Bool.{ltb-true}
use Rattle.std.proofs.lemmas.List.{take_more}
use Rattle.den_model.specs.declared.command.Command.{Command}
use Rattle.den_model.specs.declared.command.Command.TheVariants as command
use Rattle.den_model.specs.declared.journal.JournalRecord.{JournalRecord}
use Rattle.den_model.specs.declared.journal.JournalRecord.TheVariants as journal
use Rattle.den_model.specs.declared.log_id.ApplyResult.{ApplyResult}
use Rattle.den_model.specs.Entries.{LogEntry}
use Rattle.den_model.specs.Apply.{succeeds, seconds_after, with_pair}
use Rattle.den_model.specs.Table.{set}
use Rattle.den_model.specs.MapState.{MapState, part_of, map_after_record, map_after_records, map_applied, map_applied_all, results_of}
use Rattle.den_map.specs.Order.{out_of_order}
use Rattle.den_map.specs.Fold.{record_done, place_of}
use Rattle.den_map.specs.Journal.{recorded_as, recorded, all_recorded, tells_success}
use Rattle.den_map.proofs.Folding.{front, after_lawful, first_record, on_records}

-- ---- the record of one entry

-- it stands at the entry's place
pub placed_as : (s : MapState) (index term moment : ℕ) (c : Command) → place_of (recorded_as s index term moment c) ≡ Some (record { index = index; term = term })
placed_as s index term moment command.Noop = refl
placed_as s index term moment (command.Insert key value ttl_secs) = refl
placed_as s index term moment (command.Delete key) = refl
placed_as s index term moment (command.CompareAndSwap key expected value) =
    elim (succeeds (part_of s 0) (command.CompareAndSwap key expected value)) as (λ b. place_of (if b then journal.Insert index term key value 0 else journal.CasFailed index term) ≡ Some (record { index = index; term = term })) [
      | true ↦ refl
      | false ↦ refl
    ]

-- and tells whether the entry succeeds
pub told_as : (s : MapState) (index term moment : ℕ) (c : Command) → tells_success (recorded_as s index term moment c) ≡ succeeds (part_of s 0) c
told_as s index term moment command.Noop = refl
told_as s index term moment (command.Insert key value ttl_secs) = refl
told_as s index term moment (command.Delete key) = refl
told_as s index term moment (command.CompareAndSwap key expected value) =
    elim (succeeds (part_of s 0) (command.CompareAndSwap key expected value)) as (λ b. tells_success (if b then journal.Insert index term key value 0 else journal.CasFailed index term) ≡ b) [
      | true ↦ refl
      | false ↦ refl
    ]

-- an expiry is none only where no time to live is asked, as moments begin at 1
expiry_set : (moment seconds : ℕ) → 1 ≤ moment → (seconds_after moment seconds == 0) ≡ false
expiry_set moment seconds least = grind arith

-- and, carried out with its place as the mark, gives what the entry gives
applied_as : (s : MapState) (index term moment : ℕ) (c : Command) → 1 ≤ moment
    → ◌≡◌ {A = MapState} (record (record_done s (recorded_as s index term moment c)) { mark = record { index = index; term = term } }) (map_applied s (record { index = index; term = term; moment = moment; command = c }))
applied_as s index term moment command.Noop least = refl
applied_as s index term moment (command.Insert key value None) least = refl
applied_as s index term moment (command.Insert key value (Some seconds)) least =
    ap (λ b. record {
      pairs = set s.pairs key (record { value = value; term = term });
      expiries = if b then s.expiries else set s.expiries key (seconds_after moment seconds);
      mark = record { index = index; term = term };
    }) (expiry_set moment seconds least)
applied_as s index term moment (command.Delete key) least = refl
applied_as s index term moment (command.CompareAndSwap key expected value) least =
    let d = part_of s 0 in
    elim (succeeds d (command.CompareAndSwap key expected value)) as (λ b.
    let after = if b then with_pair d key value term else d in
    ◌≡◌ {A = MapState} (record (record_done s (if b then journal.Insert index term key value 0 else journal.CasFailed index term)) { mark = record { index = index; term = term } })
    (record { pairs = after.pairs; expiries = after.expiries; mark = record { index = index; term = term } })) [
      | true ↦ refl
      | false ↦ refl
    ]

pub entry_lawful : (s : MapState) (e : LogEntry) → 1 ≤ e.moment → s.mark.index < e.index → map_after_record s (recorded s e) ≡ Some (map_applied s e)
entry_lawful s e least above =
    after_lawful s (recorded s e) (record { index = e.index; term = e.term }) (placed_as s e.index e.term e.moment e.command) above
    ∙ ap (λ (m : MapState). Some m) (applied_as s e.index e.term e.moment e.command least)

-- ---- entries in order

pub order_at : (last index : ℕ) (rest : Option ℕ) → (if nat_lt last index then rest else Some index) ≡ None → (last < index) × (rest ≡ None)
order_at last index rest e =
    elim (nat_lt last index) as (λ b. nat_lt last index ≡ b → (if b then rest else Some index) ≡ None → (last < index) × (rest ≡ None)) [
      | true ↦ λ is h. (ltb-true last index is, h)
      | false ↦ λ is h. cc
    ] refl e

-- the first is above the mark, and the others above it
pub order_on : (last : ℕ) (chunk : List LogEntry) (i : ℕ) (e : LogEntry) → i < length chunk → e ≡ get_or chunk i e → out_of_order last (drop i chunk) ≡ None
    → (last < e.index) × (out_of_order e.index (drop (i + 1) chunk) ≡ None)
order_on last chunk i e lt is order =
    order_at last e.index (out_of_order e.index (drop (i + 1) chunk)) (sym (ap (out_of_order last) (front chunk i e lt is)) ∙ order)

-- one record more
pub records_push : (s mid next : MapState) (rs : List JournalRecord) (r : JournalRecord) → map_after_records s rs ≡ Some mid → map_after_record mid r ≡ Some next → map_after_records s (rs ++ r ∷ []) ≡ Some next
unfolding map_after_records on_records
records_push s mid next [] r is e =
    let same : s ≡ mid = cc in
    first_record s r [] ∙ ap (λ o. on_records o []) (ap (λ m. map_after_record m r) same ∙ e)
records_push s mid next (x ∷ rs) r is e =
    first_record s x (rs ++ r ∷ [])
    ∙ elim (map_after_record s x) as (λ o. on_records o rs ≡ Some mid → on_records o (rs ++ r ∷ []) ≡ Some next) [
      | None ↦ λ h. cc
      | Some after ↦ λ h. records_push after mid next rs r h e
    ] (sym (first_record s x rs) ∙ is)

pub no_records : (s : MapState) → map_after_records s [] ≡ Some s
unfolding map_after_records
no_records s = refl

-- ---- the first so many entries

pub first_more : (chunk : List LogEntry) (i : ℕ) (e : LogEntry) → i < length chunk → e ≡ get_or chunk i e → take (i + 1) chunk ≡ take i chunk ++ e ∷ []
first_more chunk i e lt is = take_more chunk i e lt ∙ ap (λ (x : LogEntry). take i chunk ++ x ∷ []) (sym is)

map_push : (s : MapState) (es : List LogEntry) (e : LogEntry) → map_applied_all s (es ++ e ∷ []) ≡ map_applied (map_applied_all s es) e
map_push s [] e = refl
map_push s (x ∷ es) e = map_push (map_applied s x) es e

all_recorded_push : (s : MapState) (es : List LogEntry) (e : LogEntry) → all_recorded s (es ++ e ∷ []) ≡ all_recorded s es ++ recorded (map_applied_all s es) e ∷ []
all_recorded_push s [] e = refl
all_recorded_push s (x ∷ es) e = ap (λ rs. recorded s x ∷ rs) (all_recorded_push (map_applied s x) es e)

abbrev pub result_of : MapState → LogEntry → ApplyResult
result_of s e = record { index = e.index; succeeded = succeeds (part_of s 0) e.command }

results_push : (s : MapState) (es : List LogEntry) (e : LogEntry) → results_of s (es ++ e ∷ []) ≡ results_of s es ++ result_of (map_applied_all s es) e ∷ []
results_push s [] e = refl
results_push s (x ∷ es) e = ap (λ rs. result_of s x ∷ rs) (results_push (map_applied s x) es e)

module _ (s : MapState) (chunk : List LogEntry) (i : ℕ) (e : LogEntry) (lt : i < length chunk) (is : e ≡ get_or chunk i e) where
  pub map_more : map_applied_all s (take (i + 1) chunk) ≡ map_applied (map_applied_all s (take i chunk)) e
  map_more = ap (map_applied_all s) (first_more chunk i e lt is) ∙ map_push s (take i chunk) e

  pub records_more : (before : List JournalRecord) (r : JournalRecord) → before ≡ all_recorded s (take i chunk) → r ≡ recorded (map_applied_all s (take i chunk)) e → before ++ r ∷ [] ≡ all_recorded s (take (i + 1) chunk)
  records_more before r so_far same =
      (λ j. so_far j ++ same j ∷ []) ∙ sym (ap (all_recorded s) (first_more chunk i e lt is) ∙ all_recorded_push s (take i chunk) e)

  pub results_more : (before : List ApplyResult) (r : ApplyResult) → before ≡ results_of s (take i chunk) → r ≡ result_of (map_applied_all s (take i chunk)) e → before ++ r ∷ [] ≡ results_of s (take (i + 1) chunk)
  results_more before r so_far same =
      (λ j. so_far j ++ same j ∷ []) ∙ sym (ap (results_of s) (first_more chunk i e lt is) ∙ results_push s (take i chunk) e)

pub result_as : (s : MapState) (e : LogEntry) (r : JournalRecord) (index : ℕ) (succeeded : Bool) → index ≡ e.index → succeeded ≡ tells_success r → r ≡ recorded s e
    → record { index = index; succeeded = succeeded } ≡ result_of s e
result_as s e r index succeeded at told same =
    let t : succeeded ≡ succeeds (part_of s 0) e.command = told ∙ ap tells_success same ∙ told_as s e.index e.term e.moment e.command in
    λ i. record { index = at i; succeeded = t i }
