-- What a chunk wrote so far, over the map that it began with, makes the values of the map that its entries leave.
use Rattle.std.proofs.Common.{◌≡◌, ℕ, true, false, cond, List, [], Option, Some, None, option_map, refl, sym, ap, ◌∙◌, if◌then◌else◌}
use Rattle.den_model.specs.declared.command.Command.{Command}
use Rattle.den_model.specs.declared.command.Command.TheVariants as command
use Rattle.den_model.specs.declared.held.Held.{Held}
use Rattle.den_model.specs.declared.journal.JournalRecord.TheVariants as journal
use Rattle.den_model.specs.Entries.{LogEntry}
use Rattle.den_model.specs.Apply.{succeeds, value_at, with_pair}
use Rattle.den_model.specs.MapState.{MapState, part_of, map_applied}
use Rattle.den_model.specs.Table.{is_same, at, set, unset}
use Rattle.den_table.proofs.Sorted.{IsSorted}
use Rattle.den_map.specs.Journal.{recorded_as, recorded}
use Rattle.den_map.specs.Written.{Written, IsOver, noted}
use Rattle.den_table.proofs.Tables.{at_set, at_unset, sorted_set, sorted_unset}

abbrev value_of : Option Held → Option (List ℕ)
value_of o = option_map (λ (h : Held). h.value) o

abbrev written_or : Option (Option (List ℕ)) → Option (List ℕ) → Option (List ℕ)
written_or written below = elim written [ None ↦ below | Some value ↦ value ]

-- nothing was written
pub unwritten : (base : MapState) → IsSorted base.pairs → IsOver [] base base
unwritten base sorted = record { sorted = sorted; values = λ key. refl }

-- a pair
pair_set : (w : Written) (base s : MapState) (key : List ℕ) (held : Held) (q : List ℕ) → IsOver w base s
    → value_of (at (set s.pairs key held) q) ≡ written_or (at (set w key (Some held.value)) q) (value_at (part_of base 0) q)
pair_set w base s key held q over =
    ap value_of (at_set s.pairs key held q)
    ∙ elim (is_same q key) as (λ b. value_of (cond b (Some held) (at s.pairs q)) ≡ written_or (cond b (Some (Some held.value)) (at w q)) (value_at (part_of base 0) q)) [
      | true ↦ refl
      | false ↦ over.values q
    ]
    ∙ sym (ap (λ o. written_or o (value_at (part_of base 0) q)) (at_set w key (Some held.value) q))

-- a key without one
pair_unset : (w : Written) (base s : MapState) (key q : List ℕ) → IsOver w base s
    → value_of (at (unset s.pairs key) q) ≡ written_or (at (set w key None) q) (value_at (part_of base 0) q)
pair_unset w base s key q over =
    ap value_of (at_unset s.pairs key q over.sorted)
    ∙ elim (is_same q key) as (λ b. value_of (cond b None (at s.pairs q)) ≡ written_or (cond b (Some None) (at w q)) (value_at (part_of base 0) q)) [
      | true ↦ refl
      | false ↦ over.values q
    ]
    ∙ sym (ap (λ o. written_or o (value_at (part_of base 0) q)) (at_set w key None q))

-- one entry more
over_as : (w : Written) (base s : MapState) (index term moment : ℕ) (c : Command) → IsOver w base s
    → IsOver (noted w (recorded_as s index term moment c)) base (map_applied s (record { index = index; term = term; moment = moment; command = c }))
over_as w base s index term moment command.Noop over = record { sorted = over.sorted; values = over.values }
over_as w base s index term moment (command.Insert key value ttl_secs) over =
    let held : Held = record { value = value; term = term } in
    record { sorted = sorted_set s.pairs key held over.sorted; values = λ q. pair_set w base s key held q over }
over_as w base s index term moment (command.Delete key) over =
    record { sorted = sorted_unset s.pairs key over.sorted; values = λ q. pair_unset w base s key q over }
over_as w base s index term moment (command.CompareAndSwap key expected value) over =
    let held : Held = record { value = value; term = term } in
    let d = part_of s 0 in
    elim (succeeds d (command.CompareAndSwap key expected value)) as (λ b.
    let after = if b then with_pair d key value term else d in
    IsOver (noted w (if b then journal.Insert index term key value 0 else journal.CasFailed index term)) base
    (record { pairs = after.pairs; expiries = after.expiries; mark = record { index = index; term = term } })) [
      | true ↦ record { sorted = sorted_set s.pairs key held over.sorted; values = λ q. pair_set w base s key held q over }
      | false ↦ record { sorted = over.sorted; values = over.values }
    ]

pub over_noted : (w : Written) (base s : MapState) (e : LogEntry) → IsOver w base s → IsOver (noted w (recorded s e)) base (map_applied s e)
over_noted w base s e over = over_as w base s e.index e.term e.moment e.command over
