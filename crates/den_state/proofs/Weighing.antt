-- How much a journal's region weighs beside the entries that it is of.
use Rattle.std.proofs.Common.{◌≡◌, ℕ, ◌+◌, ◌*◌, ◌≤◌, true, false, List, [], ◌∷◌, length, Option, if◌then◌else◌, arith, length-append}
use Rattle.std.specs.List.{flat_map}
use Rattle.den_model.specs.declared.command.Command.{Command}
use Rattle.den_model.specs.declared.command.Command.TheVariants as command
use Rattle.den_model.specs.declared.journal.JournalRecord.{JournalRecord}
use Rattle.den_model.specs.declared.journal.JournalRecord.TheVariants as journal
use Rattle.den_model.specs.declared.region.StateRegion.TheVariants.{Begin, Records, Mark}
use Rattle.den_model.specs.Apply.{succeeds}
use Rattle.den_model.specs.Entries.{LogEntry}
use Rattle.den_model.specs.MapState.{MapState, part_of, map_applied}
use Rattle.den_model.specs.Sizes.{entries_size, store_rise}
use Rattle.den_model.specs.Spelling.{u64_word, blob_word, option_word, command_word, entry_word, record_fields, record_word, state_region_word}
use Rattle.den_model.proofs.Numbers.{length_u64_word}
use Rattle.den_map.specs.Journal.{expiry_of, recorded_as, recorded, all_recorded}
use Rattle.den_map.proofs.Checkpoints.{begin_long}

-- ---- a record

length_fields : (index term opcode : ℕ) (key value : List ℕ) (expiry : ℕ) → length (record_fields index term opcode key value expiry) ≡ 41 + length key + length value
length_fields index term opcode key value expiry = simp (length-append, length_u64_word) (omega arith)

length_entry : (e : LogEntry) → length (entry_word e) ≡ 24 + length (command_word e.command)
length_entry e = simp (length-append, length_u64_word) (omega arith)

length_insert : (key value : List ℕ) (ttl_secs : Option ℕ) → length (command_word (command.Insert key value ttl_secs)) ≡ 17 + length key + length value + length (option_word u64_word ttl_secs)
length_insert key value ttl_secs = simp (length-append, length_u64_word) (omega arith)

length_delete : (key : List ℕ) → length (command_word (command.Delete key)) ≡ 9 + length key
length_delete key = simp (length-append, length_u64_word) (omega arith)

length_swap : (key : List ℕ) (expected : Option (List ℕ)) (value : List ℕ) → length (command_word (command.CompareAndSwap key expected value)) ≡ 17 + length key + length value + length (option_word blob_word expected)
length_swap key expected value = simp (length-append, length_u64_word) (omega arith)

-- an entry's record has at most twice as many bytes as the entry
light_as : (s : MapState) (index term moment : ℕ) (c : Command) → length (record_word (recorded_as s index term moment c)) ≤ 2 * (24 + length (command_word c))
light_as s index term moment command.Noop =
    let fields : length (record_word (recorded_as s index term moment command.Noop)) ≡ 41 + 0 + 0 = length_fields index term 0 [] [] 0 in
    omega (arith, fields)
light_as s index term moment (command.Insert key value ttl_secs) =
    let fields : length (record_word (recorded_as s index term moment (command.Insert key value ttl_secs))) ≡ 41 + length key + length value = length_fields index term 1 key value (expiry_of moment ttl_secs) in
    omega (arith, fields, length_insert key value ttl_secs)
light_as s index term moment (command.Delete key) =
    let fields : length (record_word (recorded_as s index term moment (command.Delete key))) ≡ 41 + length key + 0 = length_fields index term 2 key [] 0 in
    omega (arith, fields, length_delete key)
light_as s index term moment (command.CompareAndSwap key expected value) =
    let most = 2 * (24 + length (command_word (command.CompareAndSwap key expected value))) in
    let whole = length_swap key expected value in
    elim (succeeds (part_of s 0) (command.CompareAndSwap key expected value)) as (λ b. length (record_word (if b then journal.Insert index term key value 0 else journal.CasFailed index term)) ≤ most) [
      | true ↦ let fields : length (record_word (journal.Insert index term key value 0)) ≡ 41 + length key + length value = length_fields index term 1 key value 0 in omega (arith, fields, whole)
      | false ↦ let fields : length (record_word (journal.CasFailed index term)) ≡ 41 + 0 + 0 = length_fields index term 5 [] [] 0 in omega (arith, fields, whole)
    ]

light_records : (s : MapState) (es : List LogEntry) → length (flat_map record_word (all_recorded s es)) ≤ 2 * entries_size es
light_records s [] = omega arith
light_records s (e ∷ es) =
    let first = light_as s e.index e.term e.moment e.command in
    let entry = length_entry e in
    let rest = light_records (map_applied s e) es in
    let both = length-append (record_word (recorded s e)) (flat_map record_word (all_recorded (map_applied s e) es)) in
    omega (arith, first, entry, rest, both)

length_list : (rs : List JournalRecord) → length (state_region_word (Records rs)) ≡ 9 + length (flat_map record_word rs)
length_list rs = simp (length-append, length_u64_word) (omega arith)

light_region : (s : MapState) (es : List LogEntry) → length (state_region_word (Records (all_recorded s es))) ≤ 9 + 2 * entries_size es
light_region s es =
    let records = light_records s es in
    let word : length (state_region_word (Records (all_recorded s es))) ≡ 9 + length (flat_map record_word (all_recorded s es)) = length_list (all_recorded s es) in
    omega (arith, records, word)

-- ---- by how much a region raises the weight

pub light_chunk : (s : MapState) (es : List LogEntry) → 9 + 2 * length (state_region_word (Records (all_recorded s es))) ≤ store_rise (entries_size es)
light_chunk s es = let light = light_region s es in omega (arith, light)

pub light_cleanup : (moment : ℕ) → 9 + 2 * length (state_region_word (Records (journal.Cleanup moment ∷ []))) ≤ store_rise 0
light_cleanup moment =
    let word : length (state_region_word (Records (journal.Cleanup moment ∷ []))) ≡ 9 + length (flat_map record_word (journal.Cleanup moment ∷ [])) = length_list (journal.Cleanup moment ∷ []) in
    let one : length (flat_map record_word (journal.Cleanup moment ∷ [])) ≡ length (record_word (journal.Cleanup moment)) + 0 = length-append (record_word (journal.Cleanup moment)) [] in
    let fields : length (record_word (journal.Cleanup moment)) ≡ 41 + 0 + 0 = length_fields 0 0 6 [] [] moment in
    omega (arith, word, one, fields)

length_mark : (index term : ℕ) → length (state_region_word (Mark index term)) ≡ 17
length_mark index term = simp (length-append, length_u64_word) (omega arith)

pub light_mark : (index term : ℕ) → 9 + 2 * length (state_region_word (Mark index term)) ≤ store_rise 0
light_mark index term = omega (arith, length_mark index term)

pub light_begin : (index term : ℕ) → 9 + 2 * length (state_region_word (Begin index term)) ≤ store_rise 0
light_begin index term = omega (arith, begin_long index term)
