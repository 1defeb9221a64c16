-- Worked images, by computing: twelve files, and what they stand for.
use Rattle.std.specs.Prelude.{◌≡◌, ℕ, List, [], ◌∷◌, ◌++◌, Some, None, Ok, Err, refl}
use Rattle.std.specs.List.{flat_map}
use Rattle.den_disk.specs.declared.place.Place.{Place}
use Rattle.den_disk.specs.declared.place.Part.TheVariants.{Head, A, B}
use Rattle.den_disk.specs.declared.place.Family.TheVariants as family
use Rattle.den_disk.specs.Files.{Files}
use Rattle.den_model.specs.declared.command.Command.TheVariants as command
use Rattle.den_model.specs.declared.region.LogRegion.TheVariants as log
use Rattle.den_model.specs.declared.region.StateRegion.TheVariants as state
use Rattle.den_model.specs.declared.journal.JournalRecord.TheVariants as record'
use Rattle.den_model.specs.Entries.{LogEntry}
use Rattle.den_model.specs.Kv.{nothing}
use Rattle.den_model.specs.Spelling.{u32_word, u64_word, log_region_word, hard_state_word, state_region_word}
use Rattle.den_model.specs.Reading.{size_at, blob_at, truth_at, option_at, option_behind, items_at, list_at, insert_at, command_at, entry_at, append_at, purge_at, log_region_at, log_region_in, vote_at, hard_state_at, hard_state_in, record_of, record_at, pair_at, begin_at, pairs_at, records_at, state_region_at, state_region_in}
use Rattle.den_model.specs.Frames.{framed}
use Rattle.den_model.specs.Regions.{regions_behind}
use Rattle.den_model.specs.Log.{empty_log, log_after, log_after_payload, log_from}
use Rattle.den_model.specs.MapState.{map_after_record, map_after_records, map_after, map_after_payload, map_from}
use Rattle.den_model.specs.Image.{no_files, log_in, hard_state_from, durable, durable_in, recovered, StandsFor}

-- one part of a family's files, and nothing in the others
abbrev only : List ℕ → List ℕ → List ℕ → Place → List ℕ
only head a b place = elim place.part [ Head ↦ head | A ↦ a | B ↦ b ]

-- twelve files, of which log, meta and state have these slots a, and empty heads
abbrev in_slots_a : List ℕ → List ℕ → List ℕ → Files
in_slots_a log meta state = λ place. elim place.family [
  | family.Log ↦ only [] log [] place
  | family.Meta ↦ only [] meta [] place
  | family.State ↦ only [] state [] place
  | family.Snapshot ↦ []
]

-- a log alone, with this head and slot a
abbrev log_alone : List ℕ → List ℕ → Files
log_alone head a = λ place. elim place.family [
  | family.Log ↦ only head a [] place
  | family.Meta ↦ []
  | family.State ↦ []
  | family.Snapshot ↦ []
]

-- open regions, and a closed gate
abbrev regions_of : List (List ℕ) → List ℕ
regions_of payloads = flat_map (λ payload. 1 ∷ framed payload) payloads ++ 0 ∷ 0 ∷ []

abbrev noop : ℕ → LogEntry
noop index = record { index = index; term = 1; moment = 1000; command = command.Noop }

abbrev put_a_b : ℕ → LogEntry
put_a_b index = record { index = index; term = 1; moment = 1000; command = command.Insert (97 ∷ []) (98 ∷ []) (Some 2) }

abbrev term_1 : List ℕ
term_1 = regions_of (hard_state_word (record { current_term = 1; voted_for = Some (record { id = 1; term = 1 }) }) ∷ [])

pub no_files_stand : StandsFor no_files nothing
unfolding u32_word u64_word size_at regions_behind durable log_from log_after_payload log_after log_region_in log_region_at append_at purge_at list_at items_at entry_at command_at insert_at blob_at option_at option_behind truth_at hard_state_from hard_state_in hard_state_at vote_at map_from map_after_payload map_after map_after_records map_after_record state_region_in state_region_at begin_at pairs_at pair_at records_at record_at record_of
no_files_stand = refl

-- a log of one entry that does nothing: a head byte of 9 names slot a
pub one_noop_log : log_in (log_alone (9 ∷ []) (1 ∷ 0 ∷ 0 ∷ 0 ∷ 0 ∷ 0 ∷ 0 ∷ 0 ∷ 34 ∷ 1 ∷ 0 ∷ 0 ∷ 0 ∷ 0 ∷ 0 ∷ 0 ∷ 0 ∷ 1 ∷ 0 ∷ 0 ∷ 0 ∷ 0 ∷ 0 ∷ 0 ∷ 0 ∷ 1 ∷ 0 ∷ 0 ∷ 0 ∷ 0 ∷ 0 ∷ 0 ∷ 0 ∷ 1 ∷ 0 ∷ 0 ∷ 0 ∷ 0 ∷ 0 ∷ 0 ∷ 3 ∷ 232 ∷ 0 ∷ 0 ∷ [])) ≡ Ok (record { boundary = None; entries = noop 1 ∷ [] })
unfolding u32_word u64_word size_at regions_behind durable log_from log_after_payload log_after log_region_in log_region_at append_at purge_at list_at items_at entry_at command_at insert_at blob_at option_at option_behind truth_at hard_state_from hard_state_in hard_state_at vote_at map_from map_after_payload map_after map_after_records map_after_record state_region_in state_region_at begin_at pairs_at pair_at records_at record_at record_of
one_noop_log = refl

-- a gate of 7 is closed
pub one_noop_log_closed : log_in (log_alone (9 ∷ []) (7 ∷ 0 ∷ 0 ∷ 0 ∷ 0 ∷ 0 ∷ 0 ∷ 0 ∷ 34 ∷ 1 ∷ 0 ∷ 0 ∷ 0 ∷ 0 ∷ 0 ∷ 0 ∷ 0 ∷ 1 ∷ 0 ∷ 0 ∷ 0 ∷ 0 ∷ 0 ∷ 0 ∷ 0 ∷ 1 ∷ 0 ∷ 0 ∷ 0 ∷ 0 ∷ 0 ∷ 0 ∷ 0 ∷ 1 ∷ 0 ∷ 0 ∷ 0 ∷ 0 ∷ 0 ∷ 0 ∷ 3 ∷ 232 ∷ 0 ∷ 0 ∷ [])) ≡ Ok empty_log
unfolding u32_word u64_word size_at regions_behind durable log_from log_after_payload log_after log_region_in log_region_at append_at purge_at list_at items_at entry_at command_at insert_at blob_at option_at option_behind truth_at hard_state_from hard_state_in hard_state_at vote_at map_from map_after_payload map_after map_after_records map_after_record state_region_in state_region_at begin_at pairs_at pair_at records_at record_at record_of
one_noop_log_closed = refl

-- an open region that runs past the end
pub corrupt_log : recovered (log_alone [] (1 ∷ 0 ∷ 0 ∷ 0 ∷ 0 ∷ 0 ∷ 0 ∷ 0 ∷ 100 ∷ [])) ≡ Err (record { place = 1; offset = 0 })
unfolding u32_word u64_word size_at regions_behind durable log_from log_after_payload log_after log_region_in log_region_at append_at purge_at list_at items_at entry_at command_at insert_at blob_at option_at option_behind truth_at hard_state_from hard_state_in hard_state_at vote_at map_from map_after_payload map_after map_after_records map_after_record state_region_in state_region_at begin_at pairs_at pair_at records_at record_at record_of recovered
corrupt_log = refl

-- entry 1 is in the map, and entry 2 in the log alone
abbrev behind : Files
behind = in_slots_a
    (regions_of (log_region_word (log.Append (noop 1 ∷ [])) ∷ log_region_word (log.Append (put_a_b 2 ∷ [])) ∷ []))
    term_1
    (regions_of (state_region_word (state.Records (record'.Noop 1 1 ∷ [])) ∷ []))

pub behind_stands : StandsFor behind (record { pairs = (97 ∷ [], record { value = 98 ∷ []; term = 1 }) ∷ []; expiries = (97 ∷ [], 3000) ∷ []; term = 1; last_index = 2; last_term = 1 })
unfolding u32_word u64_word size_at regions_behind durable log_from log_after_payload log_after log_region_in log_region_at append_at purge_at list_at items_at entry_at command_at insert_at blob_at option_at option_behind truth_at hard_state_from hard_state_in hard_state_at vote_at map_from map_after_payload map_after map_after_records map_after_record state_region_in state_region_at begin_at pairs_at pair_at records_at record_at record_of
behind_stands = refl

-- a log that was purged up to the map's mark
abbrev purged : List ℕ
purged = regions_of (log_region_word (log.Append (noop 1 ∷ put_a_b 2 ∷ [])) ∷ log_region_word (log.Purge 2 1) ∷ [])

-- the same, after a checkpoint and a purge
abbrev checkpointed : Files
checkpointed = in_slots_a purged term_1
    (regions_of (state_region_word (state.Begin 2 1) ∷ state_region_word (state.Pairs (record { key = 97 ∷ []; value = 98 ∷ []; term = 1; expiry = 3000 } ∷ [])) ∷ []))

pub checkpointed_stands : StandsFor checkpointed (record { pairs = (97 ∷ [], record { value = 98 ∷ []; term = 1 }) ∷ []; expiries = (97 ∷ [], 3000) ∷ []; term = 1; last_index = 2; last_term = 1 })
unfolding u32_word u64_word size_at regions_behind durable log_from log_after_payload log_after log_region_in log_region_at append_at purge_at list_at items_at entry_at command_at insert_at blob_at option_at option_behind truth_at hard_state_from hard_state_in hard_state_at vote_at map_from map_after_payload map_after map_after_records map_after_record state_region_in state_region_at begin_at pairs_at pair_at records_at record_at record_of
checkpointed_stands = refl

-- a purge past the map leaves a gap: log and state disagree
pub gap_stands_for_none : durable_in (in_slots_a purged term_1 []) ≡ None
unfolding u32_word u64_word size_at regions_behind durable log_from log_after_payload log_after log_region_in log_region_at append_at purge_at list_at items_at entry_at command_at insert_at blob_at option_at option_behind truth_at hard_state_from hard_state_in hard_state_at vote_at map_from map_after_payload map_after map_after_records map_after_record state_region_in state_region_at begin_at pairs_at pair_at records_at record_at record_of
gap_stands_for_none = refl

pub gap_is_corrupt : recovered (in_slots_a purged term_1 []) ≡ Err (record { place = 1; offset = 0 })
unfolding u32_word u64_word size_at regions_behind durable log_from log_after_payload log_after log_region_in log_region_at append_at purge_at list_at items_at entry_at command_at insert_at blob_at option_at option_behind truth_at hard_state_from hard_state_in hard_state_at vote_at map_from map_after_payload map_after map_after_records map_after_record state_region_in state_region_at begin_at pairs_at pair_at records_at record_at record_of recovered
gap_is_corrupt = refl
