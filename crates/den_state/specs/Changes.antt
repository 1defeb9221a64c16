-- What the calls of a state machine change of the map that its files give.
use Rattle.std.specs.Prelude.{◌≡◌, ℕ, Bool, List, [], ◌∷◌, length}
use Rattle.den_model.specs.declared.journal.JournalRecord.TheVariants.{Cleanup}
use Rattle.den_model.specs.declared.log_id.LogId.{LogId}
use Rattle.den_model.specs.declared.region.StateRegion.TheVariants.{Begin, Mark, Records}
use Rattle.den_model.specs.Entries.{LogEntry}
use Rattle.den_model.specs.MapState.{MapState, empty_map, map_applied_all}
use Rattle.den_model.specs.Sizes.{entries_size, store_rise}
use Rattle.den_model.specs.Spelling.{state_region_word}
use Rattle.den_map.specs.Journal.{all_recorded}
use Rattle.den_journal.specs.Drafts.{IsSizeOf}
use Rattle.den_journal.specs.Shown.{Effect}
use Rattle.den_state.specs.Checkpoint.{IsCheckpointSize}
use Rattle.den_state.specs.Cleanup.{cleaned_where}

-- entries, by one region of their records, which the map may want memory to take on, and by a checkpoint behind it
abbrev pub chunk_change : MapState → List LogEntry → Effect MapState
chunk_change m chunk = record { to = map_applied_all m chunk; adds = λ n. n ≡ length (state_region_word (Records (all_recorded m chunk))); drafts = IsCheckpointSize (map_applied_all m chunk); rise = store_rise (entries_size chunk); lost = Unit {0} }

-- a region that moves the mark
abbrev pub mark_change : MapState → LogId → Effect MapState
mark_change m mark = record { to = record m { mark = mark }; adds = λ n. n ≡ length (state_region_word (Mark mark.index mark.term)); drafts = λ n. ⊥; rise = store_rise 0; lost = ⊥ }

-- a cleanup, by one region of its record, and by a checkpoint behind it, which may want memory
abbrev pub cleanup_change : Bool → ℕ → MapState → Effect MapState
cleanup_change leased moment m = record { to = cleaned_where leased moment m; adds = λ n. n ≡ length (state_region_word (Records (Cleanup moment ∷ []))); drafts = IsCheckpointSize (cleaned_where leased moment m); rise = store_rise 0; lost = Unit {0} }

-- nothing is left, which is written anew as a beginning without an entry
abbrev pub reset_change : Effect MapState
reset_change = record { to = empty_map; adds = λ n. ⊥; drafts = IsSizeOf (state_region_word (Begin 0 0) ∷ []); rise = store_rise 0; lost = ⊥ }
