-- What calls change of a log and of the hard state.
use Rattle.std.specs.Prelude.{◌≡◌, ℕ, Option, Some, List, [], ◌∷◌, length}
use Rattle.den_model.specs.declared.log_id.HardState.{HardState}
use Rattle.den_model.specs.declared.log_id.LogId.{LogId}
use Rattle.den_model.specs.declared.region.LogRegion.{LogRegion}
use Rattle.den_model.specs.declared.region.LogRegion.TheVariants.{Purge}
use Rattle.den_model.specs.Log.{Log, above, changed}
use Rattle.den_model.specs.Sizes.{entries_size, store_rise}
use Rattle.den_model.specs.Spelling.{hard_state_word, log_region_word}
use Rattle.den_journal.specs.Drafts.{anew_words, IsSizeOf}
use Rattle.den_journal.specs.Shown.{Effect}
use Rattle.den_store.specs.Lookup.{entries_of, rest_region}

-- a region of a log
abbrev pub log_change : Log → LogRegion → Effect Log
log_change l r = record { to = changed l r; adds = λ n. n ≡ length (log_region_word r); drafts = λ n. ⊥; rise = store_rise (entries_size (entries_of r)); lost = ⊥ }

-- the payloads of a log that is purged up to a cutoff: its boundary, and the entries above it, if there are any
abbrev pub purge_words : Log → LogId → List (List ℕ)
purge_words l cutoff = anew_words log_region_word (Purge cutoff.index cutoff.term) (rest_region (above cutoff.index l.entries))

-- a purge of a log, which is written anew
abbrev pub purge_change : Log → LogId → Effect Log
purge_change l cutoff = record { to = changed l (Purge cutoff.index cutoff.term); adds = λ n. ⊥; drafts = IsSizeOf (purge_words l cutoff); rise = store_rise 0; lost = ⊥ }

-- a hard state, which is written anew
abbrev pub state_change : HardState → Effect (Option HardState)
state_change h = record { to = Some h; adds = λ n. ⊥; drafts = IsSizeOf (hard_state_word h ∷ []); rise = store_rise (length (hard_state_word h)); lost = ⊥ }
