-- What the steps of an engine write: the sizes of the payloads that go to each family's files.
use Rattle.std.specs.Prelude.{◌≡◌, ℕ, ℤ, ◌+◌, ◌-◌, List, [], ◌∷◌, Some, nat_lt, true, false}
use Rattle.den_disk.specs.declared.place.Family.{Family}
use Rattle.den_disk.specs.declared.place.Family.TheVariants.{Log as log_family, Meta as meta_family, State as state_family, Snapshot as snapshot_family}
use Rattle.den_model.specs.declared.log_id.HardState.{HardState}
use Rattle.den_model.specs.declared.log_id.LogId.{LogId}
use Rattle.den_model.specs.declared.region.LogRegion.TheVariants.{Append}
use Rattle.den_model.specs.Entries.{LogEntry}
use Rattle.den_model.specs.Grown.{appended}
use Rattle.den_model.specs.Kv.{Durable, Kv}
use Rattle.den_model.specs.Log.{Log, floor, last_index}
use Rattle.den_model.specs.MapState.{MapState, map_applied_all}
use Rattle.den_model.specs.Step.{Step, Raise, Noop, Cleanup, Ask, is_leader, step}
use Rattle.den_store.specs.Changes.{log_change, purge_change, state_change}
use Rattle.den_state.specs.Changes.{chunk_change, cleanup_change}
use Rattle.den_core.specs.Trimmed.{last_id, mark_of}

-- By family: the sizes of the payloads that may be added to its slot in use, and of those that may be put into its
-- other slot.
pub record PayloadSizes : Type 1 where
  pub adds : Family → ℕ → Type 0
  pub drafts : Family → ℕ → Type 0

-- no size
abbrev pub no_size : ℕ → Type 0
no_size n = ⊥

-- sizes for log, hard state and map; the snapshot has none
abbrev pub by_family : (log meta state : ℕ → Type 0) → Family → ℕ → Type 0
by_family log meta state log_family = log
by_family log meta state meta_family = meta
by_family log meta state state_family = state
by_family log meta state snapshot_family = no_size

-- nothing is written
abbrev pub no_sizes : PayloadSizes
no_sizes = record { adds = by_family no_size no_size no_size; drafts = by_family no_size no_size no_size }

-- a hard state
abbrev pub hard_state_sizes : HardState → PayloadSizes
hard_state_sizes h = record { adds = by_family no_size (state_change h).adds no_size; drafts = by_family no_size (state_change h).drafts no_size }

-- entries that the map takes on
abbrev pub chunk_sizes : MapState → List LogEntry → PayloadSizes
chunk_sizes m chunk = record { adds = by_family no_size no_size (chunk_change m chunk).adds; drafts = by_family no_size no_size (chunk_change m chunk).drafts }

-- a cleanup of the map under a lease
abbrev pub cleanup_sizes : MapState → ℕ → PayloadSizes
cleanup_sizes m moment = record { adds = by_family no_size no_size (cleanup_change true moment m).adds; drafts = by_family no_size no_size (cleanup_change true moment m).drafts }

-- what a purge of a log up to a mark writes, where its indices run over more than `most` behind the boundary
abbrev pub purge_size : (most : ℕ) → Log → LogId → ℕ → Type 0
purge_size most l mark n = (nat_lt most (last_index l - floor l) ≡ true) × (purge_change l mark).drafts n

-- a log that may hold too many entries
abbrev pub trim_sizes : (most : ℕ) → Log → LogId → PayloadSizes
trim_sizes most l mark = record { adds = by_family no_size no_size no_size; drafts = by_family (purge_size most l mark) no_size no_size }

-- what a purge of a log up to its own last entry writes, under a core that does not lead
abbrev pub opened_size : (role : ℤ) (most : ℕ) → Log → ℕ → Type 0
opened_size role most l n = (is_leader role ≡ false) × purge_size most l (last_id l) n

-- that purge alone
abbrev pub opened_trim_sizes : (role : ℤ) (most : ℕ) → Log → PayloadSizes
opened_trim_sizes role most l = record { adds = by_family no_size no_size no_size; drafts = by_family (opened_size role most l) no_size no_size }

-- What an opening writes before its steps: the entries that the map takes on, and that purge.
abbrev pub opened_sizes : (role : ℤ) (most : ℕ) → Log → MapState → List LogEntry → PayloadSizes
opened_sizes role most l m chunk = record {
  adds = by_family no_size no_size (chunk_change m chunk).adds;
  drafts = by_family (opened_size role most l) no_size (chunk_change m chunk).drafts;
}

-- entries that join the log, which the map takes on, and behind them a purge; where there are none nothing is written
abbrev pub entry_sizes : (most : ℕ) → Log → MapState → List LogEntry → PayloadSizes
entry_sizes most l m [] = no_sizes
entry_sizes most l m (e ∷ es) = record {
  adds = by_family (log_change l (Append (e ∷ es))).adds no_size (chunk_change m (e ∷ es)).adds;
  drafts = by_family (purge_size most (appended l (e ∷ es)) (map_applied_all m (e ∷ es)).mark) no_size (chunk_change m (e ∷ es)).drafts;
}

-- the map of a durable part
abbrev pub map_of : Durable → MapState
map_of d = record { pairs = d.pairs; expiries = d.expiries; mark = mark_of d }

-- the hard state of the next term, whoever is voted for
abbrev pub next_term_sizes : Kv → PayloadSizes
next_term_sizes kv = record {
  adds = by_family no_size no_size no_size;
  drafts = by_family no_size (λ n. (voter : ℕ) × (state_change (record { current_term = kv.durable.term + 1; voted_for = Some (record { id = voter; term = kv.durable.term + 1 }) })).drafts n) no_size;
}

-- A step, over a log that may hold so many entries behind it, and over a state.
abbrev pub step_sizes : (most : ℕ) → Log → Kv → Step → PayloadSizes
step_sizes most l kv Raise = next_term_sizes kv
step_sizes most l kv (Noop moment) = entry_sizes most l (map_of kv.durable) (step kv (Noop moment)).logged
step_sizes most l kv (Cleanup moment) = cleanup_sizes (map_of kv.durable) moment
step_sizes most l kv (Ask frame moment) = entry_sizes most l (map_of kv.durable) (step kv (Ask frame moment)).logged
