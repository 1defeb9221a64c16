-- What opening finds in a folder's files, and what a crash leaves meanwhile.
use Rattle.std.specs.Prelude.{◌≡◌, ◌&&◌, ◌||◌, not, ◌+◌, ◌*◌, ◌≤◌, ◌<◌, ℕ, Bool, false, List, Option, Result, Ok, Err}
use Rattle.den_disk.specs.Files.{Files, Content}
use Rattle.den_disk.specs.Families.{SparesAll}
use Rattle.den_codec.specs.declared.error.Error.{Error}
use Rattle.den_model.specs.declared.log_id.HardState.{HardState}
use Rattle.den_model.specs.Crash.{Survives}
use Rattle.den_model.specs.Image.{recovered, log_in, hard_state_held, map_in}
use Rattle.den_model.specs.Kv.{Durable, Kv}
use Rattle.den_model.specs.Log.{Log, above}
use Rattle.den_model.specs.MapState.{MapState}
use Rattle.den_model.specs.Step.{Step}
use Rattle.den_store.specs.declared.log_store.FileLogStore.{FileLogStore}
use Rattle.den_store.specs.declared.meta_store.FileMetaStore.{FileMetaStore}
use Rattle.den_store.specs.FileLog.{log_shown}
use Rattle.den_store.specs.FileMeta.{meta_shown}
use Rattle.den_map.specs.Leases.{asks_lease, has_expiry}
use Rattle.den_state.specs.declared.file_machine.FileStateMachine.{FileStateMachine}
use Rattle.den_state.specs.FileState.{state_shown}
use Rattle.den_core.specs.Opening.{refusal_for}

-- whether a key has an expiry, or an entry above the map's mark a time to live
abbrev pub lease_asked : Result Log ℕ → Result MapState ℕ → Bool
lease_asked (Ok l) (Ok s) = has_expiry s || asks_lease (above s.mark.index l.entries)
lease_asked (Ok l) (Err offset) = false
lease_asked (Err offset) s = false

-- Why files are refused, with leases or without, if they are: they stand for nothing, and where; then a lease is asked
-- for, and none is configured; then no term or no index is left.
abbrev pub refusal_in : (leased : Bool) → Files → Option Error
refusal_in leased files = refusal_for (not leased && lease_asked (log_in files) (map_in files)) (recovered files)

-- what log, hard state and map are read as
pub record IsRead (files : Files) (l : Log) (h : Option HardState) (s : MapState) : Type 0 where
  pub log : log_in files ≡ Ok l
  pub hard_state : hard_state_held files ≡ Ok h
  pub map : map_in files ≡ Ok s

-- none of the three has failed
pub record AllReady (log_ready meta_ready state_ready : Type 0) : Type 0 where
  pub log : log_ready
  pub meta : meta_ready
  pub state : state_ready

-- what the three weigh
abbrev pub held_weight : FileLogStore → FileMetaStore → FileStateMachine → ℕ
held_weight log meta state = (log_shown log).weight + (meta_shown meta).weight + (state_shown state).weight

-- how heavy an engine is, at most, that was opened over files with so many bytes of regions
abbrev pub opened_weight : ℕ → ℕ
opened_weight bytes = 1280 + 8 * bytes

-- nothing was written: what is read stayed, nothing more is pending, and no image came that was none
pub record IsUnwritten (old new : Content) (no_new_images : Type 0) : Type 0 where
  pub content : SparesAll old new
  pub images : no_new_images

-- From the first sync that succeeds on, at this moment, a crash leaves what was read at entry. Where none succeeds the
-- moment is behind the last one, and what is read and pending is what it was.
pub record Settles (images : ℕ → Files → Type 0) (from to : ℕ) (ok same_content : Type 0) (reading : Files) : Type 0 where
  pub synced : ℕ
  pub low : from ≤ synced
  pub high : synced ≤ to + 1
  pub reached : ok → synced ≤ to
  pub none : to < synced → same_content
  pub each : (t : ℕ) (files : Files) → synced ≤ t → t ≤ to → images t files → files ≡ reading

-- The crash clause where writes are pending at entry. Until the first sync that succeeds, at this moment, a crash leaves
-- what it could leave at entry, and nothing is sent; from then on the crash clause holds. Where none succeeds the moment
-- is behind the last one, and what is read and pending is what it was.
pub record SurvivesOpening (holds : Files → Option Durable) (old_images images : ℕ → Files → Type 0) (from to : ℕ) (ok same_content : Type 0)
    (sent : List (ℕ × ℕ)) (kv : Kv) (steps : List Step) : Type 0 where
  pub synced : ℕ
  pub low : from ≤ synced
  pub high : synced ≤ to + 1
  pub reached : ok → synced ≤ to
  pub none : to < synced → same_content
  pub before : (t : ℕ) (files : Files) → from ≤ t → t < synced → t ≤ to → images t files → old_images from files
  pub behind : Survives holds images synced to sent kv steps
