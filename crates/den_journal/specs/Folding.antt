-- What reading a list of payloads finds.
use Rattle.std.specs.Prelude.{◌≡◌, ℕ, ◌+◌, List, [], ◌∷◌, length, Option, Some, None, Result, Ok, Err}
use Rattle.den_model.specs.Regions.{Region}
use Rattle.den_codec.specs.declared.error.Error.{Error}
use Rattle.den_codec.specs.declared.error.Error.TheVariants.{OutOfMemory, StorageIoError, DiskFull, LinkFault, DataCorruption, FeatureNotEnabled, ProposeFailed, UnorderedChunk, Config, ConfigFault, StateMachineError}

-- what is made of a value by regions is made payload by payload, up to the first that is not lawful
pub record IsFold {V : Type 0} (after : V → List ℕ → Option V) (from : V → List Region → Result V ℕ) : Type 0 where
  pub stays : (v : V) → from v [] ≡ Ok v
  pub goes_on : (v w : V) (r : Region) (rs : List Region) → after v r.payload ≡ Some w → from v (r ∷ rs) ≡ from w rs
  pub stops : (v : V) (r : Region) (rs : List Region) → after v r.payload ≡ None → from v (r ∷ rs) ≡ Err r.offset

-- where regions of these payloads end that begin at an offset
abbrev pub end_from : ℕ → List (List ℕ) → ℕ
end_from offset [] = offset
end_from offset (p ∷ ps) = end_from (offset + (9 + length p)) ps

-- a refusal of a call that reads a family's files: want of memory, a fault of the disk where its count rose, and files
-- that are corrupt
abbrev pub IsUnread : Type 0 → (ℕ → ℕ → Type 0) → Error → Type 0
IsUnread rose corrupt OutOfMemory = Unit {0}
IsUnread rose corrupt StorageIoError = rose
IsUnread rose corrupt (DataCorruption place offset) = corrupt place offset
IsUnread rose corrupt (DiskFull needed limit) = ⊥
IsUnread rose corrupt LinkFault = ⊥
IsUnread rose corrupt FeatureNotEnabled = ⊥
IsUnread rose corrupt ProposeFailed = ⊥
IsUnread rose corrupt (UnorderedChunk index) = ⊥
IsUnread rose corrupt (Config place) = ⊥
IsUnread rose corrupt ConfigFault = ⊥
IsUnread rose corrupt StateMachineError = ⊥
