-- Why a chunk of entries is refused.
use Rattle.std.specs.Prelude.{◌≡◌, ◌<◌, ℕ, Bool, true, false, List, Option, Some, None, if◌then◌else◌}
use Rattle.den_codec.specs.declared.error.Error.{Error}
use Rattle.den_codec.specs.declared.error.Error.TheVariants.{OutOfMemory, StorageIoError, DiskFull, LinkFault, DataCorruption, FeatureNotEnabled, ProposeFailed, UnorderedChunk, Config, ConfigFault, StateMachineError}
use Rattle.den_model.specs.Entries.{LogEntry}
use Rattle.den_map.specs.Leases.{lacks_lease}
use Rattle.den_map.specs.Order.{out_of_order}

-- what may refuse these entries behind this mark: their order, then a time to live without a lease, then the disk
-- and memory
abbrev pub IsChunkRefusal : Bool → Type 0 → ℕ → ℕ → List LogEntry → Error → Type 0
IsChunkRefusal leased rose most mark chunk (UnorderedChunk index) = out_of_order mark chunk ≡ Some index
IsChunkRefusal leased rose most mark chunk FeatureNotEnabled = (out_of_order mark chunk ≡ None) × (lacks_lease leased chunk ≡ true)
IsChunkRefusal leased rose most mark chunk OutOfMemory = (out_of_order mark chunk ≡ None) × (lacks_lease leased chunk ≡ false)
IsChunkRefusal leased rose most mark chunk StorageIoError = (out_of_order mark chunk ≡ None) × (lacks_lease leased chunk ≡ false) × rose
IsChunkRefusal leased rose most mark chunk (DiskFull needed limit) = (out_of_order mark chunk ≡ None) × (lacks_lease leased chunk ≡ false) × (limit < needed) × (limit ≡ most)
IsChunkRefusal leased rose most mark chunk LinkFault = ⊥
IsChunkRefusal leased rose most mark chunk (DataCorruption place offset) = ⊥
IsChunkRefusal leased rose most mark chunk ProposeFailed = ⊥
IsChunkRefusal leased rose most mark chunk (Config place) = ⊥
IsChunkRefusal leased rose most mark chunk ConfigFault = ⊥
IsChunkRefusal leased rose most mark chunk StateMachineError = ⊥

-- the refusal of a chunk behind this mark: for its order, then for a time to live without a lease
abbrev pub refusal_of_chunk : Bool → ℕ → List LogEntry → Option Error
refusal_of_chunk leased mark chunk = elim (out_of_order mark chunk) [ Some index ↦ Some (UnorderedChunk index) | None ↦ if lacks_lease leased chunk then Some FeatureNotEnabled else None ]
