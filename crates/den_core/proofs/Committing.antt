-- The entry of a commit, and the copy of it that the map takes on.
use Rattle.std.proofs.Common.{◌≡◌, ◌<◌, ◌+◌, ◌&&◌, ◌||◌, not, ℕ, Bool, true, false, [], ◌∷◌, Some, None, sym, ◌∙◌, ap, subst, arith}
use Rattle.std.specs.Prelude.{if◌then◌else◌}
use Rattle.std.proofs.lemmas.Bool.{lt-ltb}
use Rattle.den_codec.specs.declared.error.Error.{Error}
use Rattle.den_codec.specs.declared.error.Error.TheVariants.{OutOfMemory, StorageIoError, DiskFull, LinkFault, DataCorruption, FeatureNotEnabled, ProposeFailed, UnorderedChunk, Config, ConfigFault, StateMachineError}
use Rattle.den_journal.specs.Causes.{IsRefusal}
use Rattle.den_map.specs.Leases.{lacks_lease}
use Rattle.den_map.specs.Order.{out_of_order}
use Rattle.den_model.specs.declared.command.Command.{Command}
use Rattle.den_model.specs.Entries.{LogEntry}
use Rattle.den_model.specs.Log.{Log, last_index}
use Rattle.den_model.specs.MapState.{MapState, map_applied, map_applied_all}
use Rattle.den_model.specs.Step.{has_ttl}
use Rattle.den_state.specs.Chunk.{IsChunkRefusal}
use Rattle.den_core.specs.Parts.{IsCaughtUp}
use Rattle.den_core.proofs.Trimming.{last_within}

-- the next entry is behind the log's last
pub next_above : (l : Log) (s : MapState) (e : LogEntry) → IsCaughtUp l s → e.index ≡ s.mark.index + 1 → last_index l < e.index
next_above l s e caught next = omega (arith, next, last_within l s caught)

-- a chunk of the copy alone does what the entry does
pub copied : (s s2 : MapState) (copy e : LogEntry) → s2 ≡ map_applied_all s (copy ∷ []) → copy ≡ e → s2 ≡ map_applied s e
copied s s2 copy e is same = is ∙ ap (map_applied s) same

-- it is in order
in_order : (mark : ℕ) (e : LogEntry) → e.index ≡ mark + 1 → out_of_order mark (e ∷ []) ≡ None
in_order mark e next = ap (λ b. if b then None else Some e.index) (lt-ltb mark e.index (omega (arith, next)))

-- a test that may hold only where another one does
either_false : (b leased : Bool) → (b && not leased) ≡ false → ((b || false) && not leased) ≡ false
either_false true leased is = is
either_false false leased is = is

-- a lease is configured where the entry has a time to live
has_lease : (leased lease : Bool) (e : LogEntry) (command : Command) → e.command ≡ command → lease ≡ leased → (has_ttl command && not lease) ≡ false → lacks_lease leased (e ∷ []) ≡ false
has_lease leased lease e command is same may =
    either_false (has_ttl e.command) leased (ap (λ c. has_ttl c && not leased) is ∙ ap (λ b. has_ttl command && not b) (sym same) ∙ may)

-- which a state machine does not turn away
not_turned : (leased : Bool) (rose : Type 0) (most mark : ℕ) (e : LogEntry) (error : Error) → out_of_order mark (e ∷ []) ≡ None → lacks_lease leased (e ∷ []) ≡ false
    → IsChunkRefusal leased rose most mark (e ∷ []) error → IsRefusal rose most error
not_turned leased rose most mark e OutOfMemory order lease cause = tt
not_turned leased rose most mark e StorageIoError order lease cause = cause.2
not_turned leased rose most mark e (DiskFull needed limit) order lease cause = (cause.2, cause.3)
not_turned leased rose most mark e LinkFault order lease cause = cause
not_turned leased rose most mark e (DataCorruption place offset) order lease cause = cause
not_turned leased rose most mark e FeatureNotEnabled order lease cause = let bad : true ≡ false = sym cause.1 ∙ lease in cc
not_turned leased rose most mark e ProposeFailed order lease cause = cause
not_turned leased rose most mark e (UnorderedChunk index) order lease cause = let bad : None ≡ Some index = sym order ∙ cause in cc
not_turned leased rose most mark e (Config place) order lease cause = cause
not_turned leased rose most mark e ConfigFault order lease cause = cause
not_turned leased rose most mark e StateMachineError order lease cause = cause

pub chunk_refusal : (leased lease : Bool) (rose : Type 0) (most mark : ℕ) (copy e : LogEntry) (command : Command) (error : Error) → copy ≡ e → e.index ≡ mark + 1 → e.command ≡ command → lease ≡ leased
    → (has_ttl command && not lease) ≡ false → IsChunkRefusal leased rose most mark (copy ∷ []) error → IsRefusal rose most error
chunk_refusal leased lease rose most mark copy e command error same next is configured may cause =
    not_turned leased rose most mark e error (in_order mark e next) (has_lease leased lease e command is configured may)
    (subst (λ x. IsChunkRefusal leased rose most mark (x ∷ []) error) same cause)
