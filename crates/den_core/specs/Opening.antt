-- What opening refuses, and why it ends early.
use Rattle.std.specs.Prelude.{◌≡◌, ◌≤◌, ◌⊎◌, ◌+◌, ◌-◌, ◌^◌, ◌==◌, ◌&&◌, ◌||◌, not, nat_le, ℕ, Bool, true, List, Option, Some, None, Result, Ok, Err, if◌then◌else◌}
use Rattle.den_codec.specs.declared.error.Error.{Error}
use Rattle.den_codec.specs.declared.error.Error.TheVariants.{DataCorruption, FeatureNotEnabled, ProposeFailed, OutOfMemory}
use Rattle.den_model.specs.declared.log_id.HardState.{HardState}
use Rattle.den_model.specs.Image.{Corruption, durable, or_corrupt, gapless_from}
use Rattle.den_model.specs.Entries.{LogEntry}
use Rattle.den_model.specs.Kv.{Durable}
use Rattle.den_model.specs.Log.{Log, above, floor}
use Rattle.den_model.specs.MapState.{MapState}
use Rattle.den_map.specs.Leases.{asks_lease, has_expiry}
use Rattle.den_journal.specs.Causes.{IsRefusal}

-- no term or no index is left
abbrev pub is_exhausted : Durable → Bool
is_exhausted d = (d.term == 2 ^ 64 - 1) || (d.last_index == 2 ^ 64 - 1)

-- Files that stand for nothing, and where; then a key with an expiry or an entry to apply that has a time to live, where no
-- lease is configured; then a term or an index that is exhausted.
abbrev pub refusal_for : Bool → Result Durable Corruption → Option Error
refusal_for lease (Err c) = Some (DataCorruption c.place c.offset)
refusal_for lease (Ok d) = if lease then Some FeatureNotEnabled else if is_exhausted d then Some ProposeFailed else None

-- what opening refuses, with leases or without, of a log in this file, a hard state and a map; a log and a map that
-- disagree stand for nothing
abbrev pub opening_refusal : Bool → ℕ → Log → Option HardState → MapState → Option Error
opening_refusal leased place l h s = refusal_for (not leased && (has_expiry s || asks_lease (above s.mark.index l.entries))) (or_corrupt (record { place = place; offset = 0 }) (durable l h s))

-- whether the log's entries go on behind this index without a gap
abbrev pub agrees : Log → ℕ → List LogEntry → Bool
agrees l index entries = nat_le (floor l) index && gapless_from (index + 1) entries

-- they agree, and these entries are left to apply
pub record IsLeft (l : Log) (s : MapState) (entries : List LogEntry) : Type 0 where
  pub purged : floor l ≤ s.mark.index
  pub are : above s.mark.index l.entries ≡ entries
  pub run : gapless_from (s.mark.index + 1) entries ≡ true

-- the same refusal, by tests
abbrev pub refusal_by : ℕ → Bool → Bool → Bool → Option Error
refusal_by place agree lease exhausted =
    if not agree then Some (DataCorruption place 0)
    else if lease then Some FeatureNotEnabled
    else if exhausted then Some ProposeFailed
    else None

-- what opening answers: its refusal where there is one; else a refusal of the disk; or want of memory
abbrev pub IsOpeningFailure : Type 0 → ℕ → Option Error → Error → Type 0
IsOpeningFailure rose most refusal e = (refusal ≡ Some e) ⊎ (e ≡ OutOfMemory) ⊎ ((refusal ≡ None) × IsRefusal rose most e)
