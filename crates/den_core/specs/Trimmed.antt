-- How much of its log a stepper keeps behind a step.
use Rattle.std.specs.Prelude.{ℕ, ℤ, ◌-◌, List, [], ◌∷◌, nat_lt, if◌then◌else◌}
use Rattle.den_model.specs.declared.log_id.LogId.{LogId}
use Rattle.den_model.specs.declared.region.LogRegion.TheVariants.{Purge}
use Rattle.den_model.specs.Entries.{LogEntry}
use Rattle.den_model.specs.Grown.{appended}
use Rattle.den_model.specs.Kv.{Durable}
use Rattle.den_model.specs.Log.{Log, changed, floor, last_index}
use Rattle.den_model.specs.Step.{is_leader}

-- index and term of the last entry that was applied
abbrev pub mark_of : Durable → LogId
mark_of d = record { index = d.last_index; term = d.last_term }

-- The log behind a step: where its indices run over more than `most` behind the boundary, entries up to the mark are purged.
abbrev pub trimmed : (most : ℕ) (mark : LogId) (l : Log) → Log
trimmed most mark l = if nat_lt most (last_index l - floor l) then changed l (Purge mark.index mark.term) else l

-- the log behind steps that log these entries: where they log none it is left alone
abbrev pub logged_after : (most : ℕ) (mark : LogId) (old : Log) (entries : List LogEntry) → Log
logged_after most mark old [] = old
logged_after most mark old (e ∷ es) = trimmed most mark (appended old (e ∷ es))

-- the term of the last of these entries, or this one
abbrev pub last_term_of : ℕ → List LogEntry → ℕ
last_term_of term [] = term
last_term_of term (e ∷ es) = last_term_of e.term es

-- index and term of the last entry that a log holds, where it holds one
abbrev pub last_id : Log → LogId
last_id l = record { index = last_index l; term = last_term_of 0 l.entries }

-- The log that an engine begins with under a core of this role: where the core does not lead, one that is too long is
-- purged up to its own last entry.
abbrev pub opened_log : (role : ℤ) (most : ℕ) → Log → Log
opened_log role most l = if is_leader role then l else trimmed most (last_id l) l
