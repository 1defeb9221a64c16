-- What the log is after steps.
use Rattle.std.specs.Prelude.{◌≡◌, ◌⊎◌, ℕ, ◌<◌, ◌≤◌, List, [], ◌∷◌}
use Rattle.std.specs.List.{All}
use Rattle.den_model.specs.declared.log_id.LogId.{LogId}
use Rattle.den_model.specs.declared.region.LogRegion.TheVariants.{Append, Purge}
use Rattle.den_model.specs.Entries.{LogEntry}
use Rattle.den_model.specs.Kv.{Kv}
use Rattle.den_model.specs.Log.{Log, floor, changed}
use Rattle.den_model.specs.Step.{Step, step}

-- the log with these entries appended, one after the other
abbrev pub appended : Log → List LogEntry → Log
appended l [] = l
appended l (e ∷ es) = appended (changed l (Append (e ∷ []))) es

-- the id's term is that of the entry of its index, where the log has one
abbrev pub HasTermOf : Log → LogId → Type 0
HasTermOf l id = All (λ (e : LogEntry). e.index ≡ id.index → e.term ≡ id.term) l.entries

-- the same log, or that log with the entries up to an id purged, which is above the boundary and at most this index
abbrev pub IsPurgedUpTo : ℕ → Log → Log → Type 0
IsPurgedUpTo most old new = (new ≡ old) ⊎ ((id : LogId) × (floor old < id.index) × (id.index ≤ most) × HasTermOf old id × (new ≡ changed old (Purge id.index id.term)))

-- The log after these steps: the entries of each joined it. Before each step and behind the last one, entries up to the last
-- that was applied by then may have been purged.
abbrev pub IsLogAfter : Log → Kv → List Step → Log → Type 0
IsLogAfter old s [] new = IsPurgedUpTo s.durable.last_index old new
IsLogAfter old s (x ∷ xs) new = (between : Log) × IsPurgedUpTo s.durable.last_index old between × IsLogAfter (appended between (step s x).logged) (step s x).after xs new
