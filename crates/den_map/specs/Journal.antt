-- The journal's records of entries.
use Rattle.std.specs.Prelude.{ℕ, Bool, true, false, List, [], ◌∷◌, Option, Some, None, if◌then◌else◌}
use Rattle.den_model.specs.declared.command.Command.{Command}
use Rattle.den_model.specs.declared.command.Command.TheVariants as command
use Rattle.den_model.specs.declared.journal.JournalRecord.{JournalRecord}
use Rattle.den_model.specs.declared.journal.JournalRecord.TheVariants as journal
use Rattle.den_model.specs.Entries.{LogEntry}
use Rattle.den_model.specs.Apply.{succeeds, seconds_after}
use Rattle.den_model.specs.MapState.{MapState, part_of, map_applied}

-- when a time to live that begins at a moment ends; 0 where there is none
abbrev pub expiry_of : ℕ → Option ℕ → ℕ
expiry_of moment None = 0
expiry_of moment (Some seconds) = seconds_after moment seconds

-- The record of an entry over a map: a swap's is its outcome.
abbrev pub recorded_as : MapState → ℕ → ℕ → ℕ → Command → JournalRecord
recorded_as s index term moment command.Noop = journal.Noop index term
recorded_as s index term moment (command.Insert key value ttl_secs) = journal.Insert index term key value (expiry_of moment ttl_secs)
recorded_as s index term moment (command.Delete key) = journal.Delete index term key
recorded_as s index term moment (command.CompareAndSwap key expected value) =
    if succeeds (part_of s 0) (command.CompareAndSwap key expected value) then journal.Insert index term key value 0 else journal.CasFailed index term

abbrev pub recorded : MapState → LogEntry → JournalRecord
recorded s e = recorded_as s e.index e.term e.moment e.command

-- one record for each entry, each over the map that the entries before it leave
abbrev pub all_recorded : MapState → List LogEntry → List JournalRecord
all_recorded s [] = []
all_recorded s (e ∷ es) = recorded s e ∷ all_recorded (map_applied s e) es

-- a record tells whether its entry succeeded
abbrev pub tells_success : JournalRecord → Bool
tells_success (journal.Noop index term) = true
tells_success (journal.Insert index term key value expiry) = true
tells_success (journal.Delete index term key) = true
tells_success (journal.CasFailed index term) = false
tells_success (journal.Cleanup moment) = true
