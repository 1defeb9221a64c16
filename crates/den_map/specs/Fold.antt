-- What a fold over the journal promises.
use Rattle.std.specs.Prelude.{◌≡◌, Option, Some, None, Result, Ok, Err}
use Rattle.den_model.specs.declared.log_id.LogId.{LogId}
use Rattle.den_model.specs.declared.journal.JournalRecord.{JournalRecord}
use Rattle.den_model.specs.declared.journal.JournalRecord.TheVariants.{Noop, Insert, Delete, CasFailed, Cleanup}
use Rattle.den_model.specs.Table.{unset}
use Rattle.den_model.specs.MapState.{MapState, with_stored}
use Rattle.den_map.specs.Cleanup.{cleaned_map}
use Rattle.den_map.specs.declared.fold.FoldError.{FoldError}
use Rattle.den_map.specs.declared.fold.FoldError.TheVariants.{Memory, Unlawful}

-- it ends where the definition is lawful, with what the definition gives, unless memory ran out
abbrev pub Folds : Result Unit FoldError → Option MapState → MapState → Type 0
Folds (Ok done) given new = given ≡ Some new
Folds (Err Memory) given new = Unit {0}
Folds (Err Unlawful) given new = given ≡ None

-- pairs and expiries after a record
abbrev pub record_done : MapState → JournalRecord → MapState
record_done s (Noop index term) = s
record_done s (Insert index term key value expiry) = with_stored s key value term expiry
record_done s (Delete index term key) = record s { pairs = unset s.pairs key; expiries = unset s.expiries key }
record_done s (CasFailed index term) = s
record_done s (Cleanup moment) = cleaned_map moment s

-- the place of the entry that a record is of
abbrev pub place_of : JournalRecord → Option LogId
place_of (Noop index term) = Some (record { index = index; term = term })
place_of (Insert index term key value expiry) = Some (record { index = index; term = term })
place_of (Delete index term key) = Some (record { index = index; term = term })
place_of (CasFailed index term) = Some (record { index = index; term = term })
place_of (Cleanup moment) = None
