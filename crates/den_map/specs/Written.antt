-- What the entries of a chunk wrote so far, over the map that they began with.
use Rattle.std.specs.Prelude.{◌≡◌, ℕ, List, Option, Some, None}
use Rattle.std.specs.List.Sorted.{IsStrictlySortedBy}
use Rattle.std.specs.Map.{keys_of}
use Rattle.den_model.specs.declared.journal.JournalRecord.{JournalRecord}
use Rattle.den_model.specs.declared.journal.JournalRecord.TheVariants.{Noop, Insert, Delete, CasFailed, Cleanup}
use Rattle.den_model.specs.Apply.{value_at}
use Rattle.den_model.specs.MapState.{MapState, part_of}
use Rattle.den_model.specs.Table.{Table, by_bytes, at, set}

-- the keys that were written, each with its value, or with none where it was deleted
abbrev pub Written : Type 0
Written = Table (Option (List ℕ))

-- the same after the record of one entry more
abbrev pub noted : Written → JournalRecord → Written
noted w (Noop index term) = w
noted w (Insert index term key value expiry) = set w key (Some value)
noted w (Delete index term key) = set w key None
noted w (CasFailed index term) = w
noted w (Cleanup moment) = w

-- the value at a key: what was written there, and else what the map has
abbrev pub value_over : Written → MapState → List ℕ → Option (List ℕ)
value_over w base key = elim (at w key) [ None ↦ value_at (part_of base 0) key | Some value ↦ value ]

-- what was written over one map gives the values of another, whose keys are sorted
pub record IsOver (w : Written) (base s : MapState) : Type 0 where
  pub sorted : IsStrictlySortedBy by_bytes (keys_of s.pairs)
  pub values : (key : List ℕ) → value_at (part_of s 0) key ≡ value_over w base key
