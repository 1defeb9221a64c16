-- The word of a snapshot: how it is spelled, how it is read, and which snapshots have one.
use Rattle.std.specs.Prelude.{◌≡◌, ◌++◌, ℕ, true, List, Option}
use Rattle.std.specs.Int.{w64}
use Rattle.den_model.specs.Spelling.{u64_word, list_word, pair_word}
use Rattle.den_model.specs.Reading.{Reader, ◌>>=◌, done_if, whole, number_at, list_at, pair_at}
use Rattle.den_model.specs.Words.{FitsU64, FitsList, FitsPair}
use Rattle.den_snapshot.specs.Snapshots.{Taken, rises}

-- index and term of the mark, and the pairs
abbrev pub snapshot_word : Taken → List ℕ
snapshot_word t = u64_word t.mark.index ++ u64_word t.mark.term ++ list_word pair_word t.pairs

unfoldable pub snapshot_at : Reader Taken
snapshot_at = do
  index ← number_at w64
  term ← number_at w64
  pairs ← list_at pair_at
  done_if (rises pairs) (record { mark = record { index = index; term = term }; pairs = pairs })

-- the snapshot whose word the bytes are, all of them
unfoldable pub snapshot_in : List ℕ → Option Taken
snapshot_in = whole snapshot_at

-- each number and each length fits its field, and the keys rise
abbrev pub FitsSnapshot : Taken → Type 0
FitsSnapshot t = FitsU64 t.mark.index × FitsU64 t.mark.term × FitsList FitsPair t.pairs × (rises t.pairs ≡ true)
