-- What a read gives.
use Rattle.std.specs.Prelude.{◌≡◌, ◌<◌, ◌≤◌, ℕ, List, [], length, take, drop, Result, Ok, Err}
use Rattle.den_disk.specs.declared.link.Piece.{Piece}
use Rattle.den_disk.specs.declared.link.Piece.TheVariants.{Got, End}

-- the bytes that a read took
abbrev pub taken_by : {E : Type 0} → Result Piece E → ℕ
taken_by (Ok (Got n)) = n
taken_by (Ok End) = 0
taken_by (Err e) = 0

-- What a read of a telling link or source gives: the next bytes, or the end exactly where none are left.
abbrev pub GivesPiece : Piece → List ℕ → List ℕ → List ℕ → Type 0
GivesPiece (Got n) left rest buf = (n ≤ length left) × (take n buf ≡ take n left) × (rest ≡ drop n left)
GivesPiece End left rest buf = (left ≡ []) × (rest ≡ [])

-- a piece is not empty, and fits the buffer
abbrev pub IsSized : Piece → ℕ → Type 0
IsSized (Got n) room = (0 < n) × (n ≤ room)
IsSized End room = Unit {0}
