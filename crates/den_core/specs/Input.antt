-- What is read of a link.
use Rattle.std.specs.Prelude.{◌≡◌, ◌⊎◌, ℕ, ◌+◌, ◌<◌, ◌≤◌, Bool, true, false, IsTrue, List, [], ◌∷◌, ◌++◌, length, take, drop, Option, Some, None}
use Rattle.den_model.specs.declared.request.Frame.{Frame}
use Rattle.den_model.specs.declared.request.Frame.TheVariants.{Good, Bad}
use Rattle.den_model.specs.Frames.{frames, frame_of}
use Rattle.den_model.specs.Sizes.{frame_size}

-- so many bytes were taken, and nothing was sent
pub record Took {L : Type 0} (tells : L → Bool) (left : L → List ℕ) (sent : L → List (ℕ × ℕ)) (budget taken : L → ℕ) (n : ℕ) (old new : L) : Type 0 where
  pub fits : IsTrue (tells old) → n ≤ length (left old)
  pub rest : IsTrue (tells old) → left new ≡ drop n (left old)
  pub quiet : IsTrue (tells old) → sent new ≡ sent old
  pub counted : taken new ≡ taken old + n
  pub could : 0 < n → taken old < budget old

-- so many bytes joined those that were read before, or the input ended before
abbrev pub IsPiece : ℕ → List ℕ → List ℕ → List ℕ → List ℕ → Bool → Type 0
IsPiece size left rest old new true = (size ≤ length left) × (new ≡ old ++ take size left) × (rest ≡ drop size left)
IsPiece size left rest old new false = (length left < size) × (rest ≡ [])

-- the frame behind a length of this size: bad where the input ends inside it or its body is longer than the limit
abbrev pub IsBehind : ℕ → ℕ → List ℕ → List ℕ → Frame → Type 0
IsBehind limit size left rest frame =
    ((length left < size) × (frame ≡ Bad) × (rest ≡ []))
    ⊎ ((size ≤ length left) × (frame ≡ frame_of limit (take size left)) × (rest ≡ drop size left))

-- what was found where a frame was sought: the input's first, or its end
abbrev pub Found : ℕ → List ℕ → List ℕ → Option Frame → Type 0
Found limit left rest None = (left ≡ []) × (rest ≡ [])
Found limit left rest (Some frame) = frames limit left ≡ frame ∷ frames limit rest

-- so many bytes have a good frame's length and body among them, or a part of a bad frame
abbrev pub HasCome : ℕ → Frame → Type 0
HasCome taken Bad = 1 ≤ taken
HasCome taken (Good request) = 8 + frame_size (Good request) ≤ taken
