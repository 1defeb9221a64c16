-- The input cut into frames.
use Rattle.std.specs.Prelude.{◌≡◌, ◌≢◌, ◌⊎◌, ◌^◌, ◌<◌, ℕ, zero, suc, ◌+◌, List, [], ◌∷◌, ◌++◌, length, take, drop, Some, None, nat_lt, nat_le, if◌then◌else◌}
use Rattle.den_model.specs.declared.request.Frame.{Frame}
use Rattle.den_model.specs.declared.request.Frame.TheVariants.{Good, Bad}
use Rattle.den_model.specs.Spelling.{u64_word}
use Rattle.den_model.specs.Reading.{size_at, request_in}

-- a body on a stream: its length, and the body
abbrev pub framed : List ℕ → List ℕ
framed body = u64_word (length body) ++ body

-- what a body holds: a request, or no word of one
abbrev pub frame_in : List ℕ → Frame
frame_in body = elim (request_in body) [ None ↦ Bad | Some request ↦ Good request ]

-- what a body under this length limit is
unfoldable pub frame_of : ℕ → List ℕ → Frame
frame_of limit body = if nat_le (length body) limit then frame_in body else Bad

-- The frames of the bytes behind the first `skip`. A frame begins with eight bytes of length; where the bytes
-- end before it does, it is bad and the last.
unfoldable pub frames_behind : ℕ → ℕ → List ℕ → List Frame
frames_behind limit skip [] = []
frames_behind limit (suc skip) (b ∷ bytes) = frames_behind limit skip bytes
frames_behind limit zero (b ∷ bytes) =
    let size = size_at (b ∷ bytes) in
    if nat_lt (length bytes) 7 then Bad ∷ []
    else if nat_lt (length bytes) (7 + size) then Bad ∷ []
    else frame_of limit (take size (drop 7 bytes)) ∷ frames_behind limit (7 + size) bytes

abbrev pub frames : ℕ → List ℕ → List Frame
frames limit bytes = frames_behind limit 0 bytes

-- ---- the same, of whole lists

-- bytes that begin with no frame: too few for a length, or fewer than the length says
abbrev pub IsTorn : List ℕ → Type 0
IsTorn bytes = (bytes ≢ []) × ((body rest : List ℕ) → length body < 2 ^ 64 → bytes ≢ framed body ++ rest)

abbrev pub IsCutInto : ℕ → List ℕ → List Frame → Type 0
IsCutInto limit bytes [] = bytes ≡ []
IsCutInto limit bytes (f ∷ fs) =
    (IsTorn bytes × (f ≡ Bad) × (fs ≡ []))
    ⊎ ((body : List ℕ) × (rest : List ℕ) × (length body < 2 ^ 64) × (bytes ≡ framed body ++ rest) × (f ≡ frame_of limit body) × IsCutInto limit rest fs)
