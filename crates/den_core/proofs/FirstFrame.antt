-- The first frame of an input.
use Rattle.std.proofs.Common.{◌≡◌, ℕ, ◌≤◌, ◌<◌, ◌+◌, inl, inr, Bool, true, List, [], ◌∷◌, length, take, drop, refl, sym, ◌∙◌, ap, subst, arith}
use Rattle.std.specs.Int.{from_be_bytes, w64}
use Rattle.std.proofs.lemmas.Bool.{cases_lt, lt-ltb, le-ltb, le-leb, lt-leb}
use Rattle.std.proofs.lemmas.List.{length-take-le, length-drop, drop-drop, drop_all, take_all}
use Rattle.den_model.specs.declared.request.Frame.{Frame}
use Rattle.den_model.specs.declared.request.Frame.TheVariants.{Bad}
use Rattle.den_model.specs.Frames.{frame_in, frame_of, frames, frames_behind}
use Rattle.den_model.specs.Reading.{size_at}
use Rattle.den_model.proofs.Cut.{frames_skip, frames_short}
use Rattle.den_core.specs.Input.{IsPiece, IsBehind}

frame_of_long : (limit : ℕ) (body : List ℕ) → limit < length body → frame_of limit body ≡ Bad
unfolding frame_of
frame_of_long limit body long = rw (lt-leb (length body) limit long) refl

frame_of_short : (limit : ℕ) (body : List ℕ) → length body ≤ limit → frame_of limit body ≡ frame_in body
unfolding frame_of
frame_of_short limit body short = rw (le-leb (length body) limit short) refl

-- a longer body than the limit was read past
pub behind_long : (limit size : ℕ) (left rest : List ℕ) → limit < size → rest ≡ drop size left → IsBehind limit size left rest Bad
behind_long limit size left rest long is = elim (cases_lt (length left) size) [
  | inl lt ↦ inl (lt, refl, is ∙ drop_all size left (omega arith))
  | inr le ↦ inr (le, sym (frame_of_long limit (take size left) (omega (arith, length-take-le size left le))), is)
]

-- a body was read
pub behind_read : (limit size : ℕ) (left rest body : List ℕ) (whole : Bool) (frame : Frame) → whole ≡ true → size ≤ limit → IsPiece size left rest [] body whole → frame ≡ frame_in body → IsBehind limit size left rest frame
behind_read limit size left rest body whole frame all short piece is =
    let read : IsPiece size left rest [] body true = subst (λ b. IsPiece size left rest [] body b) all piece in
    inr (read.0, is ∙ ap frame_in read.1 ∙ sym (frame_of_short limit (take size left) (omega (arith, length-take-le size left read.0))), read.2)

frames_none : (limit : ℕ) → frames limit [] ≡ []
unfolding frames_behind
frames_none limit = refl

-- fewer than eight bytes
pub frames_tail : (limit got : ℕ) (left rest : List ℕ) → got < 8 → (got ≡ 0 → ⊥) → got ≤ length left → rest ≡ drop got left → rest ≡ [] → frames limit left ≡ Bad ∷ frames limit rest
frames_tail limit got left rest lt some fits is none =
    frames_short limit left (omega arith) (omega (arith, ap length (sym is ∙ none), length-drop got left))
    ∙ ap (λ l. Bad ∷ l) (sym (ap (frames limit) none ∙ frames_none limit))

-- behind a length: what it says
whole_first : (limit b : ℕ) (bytes : List ℕ) (size : ℕ) → size_at (b ∷ bytes) ≡ size → 7 + size ≤ length bytes → frames limit (b ∷ bytes) ≡ frame_of limit (take size (drop 7 bytes)) ∷ frames_behind limit (7 + size) bytes
unfolding frames_behind
whole_first limit b bytes size is enough = rw (is, le-ltb (length bytes) 7 (omega arith), le-ltb (length bytes) (7 + size) enough) refl

cut_first : (limit b : ℕ) (bytes : List ℕ) (size : ℕ) → size_at (b ∷ bytes) ≡ size → 7 ≤ length bytes → length bytes < 7 + size → frames limit (b ∷ bytes) ≡ Bad ∷ []
unfolding frames_behind
cut_first limit b bytes size is some short = rw (is, le-ltb (length bytes) 7 some, lt-ltb (length bytes) (7 + size) short) refl

first_behind : (limit b : ℕ) (bytes : List ℕ) (size : ℕ) (rest : List ℕ) (frame : Frame) → 7 ≤ length bytes → size_at (b ∷ bytes) ≡ size → IsBehind limit size (drop 7 bytes) rest frame → frames limit (b ∷ bytes) ≡ frame ∷ frames limit rest
first_behind limit b bytes size rest frame some is (inl cut) =
    cut_first limit b bytes size is some (omega (arith, cut.0, length-drop 7 bytes))
    ∙ ap (λ l. Bad ∷ l) (sym (ap (frames limit) cut.2 ∙ frames_none limit)) ∙ ap (λ f. f ∷ frames limit rest) (sym cut.1)
first_behind limit b bytes size rest frame some is (inr got) =
    whole_first limit b bytes size is (omega (arith, got.0, length-drop 7 bytes))
    ∙ ap (λ l. frame_of limit (take size (drop 7 bytes)) ∷ l) (frames_skip limit (7 + size) bytes ∙ ap (frames limit) (sym (drop-drop size 7 bytes) ∙ sym got.2))
    ∙ ap (λ f. f ∷ frames limit rest) (sym got.1)

size_of_head : (left head : List ℕ) (size : ℕ) → take 8 head ≡ take 8 left → length head ≡ 8 → size ≡ from_be_bytes w64 head → size_at left ≡ size
unfolding size_at
size_of_head left head size front eight said = sym (said ∙ ap (from_be_bytes w64) (sym (take_all 8 head (omega arith)) ∙ front))

frames_first_of : (limit size : ℕ) (left rest : List ℕ) (frame : Frame) → 8 ≤ length left → size_at left ≡ size → IsBehind limit size (drop 8 left) rest frame → frames limit left ≡ frame ∷ frames limit rest
frames_first_of limit size [] rest frame some = absurd (omega arith)
frames_first_of limit size (b ∷ bytes) rest frame some = first_behind limit b bytes size rest frame (omega arith)

pub frames_first : (limit size got : ℕ) (left after head rest : List ℕ) (frame : Frame) → 8 ≤ got → got ≤ length head → length head ≡ 8 → got ≤ length left → after ≡ drop got left → take got head ≡ take got left → size ≡ from_be_bytes w64 head
    → IsBehind limit size after rest frame → frames limit left ≡ frame ∷ frames limit rest
frames_first limit size got left after head rest frame ge room eight fits is front said got_frame =
    let at : got ≡ 8 = omega arith in
    let behind : after ≡ drop 8 left = is ∙ ap (λ n. drop n left) at in
    frames_first_of limit size left rest frame (omega (arith, at, fits))
    (size_of_head left head size (ap (λ n. take n head) (sym at) ∙ front ∙ ap (λ n. take n left) at) eight said)
    (subst (λ l. IsBehind limit size l rest frame) behind got_frame)
