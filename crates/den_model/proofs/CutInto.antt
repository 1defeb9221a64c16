-- An input is its whole frames in front, and what is left where no whole one is in front.
use Rattle.std.proofs.Common.{◌≡◌, ◌⊎◌, inl, inr, ℕ, zero, suc, ◌+◌, ◌^◌, ◌<◌, ◌≤◌, List, [], ◌∷◌, ◌++◌, length, take, drop, refl, sym, ap, subst, ◌∙◌, append_assoc, arith}
use Rattle.std.specs.Int.{w64, from_be_bytes}
use Rattle.std.specs.List.{AllByRecursion, flat_map}
use Rattle.std.proofs.lemmas.Bool.{cases_lt, le-ltb}
use Rattle.std.proofs.lemmas.List.{take_at, drop_at, take-append-drop, nil_from_length, length-append, length-take-le, length-drop}
use Rattle.den_model.specs.declared.request.Frame.{Frame}
use Rattle.den_model.specs.declared.request.Frame.TheVariants.{Bad}
use Rattle.den_model.specs.Spelling.{u64_word}
use Rattle.den_model.specs.Reading.{size_at}
use Rattle.den_model.specs.Frames.{framed, frames, frames_behind, IsTorn, IsCutInto}
use Rattle.den_model.specs.Words.{IsBytes}
use Rattle.den_model.proofs.Cut.{size_again, length_word, drop_word, frames_front, frames_short, cut_frame}
use Rattle.den_model.proofs.Spells.{IsBytes-behind, spells_u64}

-- eight bytes are the word of the size that they say
head_is : (bytes : List ℕ) → IsBytes bytes → 8 ≤ length bytes → (bytes ≡ u64_word (size_at bytes) ++ drop 8 bytes) × (size_at bytes < 2 ^ 64)
unfolding size_at
head_is bytes fits some =
    let t = spells_u64.found bytes (from_be_bytes w64 (take 8 bytes)) (drop 8 bytes) fits (rw (le-ltb (length bytes) 8 some) refl) in
    (t.2 ∙ ap (λ n. u64_word n ++ drop 8 bytes) (sym t.1), subst (λ n. n < 2 ^ 64) (sym t.1) t.3)

-- what a whole frame says, and how long it is
framed_size : (body rest : List ℕ) → length body < 2 ^ 64 → (size_at (framed body ++ rest) ≡ length body) × (length (framed body ++ rest) ≡ 8 + (length body + length rest))
framed_size body rest small =
    let is : framed body ++ rest ≡ u64_word (length body) ++ (body ++ rest) = append_assoc (u64_word (length body)) body rest in
    (ap size_at is ∙ size_again (length body) (body ++ rest) small, ap length is ∙ length_word (length body) (body ++ rest) ∙ ap (λ n. 8 + n) (length-append body rest))

-- ---- the cut

torn_short : (bytes : List ℕ) → 0 < length bytes → length bytes < 8 → IsTorn bytes
torn_short bytes some few = (λ e. omega (arith, ap length e), λ body rest small is. omega (arith, ap length is, (framed_size body rest small).1))

torn_cut : (bytes : List ℕ) → 8 ≤ length bytes → length bytes < 8 + size_at bytes → IsTorn bytes
torn_cut bytes some cut = (λ e. omega (arith, ap length e), λ body rest small is. omega (arith, cut, ap length is, ap size_at is, (framed_size body rest small).0, (framed_size body rest small).1))

-- in front of an input is nothing, no whole frame, or one
abbrev Front : ℕ → List ℕ → Type 0
Front limit bytes = (bytes ≡ []) ⊎ ((IsTorn bytes × (frames limit bytes ≡ Bad ∷ [])) ⊎ ((body : List ℕ) × (rest : List ℕ) × (length body < 2 ^ 64) × (bytes ≡ framed body ++ rest)))

whole_front : (limit b : ℕ) (bytes : List ℕ) → IsBytes (b ∷ bytes) → 7 + size_at (b ∷ bytes) ≤ length bytes → Front limit (b ∷ bytes)
whole_front limit b bytes fits whole =
    let size = size_at (b ∷ bytes) in
    let behind = drop 7 bytes in
    let head = head_is (b ∷ bytes) fits (omega arith) in
    let long : length (take size behind) ≡ size = length-take-le size behind (omega (arith, length-drop 7 bytes)) in
    let is : b ∷ bytes ≡ (u64_word size ++ take size behind) ++ drop size behind =
    head.0 ∙ ap (λ l. u64_word size ++ l) (sym (take-append-drop size behind)) ∙ sym (append_assoc (u64_word size) (take size behind) (drop size behind)) in
    inr (inr (take size behind, drop size behind, subst (λ n. n < 2 ^ 64) (sym long) head.1, is ∙ ap (λ n. (u64_word n ++ take size behind) ++ drop size behind) (sym long)))

front_of : (limit : ℕ) (bytes : List ℕ) → IsBytes bytes → Front limit bytes
front_of limit [] fits = inl refl
front_of limit (b ∷ bytes) fits = elim (cases_lt (length bytes) 7) [
  | inl few ↦ inr (inl (torn_short (b ∷ bytes) (omega arith) (omega arith), frames_short limit (b ∷ bytes) (omega arith) (omega arith)))
  | inr some ↦ elim (cases_lt (length bytes) (7 + size_at (b ∷ bytes))) [
    | inl cut ↦ inr (inl (torn_cut (b ∷ bytes) (omega arith) (omega arith), cut_frame limit b bytes (size_at (b ∷ bytes)) refl some cut))
    | inr whole ↦ whole_front limit b bytes fits whole
  ]
]

frames_none : (limit : ℕ) → frames limit [] ≡ []
unfolding frames_behind
frames_none limit = refl

cut_none : (limit : ℕ) (bytes : List ℕ) → bytes ≡ [] → IsCutInto limit bytes (frames limit bytes)
cut_none limit bytes none = subst (IsCutInto limit bytes) (sym (ap (frames limit) none ∙ frames_none limit)) none

-- the frames of an input are a cut of it
cut_into : (limit n : ℕ) (bytes : List ℕ) → length bytes ≤ n → IsBytes bytes → IsCutInto limit bytes (frames limit bytes)
cut_into limit zero bytes le fits = cut_none limit bytes (nil_from_length bytes (omega arith))
cut_into limit (suc n) bytes le fits = elim (front_of limit bytes fits) [
  | inl none ↦ cut_none limit bytes none
  | inr more ↦ elim more [
    | inl torn ↦ subst (IsCutInto limit bytes) (sym torn.1) (inl (torn.0, refl, refl))
    | inr whole ↦ subst (IsCutInto limit bytes) (sym (ap (frames limit) whole.3 ∙ frames_front limit whole.0 whole.1 whole.2)) (inr (
      whole.0,
      whole.1,
      whole.2,
      whole.3,
      refl,
      cut_into limit n whole.1 (omega (arith, ap length whole.3, (framed_size whole.0 whole.1 whole.2).1)) (IsBytes-behind (framed whole.0) whole.1 (subst IsBytes whole.3 fits)),
    ))
  ]
]

-- and no other frames are
cut_is : (limit : ℕ) (fs : List Frame) (bytes : List ℕ) → IsBytes bytes → IsCutInto limit bytes fs → frames limit bytes ≡ fs
cut_is limit [] bytes fits none = ap (frames limit) none ∙ frames_none limit
cut_is limit (f ∷ fs) bytes fits (inl torn) = elim (front_of limit bytes fits) [
  | inl none ↦ absurd (torn.0.0 none)
  | inr more ↦ elim more [
    | inl same ↦ same.1 ∙ ap (λ l. Bad ∷ l) (sym torn.2) ∙ ap (λ g. g ∷ fs) (sym torn.1)
    | inr whole ↦ absurd (torn.0.1 whole.0 whole.1 whole.2 whole.3)
  ]
]
cut_is limit (f ∷ fs) bytes fits (inr cut) =
    ap (frames limit) cut.3 ∙ frames_front limit cut.0 cut.1 cut.2 ∙ ap (λ g. g ∷ frames limit cut.1) (sym cut.4)
    ∙ ap (λ l. f ∷ l) (cut_is limit fs cut.1 (IsBytes-behind (framed cut.0) cut.1 (subst IsBytes cut.3 fits)) cut.5)

pub cut_iff : (limit : ℕ) (bytes : List ℕ) (fs : List Frame) → IsBytes bytes → ((frames limit bytes ≡ fs) → IsCutInto limit bytes fs) × (IsCutInto limit bytes fs → frames limit bytes ≡ fs)
cut_iff limit bytes fs fits = (λ e. subst (IsCutInto limit bytes) e (cut_into limit (length bytes) bytes (omega arith) fits), cut_is limit fs bytes fits)

-- ---- bodies that were written

-- the first of them, and the rest
first_same : (x y xs ys : List ℕ) → length x < 2 ^ 64 → length y < 2 ^ 64 → framed x ++ xs ≡ framed y ++ ys → (x ≡ y) × (xs ≡ ys)
first_same x y xs ys small_x small_y e =
    let n : length x ≡ length y = sym (framed_size x xs small_x).0 ∙ ap size_at e ∙ (framed_size y ys small_y).0 in
    let behind_x : drop 8 (framed x ++ xs) ≡ x ++ xs = ap (drop 8) (append_assoc (u64_word (length x)) x xs) ∙ drop_word (length x) (x ++ xs) in
    let behind_y : drop 8 (framed y ++ ys) ≡ y ++ ys = ap (drop 8) (append_assoc (u64_word (length y)) y ys) ∙ drop_word (length y) (y ++ ys) in
    let same : x ++ xs ≡ y ++ ys = sym behind_x ∙ ap (drop 8) e ∙ behind_y in
    (sym (take_at x xs (length x) refl) ∙ ap (take (length x)) same ∙ take_at y ys (length x) (sym n), sym (drop_at x xs (length x) refl) ∙ ap (drop (length x)) same ∙ drop_at y ys (length x) (sym n))

pub bodies_same : (xs ys : List (List ℕ)) → AllByRecursion (λ x. length x < 2 ^ 64) xs → AllByRecursion (λ y. length y < 2 ^ 64) ys → flat_map framed xs ≡ flat_map framed ys → xs ≡ ys
bodies_same [] [] small_x small_y e = refl
bodies_same [] (y ∷ ys) small_x small_y e = absurd (omega (arith, ap length e, (framed_size y (flat_map framed ys) small_y.0).1))
bodies_same (x ∷ xs) [] small_x small_y e = absurd (omega (arith, ap length e, (framed_size x (flat_map framed xs) small_x.0).1))
bodies_same (x ∷ xs) (y ∷ ys) small_x small_y e =
    let both = first_same x y (flat_map framed xs) (flat_map framed ys) small_x.0 small_y.0 e in
    ap (λ l. l ∷ xs) both.0 ∙ ap (λ l. y ∷ l) (bodies_same xs ys small_x.1 small_y.1 both.1)
