-- Reads into a buffer, and the first frame of a stream.
use Rattle.std.proofs.Common.{◌≡◌, ℕ, ◌≤◌, ◌<◌, ◌+◌, ◌-◌, Bool, true, false, inl, inr, List, [], ◌++◌, length, take, drop, sym, ◌∙◌, ap, subst, arith, IsTrue, Ok, length-append, replicate, nat_eq}
use Rattle.std.proofs.lemmas.Bool.{cases_lt, eq-eqb, ne_eqb}
use Rattle.std.proofs.lemmas.List.{take-append-drop, take-append-le, length-take-le, length-drop, drop-drop, take_all, take_at, drop_all, append-nil}
use Rattle.std.proofs.Math.Seq.{take-append-add}
use borrow.Rule.Slice.PartMut.{put_mid, post_of}
use Rattle.den_disk.specs.Goes.{LinkGoesOn}
use Rattle.den_disk.specs.Pieces.{GivesPiece, IsSized, taken_by}
use Rattle.den_disk.specs.declared.link.LinkFault.{LinkFault}
use Rattle.den_disk.specs.declared.link.Piece.{Piece}
use Rattle.den_disk.specs.declared.link.Piece.TheVariants.{Got}
use Rattle.den_core.specs.Input.{Took, IsPiece}

-- a list's front in two parts
take_two : (xs : List ℕ) (n more : ℕ) → n ≤ length xs → take (n + more) xs ≡ take n xs ++ take more (drop n xs)
take_two xs n more le =
    ap (take (n + more)) (sym (take-append-drop n xs))
    ∙ ap (λ k. take (k + more) (take n xs ++ drop n xs)) (sym (length-take-le n xs le))
    ∙ take-append-add (take n xs) (drop n xs) more

-- a piece read behind the first n bytes of a buffer
pub piece_put : (left buf piece : List ℕ) (n more : ℕ) → n ≤ length left → n ≤ length buf → more ≤ length piece → take n buf ≡ take n left → take more piece ≡ take more (drop n left)
    → take (n + more) (put_mid n (length buf - n) buf piece) ≡ take (n + more) left
piece_put left buf piece n more few room fits front next =
    let post = post_of n (length buf - n) buf in
    ap (λ k. take (k + more) (take n buf ++ (piece ++ post))) (sym (length-take-le n buf room))
    ∙ take-append-add (take n buf) (piece ++ post) more
    ∙ ap (λ l. take n buf ++ l) (take-append-le more piece post fits)
    ∙ ap (λ l. l ++ take more piece) front
    ∙ ap (λ l. take n left ++ l) next
    ∙ sym (take_two left n more few)

-- one read more
module _ {L : Type 0} (tells : L → Bool) (left : L → List ℕ) (sent : L → List (ℕ × ℕ)) (budget taken faults : L → ℕ) where
  pub took_more : (old mid new : L) (n more : ℕ) → LinkGoesOn tells sent budget taken faults old mid → Took tells left sent budget taken n old mid
      → (IsTrue (tells mid) → (more ≤ length (left mid)) × (left new ≡ drop more (left mid))) → (IsTrue (tells mid) → sent new ≡ sent mid)
      → taken new ≡ taken mid + more → taken mid < budget mid → Took tells left sent budget taken (n + more) old new
  took_more old mid new n more on one gave quiet counted could =
      let told : IsTrue (tells old) → IsTrue (tells mid) = subst (λ b. IsTrue b) (sym on.same) in
      record {
        fits = λ t. omega (arith, one.fits t, (gave (told t)).0, ap length (one.rest t), length-drop n (left old));
        rest = λ t. (gave (told t)).1 ∙ ap (drop more) (one.rest t) ∙ drop-drop more n (left old);
        quiet = λ t. quiet (told t) ∙ one.quiet t;
        counted = counted ∙ omega (arith, one.counted);
        could = λ some. omega (arith, one.counted, on.limit);
      }

-- what is left no more was taken
pub counted_more : (before now : ℕ) (left rest : List ℕ) (n : ℕ) → n ≤ length left → rest ≡ drop n left → now ≡ before + n → now + length rest ≡ before + length left
counted_more before now left rest n fits is taken = omega (arith, ap length is, length-drop n left)

-- what a read gave
pub got_sized : (piece : Piece) (n room : ℕ) → piece ≡ Got n → IsSized piece room → (0 < n) × (n ≤ room)
got_sized piece n room is = subst (λ p. IsSized p room) is

pub got_gives : (piece : Piece) (n : ℕ) (left rest buf : List ℕ) → piece ≡ Got n → GivesPiece piece left rest buf → (n ≤ length left) × (take n buf ≡ take n left) × (rest ≡ drop n left)
got_gives piece n left rest buf is = subst (λ p. GivesPiece p left rest buf) is

pub got_taken : (piece : Piece) (n : ℕ) → piece ≡ Got n → taken_by {E = LinkFault} (Ok piece) ≡ n
got_taken piece n is = ap (λ p. taken_by {E = LinkFault} (Ok p)) is

pub put_size : (buf piece : List ℕ) (n more : ℕ) → n ≤ length buf → more ≤ length piece → n + more ≤ length (put_mid n (length buf - n) buf piece)
put_size buf piece n more room fits = omega (arith, length-append (take n buf) (piece ++ post_of n (length buf - n) buf), length-append piece (post_of n (length buf - n) buf), length-take-le n buf room)

pub below_budget : (budget taken : ℕ) → (budget ≤ taken → false ≡ true) → taken < budget
below_budget budget taken spent = elim (cases_lt taken budget) [ inl lt ↦ lt | inr le ↦ absurd (let no : false ≡ true = spent le in cc) ]

-- the part of a buffer behind its first bytes
pub tail_room : (d buf : List ℕ) (at size : ℕ) → length d ≡ at + size → length buf ≡ length (take (length d - at) (drop at d)) → length buf ≡ size
tail_room d buf at size whole fits = fits ∙ length-take-le (length d - at) (drop at d) (omega (arith, length-drop at d)) ∙ omega (arith, whole)

-- a list of bytes that was lengthened, and its new bytes written over
pub tail_put : (old items d buf : List ℕ) (at size len n : ℕ) → length old ≡ at → items ≡ take (at + size) old ++ replicate n 0 → length items ≡ at + size → len ≡ at + size → d ≡ items
    → length buf ≡ length (take (length d - at) (drop at d))
    → take len (put_mid at (length d - at) d buf ++ drop (length (put_mid at (length d - at) d buf)) items) ≡ old ++ buf
tail_put old items d buf at size len n is made long all same fits =
    let k = length d - at in
    let whole : length d ≡ at + size = ap length same ∙ long in
    let room : length buf ≡ size = tail_room d buf at size whole fits in
    let post : post_of at k d ≡ [] = drop_all k (drop at d) (omega (arith, length-drop at d)) in
    let front : take at d ≡ old = ap (take at) (same ∙ made) ∙ ap (λ l. take at (l ++ replicate n 0)) (take_all (at + size) old (omega arith)) ∙ take_at old (replicate n 0) at is in
    let put : put_mid at k d buf ≡ old ++ buf = ap (λ l. l ++ (buf ++ post_of at k d)) front ∙ ap (λ l. old ++ (buf ++ l)) post ∙ ap (λ l. old ++ l) (append-nil buf) in
    take_at (put_mid at k d buf) (drop (length (put_mid at k d buf)) items) len (ap length put ∙ omega (arith, length-append old buf)) ∙ put

-- so many bytes were read behind those of a body, or fewer
pub piece_read : (left rest old new buf : List ℕ) (got size : ℕ) → new ≡ old ++ buf → length buf ≡ size → got ≤ length buf → got ≤ length left
    → take got buf ≡ take got left → rest ≡ drop got left → (got < length buf → rest ≡ []) → IsPiece size left rest old new (nat_eq got size)
piece_read left rest old new buf got size is room fits within same at end = elim (cases_lt got size) [
  | inl lt ↦ let none = end (omega (arith, room)) in subst (λ b. IsPiece size left rest old new b) (sym (ne_eqb got size (omega arith)))
      (omega (arith, length-drop got left, ap length (sym at ∙ none)), none)
  | inr le ↦ let whole : got ≡ size = omega arith in subst (λ b. IsPiece size left rest old new b) (sym (eq-eqb got size whole))
      (omega (arith, whole, within), is ∙ ap (λ l. old ++ l) (sym (take_all got buf (omega (arith, whole, room))) ∙ same ∙ ap (λ n. take n left) whole), at ∙ ap (λ n. drop n left) whole)
]
