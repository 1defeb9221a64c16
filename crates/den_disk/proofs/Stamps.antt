-- Bytes beside the moments at which they were sent.
use Rattle.std.proofs.Common.{◌≡◌, ℕ, ◌≤◌, List, [], ◌∷◌, ◌++◌, length, take, drop, replicate, refl, sym, ◌∙◌, ap, arith, length-take, take-append-drop}
use Rattle.std.specs.List.{zip}
use Rattle.std.proofs.lemmas.List.{drop_at}
use Rattle.den_disk.specs.Goes.{IsPrefix, Extends, stamped}

-- one piece more
pub zip_piece : (bytes moments piece : List ℕ) (t : ℕ) → length moments ≡ length bytes → zip (bytes ++ piece) (moments ++ replicate (length piece) t) ≡ zip bytes moments ++ stamped piece t
zip_piece [] [] [] t e = refl
zip_piece [] [] (b ∷ piece) t e = ap (λ (l : List (ℕ × ℕ)). (b, t) ∷ l) (zip_piece [] [] piece t refl)
zip_piece [] (m ∷ moments) piece t e = absurd (omega arith)
zip_piece (b ∷ bytes) [] piece t e = absurd (omega arith)
zip_piece (b ∷ bytes) (m ∷ moments) piece t e = ap (λ (l : List (ℕ × ℕ)). (b, m) ∷ l) (zip_piece bytes moments piece t (omega arith))

-- so much of a piece more
pub stamps_more : (bytes bytes' moments moments' piece : List ℕ) (n t t' : ℕ) → length moments ≡ length bytes → n ≤ length piece → t ≡ t'
    → bytes' ≡ bytes ++ take n piece → moments' ≡ moments ++ replicate n t → zip bytes' moments' ≡ zip bytes moments ++ stamped (take n piece) t'
stamps_more bytes bytes' moments moments' piece n t t' pair most time b m =
    let long : n ≡ length (take n piece) = omega (arith, length-take n piece) in
    (λ i. zip (b i) (m i)) ∙ (λ i. zip (bytes ++ take n piece) (moments ++ replicate (long i) (time i))) ∙ zip_piece bytes moments (take n piece) t' pair

pub extends : {A : Type 0} (old new more : List A) → new ≡ old ++ more → Extends old new
extends old new more is = record { is = is ∙ ap (λ l. old ++ l) (sym (ap (drop (length old)) is ∙ drop_at old more (length old) refl)) }

-- the first n of a piece
pub first_of : (n : ℕ) (piece : List ℕ) → IsPrefix (take n piece) piece
first_of n piece = record { rest = drop n piece; is = take-append-drop n piece }
