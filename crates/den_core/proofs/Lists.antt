-- What was sent by a moment, and lists that grow.
use Rattle.std.proofs.Common.{◌≡◌, ℕ, ◌≤◌, ◌<◌, List, [], ◌∷◌, ◌++◌, length, drop, cond, refl, sym, ◌∙◌, ap, arith, append_assoc, nat_le, true, false}
use Rattle.std.proofs.lemmas.Bool.{le-leb, lt-leb}
use Rattle.std.proofs.lemmas.List.{append-nil, drop_at}
use Rattle.den_disk.specs.Goes.{added, Extends, stamped}
use Rattle.den_model.specs.Crash.{bytes_of, sent_by, SentWithin}

-- a list that grew by xs
pub added_is : {A : Type 0} (old new xs : List A) → new ≡ old ++ xs → added old new ≡ xs
added_is old new xs e = ap (drop (length old)) e ∙ drop_at old xs (length old) refl

pub added_none : {A : Type 0} (xs : List A) → added xs xs ≡ []
added_none xs = added_is xs xs [] (sym (append-nil xs))

pub extends_by : {A : Type 0} (old new xs : List A) → new ≡ old ++ xs → Extends old new
extends_by old new xs e = record { is = e ∙ ap (λ ys. old ++ ys) (sym (added_is old new xs e)) }

-- twice
pub added_twice : {A : Type 0} (old mid new : List A) → Extends old mid → Extends mid new → added old new ≡ added old mid ++ added mid new
added_twice old mid new one two = added_is old new (added old mid ++ added mid new) (two.is ∙ ap (λ ys. ys ++ added mid new) one.is ∙ append_assoc old (added old mid) (added mid new))

pub extends_twice : {A : Type 0} (old mid new : List A) → Extends old mid → Extends mid new → Extends old new
extends_twice old mid new one two = extends_by old new (added old mid ++ added mid new) (two.is ∙ ap (λ ys. ys ++ added mid new) one.is ∙ append_assoc old (added old mid) (added mid new))

pub sent_by-append : (sent more : List (ℕ × ℕ)) (t : ℕ) → sent_by (sent ++ more) t ≡ sent_by sent t ++ sent_by more t
sent_by-append [] more t = refl
sent_by-append (s ∷ sent) more t = elim (nat_le s.1 t) as (λ b. cond b (s.0 ∷ sent_by (sent ++ more) t) (sent_by (sent ++ more) t) ≡ cond b (s.0 ∷ sent_by sent t) (sent_by sent t) ++ sent_by more t) [ true ↦ ap (λ l. s.0 ∷ l) (sent_by-append sent more t) | false ↦ sent_by-append sent more t ]

-- all of it by the end
pub sent_by_all : (from to : ℕ) (sent : List (ℕ × ℕ)) (t : ℕ) → to ≤ t → SentWithin from to sent → sent_by sent t ≡ bytes_of sent
sent_by_all from to [] t le within = refl
sent_by_all from to (s ∷ sent) t le within = ap (λ b. cond b (s.0 ∷ sent_by sent t) (sent_by sent t)) (le-leb s.1 t (omega (arith, within.1))) ∙ ap (λ l. s.0 ∷ l) (sent_by_all from to sent t le within.2)

-- nothing before it began
pub sent_by_none : (from to : ℕ) (sent : List (ℕ × ℕ)) (t : ℕ) → t < from → SentWithin from to sent → sent_by sent t ≡ []
sent_by_none from to [] t lt within = refl
sent_by_none from to (s ∷ sent) t lt within = ap (λ b. cond b (s.0 ∷ sent_by sent t) (sent_by sent t)) (lt-leb s.1 t (omega (arith, within.0))) ∙ sent_by_none from to sent t lt within.2

pub within-append : (from mid to : ℕ) (sent more : List (ℕ × ℕ)) → from ≤ mid → mid ≤ to → SentWithin from mid sent → SentWithin mid to more → SentWithin from to (sent ++ more)
within-append from mid to [] [] low high one two = tt
within-append from mid to [] (s ∷ more) low high one two = (omega (arith, two.0), two.1, within-append from mid to [] more low high one two.2)
within-append from mid to (s ∷ sent) more low high one two = (one.0, omega (arith, one.1), within-append from mid to sent more low high one.2 two)

pub bytes_of-append : (sent more : List (ℕ × ℕ)) → bytes_of (sent ++ more) ≡ bytes_of sent ++ bytes_of more
bytes_of-append [] more = refl
bytes_of-append (s ∷ sent) more = ap (λ l. s.0 ∷ l) (bytes_of-append sent more)

pub bytes_of-stamped : (piece : List ℕ) (t : ℕ) → bytes_of (stamped piece t) ≡ piece
bytes_of-stamped [] t = refl
bytes_of-stamped (byte ∷ piece) t = ap (λ l. byte ∷ l) (bytes_of-stamped piece t)

pub within-stamped : (from to : ℕ) (piece : List ℕ) → from ≤ to → SentWithin from to (stamped piece to)
within-stamped from to [] le = tt
within-stamped from to (byte ∷ piece) le = (le, omega arith, within-stamped from to piece le)
