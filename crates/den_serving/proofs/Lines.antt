-- A line that is written in pieces.
use Rattle.std.proofs.Common.{◌≡◌, ℕ, Bool, IsTrue, List, ◌++◌, length, drop, refl, sym, ◌∙◌, ap, subst, append_assoc, arith}
use Rattle.std.proofs.lemmas.List.{drop_at}
use Rattle.den_disk.specs.Goes.{Extends, SinkGoesOn, added}
use Rattle.den_serving.specs.Status.{IsWrittenFront}

-- it ended with a first piece
pub front_stop : (a b old new : List ℕ) → IsWrittenFront a old new → IsWrittenFront (a ++ b) old new
front_stop a b old new w = (w.0, record { rest = w.1.rest ++ b; is = sym (append_assoc w.0 w.1.rest b) ∙ ap (λ l. l ++ b) w.1.is }, w.2)

-- it went on behind a first piece
pub front_then : (a b old mid new : List ℕ) → mid ≡ old ++ a → IsWrittenFront b mid new → IsWrittenFront (a ++ b) old new
front_then a b old mid new first w =
    (a ++ w.0, record { rest = w.1.rest; is = append_assoc a w.0 w.1.rest ∙ ap (λ l. a ++ l) w.1.is }, w.2 ∙ ap (λ l. l ++ w.0) first ∙ append_assoc old a w.0)

pub all_then : (a b old mid new : List ℕ) → mid ≡ old ++ a → new ≡ mid ++ b → new ≡ old ++ (a ++ b)
all_then a b old mid new first second = second ∙ ap (λ l. l ++ b) first ∙ append_assoc old a b

extends_by : (old new xs : List ℕ) → new ≡ old ++ xs → Extends old new
extends_by old new xs e = record { is = e ∙ ap (λ ys. old ++ ys) (sym (ap (drop (length old)) e ∙ drop_at old xs (length old) refl)) }

module _ {S : Type 0} (tells : S → Bool) (written : S → List ℕ) (faults : S → ℕ) where
  pub sink_then : (old mid new : S) → SinkGoesOn tells written faults old mid → SinkGoesOn tells written faults mid new → SinkGoesOn tells written faults old new
  sink_then old mid new one two = record {
    same = two.same ∙ one.same;
    grows = λ told.
        let first = one.grows told in
        let second = two.grows (subst IsTrue (sym one.same) told) in
        extends_by (written old) (written new) (added (written old) (written mid) ++ added (written mid) (written new))
        (all_then (added (written old) (written mid)) (added (written mid) (written new)) (written old) (written mid) (written new) first.is second.is);
    counts = omega (arith, one.counts, two.counts);
  }
