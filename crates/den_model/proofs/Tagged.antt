-- Words that begin with a tag: what is read behind it was written so, if that holds for each tag.
use Rattle.std.proofs.Common.{◌≡◌, ℕ, cond, eqb, List, ◌∷◌, ◌++◌, Some, sym, ap, subst, ◌∙◌, inl, inr}
use Rattle.std.proofs.lemmas.Bool.{eqb-true}
use Rattle.den_model.specs.Words.{IsBytes}
use Rattle.den_model.specs.Reading.{Reader, done, no_word}
use Rattle.den_model.proofs.Spells.{Spells, some_is, no_none, chosen}

-- what is read behind the tag is a value that fits, whose word the tag and the bytes begin with
pub record Behind {B : Type 0} (fits : B → Type 0) (word : B → List ℕ) (tag : ℕ) (at : Reader B) : Type 0 where
  pub found : (bytes : List ℕ) (y : B) (rest : List ℕ) → IsBytes bytes → at bytes ≡ Some (y, rest) → (tag ∷ bytes ≡ word y ++ rest) × fits y

module _ {B : Type 0} {fits : B → Type 0} {word : B → List ℕ} where
  -- no tag is left
  pub behind_none : (tag : ℕ) → Behind fits word tag no_word
  behind_none tag = record { found = λ bytes y rest h e. absurd (no_none (y, rest) e) }

  -- nothing stands behind the tag
  pub behind_done : (tag : ℕ) (v : B) → fits v → ((rest : List ℕ) → word v ++ rest ≡ tag ∷ rest) → Behind fits word tag (done v)
  behind_done tag v fine is = record {
    found = λ bytes y rest h e.
        let q = some_is (v, bytes) (y, rest) e in
        let same : v ≡ y = ap (λ (p : B × List ℕ). p.0) q in
        let others : bytes ≡ rest = ap (λ (p : B × List ℕ). p.1) q in
        (ap (λ (bs : List ℕ). tag ∷ bs) others ∙ sym (is rest) ∙ ap (λ (b : B). word b ++ rest) same, subst fits same fine);
  }

  -- what is spelled so stands behind the tag
  pub behind_spelled : {A : Type 0} {con : A → B} {fits' : A → Type 0} {word' : A → List ℕ} {at : Reader B} (tag : ℕ) → Spells con fits' word' at
      → ((x : A) → fits' x → fits (con x)) → ((x : A) → word (con x) ≡ tag ∷ word' x) → Behind fits word tag at
  behind_spelled {A} {con} {fits'} {word'} tag s fine is = record {
    found = λ bytes y rest h e.
        let t = s.found bytes y rest h e in
        (ap (λ (bs : List ℕ). tag ∷ bs) t.2 ∙ ap (λ (w : List ℕ). w ++ rest) (sym (is t.0)) ∙ ap (λ (b : B). word b ++ rest) (sym t.1), subst fits (sym t.1) (fine t.0 t.3));
  }

  -- this tag, or another
  pub behind_or : {one other : Reader B} (tag n : ℕ) → Behind fits word n one → Behind fits word tag other → Behind fits word tag (cond (eqb tag n) one other)
  behind_or {one} {other} tag n first second = record {
    found = λ bytes y rest h e.
        elim (chosen (eqb tag n) one other bytes (Some (y, rest)) e) [
          | inl p ↦
              let t = first.found bytes y rest h p.1 in
              (ap (λ (k : ℕ). k ∷ bytes) (eqb-true tag n p.0) ∙ t.0, t.1)
          | inr p ↦ second.found bytes y rest h p.1
        ];
  }
