-- A family's two slots and its head.
use Rattle.std.proofs.Common.{◌≡◌, ◌⊎◌, inl, inr, ℕ, List, [], ◌∷◌, drop, refl, sym, ◌∙◌, ap}
use Rattle.den_disk.specs.declared.place.Part.{Part}
use Rattle.den_disk.specs.declared.place.Part.TheVariants.{Head, A, B}
use Rattle.den_disk.specs.declared.place.Place.{Place}
use Rattle.den_disk.specs.Files.{Content, written, synced, put_at}
use Rattle.den_disk.proofs.Places.{change-here}
use Rattle.den_model.specs.Image.{named, head_of}
use Rattle.den_gate.specs.Gate.{IsCurrent}
use Rattle.den_gate.specs.Draft.{other_part, other_slot}
use Rattle.den_gate.specs.Turning.{other_byte}
use Rattle.den_gate.proofs.Beside.{named_slot}

other_ne : (p : Part) → other_part p ≡ p → ⊥
other_ne Head e = absurd (cc e)
other_ne A e = absurd (cc e)
other_ne B e = absurd (cc e)

other_slotted : (p : Part) → Head ≡ other_part p → ⊥
other_slotted Head e = absurd (cc e)
other_slotted A e = absurd (cc e)
other_slotted B e = absurd (cc e)

pub slots_apart : (slot : Place) → slot ≡ other_slot slot → ⊥
slots_apart slot e = other_ne slot.part (sym (ap (λ (p : Place). p.part) e))

-- the other slot is not the head
pub head_apart : (slot : Place) → head_of slot.family ≡ other_slot slot → ⊥
head_apart slot e = other_slotted slot.part (ap (λ (p : Place). p.part) e)

pub head_not : (slot : Place) → (slot.part ≡ Head → ⊥) → slot ≡ head_of slot.family → ⊥
head_not slot is e = is (ap (λ (p : Place). p.part) e)

-- a slot that a head names is no head
pub current_slot : (slot : Place) (c : Content) → IsCurrent slot c → slot.part ≡ Head → ⊥
current_slot slot c current e = named_slot (c.reading (head_of slot.family)) (current.head ∙ e)

one_of_two : (p n : Part) → (n ≡ Head → ⊥) → (p ≡ Head → ⊥) → (n ≡ p) ⊎ (n ≡ other_part p)
one_of_two Head n is p_is = absurd (p_is refl)
one_of_two A Head is p_is = absurd (is refl)
one_of_two A A is p_is = inl refl
one_of_two A B is p_is = inr refl
one_of_two B Head is p_is = absurd (is refl)
one_of_two B A is p_is = inr refl
one_of_two B B is p_is = inl refl

-- any head names the one slot or the other
pub names_one : (slot : Place) (file : List ℕ) → (slot.part ≡ Head → ⊥) → (named file ≡ slot.part) ⊎ (named file ≡ other_part slot.part)
names_one slot file is = one_of_two slot.part (named file) (named_slot file) is

named_byte : (p : Part) (rest : List ℕ) → (p ≡ Head → ⊥) → named (other_byte p ∷ rest) ≡ other_part p
named_byte Head rest is = absurd (is refl)
named_byte A rest is = refl
named_byte B rest is = refl

-- the head with the other slot's byte, on the disk
pub named_other : (slot : Place) (c : Content) (byte : ℕ) → (slot.part ≡ Head → ⊥) → byte ≡ other_byte slot.part → IsCurrent (other_slot slot) (synced (written (head_of slot.family) 0 (byte ∷ []) c))
named_other slot c byte is name = record {
  head = ap named (change-here (head_of slot.family) (put_at 0 (byte ∷ [])) c.reading) ∙ ap (λ (b : ℕ). named (put_at 0 (b ∷ []) (c.reading (head_of slot.family)))) name
      ∙ named_byte slot.part (drop 1 (c.reading (head_of slot.family))) is;
  settled = λ k h. absurd h;
}
