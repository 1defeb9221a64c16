-- What each call on a file leaves of the others, and what a crash then leaves.
use Rattle.std.proofs.Common.{◌≡◌, ◌⊎◌, inl, inr, ⊎_elim, ℕ, min, Bool, true, false, nat_eq, if◌then◌else◌, List, [], ◌∷◌, length, get_or, refl, sym, ◌∙◌, ap, arith}
use Rattle.std.proofs.lemmas.List.{ext_get_or}
use Rattle.den_disk.specs.declared.place.Part.TheVariants.{Head, A, B}
use Rattle.den_disk.specs.declared.place.Place.{Place}
use Rattle.den_disk.specs.Place.{is_place}
use Rattle.den_disk.specs.Files.{Files, Range, Content, InRange, IsPending, IsImageAt, IsImage, written, torn, resized, synced, cut_ranges, put_at, fit}
use Rattle.den_disk.proofs.Places.{place_cases, change-elsewhere}
use Rattle.den_disk.proofs.Images.{itself}
use Rattle.den_model.specs.Image.{named, head_of}
use Rattle.den_gate.specs.Steps.{IsFrom, Spares}
use Rattle.den_gate.specs.Gate.{IsCurrent}

choice : (b : Bool) → (if b then B else A) ≡ Head → ⊥
choice true e = absurd (cc e)
choice false e = absurd (cc e)

-- no head names itself
pub named_slot : (file : List ℕ) → named file ≡ Head → ⊥
named_slot [] e = choice false e
named_slot (b ∷ rest) e = choice (nat_eq b 1) e

cut_one : (b : Bool) (r : Range) (len : ℕ) (q : Place) (k : ℕ) → InRange (if b then record { place = r.place; from = min r.from len; to = min r.to len } else r) q k → InRange r q k
cut_one true r len q k h = (h.0, omega (arith, h.1, h.2), omega (arith, h.1, h.2))
cut_one false r len q k h = h

-- a cut makes nothing pending
pub cut_pending : (place : Place) (len : ℕ) (pending : List Range) (q : Place) (k : ℕ) → IsPending (cut_ranges place len pending) q k → IsPending pending q k
cut_pending place len [] q k h = h
cut_pending place len (r ∷ rs) q k (inl here) = inl (cut_one (is_place r.place place) r len q k here)
cut_pending place len (r ∷ rs) q k (inr there) = inr (cut_pending place len rs q k there)

-- a file of which nothing is pending
pub whole : (pending : List Range) (place : Place) (read found : List ℕ) → IsImageAt pending place read found → ((k : ℕ) → IsPending pending place k → ⊥) → found ≡ read
whole pending place read found image settled = ext_get_or 0 found read image.as_long (λ k lt. image.same k (omega (arith, image.as_long)) (settled k))

module _ (place : Place) (first : Content) where
  pub spares_start : Spares place first first
  spares_start = record { reading = λ q ne. refl; pending = λ q ne k h. h }

  pub spares_written : (c : Content) (at : ℕ) (bytes : List ℕ) → Spares place first c → Spares place first (written place at bytes c)
  spares_written c at bytes b = record {
    reading = λ q ne. change-elsewhere place (put_at at bytes) c.reading q ne ∙ b.reading q ne;
    pending = λ q ne k h. b.pending q ne k (⊎_elim (λ here. absurd (ne (sym here.0))) (λ there. there) h);
  }

  pub spares_torn : (c : Content) (at n : ℕ) → Spares place first c → Spares place first (torn place at n c)
  spares_torn c at n b = record { reading = b.reading; pending = λ q ne k h. b.pending q ne k (⊎_elim (λ here. absurd (ne (sym here.0))) (λ there. there) h) }

  pub spares_resized : (c : Content) (len : ℕ) → Spares place first c → Spares place first (resized place len c)
  spares_resized c len b = record {
    reading = λ q ne. change-elsewhere place (fit len) c.reading q ne ∙ b.reading q ne;
    pending = λ q ne k h. b.pending q ne k (cut_pending place len c.pending q k h);
  }

  pub spares_synced : (c : Content) → Spares place first c → Spares place first (synced c)
  spares_synced c b = record { reading = b.reading; pending = λ q ne k h. absurd h }

  -- the other files as a crash leaves them, with this one as it was at first
  abbrev pick : (files : Files) (q : Place) → (q ≡ place) ⊎ (q ≡ place → ⊥) → List ℕ
  pick files q (inl e) = first.reading q
  pick files q (inr ne) = files q

  pick_image : (c : Content) (files : Files) (b : Spares place first c) → IsImage c files → (q : Place) (s : (q ≡ place) ⊎ (q ≡ place → ⊥)) → IsImageAt first.pending q (first.reading q) (pick files q s)
  pick_image c files b image q (inl e) = itself first.pending q (first.reading q)
  pick_image c files b image q (inr ne) = record {
    as_long = (image q).as_long ∙ ap length (b.reading q ne);
    same = λ k lt settled. (image q).same k (omega (arith, ap length (b.reading q ne))) (λ p. settled (b.pending q ne k p)) ∙ ap (λ (l : List ℕ). get_or l k 0) (b.reading q ne);
  }

  pick_other : (files : Files) (q : Place) (s : (q ≡ place) ⊎ (q ≡ place → ⊥)) → (q ≡ place → ⊥) → files q ≡ pick files q s
  pick_other files q (inl e) ne = absurd (ne e)
  pick_other files q (inr not) ne = refl

  pub spares_from : (c : Content) (files : Files) → Spares place first c → IsImage c files → IsFrom place (IsImage first) files
  spares_from c files b image = record {
    origin = λ q. pick files q (place_cases q place);
    was = λ q. pick_image c files b image q (place_cases q place);
    others = λ q ne. pick_other files q (place_cases q place) ne;
  }

-- a settled file stays as it reads while another changes
pub from_same : (place q : Place) (c : Content) (before : Files → Type 0) (files : Files) → (q ≡ place → ⊥) → ((f : Files) → before f → IsImage c f) → ((k : ℕ) → IsPending c.pending q k → ⊥) → IsFrom place before files → files q ≡ c.reading q
from_same place q c before files ne images settled f = f.others q ne ∙ whole c.pending q (c.reading q) (f.origin q) (images f.origin f.was q) settled

-- and so does the slot that a head names
pub current_head : (slot : Place) (c : Content) (before : Files → Type 0) (files : Files) → IsCurrent slot c → ((f : Files) → before f → IsImage c f) → IsFrom slot before files → named (files (head_of slot.family)) ≡ slot.part
current_head slot c before files current images f =
    let apart : head_of slot.family ≡ slot → ⊥ = λ e. named_slot (c.reading (head_of slot.family)) (current.head ∙ sym (ap (λ (p : Place). p.part) e)) in
    ap named (from_same slot (head_of slot.family) c before files apart images current.settled f) ∙ current.head
