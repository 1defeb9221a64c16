-- From what the calls on one slot leave to what they leave of its family and of the others.
use Rattle.std.proofs.Common.{refl, ◌≡◌, inl, inr, ⊎_elim, ℕ, Option, Some, Result, Ok, List, [], ◌∷◌, ◌++◌, sym, ◌∙◌, ap, subst}
use Rattle.den_disk.specs.declared.place.Family.{Family}
use Rattle.den_disk.specs.declared.place.Place.{Place}
use Rattle.den_disk.specs.Files.{Files, Content, IsImage}
use Rattle.den_disk.specs.Crash.{Leaves}
use Rattle.den_disk.specs.Families.{SparesAll, SparesOthers, SparesOwn, SparesImages, OldOrNew}
use Rattle.den_model.specs.Regions.{Region, regions, placed}
use Rattle.den_model.specs.Image.{named, head_of, slot_of, meaning_of, in_regions}
use Rattle.den_gate.specs.declared.gate.GateFile.{GateFile}
use Rattle.den_gate.specs.Slot.{payloads_of, Holds}
use Rattle.den_gate.specs.Steps.{IsFrom, Spares, Keeps, KeepsOrAdds}
use Rattle.den_gate.specs.Gate.{payloads, IsAtRest, IsCurrent, HasList, KeepsFamily, KeepsOrAddsFamily}
use Rattle.den_gate.specs.Draft.{IsDraft, draft_end, other_slot, FlipsFamily}
use Rattle.den_gate.proofs.Written.{holds_regions}
use Rattle.den_gate.proofs.Beside.{named_slot, whole, current_head}

-- a head that names a slot, and the list of that slot
pub has_list : (slot : Place) (list : List (List ℕ)) (files : Files) → named (files (head_of slot.family)) ≡ slot.part → regions (files slot) ≡ Ok (placed 0 list) → HasList slot list files
has_list slot list files head stands =
    let same : slot_of slot.family files ≡ slot = λ i. record { family = slot.family; part = head i } in
    record { slot_same = same; list_is = ap (λ (p : Place). regions (files p)) same ∙ stands }

pub spares_others : (slot : Place) (old new : Content) → Spares slot old new → SparesOthers slot.family old new
spares_others slot old new s = record {
  reading = λ q ne. s.reading q (λ e. ne (ap (λ (p : Place). p.family) e));
  pending = λ q ne k h. s.pending q (λ e. ne (ap (λ (p : Place). p.family) e)) k h;
}

module _ {D : Type 0} (content : D → Content) (moment : D → ℕ) (images : D → ℕ → Files → Type 0) (slot : Place) (old new : D) where
  abbrev before : Files → Type 0
  before files = images old (moment old) files

  pub images_spared : (P : ℕ → Files → Type 0) → ((t : ℕ) (files : Files) → P t files → IsFrom slot before files) → Leaves content moment images P old new
      → SparesImages slot.family (images old) (images new) (moment old) (moment new)
  images_spared P from l = record {
    each = λ t files low high i. let f = from t files (l.each t files low high i) in
        (f.origin, f.was, λ q ne. f.others q (λ e. ne (ap (λ (p : Place). p.family) e)));
  }

  module _ (at_old : (files : Files) → before files → IsImage (content old) files) (current : IsCurrent slot (content old)) (list : List (List ℕ)) where
    head_is : (files : Files) → IsFrom slot before files → named (files (head_of slot.family)) ≡ slot.part
    head_is files f = current_head slot (content old) before files current at_old f

    pub family_keeps : Leaves content moment images (λ t files. Keeps slot list before files) old new → KeepsFamily slot list (images new) (moment old) (moment new)
    family_keeps l = record {
      each = λ t files low high i. let k = l.each t files low high i in has_list slot list files (head_is files k.from) k.stands;
    }

    pub family_adds : (payload : List ℕ) → Leaves content moment images (λ t files. KeepsOrAdds slot list payload before files) old new
        → KeepsOrAddsFamily slot list payload (images new) (moment old) (moment new)
    family_adds payload l = record {
      each = λ t files low high i. let k = l.each t files low high i in
          let head = head_is files k.from in
          ⊎_elim (λ is. inl (has_list slot list files head is)) (λ is. inr (has_list slot (list ++ payload ∷ []) files head is)) k.stands;
    }

-- ---- for the callers

-- calls that spare a family leave its gate file at rest
pub rest_spared : (gate : GateFile) (old new : Content) → SparesOwn gate.slot.family old new → IsAtRest gate old → IsAtRest gate new
rest_spared gate old new s rest =
    let same : new.reading gate.slot ≡ old.reading gate.slot = s.reading gate.slot refl in
    record {
      holds = subst (λ (l : List ℕ). Holds (payloads_of l) gate.end l) (sym same) rest.holds;
      settled = λ k h. rest.settled k (s.pending gate.slot refl k h);
    }

pub current_spared : (slot : Place) (old new : Content) → SparesOwn slot.family old new → IsCurrent slot old → IsCurrent slot new
current_spared slot old new s current = record {
  head = ap named (s.reading (head_of slot.family) refl) ∙ current.head;
  settled = λ k h. current.settled k (s.pending (head_of slot.family) refl k h);
}

pub payloads_spared : (gate : GateFile) (old new : Content) → SparesOwn gate.slot.family old new → payloads gate new.reading ≡ payloads gate old.reading
payloads_spared gate old new s = ap payloads_of (s.reading gate.slot refl)

-- calls that spare all files spare each family
pub all_own : (own : Family) (old new : Content) → SparesAll old new → SparesOwn own old new
all_own own old new s = record { reading = λ q is. s.reading q; pending = λ q is k h. s.pending q k h }

-- and so do calls on another family
pub others_own : (own other : Family) (old new : Content) → (own ≡ other → ⊥) → SparesOthers other old new → SparesOwn own old new
others_own own other old new apart s = record {
  reading = λ q is. s.reading q (λ e. apart (sym is ∙ e));
  pending = λ q is k h. s.pending q (λ e. apart (sym is ∙ e)) k h;
}

-- what is read of a slot at rest
pub rest_regions : (gate : GateFile) (c : Content) → IsAtRest gate c → regions (c.reading gate.slot) ≡ Ok (placed 0 (payloads gate c.reading))
rest_regions gate c rest = holds_regions (payloads gate c.reading) gate.end (c.reading gate.slot) rest.holds

-- what is read of a family at rest
pub rest_list : (gate : GateFile) (c : Content) → IsAtRest gate c → IsCurrent gate.slot c → HasList gate.slot (payloads gate c.reading) c.reading
rest_list gate c rest current = has_list gate.slot (payloads gate c.reading) c.reading current.head (rest_regions gate c rest)

-- each image of a family at rest has its list
pub rest_image : (gate : GateFile) (c : Content) (files : Files) → IsAtRest gate c → IsCurrent gate.slot c → IsImage c files → HasList gate.slot (payloads gate c.reading) files
rest_image gate c files rest current image =
    let slot = gate.slot in
    let same : files slot ≡ c.reading slot = whole c.pending slot (c.reading slot) (files slot) (image slot) rest.settled in
    let head : files (head_of slot.family) ≡ c.reading (head_of slot.family) = whole c.pending (head_of slot.family) (c.reading (head_of slot.family)) (files (head_of slot.family)) (image (head_of slot.family)) current.settled in
    has_list slot (payloads gate c.reading) files (ap named head ∙ current.head) (ap regions same ∙ rest_regions gate c rest)

-- what a family means, from its list
pub has_meaning : {A : Type 0} (family : Family) (meaning : List Region → Result A ℕ) (slot : Place) (list : List (List ℕ)) (files : Files) → slot.family ≡ family → HasList slot list files
    → in_regions family meaning files ≡ meaning (placed 0 list)
has_meaning family meaning slot list files own h = ap (λ (f : Family). in_regions f meaning files) (sym own) ∙ ap (meaning_of meaning) h.list_is

-- and over one that may add to it
pub adds_meaning : {X : Type 0} (holds : Files → Option X) (slot : Place) (list : List (List ℕ)) (payload : List ℕ) (images : ℕ → Files → Type 0) (from to : ℕ) (old new : X)
    → ((files : Files) → HasList slot list files → holds files ≡ Some old) → ((files : Files) → HasList slot (list ++ payload ∷ []) files → holds files ≡ Some new)
    → KeepsOrAddsFamily slot list payload images from to → OldOrNew holds images from to old new
adds_meaning holds slot list payload images from to old new was is k = record {
  each = λ t files low high i. ⊎_elim (λ h. inl (was files h)) (λ h. inr (is files h)) (k.each t files low high i);
}
