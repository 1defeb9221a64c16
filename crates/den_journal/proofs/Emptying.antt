-- What a crash leaves while a family's files are emptied, the slots before the head.
use Rattle.std.proofs.Common.{◌≡◌, ◌⊎◌, inl, inr, ⊎_elim, ◌↔◌, IsTrue, List, [], Result, Ok, Err, refl, sym, ap, ◌∙◌, subst}
use Rattle.std.specs.Prelude.{OnOk}
use Rattle.den_disk.specs.declared.disk.Disk.{Ghosts}
use Rattle.den_disk.specs.declared.place.Family.{Family}
use Rattle.den_disk.specs.declared.place.Part.{Part}
use Rattle.den_disk.specs.declared.place.Part.TheVariants.{Head, A, B}
use Rattle.den_disk.specs.declared.place.Place.{Place}
use Rattle.den_disk.specs.Files.{Files, Range, Kind, Content, IsPending, IsImage, cut_ranges, fit, resized}
use Rattle.den_disk.specs.Crash.{Changes, Leaves, IsResized, IsEither}
use Rattle.den_disk.specs.Goes.{ImagesGoOn}
use Rattle.den_disk.specs.Families.{SameOf, NoNewImages}
use Rattle.den_disk.proofs.Moments.{call}
use Rattle.den_disk.proofs.Places.{place_cases, change-elsewhere}
use Rattle.den_model.specs.Regions.{regions_behind, regions}
use Rattle.den_model.specs.Image.{named, head_of, slot_of}
use Rattle.den_gate.specs.Steps.{RunSparesOthers}
use Rattle.den_gate.proofs.Alone.{Alone}
use Rattle.den_gate.proofs.Beside.{named_slot, whole}
use Rattle.den_gate.proofs.Filling.{no_byte}
use Rattle.den_gate.proofs.Turning.{others_run, others_then}
use Rattle.den_journal.specs.OneWord.{family_regions, HasWords, KeepsOrEmpties}

no_regions : regions [] ≡ Ok []
unfolding regions_behind
no_regions = refl

-- the same files of a family have the same regions
pub regions_same : (family : Family) (one other : Files) → SameOf family one other → family_regions family other ≡ family_regions family one
regions_same family one other same =
    let head : named (other (head_of family)) ≡ named (one (head_of family)) = ap named (same (head_of family) refl) in
    let slot : slot_of family other ≡ slot_of family one = λ i. record { family = family; part = head i } in
    ap (λ (p : Place). regions (other p)) slot ∙ ap regions (same (slot_of family one) refl)

-- where nothing is pending a crash leaves what is read
plain : (c : Content) (files : Files) → c.pending ≡ [] → IsImage c files → (q : Place) → files q ≡ c.reading q
plain c files none image q = whole c.pending q (c.reading q) (files q) (image q) (λ k h. subst (λ (ps : List Range). IsPending ps q k) none h)

-- ---- calls that read, and get no new image

pub read_leaves : {D : Type 0} (disk : Ghosts D) (P : Files → Type 0) (old new : D) → ImagesGoOn disk.moment disk.images old new
    → NoNewImages (disk.images old) (disk.images new) (disk.moment old) (disk.moment new) → ((files : Files) → disk.images old (disk.moment old) files → P files)
    → Leaves disk.content disk.moment disk.images (λ t files. P files) old new
read_leaves disk P old new goes none from = record {
  later = goes.later;
  kept = λ t files le. (goes.past t files le, goes.keeps t files le);
  each = λ t files low high i. from files (none.each t files low high i);
}

module _ (family : Family) where
  abbrev pub file_of : Part → Place
  file_of part = record { family = family; part = part }

  -- ---- the slots

  -- some slots are as these files have them, and the others are empty
  pub record SlotsCut (was : Files) (c : Content) : Type 0 where
    pub none : c.pending ≡ []
    pub head : c.reading (head_of family) ≡ was (head_of family)
    pub slot : (p : Part) → (p ≡ Head → ⊥) → (c.reading (file_of p) ≡ was (file_of p)) ⊎ (c.reading (file_of p) ≡ [])

  pub slots_start : (c : Content) → c.pending ≡ [] → SlotsCut c.reading c
  slots_start c none = record { none = none; head = refl; slot = λ p is. inl refl }

  slots_resized : (was : Files) (cut : Part) (c : Content) → (cut ≡ Head → ⊥) → SlotsCut was c → SlotsCut was (resized (file_of cut) 0 c)
  slots_resized was cut c is s = record {
    none = ap (cut_ranges (file_of cut) 0) s.none;
    head = change-elsewhere (file_of cut) (fit 0) c.reading (head_of family) (λ e. is (sym (ap (λ (q : Place). q.part) e))) ∙ s.head;
    slot = λ p slot. ⊎_elim (λ e. inr (ap (resized (file_of cut) 0 c).reading e ∙ no_byte (file_of cut) c))
        (λ ne. let same = change-elsewhere (file_of cut) (fit 0) c.reading (file_of p) ne in ⊎_elim (λ h. inl (same ∙ h)) (λ h. inr (same ∙ h)) (s.slot p slot))
        (place_cases (file_of p) (file_of cut));
  }

  slots_image : (was : Files) (c : Content) (files : Files) → SlotsCut was c → IsImage c files → KeepsOrEmpties family was files
  slots_image was c files s image =
      let found : family_regions family files ≡ family_regions family c.reading = regions_same family c.reading files (λ q is. plain c files s.none image q) in
      let named_same : named (c.reading (head_of family)) ≡ named (was (head_of family)) = ap named s.head in
      let here : c.reading (slot_of family c.reading) ≡ c.reading (slot_of family was) = ap (λ (p : Part). c.reading (file_of p)) named_same in
      ⊎_elim (λ h. inl (found ∙ ap regions (here ∙ h))) (λ h. inr (found ∙ ap regions (here ∙ h) ∙ no_regions)) (s.slot (named (was (head_of family))) (named_slot (was (head_of family))))

  -- ---- the head

  -- the slots are empty
  abbrev pub AreGone : Content → Type 0
  AreGone c = (p : Part) → (p ≡ Head → ⊥) → c.reading (file_of p) ≡ []

  -- and nothing is pending
  pub record SlotsGone (c : Content) : Type 0 where
    pub none : c.pending ≡ []
    pub slot : AreGone c

  apart : B ≡ A → ⊥
  apart e = absurd (cc e)

  both_cut : (c : Content) → AreGone (resized (file_of A) 0 (resized (file_of B) 0 c))
  both_cut c Head is = absurd (is refl)
  both_cut c A is = no_byte (file_of A) (resized (file_of B) 0 c)
  both_cut c B is = change-elsewhere (file_of A) (fit 0) (resized (file_of B) 0 c).reading (file_of B) (λ e. apart (ap (λ (q : Place). q.part) e)) ∙ no_byte (file_of B) c

  -- behind the calls that cut them
  pub gone_behind : (c one two : Content) → one ≡ resized (file_of B) 0 c → two ≡ resized (file_of A) 0 one → AreGone two
  gone_behind c one two first second = subst AreGone (sym (second ∙ ap (resized (file_of A) 0) first)) (both_cut c)

  head_resized : (c : Content) → AreGone c → AreGone (resized (head_of family) 0 c)
  head_resized c gone = λ p is. change-elsewhere (head_of family) (fit 0) c.reading (file_of p) (λ e. is (ap (λ (q : Place). q.part) e)) ∙ gone p is

  gone_found : (c : Content) → AreGone c → HasWords family [] c.reading
  gone_found c gone = ap regions (gone (named (c.reading (head_of family))) (named_slot (c.reading (head_of family)))) ∙ no_regions

  -- behind the call that cuts the head
  pub emptied : {T E : Type 0} (X : Type 0) (result : Result T E) (c next : Content) → AreGone c → OnOk result ((next ≡ resized (head_of family) 0 c) × X) → OnOk result (HasWords family [] next.reading)
  emptied X (Ok x) c next gone is = gone_found next (subst AreGone (sym is.0) (head_resized c gone))
  emptied X (Err e) c next gone is = tt

  gone_image : (c : Content) (files : Files) → SlotsGone c → IsImage c files → HasWords family [] files
  gone_image c files s image = regions_same family c.reading files (λ q is. plain c files s.none image q) ∙ gone_found c s.slot

  -- ---- one call

  module _ {D : Type 0} (disk : Ghosts D) (was : Files) {old new : D} (now : (files : Files) → disk.images old (disk.moment old) files ↔ IsImage (disk.content old) files)
      (now' : (files : Files) → disk.images new (disk.moment new) files ↔ IsImage (disk.content new) files) {T E : Type 0} (result : Result T E) where
    abbrev Empties : Type 0
    Empties = Leaves disk.content disk.moment disk.images (λ t files. KeepsOrEmpties family was files) old new

    abbrev Cuts : Place → Type 0
    Cuts place = Changes disk.content disk.moment disk.images result (IsResized place 0 (disk.content old)) (IsResized place 0 (disk.content old))
        (IsEither (disk.content old) (resized place 0 (disk.content old))) old new

    pub slot_cut : (cut : Part) → (cut ≡ Head → ⊥) → Cuts (file_of cut) → SlotsCut was (disk.content old) → Empties × SlotsCut was (disk.content new)
    slot_cut cut is changes s =
        let after = slots_resized was cut (disk.content old) is s in
        call disk.content disk.moment disk.images (λ t files. KeepsOrEmpties family was files) (SlotsCut was) result _ _ _ old new (λ t c files h i. slots_image was c files h i) now now' changes
        (λ e. subst (SlotsCut was) (sym e) after) (λ e. subst (SlotsCut was) (sym e) after)
        (λ t files i. ⊎_elim (slots_image was (disk.content old) files s) (slots_image was (resized (file_of cut) 0 (disk.content old)) files after) i) s

    pub head_cut : Cuts (head_of family) → SlotsGone (disk.content old) → Empties × SlotsGone (disk.content new)
    head_cut changes s =
        let after : SlotsGone (resized (head_of family) 0 (disk.content old)) =
        record { none = ap (cut_ranges (head_of family) 0) s.none; slot = head_resized (disk.content old) s.slot } in
        call disk.content disk.moment disk.images (λ t files. KeepsOrEmpties family was files) SlotsGone result _ _ _ old new (λ t c files h i. inr (gone_image c files h i)) now now' changes
        (λ e. subst SlotsGone (sym e) after) (λ e. subst SlotsGone (sym e) after)
        (λ t files i. ⊎_elim (λ j. inr (gone_image (disk.content old) files s j)) (λ j. inr (gone_image (resized (head_of family) 0 (disk.content old)) files after j)) i) s

-- ---- what the other families keep

-- a run on files of one family, on a disk of one kind
pub record InFamily {D : Type 0} (disk : Ghosts D) (family : Family) (old new : D) : Type 0 where
  pub kind : disk.kind new ≡ disk.kind old
  pub run : IsTrue (disk.kind old).tells → RunSparesOthers disk.content disk.moment disk.images family old new

pub in_family : {D : Type 0} (disk : Ghosts D) (family : Family) (place : Place) (old new : D) → place.family ≡ family → Alone disk place old new → InFamily disk family old new
in_family disk family place old new is alone = record { kind = alone.kind; run = λ tells. others_run disk family place old new is (alone.run tells) }

pub family_then : {D : Type 0} (disk : Ghosts D) (family : Family) (old mid new : D) → InFamily disk family old mid → InFamily disk family mid new → InFamily disk family old new
family_then disk family old mid new first second = record {
  kind = second.kind ∙ first.kind;
  run = λ tells. others_then disk family old mid new (first.run tells) (second.run (subst (λ (k : Kind). IsTrue k.tells) (sym first.kind) tells));
}
