-- What a crash leaves while a family turns from one slot to the other.
use Rattle.std.proofs.Common.{◌≡◌, ◌⊎◌, inl, inr, ⊎_elim, ℕ, IsTrue, Ok, List, Result, refl, sym, ◌∙◌, ap, subst, arith}
use Rattle.den_disk.specs.declared.disk.Disk.{Ghosts}
use Rattle.den_disk.specs.declared.place.Part.TheVariants.{Head}
use Rattle.den_disk.specs.declared.place.Place.{Place}
use Rattle.den_disk.specs.declared.place.Family.{Family}
use Rattle.den_disk.specs.Files.{Files, Kind, Content, IsImage, synced}
use Rattle.den_disk.specs.Crash.{Changes, Leaves, IsSynced}
use Rattle.den_disk.specs.Families.{SparesOthers, SparesImages}
use Rattle.den_disk.proofs.Moments.{and_then, weaker}
use Rattle.den_model.specs.Regions.{regions, placed}
use Rattle.den_model.specs.Image.{named, head_of}
use Rattle.den_gate.specs.Slot.{Holds}
use Rattle.den_gate.specs.Steps.{IsSettled, IsOpen, Spares, IsFrom, IsFromOthers, RunSpares, RunSparesOthers}
use Rattle.den_gate.specs.Gate.{IsCurrent, HasList}
use Rattle.den_gate.specs.Draft.{other_slot, Flips}
use Rattle.den_gate.specs.Turning.{Drafted}
use Rattle.den_gate.proofs.Beside.{from_same}
use Rattle.den_gate.proofs.Families.{has_list, spares_others}
use Rattle.den_gate.proofs.Settling.{Settles, settles_sync}
use Rattle.den_gate.proofs.OtherSlot.{slots_apart, head_apart, head_not, current_slot, names_one}
use Rattle.den_gate.proofs.Alone.{Law}

-- two slots that stand on the disk with their lists
record BothStand (slot other : Place) (list now : List (List ℕ)) (content : Content) : Type 0 where
  list_is : regions (content.reading slot) ≡ Ok (placed 0 list)
  settled : IsSettled slot content
  now_is : regions (content.reading other) ≡ Ok (placed 0 now)
  now_settled : IsSettled other content

-- ---- the files after a crash

-- a slot that the head names stays while a third file changes
pub stands_beside : (place slot : Place) (list : List (List ℕ)) (c : Content) (before : Files → Type 0) (files : Files) → (slot ≡ place → ⊥) → (head_of slot.family ≡ place → ⊥)
    → ((f : Files) → before f → IsImage c f) → regions (c.reading slot) ≡ Ok (placed 0 list) → IsSettled slot c → IsCurrent slot c → IsFrom place before files → HasList slot list files
stands_beside place slot list c before files apart beside images list_is settled current f =
    let head = from_same place (head_of slot.family) c before files beside images current.settled f in
    let same = from_same place slot c before files apart images settled f in
    has_list slot list files (ap named head ∙ current.head) (ap regions same ∙ list_is)

-- the head may be torn while both slots stand on the disk
either_stands : (slot : Place) (list now : List (List ℕ)) (c : Content) (before : Files → Type 0) (files : Files) → (slot.part ≡ Head → ⊥) → ((f : Files) → before f → IsImage c f)
    → BothStand slot (other_slot slot) list now c → IsFrom (head_of slot.family) before files → HasList slot list files ⊎ HasList (other_slot slot) now files
either_stands slot list now c before files is images both f =
    let one = from_same (head_of slot.family) slot c before files (head_not slot is) images both.settled f in
    let two = from_same (head_of slot.family) (other_slot slot) c before files (λ e. head_apart slot (sym e)) images both.now_settled f in
    ⊎_elim (λ head. inl (has_list slot list files head (ap regions one ∙ both.list_is)))
    (λ head. inr (has_list (other_slot slot) now files head (ap regions two ∙ both.now_is)))
    (names_one slot (files (head_of slot.family)) is)

-- one file of a family is of its family
from_family : (own : Family) (place : Place) (before : Files → Type 0) (files : Files) → place.family ≡ own → IsFrom place before files → IsFromOthers own before files
from_family own place before files is f = record { origin = f.origin; was = f.was; others = λ q ne. f.others q (λ e. ne (ap (λ (p : Place). p.family) e ∙ is)) }

from_itself : (own : Family) (before : Files → Type 0) (files : Files) → before files → IsFromOthers own before files
from_itself own before files i = record { origin = files; was = i; others = λ q ne. refl }

-- ---- runs on the files of one family

module _ {D : Type 0} (disk : Ghosts D) (own : Family) where
  abbrev Others : D → D → Type 0
  Others old new = RunSparesOthers disk.content disk.moment disk.images own old new

  abbrev Beside : D → ℕ → Files → Type 0
  Beside d t files = IsFromOthers own (disk.images d (disk.moment d)) files

  pub others_run : (place : Place) (old new : D) → place.family ≡ own → RunSpares disk.content disk.moment disk.images place old new → Others old new
  others_run place old new is run = record {
    any_moment = weaker disk.content disk.moment disk.images (λ t files. IsFrom place (disk.images old (disk.moment old)) files) (Beside old) old new
        (λ t files f. from_family own place (disk.images old (disk.moment old)) files is f) run.any_moment;
    spares = subst (λ (f : Family). SparesOthers f (disk.content old) (disk.content new)) is (spares_others place (disk.content old) (disk.content new) run.spares);
  }

  pub others_settles : (old new : D) → Settles disk.content disk.moment disk.images old new → Others old new
  others_settles old new s = record {
    any_moment = weaker disk.content disk.moment disk.images (λ t files. disk.images old (disk.moment old) files) (Beside old) old new
        (λ t files i. from_itself own (disk.images old (disk.moment old)) files i) s.leaves;
    spares = record { reading = λ q ne. s.spares.reading q; pending = λ q ne k h. s.spares.pending q k h };
  }

  -- what held from the middle on holds from the start on
  pub from_mid : (old mid : D) (files : Files) → ((f : Files) → disk.images mid (disk.moment mid) f → IsFromOthers own (disk.images old (disk.moment old)) f) → Beside mid (disk.moment mid) files → Beside old (disk.moment old) files
  from_mid old mid files first k =
      let o = first k.origin k.was in
      record { origin = o.origin; was = o.was; others = λ q ne. k.others q ne ∙ o.others q ne }

  pub others_then : (old mid new : D) → Others old mid → Others mid new → Others old new
  others_then old mid new first second = record {
    any_moment = and_then disk.content disk.moment disk.images (Beside old) old mid new first.any_moment
        (weaker disk.content disk.moment disk.images (Beside mid) (Beside old) mid new
        (λ t files k. from_mid old mid files (λ f i. first.any_moment.each (disk.moment mid) f first.any_moment.later (omega arith) i) k) second.any_moment);
    spares = record {
      reading = λ q ne. second.spares.reading q ne ∙ first.spares.reading q ne;
      pending = λ q ne k h. first.spares.pending q ne k (second.spares.pending q ne k h);
    };
  }

  pub others_images : (old new : D) → Others old new → SparesImages own (disk.images old) (disk.images new) (disk.moment old) (disk.moment new)
  others_images old new run = record { each = λ t files low high i. let k = run.any_moment.each t files low high i in (k.origin, k.was, k.others) }

-- ---- from the one list to the other

module _ {D : Type 0} (disk : Ghosts D) (slot : Place) (list now : List (List ℕ)) where
  abbrev Flipped : D → ℕ → Files → Type 0
  Flipped d t files = Flips slot (other_slot slot) list now (disk.images d (disk.moment d)) files

  abbrev pub Turns : D → D → Type 0
  Turns old new = Leaves disk.content disk.moment disk.images (Flipped old) old new

  pub turns_then : (old mid new : D) → Turns old mid → Turns mid new → Turns old new
  turns_then old mid new first second =
      and_then disk.content disk.moment disk.images (Flipped old) old mid new first
      (weaker disk.content disk.moment disk.images (Flipped mid) (Flipped old) mid new (λ t files k. record {
        from = from_mid disk slot.family old mid files (λ f i. (first.each (disk.moment mid) f first.later (omega arith) i).from) k.from;
        stands = k.stands;
      }) second)

  module _ (old new : D) (law : (files : Files) → disk.images old (disk.moment old) files → IsImage (disk.content old) files) where
    abbrev before : Files → Type 0
    before files = disk.images old (disk.moment old) files

    -- a run on one file of the family
    turns_run : (place : Place) → place.family ≡ slot.family → ((files : Files) → IsFrom place before files → HasList slot list files ⊎ HasList (other_slot slot) now files)
        → RunSpares disk.content disk.moment disk.images place old new → Turns old new
    turns_run place own stands run =
        weaker disk.content disk.moment disk.images (λ t files. IsFrom place before files) (Flipped old) old new
        (λ t files f. record { from = from_family slot.family place before files own f; stands = stands files f }) run.any_moment

    -- on the other slot
    pub turns_beside : regions ((disk.content old).reading slot) ≡ Ok (placed 0 list) → IsSettled slot (disk.content old) → IsCurrent slot (disk.content old)
        → RunSpares disk.content disk.moment disk.images (other_slot slot) old new → Turns old new
    turns_beside list_is settled current run =
        turns_run (other_slot slot) refl (λ files f. inl (stands_beside (other_slot slot) slot list (disk.content old) before files (slots_apart slot) (head_apart slot) law list_is settled current f)) run

    -- on the head, while both slots stand
    turns_head : (slot.part ≡ Head → ⊥) → BothStand slot (other_slot slot) list now (disk.content old) → RunSpares disk.content disk.moment disk.images (head_of slot.family) old new → Turns old new
    turns_head is both run = turns_run (head_of slot.family) refl (λ files f. either_stands slot list now (disk.content old) before files is law both f) run

    -- on the old slot, once the head names the other one
    turns_after : (slot.part ≡ Head → ⊥) → regions ((disk.content old).reading (other_slot slot)) ≡ Ok (placed 0 now) → IsSettled (other_slot slot) (disk.content old) → IsCurrent (other_slot slot) (disk.content old)
        → RunSpares disk.content disk.moment disk.images slot old new → Turns old new
    turns_after is now_is settled current run =
        turns_run slot refl (λ files f. inr (stands_beside slot (other_slot slot) now (disk.content old) before files (λ e. slots_apart slot (sym e)) (λ e. head_not slot is (sym e)) law now_is settled current f)) run

    -- calls that change nothing of the content but what is pending
    turns_settles : regions ((disk.content old).reading slot) ≡ Ok (placed 0 list) → IsSettled slot (disk.content old) → IsCurrent slot (disk.content old) → Settles disk.content disk.moment disk.images old new → Turns old new
    turns_settles list_is settled current s =
        weaker disk.content disk.moment disk.images (λ t files. before files) (Flipped old) old new
        (λ t files i. record {
          from = from_itself slot.family before files i;
          stands = inl (stands_beside (other_slot slot) slot list (disk.content old) before files (slots_apart slot) (head_apart slot) law list_is settled current
              (record { origin = files; was = i; others = λ q ne. refl }));
        }) s.leaves

-- ---- the content

both_stand : (slot : Place) (list now : List (List ℕ)) (old new : Content) → Drafted slot list now old → new ≡ synced old → BothStand slot (other_slot slot) list now new
both_stand slot list now old new d is = subst (λ (c : Content). BothStand slot (other_slot slot) list now c) (sym is) (record { list_is = d.list_is; settled = λ k h. absurd h; now_is = d.now_is; now_settled = λ k h. absurd h })

-- the other slot after the head was written
after_flip : (slot : Place) (list now : List (List ℕ)) (old new : Content) → BothStand slot (other_slot slot) list now old → Spares (head_of slot.family) old new
    → (regions (new.reading (other_slot slot)) ≡ Ok (placed 0 now)) × IsSettled (other_slot slot) new
after_flip slot list now old new both s =
    let apart : other_slot slot ≡ head_of slot.family → ⊥ = λ e. head_apart slot (sym e) in (
      ap regions (s.reading (other_slot slot) apart) ∙ both.now_is,
      λ k h. both.now_settled k (s.pending (other_slot slot) apart k h),
    )

-- the new list at rest, once the head names it and the old slot is empty
committed : (slot : Place) (now : List (List ℕ)) (end : ℕ) (c0 c1 c2 c3 : Content) → (slot.part ≡ Head → ⊥) → Holds now end (c0.reading (other_slot slot)) → c1 ≡ synced c0 → Spares (head_of slot.family) c1 c2
    → IsCurrent (other_slot slot) c2 → Spares slot c2 c3 → IsOpen (other_slot slot) now end c3 × IsCurrent (other_slot slot) c3
committed slot now end c0 c1 c2 c3 is h sync flip current clear =
    let other = other_slot slot in
    let apart : other ≡ head_of slot.family → ⊥ = λ e. head_apart slot (sym e) in
    let beside : other ≡ slot → ⊥ = λ e. slots_apart slot (sym e) in
    let reads : c3.reading other ≡ c0.reading other = clear.reading other beside ∙ flip.reading other apart ∙ ap (λ (c : Content). c.reading other) sync in
    let none : IsSettled other c1 = subst (λ (c : Content). IsSettled other c) (sym sync) (λ k h. absurd h) in
    let head_beside : head_of slot.family ≡ slot → ⊥ = λ e. head_not slot is (sym e) in (
      record { holds = subst (λ (l : List ℕ). Holds now end l) (sym reads) h; settled = λ k p. none k (flip.pending other apart k (clear.pending other beside k p)) },
      record {
        head = ap named (clear.reading (head_of slot.family) head_beside) ∙ current.head;
        settled = λ k p. current.settled k (clear.pending (head_of slot.family) head_beside k p);
      },
    )

-- ---- a commit: the sync, the head, the old slot

module _ {D : Type 0} (disk : Ghosts D) (law : Law disk) (slot : Place) {d0 d1 : D} {T E : Type 0} {result : Result T E} (same : disk.kind d1 ≡ disk.kind d0)
    (syncs : IsTrue (disk.kind d0).tells → Changes disk.content disk.moment disk.images result (IsSynced (disk.content d0)) (λ _. ⊥) (IsImage (disk.content d0)) d0 d1) (tells : IsTrue (disk.kind d0).tells) where
  tells1 : IsTrue (disk.kind d1).tells
  tells1 = subst (λ (k : Kind). IsTrue k.tells) (sym same) tells

  settles : Settles disk.content disk.moment disk.images d0 d1
  settles = settles_sync disk.content disk.moment disk.images d0 result d1 (λ (files : Files). law d0 files tells) (λ (files : Files). law d1 files tells1) (syncs tells)

  pub sync_others : RunSparesOthers disk.content disk.moment disk.images slot.family d0 d1
  sync_others = others_settles disk slot.family d0 d1 settles

  pub sync_kept : (disk.content d1).reading (other_slot slot) ≡ (disk.content d0).reading (other_slot slot)
  sync_kept = settles.spares.reading (other_slot slot)

  pub sync_turns : (list now : List (List ℕ)) → Drafted slot list now (disk.content d0) → Turns disk slot list now d0 d1
  sync_turns list now d = turns_settles disk slot list now d0 d1 (λ files i. (law d0 files tells).0 i) d.list_is d.settled d.current settles

  module _ {d2 : D} (flip : IsTrue (disk.kind d1).tells → RunSpares disk.content disk.moment disk.images (head_of slot.family) d1 d2) where
    pub flip_others : RunSparesOthers disk.content disk.moment disk.images slot.family d0 d2
    flip_others = others_then disk slot.family d0 d1 d2 sync_others (others_run disk slot.family (head_of slot.family) d1 d2 refl (flip tells1))

    pub flip_kept : (disk.content d2).reading (other_slot slot) ≡ (disk.content d0).reading (other_slot slot)
    flip_kept = (flip tells1).spares.reading (other_slot slot) (λ e. head_apart slot (sym e)) ∙ sync_kept

    module _ (synced_is : disk.content d1 ≡ synced (disk.content d0)) where
      pub flip_turns : (list now : List (List ℕ)) → Drafted slot list now (disk.content d0) → Turns disk slot list now d0 d2
      flip_turns list now d =
          turns_then disk slot list now d0 d1 d2 (sync_turns list now d)
          (turns_head disk slot list now d1 d2 (λ files i. (law d1 files tells1).0 i) (current_slot slot (disk.content d0) d.current)
          (both_stand slot list now (disk.content d0) (disk.content d1) d synced_is) (flip tells1))

      module _ {d3 : D} (same2 : disk.kind d2 ≡ disk.kind d1) (current : IsTrue (disk.kind d1).tells → (slot.part ≡ Head → ⊥) → IsCurrent (other_slot slot) (disk.content d2))
          (clear : IsTrue (disk.kind d2).tells → RunSpares disk.content disk.moment disk.images slot d2 d3) where
        tells2 : IsTrue (disk.kind d2).tells
        tells2 = subst (λ (k : Kind). IsTrue k.tells) (sym same2) tells1

        pub clear_others : RunSparesOthers disk.content disk.moment disk.images slot.family d0 d3
        clear_others = others_then disk slot.family d0 d2 d3 flip_others (others_run disk slot.family slot d2 d3 refl (clear tells2))

        pub clear_turns : (list now : List (List ℕ)) → Drafted slot list now (disk.content d0) → Turns disk slot list now d0 d3
        clear_turns list now d =
            let is = current_slot slot (disk.content d0) d.current in
            let both = both_stand slot list now (disk.content d0) (disk.content d1) d synced_is in
            let after = after_flip slot list now (disk.content d1) (disk.content d2) both (flip tells1).spares in
            turns_then disk slot list now d0 d2 d3 (flip_turns list now d)
            (turns_after disk slot list now d2 d3 (λ files i. (law d2 files tells2).0 i) is after.0 after.1 (current tells1 is) (clear tells2))

        pub clear_done : (now : List (List ℕ)) (end : ℕ) → IsCurrent slot (disk.content d0) → Holds now end ((disk.content d0).reading (other_slot slot))
            → IsOpen (other_slot slot) now end (disk.content d3) × IsCurrent (other_slot slot) (disk.content d3)
        clear_done now end head h =
            let is = current_slot slot (disk.content d0) head in
            committed slot now end (disk.content d0) (disk.content d1) (disk.content d2) (disk.content d3) is h synced_is (flip tells1).spares (current tells1 is) (clear tells2).spares

    module _ {d3 : D} (same2 : disk.kind d2 ≡ disk.kind d1) (clear : IsTrue (disk.kind d2).tells → RunSpares disk.content disk.moment disk.images slot d2 d3) where
      pub clear_kept : (disk.content d3).reading (other_slot slot) ≡ (disk.content d0).reading (other_slot slot)
      clear_kept = (clear (subst (λ (k : Kind). IsTrue k.tells) (sym same2) tells1)).spares.reading (other_slot slot) (λ e. slots_apart slot (sym e)) ∙ flip_kept
