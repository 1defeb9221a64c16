-- What drafts and rewrites make of a gate file.
use Rattle.std.proofs.Common.{◌≡◌, ℕ, ◌≤◌, IsTrue, IsErr, OnOk, true, false, Result, List, refl, sym, ◌∙◌, ap, subst}
use Rattle.den_disk.specs.declared.disk.Disk.{Ghosts}
use Rattle.den_disk.specs.declared.place.Place.{Place}
use Rattle.den_disk.specs.Files.{Kind, Content}
use Rattle.den_model.specs.Regions.{regions}
use Rattle.den_model.specs.Image.{named, head_of}
use Rattle.den_gate.specs.declared.gate.GateFile.{GateFile}
use Rattle.den_gate.specs.Slot.{Holds, IsFilled, payloads_of}
use Rattle.den_gate.specs.Steps.{IsOpen, Spares, IsFromOthers, RunSpares, RunSparesOthers}
use Rattle.den_gate.specs.Gate.{IsCurrent}
use Rattle.den_gate.specs.Draft.{other_slot, KeepsList, RestsWith, Rewrites, WritesOwn}
use Rattle.den_gate.specs.Turning.{Drafted}
use Rattle.den_gate.proofs.Written.{at_rest, holds_regions}
use Rattle.den_gate.proofs.Settling.{goes_on}
use Rattle.den_gate.proofs.OtherSlot.{slots_apart, head_apart}
use Rattle.den_gate.proofs.Alone.{Law}
use Rattle.den_gate.proofs.Turning.{stands_beside, others_run, others_then, others_images, Turns, turns_then, turns_beside}

-- ---- while the other slot changes

current_beside : (slot place : Place) (old new : Content) → (head_of slot.family ≡ place → ⊥) → Spares place old new → IsCurrent slot old → IsCurrent slot new
current_beside slot place old new ne s current = record {
  head = ap named (s.reading (head_of slot.family) ne) ∙ current.head;
  settled = λ k h. current.settled k (s.pending (head_of slot.family) ne k h);
}

-- a gate file at rest whose slot and end are the same
rest_beside : (slot now : Place) (end at : ℕ) (old new : Content) → now ≡ slot → at ≡ end → Spares (other_slot slot) old new
    → IsOpen slot (payloads_of (old.reading slot)) end old → IsOpen now (payloads_of (new.reading now)) at new
rest_beside slot now end at old new is at_is s rest =
    let stays : IsOpen slot (payloads_of (new.reading slot)) end new = record {
      holds = subst (λ (l : List ℕ). Holds (payloads_of l) end l) (sym (s.reading slot (slots_apart slot))) rest.holds;
      settled = λ k h. rest.settled k (s.pending slot (slots_apart slot) k h);
    } in
    subst (λ (p : Place). IsOpen p (payloads_of (new.reading p)) at new) (sym is) (subst (λ (e : ℕ). IsOpen slot (payloads_of (new.reading slot)) e new) (sym at_is) stays)

-- a draft stays while the slot in use changes
pub draft_beside : (slot : Place) (list : List (List ℕ)) (end : ℕ) (old new : Content) → Spares slot old new → Holds list end (old.reading (other_slot slot)) → Holds list end (new.reading (other_slot slot))
draft_beside slot list end old new s h = subst (λ (l : List ℕ). Holds list end l) (sym (s.reading (other_slot slot) (λ e. slots_apart slot (sym e)))) h

-- a list at rest, and what the other slot holds now
pub drafted_beside : (slot : Place) (list now : List (List ℕ)) (end at : ℕ) (old new : Content) → IsOpen slot list end old → IsCurrent slot old → Spares (other_slot slot) old new → Holds now at (new.reading (other_slot slot))
    → Drafted slot list now new
drafted_beside slot list now end at old new rest current s h = record {
  list_is = ap regions (s.reading slot (slots_apart slot)) ∙ holds_regions list end (old.reading slot) rest.holds;
  settled = λ k p. rest.settled k (s.pending slot (slots_apart slot) k p);
  current = current_beside slot (other_slot slot) old new (head_apart slot) s current;
  now_is = holds_regions now at (new.reading (other_slot slot)) h;
}

-- a gate file with a draft, before it is committed
pub is_drafted : (slot : Place) (list now : List (List ℕ)) (end at : ℕ) (c : Content) → IsOpen slot list end c → IsCurrent slot c → Holds now at (c.reading (other_slot slot)) → Drafted slot list now c
is_drafted slot list now end at c rest current h = record {
  list_is = holds_regions list end (c.reading slot) rest.holds;
  settled = rest.settled;
  current = current;
  now_is = holds_regions now at (c.reading (other_slot slot)) h;
}

-- ---- the records of the calls

module _ {D : Type 0} (disk : Ghosts D) (was now : GateFile) (old new : D) where
  pub writes_own : {T E : Type 0} (result : Result T E) → disk.kind new ≡ disk.kind old → disk.faults old ≤ disk.faults new → now.slot.family ≡ was.slot.family
      → OnOk result (now.failed ≡ false) → (IsErr result → now.failed ≡ true)
      → (IsTrue (disk.kind old).tells → RunSparesOthers disk.content disk.moment disk.images was.slot.family old new) → WritesOwn disk was now old new result
  writes_own result same later own ready failed run = record {
    goes_on = goes_on disk.kind disk.content disk.moment disk.images disk.faults (λ t files. IsFromOthers was.slot.family (disk.images old (disk.moment old)) files) old new same later
        (λ tells. (run tells).any_moment);
    others = λ tells. (run tells).spares;
    images = λ tells. others_images disk was.slot.family old new (run tells);
    own = own;
    ready = ready;
    failed = failed;
  }

  pub keeps_list : Law disk → (other : Place) → other ≡ other_slot was.slot → now.slot ≡ was.slot → now.end ≡ was.end
      → (IsTrue (disk.kind old).tells → RunSpares disk.content disk.moment disk.images other old new) → KeepsList disk was now old new
  keeps_list law other is slot_is end_is run_other =
      let slot = was.slot in
      let run : IsTrue (disk.kind old).tells → RunSpares disk.content disk.moment disk.images (other_slot slot) old new =
      λ tells. subst (λ (p : Place). RunSpares disk.content disk.moment disk.images p old new) is (run_other tells) in
      let list = payloads_of ((disk.content old).reading slot) in
      record {
        slot = slot_is;
        end = end_is;
        spares = λ tells. (run tells).spares;
        at_rest = λ tells rest. rest_beside slot now.slot was.end now.end (disk.content old) (disk.content new) slot_is end_is (run tells).spares rest;
        same = λ tells. ap (λ (p : Place). payloads_of ((disk.content new).reading p)) slot_is ∙ ap payloads_of ((run tells).spares.reading slot (slots_apart slot));
        current = λ tells current. subst (λ (p : Place). IsCurrent p (disk.content new)) (sym slot_is)
            (current_beside slot (other_slot slot) (disk.content old) (disk.content new) (head_apart slot) (run tells).spares current);
        family = λ tells rest current. record {
          each = λ t files low high i. stands_beside (other_slot slot) slot list (disk.content old) (disk.images old (disk.moment old)) files (slots_apart slot) (head_apart slot)
              (λ f j. (law old f tells).0 j) (holds_regions list was.end ((disk.content old).reading slot) rest.holds) rest.settled current ((run tells).any_moment.each t files low high i);
        };
      }

  pub rewrites_list : (list : List (List ℕ)) → Turns disk was.slot (payloads_of ((disk.content old).reading was.slot)) list old new → Rewrites disk was now old new list
  rewrites_list list turns = record { any_moment = turns; family = record { each = λ t files low high i. (turns.each t files low high i).stands } }

-- a run on the other slot is one on files of the family
pub slot_others : {D : Type 0} (disk : Ghosts D) (slot other : Place) {old new : D} → other ≡ other_slot slot → RunSpares disk.content disk.moment disk.images other old new
    → RunSparesOthers disk.content disk.moment disk.images slot.family old new
slot_others disk slot other is run = others_run disk slot.family other _ _ (ap (λ (p : Place). p.family) is) run

-- at rest in the other slot
pub rests_with : (gate : GateFile) (place : Place) (end : ℕ) (list : List (List ℕ)) (c : Content) → gate.slot ≡ place → gate.end ≡ end → IsOpen place list end c × IsCurrent place c → RestsWith gate list c
rests_with gate place end list c slot_is end_is made =
    let rest = at_rest place list end c made.0 in
    record {
      at_rest = subst (λ (p : Place). IsOpen p (payloads_of (c.reading p)) gate.end c) (sym slot_is) (subst (λ (e : ℕ). IsOpen place (payloads_of (c.reading place)) e c) (sym end_is) rest.0);
      list_is = ap (λ (p : Place). payloads_of (c.reading p)) slot_is ∙ rest.1;
      current = subst (λ (p : Place). IsCurrent p c) (sym slot_is) made.1;
    }

-- ---- a rewrite: the other slot filled beside a list at rest, and then a commit

module _ {D : Type 0} (disk : Ghosts D) (law : Law disk) (slot other : Place) (is : other ≡ other_slot slot) {d0 d1 : D}
    (filled : IsTrue (disk.kind d0).tells → RunSpares disk.content disk.moment disk.images other d0 d1) (tells : IsTrue (disk.kind d0).tells) where
  run : RunSpares disk.content disk.moment disk.images (other_slot slot) d0 d1
  run = subst (λ (p : Place). RunSpares disk.content disk.moment disk.images p d0 d1) is (filled tells)

  pub filled_others : RunSparesOthers disk.content disk.moment disk.images slot.family d0 d1
  filled_others = others_run disk slot.family (other_slot slot) d0 d1 refl run

  pub filled_turns : (list now : List (List ℕ)) (end : ℕ) → IsOpen slot list end (disk.content d0) → IsCurrent slot (disk.content d0) → Turns disk slot list now d0 d1
  filled_turns list now end rest current =
      turns_beside disk slot list now d0 d1 (λ files i. (law d0 files tells).0 i) (holds_regions list end ((disk.content d0).reading slot) rest.holds) rest.settled current run

  module _ (same : disk.kind d1 ≡ disk.kind d0) where
    tells1 : IsTrue (disk.kind d1).tells
    tells1 = subst (λ (k : Kind). IsTrue k.tells) (sym same) tells

    pub made_others : (d2 : D) → (IsTrue (disk.kind d1).tells → RunSparesOthers disk.content disk.moment disk.images slot.family d1 d2) → RunSparesOthers disk.content disk.moment disk.images slot.family d0 d2
    made_others d2 commit = others_then disk slot.family d0 d1 d2 filled_others (commit tells1)

    pub made_filled : (d2 : D) (end at : ℕ) → end ≡ at → (IsTrue (disk.kind d1).tells → (disk.content d2).reading (other_slot slot) ≡ (disk.content d1).reading (other_slot slot))
        → IsFilled end ((disk.content d1).reading other) → IsFilled at ((disk.content d2).reading (other_slot slot))
    made_filled d2 end at end_is kept f =
        let here : IsFilled end ((disk.content d1).reading (other_slot slot)) = subst (λ (p : Place). IsFilled end ((disk.content d1).reading p)) is f in
        subst (λ (l : List ℕ). IsFilled at l) (sym (kept tells1)) (subst (λ (e : ℕ). IsFilled e ((disk.content d1).reading (other_slot slot))) end_is here)

    module _ (list now : List (List ℕ)) (end at : ℕ) (holds : Holds now at ((disk.content d1).reading other)) (rest : IsOpen slot list end (disk.content d0)) (current : IsCurrent slot (disk.content d0)) where
      here : Holds now at ((disk.content d1).reading (other_slot slot))
      here = subst (λ (p : Place). Holds now at ((disk.content d1).reading p)) is holds

      pub made_turns : (d2 : D) → (IsTrue (disk.kind d1).tells → (list now : List (List ℕ)) → Drafted slot list now (disk.content d1) → Turns disk slot list now d1 d2) → Turns disk slot list now d0 d2
      made_turns d2 commit =
          turns_then disk slot list now d0 d1 d2 (filled_turns list now end rest current)
          (commit tells1 list now (drafted_beside slot list now end at (disk.content d0) (disk.content d1) rest current run.spares here))

      pub made_rests : (gate : GateFile) (d2 : D) → gate.slot ≡ other → gate.end ≡ at
          → (IsTrue (disk.kind d1).tells → (now : List (List ℕ)) (end : ℕ) → IsCurrent slot (disk.content d1) → Holds now end ((disk.content d1).reading (other_slot slot))
          → IsOpen (other_slot slot) now end (disk.content d2) × IsCurrent (other_slot slot) (disk.content d2)) → RestsWith gate now (disk.content d2)
      made_rests gate d2 slot_is end_is done =
          rests_with gate (other_slot slot) at now (disk.content d2) (slot_is ∙ is) end_is
          (done tells1 now at (current_beside slot (other_slot slot) (disk.content d0) (disk.content d1) (head_apart slot) run.spares current) here)
