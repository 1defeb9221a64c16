-- Files spoilt call by call, from the last one back, stay an image of what they were.
use Rattle.std.proofs.Common.{◌≡◌, inl, inr, ℕ, suc, ◌+◌, ◌<◌, ◌≤◌, Bool, true, false, if◌then◌else◌, min, List, [], ◌∷◌, ◌++◌, length, get_or, set, take, drop, Vec, refl, sym, ◌∙◌, ap, subst, arith, take-append-drop, drop-cons, get_or-set_same, get_or-set_other}
use Rattle.std.proofs.lemmas.Bool.{cases_eq, eqb-true}
use Rattle.std.proofs.lemmas.List.{get_or-replicate}
use Rattle.std.specs.declared.alloc.Global.{Global}
use Rattle.den_disk.specs.declared.place.Place.{Place}
use Rattle.den_disk.specs.declared.memory.Step.{Step}
use Rattle.den_disk.specs.declared.memory.Step.TheVariants.{Write, Resize, Sync}
use Rattle.den_disk.specs.Place.{place_number, is_place}
use Rattle.den_disk.specs.Files.{Range, InRange, IsPending, IsImageAt, cut_ranges}
use Rattle.den_disk.specs.Memory.{file_of, pend, pend_all}
use Rattle.den_disk.specs.Spoil.{Wrote, caps_before, Spoils}
use Rattle.den_disk.proofs.Places.{same_place, place_small, place_cases}
use Rattle.den_disk.proofs.Puts.{put_here, put_elsewhere}

-- what is pending and below the caps stays pending over the calls that follow
pub record Lasts (caps : List ℕ) (rest : List Step) : Type 0 where
  pub each : (q : Place) (pending : List Range) (k : ℕ) → IsPending pending q k → k < get_or caps (place_number q) 0 → IsPending (pend_all pending rest) q k

cut_by : (place q : Place) (len k : ℕ) (r : Range) (b : Bool) → is_place r.place place ≡ b → (q ≡ place → k < len) → InRange r q k
    → InRange (if b then record { place = r.place; from = min r.from len; to = min r.to len } else r) q k
cut_by place q len k r true e small h =
    let here : q ≡ place = sym h.0 ∙ same_place r.place place (eqb-true (place_number r.place) (place_number place) e) in
    let lt = small here in
    let low = h.1 in
    let high = h.2 in
    (h.0, omega arith, omega arith)
cut_by place q len k r false e small h = h

pub cut_lasts : (place q : Place) (len k : ℕ) (pending : List Range) → (q ≡ place → k < len) → IsPending pending q k → IsPending (cut_ranges place len pending) q k
cut_lasts place q len k [] small h = h
cut_lasts place q len k (r ∷ pending) small (inl h) = inl (cut_by place q len k r (is_place r.place place) refl small h)
cut_lasts place q len k (r ∷ pending) small (inr h) = inr (cut_lasts place q len k pending small h)

-- one call more, at the front
pub lasts_more : (caps : List ℕ) (step : Step) (rest : List Step) → length caps ≡ 12 → Lasts caps rest → Lasts (caps_before step caps) (step ∷ rest)
lasts_more caps (Write place at was) rest twelve l = record { each = λ q pending k h lt. l.each q _ k (inr h) lt }
lasts_more caps (Resize place len from was) rest twelve l = record {
  each = λ q pending k h lt. elim (cases_eq (place_number q) (place_number place)) [
    | inl e ↦
        let lt' : k < get_or (set caps (place_number place) (min (get_or caps (place_number place) 0) len)) (place_number place) 0 = subst (λ n. k < get_or (set caps (place_number place) (min (get_or caps (place_number place) 0) len)) n 0) e lt in
        let is : get_or (set caps (place_number place) (min (get_or caps (place_number place) 0) len)) (place_number place) 0 ≡ min (get_or caps (place_number place) 0) len = get_or-set_same caps (place_number place) _ 0 (omega (arith, place_small place)) in
        l.each q _ k (cut_lasts place q len k pending (λ _. omega (arith, is, lt')) h) (subst (λ n. k < get_or caps n 0) (sym e) (omega (arith, is, lt')))
    | inr ne ↦
        let is : get_or (set caps (place_number place) (min (get_or caps (place_number place) 0) len)) (place_number q) 0 ≡ get_or caps (place_number q) 0 = get_or-set_other caps (place_number place) (place_number q) _ 0 ne in
        l.each q _ k (cut_lasts place q len k pending (λ e. absurd (ne (ap place_number e))) h) (omega (arith, is, lt))
  ];
}
lasts_more caps Sync rest twelve l = record { each = λ q pending k h lt. absurd (omega (arith, get_or-replicate {A = ℕ} 12 (place_number q) 0 0 (place_small q), lt)) }

pub pend-append : (pending : List Range) (a b : List Step) → pend_all pending (a ++ b) ≡ pend_all (pend_all pending a) b
pend-append pending [] b = refl
pend-append pending (s ∷ ss) b = pend-append (pend pending s) ss b

-- what a call wrote below the caps is pending after all
pub wrote_pending : (caps : List ℕ) (front : List Step) (step : Step) (rest : List Step) → Lasts caps rest → (q : Place) (k : ℕ) → Wrote step q k → k < get_or caps (place_number q) 0
    → IsPending (pend_all [] (front ++ step ∷ rest)) q k
wrote_pending caps front (Write place at was) rest l q k w lt = subst (λ p. IsPending p q k) (sym (pend-append [] front (Write place at was ∷ rest))) (l.each q _ k (inl w) lt)
wrote_pending caps front (Resize place len from was) rest l q k w lt = absurd w
wrote_pending caps front Sync rest l q k w lt = absurd w

-- the calls from one on, where the next is known
pub drop_one : (steps : List Step) (n left : ℕ) (step : Step) → left ≡ n + 1 → n < length steps → step ≡ get_or steps n step → drop n steps ≡ step ∷ drop left steps
drop_one steps n left step next lt is =
    let more : suc n ≡ left = omega arith in
    drop-cons steps n step lt ∙ (λ i. sym is i ∷ drop (more i) steps)

pub lasts_down : (caps caps' : List ℕ) (steps : List Step) (n left : ℕ) (step : Step) → left ≡ n + 1 → n < length steps → step ≡ get_or steps n step → length caps ≡ 12 → caps' ≡ caps_before step caps
    → Lasts caps (drop left steps) → Lasts caps' (drop n steps)
lasts_down caps caps' steps n left step next lt is twelve before l =
    subst (λ (r : List Step). Lasts caps' r) (sym (drop_one steps n left step next lt is)) (subst (λ c. Lasts c (step ∷ drop left steps)) (sym before) (lasts_more caps step (drop left steps) twelve l))

-- a write spoilt in one file of twelve
pub wrote_spoils : (step : Step) (files : List (Vec ℕ Global)) (place : Place) (n : ℕ) (v old was : Vec ℕ Global) (at : ℕ) (bytes caps : List ℕ) → step ≡ Write place at was → n < length files → n ≡ place_number place → file_of files place ≡ old.items → bytes ≡ was.items
    → length v.items ≡ length old.items → ((k : ℕ) → (at ≤ k → k < at + length bytes → k < get_or caps n 0 → ⊥) → get_or v.items k 0 ≡ get_or old.items k 0) → Spoils step caps files (set files n v)
wrote_spoils step files place n v old was at bytes caps wrote has number is these long same =
    let here : file_of (set files n v) place ≡ v.items = put_here files place n v has number v.items refl in
    let there : (q : Place) → (q ≡ place → ⊥) → file_of (set files n v) q ≡ file_of files q = put_elsewhere files place n v has number v.items refl in
    let at_place : (k : ℕ) → (Wrote (Write place at was) place k → k < get_or caps (place_number place) 0 → ⊥) → get_or (file_of (set files n v) place) k 0 ≡ get_or (file_of files place) k 0 =
    λ k spared. ap (λ (l : List ℕ). get_or l k 0) here ∙ same k (λ low high below. spared (refl, low, subst (λ (l : List ℕ). k < at + length l) these high) (subst (λ m. k < get_or caps m 0) number below)) ∙ ap (λ (l : List ℕ). get_or l k 0) (sym is) in
    subst (λ s. Spoils s caps files (set files n v)) (sym wrote) (record {
      as_long = λ q. elim (place_cases q place) [
        | inl e ↦ subst (λ p. length (file_of (set files n v) p) ≡ length (file_of files p)) (sym e) (ap length here ∙ long ∙ ap length (sym is))
        | inr ne ↦ ap length (there q ne)
      ];
      same = λ q k spared. elim (place_cases q place) [
        | inl e ↦ subst (λ p. (Wrote (Write place at was) p k → k < get_or caps (place_number p) 0 → ⊥) → get_or (file_of (set files n v) p) k 0 ≡ get_or (file_of files p) k 0) (sym e) (at_place k) spared
        | inr ne ↦ ap (λ (l : List ℕ). get_or l k 0) (there q ne)
      ];
    })

-- one call more spoilt
pub spoilt_more : (caps : List ℕ) (steps : List Step) (n left : ℕ) (step : Step) (first old new : List (Vec ℕ Global)) → left ≡ n + 1 → n < length steps → step ≡ get_or steps n step → Lasts caps (drop left steps)
    → Spoils step caps old new → ((q : Place) → IsImageAt (pend_all [] steps) q (file_of first q) (file_of old q)) → (q : Place) → IsImageAt (pend_all [] steps) q (file_of first q) (file_of new q)
spoilt_more caps steps n left step first old new next lt is l s image q =
    let now = image q in
    let whole : steps ≡ take n steps ++ step ∷ drop left steps = sym (take-append-drop n steps) ∙ ap (λ (r : List Step). take n steps ++ r) (drop_one steps n left step next lt is) in
    record {
      as_long = s.as_long q ∙ now.as_long;
      same = λ k lt settled. s.same q k (λ w below. settled (subst (λ (c : List Step). IsPending (pend_all [] c) q k) (sym whole) (wrote_pending caps (take n steps) step (drop left steps) l q k w below))) ∙ now.same k lt settled;
    }
