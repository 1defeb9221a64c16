-- Files whose writes are taken back call by call, from the last one back, read as none of those that are pending had been made.
use Rattle.std.proofs.Common.{◌≡◌, inl, inr, ℕ, zero, suc, ◌+◌, ◌-◌, ◌^◌, ◌<◌, ◌≤◌, ◌&&◌, Bool, true, false, if◌then◌else◌, nat_lt, nat_le, min, List, [], ◌∷◌, length, get_or, set, drop, replicate, Vec, refl, sym, ◌∙◌, ap, subst, arith, get_or-set_same, get_or-set_other}
use Rattle.std.proofs.lemmas.Bool.{cases_eq, cases_Bool, eqb-true, eqb-false, eq-eqb, ne_eqb, ltb-true, ltb-false, leb-true, leb-false, lt-ltb, le-ltb}
use Rattle.std.proofs.lemmas.List.{get_or-replicate}
use Rattle.std.specs.declared.alloc.Global.{Global}
use Rattle.den_disk.specs.declared.place.Place.{Place}
use Rattle.den_disk.specs.declared.memory.Step.{Step}
use Rattle.den_disk.specs.declared.memory.Step.TheVariants.{Write, Resize, Sync}
use Rattle.den_disk.specs.Place.{place_number, is_place}
use Rattle.den_disk.specs.Memory.{nth_file, file_of}
use Rattle.den_disk.specs.Spoil.{caps_before, writes_byte, byte_before, stays_pending, byte_unwritten, TakesBack}
use Rattle.den_disk.proofs.Places.{same_place, place_small, place_cases}
use Rattle.den_disk.proofs.Puts.{put_here, put_elsewhere}
use Rattle.den_disk.proofs.Spoilt.{drop_one}

-- no file is so long
pub file_short : (files : List (Vec ℕ Global)) (n : ℕ) → length (nth_file files n) < 2 ^ 64 - 1
file_short [] n = omega arith
file_short (v ∷ vs) zero = omega (arith, v.ok, v.small)
file_short (v ∷ vs) (suc n) = file_short vs n

-- the caps say what stays pending over the calls that follow
pub record Caps (caps : List ℕ) (rest : List Step) : Type 0 where
  pub each : (q : Place) (k : ℕ) → k < 2 ^ 64 - 1 → stays_pending rest q k ≡ nat_lt k (get_or caps (place_number q) 0)

below_both : (k a b : ℕ) → (nat_lt k b && nat_lt k a) ≡ nat_lt k (min a b)
below_both k a b = elim (cases_Bool (nat_lt k b)) [
  | inl t ↦ elim (cases_Bool (nat_lt k a)) [
    | inl s ↦ (λ i. t i && s i) ∙ sym (lt-ltb k (min a b) (omega (arith, ltb-true k b t, ltb-true k a s)))
    | inr f ↦ (λ i. t i && f i) ∙ sym (le-ltb k (min a b) (omega (arith, ltb-false k a f)))
  ]
  | inr f ↦ ap (λ (x : Bool). x && nat_lt k a) f ∙ sym (le-ltb k (min a b) (omega (arith, ltb-false k b f)))
]

-- one call more, at the front
caps_more : (caps : List ℕ) (step : Step) (rest : List Step) → length caps ≡ 12 → Caps caps rest → Caps (caps_before step caps) (step ∷ rest)
caps_more caps (Write place at was) rest twelve l = record { each = l.each }
caps_more caps (Resize place len from was) rest twelve l = record {
  each = λ q k lt. elim (cases_eq (place_number q) (place_number place)) [
    | inl e ↦
        let cap = get_or caps (place_number place) 0 in
        let is : get_or (set caps (place_number place) (min cap len)) (place_number place) 0 ≡ min cap len = get_or-set_same caps (place_number place) _ 0 (omega (arith, place_small place)) in
        let same : stays_pending rest q k ≡ nat_lt k cap = l.each q k lt ∙ ap (λ (n : ℕ). nat_lt k (get_or caps n 0)) e in
        ap (λ (b : Bool). if b then nat_lt k len && stays_pending rest q k else stays_pending rest q k) (eq-eqb (place_number q) (place_number place) e)
        ∙ ap (λ (b : Bool). nat_lt k len && b) same ∙ below_both k cap len ∙ ap (nat_lt k) (sym is)
        ∙ ap (λ (n : ℕ). nat_lt k (get_or (set caps (place_number place) (min cap len)) n 0)) (sym e)
    | inr ne ↦
        let cap = get_or caps (place_number place) 0 in
        let is : get_or (set caps (place_number place) (min cap len)) (place_number q) 0 ≡ get_or caps (place_number q) 0 = get_or-set_other caps (place_number place) (place_number q) _ 0 ne in
        ap (λ (b : Bool). if b then nat_lt k len && stays_pending rest q k else stays_pending rest q k) (ne_eqb (place_number q) (place_number place) ne)
        ∙ l.each q k lt ∙ ap (nat_lt k) (sym is)
  ];
}
caps_more caps Sync rest twelve l = record {
  each = λ q k lt.
      let cap : get_or (replicate 12 0) (place_number q) 0 ≡ 0 = get_or-replicate {A = ℕ} 12 (place_number q) 0 0 (place_small q) in
      sym (ap (nat_lt k) cap ∙ le-ltb k 0 (omega arith));
}

pub caps_down : (caps caps' : List ℕ) (steps : List Step) (n left : ℕ) (step : Step) → left ≡ n + 1 → n < length steps → step ≡ get_or steps n step → length caps ≡ 12 → caps' ≡ caps_before step caps
    → Caps caps (drop left steps) → Caps caps' (drop n steps)
caps_down caps caps' steps n left step next lt is twelve before l =
    subst (λ (r : List Step). Caps caps' r) (sym (drop_one steps n left step next lt is)) (subst (λ c. Caps c (step ∷ drop left steps)) (sym before) (caps_more caps step (drop left steps) twelve l))

-- a write taken back in one file of twelve
module _ (files : List (Vec ℕ Global)) (place : Place) (n : ℕ) (v was : Vec ℕ Global) (at : ℕ) (caps : List ℕ) (has : n < length files) (number : n ≡ place_number place)
    (taken : (k : ℕ) → at ≤ k → k < at + length was.items → k < get_or caps n 0 → k < length (file_of files place) → get_or v.items k 0 ≡ get_or was.items (k - at) 0)
    (same : (k : ℕ) → (at ≤ k → k < at + length was.items → k < get_or caps n 0 → ⊥) → get_or v.items k 0 ≡ get_or (file_of files place) k 0) where
  back_here : (k : ℕ) → k < length (file_of files place) → (low high below : Bool) → nat_le at k ≡ low → nat_lt k (at + length was.items) ≡ high → nat_lt k (get_or caps n 0) ≡ below
      → get_or v.items k 0 ≡ (if (low && high) && below then get_or was.items (k - at) 0 else get_or (file_of files place) k 0)
  back_here k small true true true l h b = taken k (leb-true at k l) (ltb-true k _ h) (ltb-true k _ b) small
  back_here k small true true false l h b = same k (λ low high below. omega (arith, below, ltb-false k _ b))
  back_here k small true false below l h b = same k (λ low high below. omega (arith, high, ltb-false k _ h))
  back_here k small false high below l h b = same k (λ low high below. omega (arith, low, leb-false at k l))

  back_at : (k : ℕ) → k < length (file_of files place) → (b : Bool) → is_place place place ≡ b
      → get_or (file_of (set files n v) place) k 0 ≡ (if (b && (nat_le at k && nat_lt k (at + length was.items))) && nat_lt k (get_or caps (place_number place) 0) then get_or was.items (k - at) 0 else get_or (file_of files place) k 0)
  back_at k small true e =
      ap (λ (l : List ℕ). get_or l k 0) (put_here files place n v has number v.items refl)
      ∙ back_here k small (nat_le at k) (nat_lt k (at + length was.items)) (nat_lt k (get_or caps (place_number place) 0)) refl refl (ap (λ (m : ℕ). nat_lt k (get_or caps m 0)) number)
  back_at k small false e = absurd (eqb-false (place_number place) (place_number place) e refl)

  back_elsewhere : (q : Place) (k : ℕ) → (q ≡ place → ⊥) → (b : Bool) → is_place q place ≡ b
      → get_or (file_of (set files n v) q) k 0 ≡ (if (b && (nat_le at k && nat_lt k (at + length was.items))) && nat_lt k (get_or caps (place_number q) 0) then get_or was.items (k - at) 0 else get_or (file_of files q) k 0)
  back_elsewhere q k ne true e = absurd (ne (same_place q place (eqb-true (place_number q) (place_number place) e)))
  back_elsewhere q k ne false e = ap (λ (l : List ℕ). get_or l k 0) (put_elsewhere files place n v has number v.items refl q ne)

  takes_write_back : TakesBack (Write place at was) caps files (set files n v)
  takes_write_back = record {
    each = λ q k small. elim (place_cases q place) [
      | inl e ↦ subst (λ p. k < length (file_of files p) → get_or (file_of (set files n v) p) k 0 ≡ (if writes_byte (Write place at was) p k && nat_lt k (get_or caps (place_number p) 0) then get_or was.items (k - at) 0 else get_or (file_of files p) k 0)) (sym e) (λ s. back_at k s (is_place place place) refl) small
      | inr ne ↦ back_elsewhere q k ne (is_place q place) refl
    ];
  }

pub takes_back : (step : Step) (files : List (Vec ℕ Global)) (place : Place) (n : ℕ) (v old was : Vec ℕ Global) (at : ℕ) (bytes caps : List ℕ) → step ≡ Write place at was → n < length files → n ≡ place_number place → file_of files place ≡ old.items → bytes ≡ was.items
    → ((k : ℕ) → at ≤ k → k < at + length bytes → k < get_or caps n 0 → k < length old.items → get_or v.items k 0 ≡ get_or bytes (k - at) 0)
    → ((k : ℕ) → (at ≤ k → k < at + length bytes → k < get_or caps n 0 → ⊥) → get_or v.items k 0 ≡ get_or old.items k 0) → TakesBack step caps files (set files n v)
takes_back step files place n v old was at bytes caps wrote has number is these taken same =
    subst (λ s. TakesBack s caps files (set files n v)) (sym wrote) (takes_write_back files place n v was at caps has number
    (subst (λ (l : List ℕ). (k : ℕ) → at ≤ k → k < at + length l → k < get_or caps n 0 → k < length (file_of files place) → get_or v.items k 0 ≡ get_or l (k - at) 0) these
    (subst (λ (f : List ℕ). (k : ℕ) → at ≤ k → k < at + length bytes → k < get_or caps n 0 → k < length f → get_or v.items k 0 ≡ get_or bytes (k - at) 0) (sym is) taken))
    (subst (λ (l : List ℕ). (k : ℕ) → (at ≤ k → k < at + length l → k < get_or caps n 0 → ⊥) → get_or v.items k 0 ≡ get_or (file_of files place) k 0) these
    (subst (λ (f : List ℕ). (k : ℕ) → (at ≤ k → k < at + length bytes → k < get_or caps n 0 → ⊥) → get_or v.items k 0 ≡ get_or f k 0) (sym is) same)))

-- one call more taken back
pub dropped_more : (caps : List ℕ) (steps : List Step) (n left : ℕ) (step : Step) (first old new : List (Vec ℕ Global)) → left ≡ n + 1 → n < length steps → step ≡ get_or steps n step → Caps caps (drop left steps) → TakesBack step caps old new
    → ((q : Place) → length (file_of old q) ≡ length (file_of first q))
    → ((q : Place) (k : ℕ) → k < length (file_of first q) → get_or (file_of old q) k 0 ≡ byte_unwritten (drop left steps) q k (get_or (file_of first q) k 0))
    → (q : Place) (k : ℕ) → k < length (file_of first q) → get_or (file_of new q) k 0 ≡ byte_unwritten (drop n steps) q k (get_or (file_of first q) k 0)
dropped_more caps steps n left step first old new next lt is l back long before q k small =
    let rest = drop left steps in
    let at_call : get_or (file_of new q) k 0 ≡ (if writes_byte step q k && nat_lt k (get_or caps (place_number q) 0) then byte_before step k else get_or (file_of old q) k 0) = back.each q k (omega (arith, long q)) in
    let pends : nat_lt k (get_or caps (place_number q) 0) ≡ stays_pending rest q k = sym (l.each q k (omega (arith, file_short first (place_number q)))) in
    at_call ∙ (λ i. if writes_byte step q k && pends i then byte_before step k else before q k small i)
    ∙ ap (λ (r : List Step). byte_unwritten r q k (get_or (file_of first q) k 0)) (sym (drop_one steps n left step next lt is))
