-- Entries whose indices rise, and where an index cuts them.
use Rattle.std.proofs.Common.{◌≡◌, ℕ, zero, suc, ◌+◌, ◌<◌, ◌≤◌, inl, inr, Bool, true, false, List, [], ◌∷◌, ◌++◌, length, get_or, take, drop, refl, sym, ap, ◌∙◌, subst, arith}
use Rattle.std.specs.Prelude.{nat_lt, nat_le, ◌&&◌}
use Rattle.std.specs.List.{filter, AllWithin}
use Rattle.std.specs.List.Sorted.{IsNonDecreasingBy}
use Rattle.std.proofs.lemmas.Bool.{and_parts, and_from, ltb-true, lt-ltb, leb-true, le-leb, cond-true, cond-false, cases_Bool}
use Rattle.den_model.specs.Entries.{LogEntry, rise_above, rise_from, begin_from}
use Rattle.den_model.specs.Log.{below, above}

pub lower : (a b : ℕ) (es : List LogEntry) → a ≤ b → rise_above b es ≡ true → rise_above a es ≡ true
lower a b [] le h = refl
lower a b (e ∷ es) le h =
    let p = and_parts (nat_lt b e.index) (rise_above e.index es) h in
    and_from (nat_lt a e.index) (rise_above e.index es) (lt-ltb a e.index (omega (arith, ltb-true b e.index p.0))) p.1

pub all_above : (a k : ℕ) (es : List LogEntry) (d : LogEntry) → rise_above a es ≡ true → k < length es → a < (get_or es k d).index
all_above a k [] d h lt = absurd (omega arith)
all_above a zero (e ∷ es) d h lt = ltb-true a e.index (and_parts (nat_lt a e.index) (rise_above e.index es) h).0
all_above a (suc k) (e ∷ es) d h lt =
    let p = and_parts (nat_lt a e.index) (rise_above e.index es) h in
    omega (arith, ltb-true a e.index p.0, all_above e.index k es d p.1 (omega arith))

pub non_decreasing : (a : ℕ) (es : List LogEntry) → rise_above a es ≡ true → IsNonDecreasingBy (λ (e : LogEntry). e.index) es
non_decreasing a [] h i j d le lt = absurd (omega arith)
non_decreasing a (e ∷ es) h zero zero d le lt = omega arith
non_decreasing a (e ∷ es) h zero (suc j) d le lt =
    let p = and_parts (nat_lt a e.index) (rise_above e.index es) h in
    omega (arith, all_above e.index j es d p.1 (omega arith))
non_decreasing a (e ∷ es) h (suc i) zero d le lt = absurd (omega arith)
non_decreasing a (e ∷ es) h (suc i) (suc j) d le lt =
    let p = and_parts (nat_lt a e.index) (rise_above e.index es) h in
    non_decreasing e.index es p.1 i j d (omega arith) (omega arith)

-- the front, where a test passes it and nothing behind it
pub front : {X : Type 0} (p : X → Bool) (xs : List X) (i : ℕ) → i ≤ length xs → AllWithin (λ x. p x ≡ true) xs 0 i → AllWithin (λ x. p x ≡ false) xs i (length xs) → take i xs ≡ filter p xs
front p [] zero le pass fail = refl
front p [] (suc i) le pass fail = absurd (omega arith)
front p (x ∷ xs) zero le pass fail =
    front p xs zero (omega arith) (λ k d h lt. absurd (omega arith)) (λ k d h lt. fail (suc k) d (omega arith) (omega arith))
    ∙ sym (cond-false (p x) (x ∷ filter p xs) (filter p xs) (fail 0 x (omega arith) (omega arith)))
front {X} p (x ∷ xs) (suc i) le pass fail =
    ap (λ (l : List X). x ∷ l) (front p xs i (omega arith) (λ k d h lt. pass (suc k) d (omega arith) (omega arith)) (λ k d h lt. fail (suc k) d (omega arith) (omega arith)))
    ∙ sym (cond-true (p x) (x ∷ filter p xs) (filter p xs) (pass 0 x (omega arith) (omega arith)))

-- the rest, where a test passes it and nothing before it
pub rest : {X : Type 0} (p : X → Bool) (xs : List X) (i : ℕ) → i ≤ length xs → AllWithin (λ x. p x ≡ false) xs 0 i → AllWithin (λ x. p x ≡ true) xs i (length xs) → drop i xs ≡ filter p xs
rest p [] zero le fail pass = refl
rest p [] (suc i) le fail pass = absurd (omega arith)
rest {X} p (x ∷ xs) zero le fail pass =
    ap (λ (l : List X). x ∷ l) (rest p xs zero (omega arith) (λ k d h lt. absurd (omega arith)) (λ k d h lt. pass (suc k) d (omega arith) (omega arith)))
    ∙ sym (cond-true (p x) (x ∷ filter p xs) (filter p xs) (pass 0 x (omega arith) (omega arith)))
rest p (x ∷ xs) (suc i) le fail pass =
    rest p xs i (omega arith) (λ k d h lt. fail (suc k) d (omega arith) (omega arith)) (λ k d h lt. pass (suc k) d (omega arith) (omega arith))
    ∙ sym (cond-false (p x) (x ∷ filter p xs) (filter p xs) (fail 0 x (omega arith) (omega arith)))

-- entries below an index, and then others from it on, rise where both do
pub replaced_rise : (a i : ℕ) (es new : List LogEntry) → rise_above a es ≡ true → rise_above a new ≡ true → begin_from i new ≡ true → rise_above a (below i es ++ new) ≡ true
replaced_rise a i [] new h g b = g
replaced_rise a i (e ∷ es) [] h g b =
    let p = and_parts (nat_lt a e.index) (rise_above e.index es) h in
    elim (cases_Bool (nat_lt e.index i)) [
      | inl pass ↦ rw (cond-true (nat_lt e.index i) (e ∷ below i es) (below i es) pass) (and_from _ _ p.0 (replaced_rise e.index i es [] p.1 refl refl))
      | inr fail ↦ rw (cond-false (nat_lt e.index i) (e ∷ below i es) (below i es) fail) (replaced_rise a i es [] (lower a e.index es (omega (arith, ltb-true a e.index p.0)) p.1) refl refl)
    ]
replaced_rise a i (e ∷ es) (n ∷ new) h g b =
    let p = and_parts (nat_lt a e.index) (rise_above e.index es) h in
    let q = and_parts (nat_lt a n.index) (rise_above n.index new) g in
    elim (cases_Bool (nat_lt e.index i)) [
      | inl pass ↦
          let up : e.index < n.index = omega (arith, ltb-true e.index i pass, leb-true i n.index b) in
          rw (cond-true (nat_lt e.index i) (e ∷ below i es) (below i es) pass)
          (and_from _ _ p.0 (replaced_rise e.index i es (n ∷ new) p.1 (and_from (nat_lt e.index n.index) (rise_above n.index new) (lt-ltb e.index n.index up) q.1) b))
      | inr fail ↦ rw (cond-false (nat_lt e.index i) (e ∷ below i es) (below i es) fail) (replaced_rise a i es (n ∷ new) (lower a e.index es (omega (arith, ltb-true a e.index p.0)) p.1) g b)
    ]

-- those from one number on rise above that before it
pub rise_from_above : (i : ℕ) (es : List LogEntry) → rise_from (i + 1) es ≡ true → rise_above i es ≡ true
rise_from_above i [] h = refl
rise_from_above i (e ∷ es) h =
    let p = and_parts (nat_le (i + 1) e.index) (rise_from (e.index + 1) es) h in
    and_from (nat_lt i e.index) (rise_above e.index es) (lt-ltb i e.index (omega (arith, leb-true (i + 1) e.index p.0))) (rise_from_above e.index es p.1)

-- those above one number rise from the next on
pub above_rise_from : (i : ℕ) (es : List LogEntry) → rise_above i es ≡ true → rise_from (i + 1) es ≡ true
above_rise_from i [] h = refl
above_rise_from i (e ∷ es) h =
    let p = and_parts (nat_lt i e.index) (rise_above e.index es) h in
    and_from (nat_le (i + 1) e.index) (rise_from (e.index + 1) es) (le-leb (i + 1) e.index (omega (arith, ltb-true i e.index p.0))) (above_rise_from e.index es p.1)

pub rise_from_begins : (i : ℕ) (es : List LogEntry) → rise_from i es ≡ true → begin_from i es ≡ true
rise_from_begins i [] h = refl
rise_from_begins i (e ∷ es) h = (and_parts (nat_le i e.index) (rise_from (e.index + 1) es) h).0

-- all that rise above a number are above a lesser one
pub all_kept : (a i : ℕ) (es : List LogEntry) → i ≤ a → rise_above a es ≡ true → above i es ≡ es
all_kept a i [] le h = refl
all_kept a i (e ∷ es) le h =
    let p = and_parts (nat_lt a e.index) (rise_above e.index es) h in
    let up : a < e.index = ltb-true a e.index p.0 in
    cond-true (nat_lt i e.index) (e ∷ above i es) (above i es) (lt-ltb i e.index (omega arith)) ∙ ap (λ (l : List LogEntry). e ∷ l) (all_kept e.index i es (omega arith) p.1)

-- what is above an index rises above it
pub above_rise : (a i : ℕ) (es : List LogEntry) → rise_above a es ≡ true → rise_above i (above i es) ≡ true
above_rise a i [] h = refl
above_rise a i (e ∷ es) h =
    let p = and_parts (nat_lt a e.index) (rise_above e.index es) h in
    elim (cases_Bool (nat_lt i e.index)) [
      | inl pass ↦ rw (cond-true (nat_lt i e.index) (e ∷ above i es) (above i es) pass)
          (and_from (nat_lt i e.index) (rise_above e.index (above i es)) pass
          (subst (λ (l : List LogEntry). rise_above e.index l ≡ true) (sym (all_kept e.index i es (omega (arith, ltb-true i e.index pass)) p.1)) p.1))
      | inr fail ↦ rw (cond-false (nat_lt i e.index) (e ∷ above i es) (above i es) fail) (above_rise e.index i es p.1)
    ]

pub below_rise : (a i : ℕ) (es : List LogEntry) → rise_above a es ≡ true → rise_above a (below i es) ≡ true
below_rise a i [] h = refl
below_rise a i (e ∷ es) h =
    let p = and_parts (nat_lt a e.index) (rise_above e.index es) h in
    elim (cases_Bool (nat_lt e.index i)) [
      | inl pass ↦ rw (cond-true (nat_lt e.index i) (e ∷ below i es) (below i es) pass) (and_from (nat_lt a e.index) (rise_above e.index (below i es)) p.0 (below_rise e.index i es p.1))
      | inr fail ↦ rw (cond-false (nat_lt e.index i) (e ∷ below i es) (below i es) fail) (below_rise a i es (lower a e.index es (omega (arith, ltb-true a e.index p.0)) p.1))
    ]

pub take_rise : (a n : ℕ) (es : List LogEntry) → rise_above a es ≡ true → rise_above a (take n es) ≡ true
take_rise a zero es h = refl
take_rise a (suc n) [] h = refl
take_rise a (suc n) (e ∷ es) h =
    let p = and_parts (nat_lt a e.index) (rise_above e.index es) h in
    and_from (nat_lt a e.index) (rise_above e.index (take n es)) p.0 (take_rise e.index n es p.1)

-- what passes both of two tests
pub filter_both : {X : Type 0} (p q : X → Bool) (xs : List X) → filter p (filter q xs) ≡ filter (λ x. p x && q x) xs
filter_both p q [] = refl
filter_both {X} p q (x ∷ xs) = elim (cases_Bool (q x)) [
  | inl t ↦
      rw t (elim (cases_Bool (p x)) [
        | inl s ↦ rw s (ap (λ (l : List X). x ∷ l) (filter_both p q xs))
        | inr s ↦ rw s (filter_both p q xs)
      ])
  | inr f ↦
      rw f (elim (cases_Bool (p x)) [
        | inl s ↦ rw s (filter_both p q xs)
        | inr s ↦ rw s (filter_both p q xs)
      ])
]

pub rise_from_lower : (i j : ℕ) (es : List LogEntry) → i ≤ j → rise_from j es ≡ true → rise_from i es ≡ true
rise_from_lower i j [] le h = refl
rise_from_lower i j (e ∷ es) le h =
    let p = and_parts (nat_le j e.index) (rise_from (e.index + 1) es) h in
    and_from (nat_le i e.index) (rise_from (e.index + 1) es) (le-leb i e.index (omega (arith, leb-true j e.index p.0))) p.1
