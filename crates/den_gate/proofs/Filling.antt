-- What the steps of a draft make of the bytes of its slot.
use Rattle.std.proofs.Common.{◌≡◌, ◌⊎◌, inl, inr, ⊎_elim, ℕ, ◌+◌, ◌<◌, ◌≤◌, ◌^◌, ◌-◌, min, List, [], ◌∷◌, ◌++◌, length, take, drop, get_or, refl, sym, ◌∙◌, ap, subst, arith, append_assoc, length-append, take-append-drop}
use Rattle.std.proofs.lemmas.List.{take_more}
use Rattle.den_disk.specs.declared.place.Place.{Place}
use Rattle.den_disk.specs.Files.{Content, written, resized, put_at, fit}
use Rattle.den_disk.proofs.Places.{change-here}
use Rattle.den_disk.proofs.Images.{length-fit}
use Rattle.den_model.specs.Spelling.{u64_word}
use Rattle.den_model.specs.Regions.{open_region, open_regions}
use Rattle.den_gate.specs.Slot.{SlotGrows, Holds, IsFilled, IsShort, StopsAt, begin_of, room_for, whole_chunks}
use Rattle.den_gate.proofs.Written.{staged_written, regions-push, length-word}
use Rattle.den_gate.proofs.Calm.{opened, fitted}

-- ---- one region

pub no_byte : (slot : Place) (c : Content) → (resized slot 0 c).reading slot ≡ []
no_byte slot c = change-here slot (fit 0) c.reading ∙ empty_list (fit 0 (c.reading slot)) (length-fit 0 (c.reading slot))
  where
    empty_list : (l : List ℕ) → length l ≡ 0 → l ≡ []
    empty_list [] e = refl
    empty_list (b ∷ l) e = absurd (omega arith)

-- a slot without a byte
pub cleared : (slot : Place) (c : Content) → Holds [] 0 ((resized slot 0 c).reading slot)
cleared slot c =
    let none : Holds [] 0 [] = record { front = refl; size = refl; small = omega arith; closed = λ e. absurd (cc e) } in
    subst (λ (l : List ℕ). Holds [] 0 l) (sym (no_byte slot c)) none

-- the three writes behind the gate, and then the gate
region_put : (slot : Place) (ps : List (List ℕ)) (p : List ℕ) (end : ℕ) (file : List ℕ) → Holds ps end file → end + 10 + length p ≤ length file → end + 9 + length p < 2 ^ 64
    → Holds (ps ++ p ∷ []) (end + (9 + length p)) (put_at end (1 ∷ []) (put_at (end + 9 + length p) (0 ∷ []) (put_at (end + 9) p (put_at (end + 1) (u64_word (length p)) file))))
region_put slot ps p end file h room small =
    let three = put_at (end + 9 + length p) (0 ∷ []) (put_at (end + 9) p (put_at (end + 1) (u64_word (length p)) file)) in
    let c : Content = record { reading = λ q. three; pending = [] } in
    let open_ = opened slot ps p end c (record { staged = staged_written ps p end file h room small; settled = λ k none. absurd none }) in
    subst (λ (l : List ℕ). Holds (ps ++ p ∷ []) (end + (9 + length p)) l) (change-here slot (put_at end (1 ∷ [])) c.reading) open_.holds

pub region_written : (slot : Place) (ps : List (List ℕ)) (p : List ℕ) (end : ℕ) (c : Content) → Holds ps end (c.reading slot) → end + 10 + length p ≤ length (c.reading slot) → end + 9 + length p < 2 ^ 64
    → Holds (ps ++ p ∷ []) (end + (9 + length p)) ((written slot end (1 ∷ []) (written slot (end + 9 + length p) (0 ∷ []) (written slot (end + 9) p (written slot (end + 1) (u64_word (length p)) c)))).reading slot)
region_written slot ps p end c h room small =
    let n = length p in
    let one = written slot (end + 1) (u64_word n) c in
    let two = written slot (end + 9) p one in
    let three = written slot (end + 9 + n) (0 ∷ []) two in
    let four = written slot end (1 ∷ []) three in
    let reads : four.reading slot ≡ put_at end (1 ∷ []) (put_at (end + 9 + n) (0 ∷ []) (put_at (end + 9) p (put_at (end + 1) (u64_word n) (c.reading slot)))) =
    change-here slot (put_at end (1 ∷ [])) three.reading ∙ ap (put_at end (1 ∷ [])) (
    change-here slot (put_at (end + 9 + n) (0 ∷ [])) two.reading ∙ ap (put_at (end + 9 + n) (0 ∷ [])) (
    change-here slot (put_at (end + 9) p) one.reading ∙ ap (put_at (end + 9) p) (change-here slot (put_at (end + 1) (u64_word n)) c.reading))) in
    subst (λ (l : List ℕ). Holds (ps ++ p ∷ []) (end + (9 + n)) l) (sym reads) (region_put slot ps p end (c.reading slot) h room small)

pub holds_resized : (slot : Place) (ps : List (List ℕ)) (end : ℕ) (c : Content) (len : ℕ) → end ≤ len → Holds ps end (c.reading slot) → Holds ps end ((resized slot len c).reading slot)
holds_resized slot ps end c len fits h = subst (λ (l : List ℕ). Holds ps end l) (sym (change-here slot (fit len) c.reading)) (fitted slot c ps end len (c.reading slot) fits h)

-- room, and then writes inside it
pub grows_on : (old mid new : List ℕ) (end size : ℕ) → SlotGrows old mid end size → length new ≡ length mid → SlotGrows old new end size
grows_on old mid new end size g same = record { grown = λ short. same ∙ g.grown short; kept = λ long. same ∙ g.kept long }

-- ---- a whole list

-- where a list ends with one payload more
pub size_push : (list : List (List ℕ)) (p : List ℕ) → length (open_regions (list ++ p ∷ [])) ≡ length (open_regions list) + (9 + length p)
size_push list p =
    omega (arith, ap length (regions-push list p), length-append (open_regions list) (open_region p), length-append (u64_word (length p)) p, length-word (length p))

pub size_more : (list : List (List ℕ)) (i : ℕ) (p : List ℕ) → i < length list → p ≡ get_or list i p → length (open_regions (take (i + 1) list)) ≡ length (open_regions (take i list)) + (9 + length p)
size_more list i p lt is =
    let more : take (i + 1) list ≡ take i list ++ p ∷ [] = take_more list i p lt ∙ ap (λ (q : List ℕ). take i list ++ q ∷ []) (sym is) in
    ap (λ (l : List (List ℕ)). length (open_regions l)) more ∙ size_push (take i list) p

pub holds_more : (list : List (List ℕ)) (i at : ℕ) (p file : List ℕ) → i < length list → p ≡ get_or list i p → Holds (take i list ++ p ∷ []) at file → Holds (take (i + 1) list) at file
holds_more list i at p file lt is h =
    let more : take (i + 1) list ≡ take i list ++ p ∷ [] = take_more list i p lt ∙ ap (λ (q : List ℕ). take i list ++ q ∷ []) (sym is) in
    subst (λ (l : List (List ℕ)). Holds l at file) (sym more) h

-- a front is no longer than the whole
size_front : (list : List (List ℕ)) (i : ℕ) → length (open_regions (take i list)) ≤ length (open_regions list)
size_front list i =
    let split : open_regions list ≡ open_regions (take i list) ++ open_regions (drop i list) = ap open_regions (sym (take-append-drop i list)) ∙ regions-join (take i list) (drop i list) in
    omega (arith, ap length split, length-append (open_regions (take i list)) (open_regions (drop i list)))
  where
    regions-join : (ps qs : List (List ℕ)) → open_regions (ps ++ qs) ≡ open_regions ps ++ open_regions qs
    regions-join [] qs = refl
    regions-join (p ∷ ps) qs = ap (λ (l : List ℕ). open_region p ++ l) (regions-join ps qs) ∙ sym (append_assoc (open_region p) (open_regions ps) (open_regions qs))

-- and needs no more room
pub room_front : (list : List (List ℕ)) (i : ℕ) (p : List ℕ) (end : ℕ) → i < length list → p ≡ get_or list i p → end ≡ length (open_regions (take i list)) → room_for end (length p) ≤ whole_chunks (length (open_regions list) + 1)
room_front list i p end lt is at = chunks_mono (end + 10 + length p) (length (open_regions list) + 1) (omega (arith, size_more list i p lt is, size_front list (i + 1)))
  where
    chunks_mono : (a b : ℕ) → a ≤ b → min (whole_chunks a) (2 ^ 64 - 1) ≤ whole_chunks b
    chunks_mono a b le = omega arith

-- a slot that was filled up to this end, within the limit
pub record FilledWithin (end limit : ℕ) (file : List ℕ) : Type 0 where
  pub filled : IsFilled end file
  pub fits : length file ≤ limit

pub filled_more : (end n : ℕ) (was now : List ℕ) (limit : ℕ) → FilledWithin end limit was → end + (9 + n) ≤ 2 ^ 62 → SlotGrows was now end n → (IsShort was end n → room_for end n ≤ limit)
    → FilledWithin (end + (9 + n)) limit now
filled_more end n was now limit f low g not_full = ⊎_elim grown kept (order (length was) (end + 10 + n))
  where
    order : (a b : ℕ) → (a < b) ⊎ (b ≤ a)
    order a b = grind arith

    grown : IsShort was end n → FilledWithin (end + (9 + n)) limit now
    grown short =
        let is : length now ≡ room_for end n = g.grown short in
        let some : length now ≡ whole_chunks (end + (9 + n) + 1) = omega (arith, is, low) in
        record { filled = record { none = λ e. absurd (omega (arith, e)); some = λ le. some }; fits = omega (arith, is, not_full short) }

    kept : end + 10 + n ≤ length was → FilledWithin (end + (9 + n)) limit now
    kept long =
        let is : length now ≡ length was = g.kept long in
        let begun : 1 ≤ end = ⊎_elim (λ lt. absurd (omega (arith, long, f.filled.none (omega (arith, lt))))) (λ le. le) (order end 1) in
        let before : length was ≡ whole_chunks (end + 1) = f.filled.some begun in
        let some : length now ≡ whole_chunks (end + (9 + n) + 1) = omega (arith, is, before, long) in
        record { filled = record { none = λ e. absurd (omega (arith, e)); some = λ le. some }; fits = omega (arith, is, f.fits) }

-- and so it has the room for what it holds
pub filled_fits : (end limit : ℕ) (file : List ℕ) → FilledWithin end limit file → (end ≡ 0) ⊎ (whole_chunks (end + 1) ≤ limit)
filled_fits end limit file f = ⊎_elim (λ lt. inl (omega (arith, lt))) (λ le. inr (omega (arith, f.filled.some le, f.fits))) (order end)
  where
    order : (a : ℕ) → (a < 1) ⊎ (1 ≤ a)
    order a = grind arith

-- the payloads before one for which there is no room
pub stops_at : (list : List (List ℕ)) (i end : ℕ) (p file : List ℕ) → p ≡ get_or list i [] → end ≡ begin_of list i → Holds (take i list) end file → IsFilled end file → IsShort file end (length p) → StopsAt list i file
stops_at list i end p file is at h f short = record {
  holds = subst (λ (e : ℕ). Holds (take i list) e file) at h;
  filled = subst (λ (e : ℕ). IsFilled e file) at f;
  short = subst (λ (q : List ℕ). IsShort file (begin_of list i) (length q)) is (subst (λ (e : ℕ). IsShort file e (length p)) at short);
}
