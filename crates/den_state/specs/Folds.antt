-- The state's regions, as a fold.
use Rattle.std.specs.Prelude.{Bool, true, false, IsTrue, IfOk, if◌then◌else◌, ◌≡◌, ℕ, ◌+◌, ◌*◌, ◌≤◌, List, [], ◌∷◌, length, Option, Some, None, Result, Ok, Err, refl}
use Rattle.std.proofs.Common.{ap, ◌∙◌, sym, arith}
use Rattle.den_disk.specs.declared.place.Family.TheVariants as family
use Rattle.den_disk.specs.Files.{Files}
use Rattle.den_model.specs.declared.region.StateRegion.{StateRegion}
use Rattle.den_model.specs.MapState.{MapState, empty_map, map_after, map_after_payload, map_from}
use Rattle.den_model.specs.Regions.{Region, regions}
use Rattle.den_model.specs.Image.{ok, slot_of, meaning_of, in_regions, map_in}
use Rattle.den_model.specs.Spelling.{state_region_word}
use Rattle.den_model.specs.Words.{FitsStateRegion}
use Rattle.den_model.proofs.RoundTrips.{state_region_again}
use Rattle.den_map.specs.Sizes.{pairs_size}
use Rattle.den_map.proofs.Sizing.{region_sized}
use Rattle.den_map.specs.Tail.{tail_after, tail_after_payload}
use Rattle.den_journal.specs.Folding.{IsFold}
use Rattle.den_journal.specs.Shown.{held_in}
use Rattle.den_state.specs.Stored.{Stored, nothing_stored, stored_after, stored_from, stored_by, map_by, IsLawful}

pub stored_fold : IsFold stored_after stored_from
unfolding stored_from
stored_fold = record {
  stays = λ s. refl;
  goes_on = λ s n r rs is. ap (λ (o : Option Stored). elim o [ None ↦ Err r.offset | Some m ↦ stored_from m rs ]) is;
  stops = λ s r rs is. ap (λ (o : Option Stored). elim o [ None ↦ Err r.offset | Some m ↦ stored_from m rs ]) is;
}

-- what one payload gives
pub after_lawful : (s : Stored) (payload : List ℕ) (m : MapState) (tail : ℕ) → map_after_payload s.map payload ≡ Some m → tail ≡ tail_after_payload s.tail payload → stored_after s payload ≡ Some (record { map = m; tail = tail })
unfolding stored_after
after_lawful s payload m tail is counted =
    ap (λ (o : Option MapState). elim o [ None ↦ None | Some n ↦ Some (record { map = n; tail = tail_after_payload s.tail payload }) ]) is ∙ ap (λ (t : ℕ). Some (record { map = m; tail = t })) (sym counted)

pub stored_unlawful : (s : Stored) (payload : List ℕ) → map_after_payload s.map payload ≡ None → stored_after s payload ≡ None
unfolding stored_after
stored_unlawful s payload is = ap (λ (o : Option MapState). elim o [ None ↦ None | Some n ↦ Some (record { map = n; tail = tail_after_payload s.tail payload }) ]) is

-- what a map that took a payload on gives
pub payload_taken : {E : Type 0} (s : Stored) (payload : List ℕ) (m : MapState) (tail : ℕ) (r : Result Bool E) → IfOk r (λ b. map_after_payload s.map payload ≡ (if b then Some m else None)) → IfOk r (λ b. IsTrue b → tail ≡ tail_after_payload s.tail payload)
    → IfOk r (λ b. stored_after s payload ≡ (if b then Some (record { map = m; tail = tail }) else None))
payload_taken s payload m tail (Ok true) is counted = after_lawful s payload m tail is (counted refl)
payload_taken s payload m tail (Ok false) is counted = stored_unlawful s payload is
payload_taken s payload m tail (Err e) is counted = tt

-- the word of a region is read as it
word_map : (m : MapState) (r : StateRegion) → FitsStateRegion r → map_after_payload m (state_region_word r) ≡ map_after m r
unfolding map_after_payload
word_map m r fits = ap (λ (o : Option StateRegion). elim o [ None ↦ None | Some x ↦ map_after m x ]) (state_region_again r fits)

word_tail : (tail : ℕ) (r : StateRegion) → FitsStateRegion r → tail_after_payload tail (state_region_word r) ≡ tail_after tail r
unfolding tail_after_payload
word_tail tail r fits = ap (λ (o : Option StateRegion). elim o [ None ↦ tail | Some x ↦ tail_after tail x ]) (state_region_again r fits)

pub stored_again : (s : Stored) (r : StateRegion) → IsLawful s r → FitsStateRegion r → stored_after s (state_region_word r) ≡ Some (stored_by s r)
stored_again s r lawful fits = after_lawful s (state_region_word r) (map_by s.map (map_after s.map r)) (tail_after s.tail r) (word_map s.map r fits ∙ lawful) (sym (word_tail s.tail r fits))

pub stored_rises : (r : StateRegion) → 9 + 2 * length (state_region_word r) ≤ 9 + 2 * length (state_region_word r)
stored_rises r = omega arith

-- a region makes no pairs greater by more than its word
pub stored_sized : (s : Stored) (r : StateRegion) → IsLawful s r → pairs_size (stored_by s r).map.pairs ≤ pairs_size s.map.pairs + length (state_region_word r)
stored_sized s r lawful = region_sized s.map (map_by s.map (map_after s.map r)) r lawful

-- ---- the map alone

abbrev pub map_of : Result Stored ℕ → Result MapState ℕ
map_of (Ok s) = Ok s.map
map_of (Err offset) = Err offset

map_stops : (m : MapState) (r : Region) (rs : List Region) → map_after_payload m r.payload ≡ None → map_from m (r ∷ rs) ≡ Err r.offset
unfolding map_from
map_stops m r rs is = ap (λ (o : Option MapState). elim o [ None ↦ Err r.offset | Some n ↦ map_from n rs ]) is

map_goes_on : (m next : MapState) (r : Region) (rs : List Region) → map_after_payload m r.payload ≡ Some next → map_from m (r ∷ rs) ≡ map_from next rs
unfolding map_from
map_goes_on m next r rs is = ap (λ (o : Option MapState). elim o [ None ↦ Err r.offset | Some n ↦ map_from n rs ]) is

map_step : (s : Stored) (r : Region) (rs : List Region) → ((n : Stored) → map_from n.map rs ≡ map_of (stored_from n rs)) → (o : Option MapState) → map_after_payload s.map r.payload ≡ o → map_from s.map (r ∷ rs) ≡ map_of (stored_from s (r ∷ rs))
map_step s r rs rest None is = map_stops s.map r rs is ∙ sym (ap map_of (stored_fold.stops s r rs (stored_unlawful s r.payload is)))
map_step s r rs rest (Some m) is =
    let n : Stored = record { map = m; tail = tail_after_payload s.tail r.payload } in
    map_goes_on s.map m r rs is ∙ rest n ∙ sym (ap map_of (stored_fold.goes_on s n r rs (after_lawful s r.payload m (tail_after_payload s.tail r.payload) is refl)))

map_of_stored : (s : Stored) (rs : List Region) → map_from s.map rs ≡ map_of (stored_from s rs)
unfolding map_from stored_from
map_of_stored s [] = refl
map_of_stored s (r ∷ rs) = map_step s r rs (λ n. map_of_stored n rs) (map_after_payload s.map r.payload) refl

meaning_is : (found : Result (List Region) ℕ) → meaning_of (map_from empty_map) found ≡ map_of (meaning_of (stored_from nothing_stored) found)
meaning_is (Ok rs) = map_of_stored nothing_stored rs
meaning_is (Err offset) = refl

pub files_map : (files : Files) → map_in files ≡ map_of (in_regions family.State (stored_from nothing_stored) files)
files_map files = meaning_is (regions (files (slot_of family.State files)))

held_is : (found : Result Stored ℕ) (s : Stored) → ok found ≡ Some s → ok (map_of found) ≡ Some s.map
held_is (Ok x) s is = ap (λ (o : Option Stored). elim o [ None ↦ None | Some y ↦ Some y.map ]) is
held_is (Err offset) s is = absurd (cc is)

-- files that give it give its map
pub held_map : (files : Files) (s : Stored) → (held_in family.State (stored_from nothing_stored)).of files ≡ Some s → ok (map_in files) ≡ Some s.map
held_map files s is = ap ok (files_map files) ∙ held_is (in_regions family.State (stored_from nothing_stored) files) s is

pub given_map : (files : Files) (s : Stored) → in_regions family.State (stored_from nothing_stored) files ≡ Ok s → map_in files ≡ Ok s.map
given_map files s is = files_map files ∙ ap map_of is

pub given_place : (files : Files) (offset : ℕ) → in_regions family.State (stored_from nothing_stored) files ≡ Err offset → map_in files ≡ Err offset
given_place files offset is = files_map files ∙ ap map_of is
