-- What one more record, pair or region makes of the map.
use Rattle.std.proofs.Common.{◌≡◌, ℕ, ◌+◌, ◌<◌, ◌≤◌, true, false, List, ◌∷◌, length, get_or, drop, Option, Some, None, Result, Err, nat_lt, if◌then◌else◌, refl, sym, ap, ◌∙◌}
use Rattle.std.proofs.lemmas.Bool.{le-ltb, lt-ltb}
use Rattle.std.proofs.lemmas.List.{drop_more}
use Rattle.std.proofs.Math.ListN.{drop_of_length-le}
use Rattle.den_model.specs.declared.log_id.LogId.{LogId}
use Rattle.den_model.specs.declared.journal.JournalRecord.{JournalRecord}
use Rattle.den_model.specs.declared.journal.JournalRecord.TheVariants.{Noop, Insert, Delete, CasFailed, Cleanup}
use Rattle.den_model.specs.declared.region.StoredPair.{StoredPair}
use Rattle.den_model.specs.MapState.{MapState, with_stored, with_pairs, marked, map_after_record, map_after_records}
use Rattle.den_map.specs.declared.fold.FoldError.{FoldError}
use Rattle.den_map.specs.declared.fold.FoldError.TheVariants.{Memory, Unlawful}
use Rattle.den_map.specs.Fold.{Folds, record_done, place_of}

-- ---- one record

-- a record of no entry
pub after_cleanup : (s : MapState) (r : JournalRecord) → place_of r ≡ None → map_after_record s r ≡ Some (record_done s r)
unfolding map_after_record
after_cleanup s (Noop index term) e = cc
after_cleanup s (Insert index term key value expiry) e = cc
after_cleanup s (Delete index term key) e = cc
after_cleanup s (CasFailed index term) e = cc
after_cleanup s (Cleanup moment) e = refl

-- a record of an entry is lawful where its place is above the mark
as_marked : (s : MapState) (r : JournalRecord) (place : LogId) → place_of r ≡ Some place → map_after_record s r ≡ marked s place.index place.term (record_done s r)
unfolding map_after_record
as_marked s (Noop index term) place e = let p : record { index = index; term = term } ≡ place = cc in ap (λ (q : LogId). marked s q.index q.term s) p
as_marked s (Insert index term key value expiry) place e = let p : record { index = index; term = term } ≡ place = cc in ap (λ (q : LogId). marked s q.index q.term (record_done s (Insert index term key value expiry))) p
as_marked s (Delete index term key) place e = let p : record { index = index; term = term } ≡ place = cc in ap (λ (q : LogId). marked s q.index q.term (record_done s (Delete index term key))) p
as_marked s (CasFailed index term) place e = let p : record { index = index; term = term } ≡ place = cc in ap (λ (q : LogId). marked s q.index q.term s) p
as_marked s (Cleanup moment) place e = cc

pub after_unlawful : (s : MapState) (r : JournalRecord) (place : LogId) → place_of r ≡ Some place → place.index ≤ s.mark.index → map_after_record s r ≡ None
after_unlawful s r place e below = as_marked s r place e ∙ rw (le-ltb s.mark.index place.index below) refl

pub after_lawful : (s : MapState) (r : JournalRecord) (place : LogId) → place_of r ≡ Some place → s.mark.index < place.index
    → map_after_record s r ≡ Some (record (record_done s r) { mark = place })
after_lawful s r place e above = as_marked s r place e ∙ rw (lt-ltb s.mark.index place.index above) refl

-- ---- records in order

pub front : {X : Type 0} (xs : List X) (i : ℕ) (x : X) → i < length xs → x ≡ get_or xs i x → drop i xs ≡ x ∷ drop (i + 1) xs
front {X} xs i x lt is = drop_more xs i x lt ∙ ap (λ (y : X). y ∷ drop (i + 1) xs) (sym is)

unfoldable pub on_records : Option MapState → List JournalRecord → Option MapState
on_records None rs = None
on_records (Some s) rs = map_after_records s rs

pub first_record : (s : MapState) (x : JournalRecord) (rs : List JournalRecord) → map_after_records s (x ∷ rs) ≡ on_records (map_after_record s x) rs
unfolding map_after_records on_records
first_record s x rs = elim (map_after_record s x) as (λ o. elim o [ None ↦ None | Some next ↦ map_after_records next rs ] ≡ on_records o rs) [ None ↦ refl | Some next ↦ refl ]

next_record : (s : MapState) (xs : List JournalRecord) (i : ℕ) (x : JournalRecord) (given : Option MapState) → i < length xs → x ≡ get_or xs i x → map_after_record s x ≡ given
    → map_after_records s (drop i xs) ≡ on_records given (drop (i + 1) xs)
next_record s xs i x given lt is e = ap (map_after_records s) (front xs i x lt is) ∙ first_record s x (drop (i + 1) xs) ∙ ap (λ o. on_records o (drop (i + 1) xs)) e

pub records_go_on : (s next : MapState) (xs : List JournalRecord) (i : ℕ) (x : JournalRecord) (total : Option MapState) → i < length xs → x ≡ get_or xs i x → map_after_record s x ≡ Some next
    → map_after_records s (drop i xs) ≡ total → map_after_records next (drop (i + 1) xs) ≡ total
unfolding on_records
records_go_on s next xs i x total lt is e so_far = sym (next_record s xs i x (Some next) lt is e) ∙ so_far

pub records_end : (s new : MapState) (xs : List JournalRecord) (i : ℕ) (x : JournalRecord) (total : Option MapState) (r : Result Unit FoldError) (e : FoldError) → r ≡ Err e → i < length xs → x ≡ get_or xs i x
    → Folds (Err e) (map_after_record s x) new → map_after_records s (drop i xs) ≡ total → Folds r total new
unfolding on_records
records_end s new xs i x total r Memory is_err lt is fails so_far = rw is_err tt
records_end s new xs i x total r Unlawful is_err lt is fails so_far = rw is_err (sym so_far ∙ next_record s xs i x None lt is fails)

pub records_done : (s : MapState) (xs : List JournalRecord) (i : ℕ) (total : Option MapState) → length xs ≤ i → map_after_records s (drop i xs) ≡ total → total ≡ Some s
unfolding map_after_records
records_done s xs i total le so_far = sym so_far ∙ ap (map_after_records s) (drop_of_length-le xs le)

-- ---- pairs in order
