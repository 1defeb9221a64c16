-- What the pairs of a map take, after a region: no more than before it and the region's word.
use Rattle.std.proofs.Common.{◌≡◌, ℕ, ◌+◌, ◌≤◌, Bool, true, false, not, cond, filter, List, [], ◌∷◌, length, Some, None, Result, Ok, Err, nat_lt, nat_le, if◌then◌else◌, refl, sym, ap, ◌∙◌, length-append, arith}
use Rattle.std.specs.Prelude.{OnOk}
use Rattle.std.specs.List.{flat_map}
use Rattle.std.specs.Ordering.{match_ordering}
use Rattle.std.specs.declared.cmp.Ordering.TheVariants.{Less, Equal, Greater}
use Rattle.den_model.specs.declared.held.Held.{Held}
use Rattle.den_model.specs.declared.journal.JournalRecord.{JournalRecord}
use Rattle.den_model.specs.declared.journal.JournalRecord.TheVariants.{Noop, Insert, Delete, CasFailed, Cleanup}
use Rattle.den_model.specs.declared.region.StateRegion.{StateRegion}
use Rattle.den_model.specs.declared.region.StateRegion.TheVariants.{Begin, Pairs, Records, Mark}
use Rattle.den_model.specs.declared.region.StoredPair.{StoredPair}
use Rattle.den_model.specs.Apply.{is_expired, kept_pairs, kept_expiries}
use Rattle.den_model.specs.MapState.{MapState, with_stored, with_pairs, marked, map_after_record, map_after_records, map_after, map_after_payload}
use Rattle.den_model.specs.Reading.{state_region_in}
use Rattle.den_model.specs.Spelling.{u64_word, record_fields, record_word, state_region_word}
use Rattle.den_model.specs.Table.{Table, by_bytes, is_same, set, unset}
use Rattle.den_model.specs.Words.{FitsStateRegion, IsBytes, IsWordBy}
use Rattle.den_model.proofs.Numbers.{length_u64_word}
use Rattle.den_model.proofs.Spells.{word_iff}
use Rattle.den_model.proofs.StateSpells.{spells_state_region}
use Rattle.den_map.specs.Fold.{Folds}
use Rattle.den_map.specs.declared.fold.FoldError.{FoldError}
use Rattle.den_map.specs.Sizes.{pair_size, pairs_size, stored_size}
use Rattle.den_map.proofs.Folding.{first_record, on_records}
use Rattle.den_map.proofs.Paging.{page_long}

-- ---- tables

pub size_set : (t : Table Held) (k : List ℕ) (held : Held) → pairs_size (set t k held) ≤ pairs_size t + pair_size k held.value
size_set [] k held = omega arith
size_set (e ∷ es) k held =
    elim (by_bytes k e.0) as (λ o. pairs_size (match_ordering o ((k, held) ∷ e ∷ es) ((e.0, held) ∷ es) (e ∷ set es k held)) ≤ pairs_size (e ∷ es) + pair_size k held.value) [
      | Less ↦ omega arith
      | Equal ↦ omega arith
      | Greater ↦ let rest = size_set es k held in omega arith
    ]

pub size_unset : (t : Table Held) (k : List ℕ) → pairs_size (unset t k) ≤ pairs_size t
size_unset [] k = omega arith
size_unset (e ∷ es) k =
    elim (is_same k e.0) as (λ b. pairs_size (cond b es (e ∷ unset es k)) ≤ pairs_size (e ∷ es)) [
      | true ↦ omega arith
      | false ↦ let rest = size_unset es k in omega arith
    ]

pub size_kept : (p : List ℕ × Held → Bool) (t : Table Held) → pairs_size (filter p t) ≤ pairs_size t
size_kept p [] = omega arith
size_kept p (e ∷ es) =
    let rest = size_kept p es in
    elim (p e) as (λ b. pairs_size (cond b (e ∷ filter p es) (filter p es)) ≤ pairs_size (e ∷ es)) [ true ↦ omega arith | false ↦ omega arith ]

-- ---- pairs

pub size_with : (s : MapState) (ps : List StoredPair) → pairs_size (with_pairs s ps).pairs ≤ pairs_size s.pairs + stored_size ps
size_with s [] = omega arith
size_with s (p ∷ ps) =
    let first = size_set s.pairs p.key (record { value = p.value; term = p.term }) in
    let rest = size_with (with_stored s p.key p.value p.term p.expiry) ps in
    omega arith

-- ---- records

record_long : (index term opcode : ℕ) (key value : List ℕ) (expiry : ℕ) → length (record_fields index term opcode key value expiry) ≡ 9 + pair_size key value
record_long index term opcode key value expiry = simp (length-append, length_u64_word) (omega arith)

marked_pairs : (s : MapState) (index term : ℕ) (after n : MapState) → marked s index term after ≡ Some n → after.pairs ≡ n.pairs
marked_pairs s index term after n is =
    elim (nat_lt s.mark.index index) as (λ b. (if b then Some (record after { mark = record { index = index; term = term } }) else None) ≡ Some n → after.pairs ≡ n.pairs) [
      | true ↦ λ h. let same : record after { mark = record { index = index; term = term } } ≡ n = cc in ap (λ (m : MapState). m.pairs) same
      | false ↦ λ h. cc
    ] is

size_record : (s n : MapState) (r : JournalRecord) → map_after_record s r ≡ Some n → pairs_size n.pairs ≤ pairs_size s.pairs + length (record_word r)
unfolding map_after_record
size_record s n (Noop index term) is = let same = ap pairs_size (marked_pairs s index term s n is) in omega arith
size_record s n (Insert index term key value expiry) is =
    let same = ap pairs_size (marked_pairs s index term (with_stored s key value term expiry) n is) in
    let more = size_set s.pairs key (record { value = value; term = term }) in
    let long = record_long index term 1 key value expiry in
    omega arith
size_record s n (Delete index term key) is =
    let same = ap pairs_size (marked_pairs s index term (record s { pairs = unset s.pairs key; expiries = unset s.expiries key }) n is) in
    let less = size_unset s.pairs key in
    omega arith
size_record s n (CasFailed index term) is = let same = ap pairs_size (marked_pairs s index term s n is) in omega arith
size_record s n (Cleanup moment) is =
    let same : ◌≡◌ {A = MapState} (record s { pairs = kept_pairs s.expiries moment s.pairs; expiries = kept_expiries moment s.expiries }) n = cc in
    let size = ap (λ (m : MapState). pairs_size m.pairs) same in
    let less = size_kept (λ p. not (is_expired s.expiries moment p.0)) s.pairs in
    omega arith

pub size_records : (s n : MapState) (rs : List JournalRecord) → map_after_records s rs ≡ Some n → pairs_size n.pairs ≤ pairs_size s.pairs + length (flat_map record_word rs)
unfolding map_after_records on_records
size_records s n [] is = let same : s ≡ n = cc in let size = ap (λ (m : MapState). pairs_size m.pairs) same in omega arith
size_records s n (r ∷ rs) is =
    elim (map_after_record s r) as (λ o. map_after_record s r ≡ o → on_records o rs ≡ Some n → pairs_size n.pairs ≤ pairs_size s.pairs + length (flat_map record_word (r ∷ rs))) [
      | None ↦ λ first h. cc
      | Some after ↦ λ first h.
          let one = size_record s after r first in
          let rest = size_records after n rs h in
          let both = length-append (record_word r) (flat_map record_word rs) in
          omega arith
    ] refl (sym (first_record s r rs) ∙ is)

-- ---- regions

-- a region makes the pairs no longer than its word
pub region_sized : (s n : MapState) (r : StateRegion) → map_after s r ≡ Some n → pairs_size n.pairs ≤ pairs_size s.pairs + length (state_region_word r)
unfolding map_after
region_sized s n (Begin index term) is =
    let same : ◌≡◌ {A = MapState} (record { pairs = []; expiries = []; mark = record { index = index; term = term } }) n = cc in
    let size = ap (λ (m : MapState). pairs_size m.pairs) same in omega arith
region_sized s n (Pairs pairs) is =
    let same : with_pairs s pairs ≡ n = cc in
    let size = ap (λ (m : MapState). pairs_size m.pairs) same in
    let more = size_with s pairs in
    let long = page_long pairs in
    omega arith
region_sized s n (Records records) is =
    let more = size_records s n records is in
    let long = length-append (u64_word (length records)) (flat_map record_word records) in
    omega arith
region_sized s n (Mark index term) is =
    elim (nat_le s.mark.index index) as (λ b. (if b then Some (record s { mark = record { index = index; term = term } }) else None) ≡ Some n → pairs_size n.pairs ≤ pairs_size s.pairs + length (state_region_word (Mark index term))) [
      | true ↦ λ h.
          let same : ◌≡◌ {A = MapState} (record s { mark = record { index = index; term = term } }) n = cc in
          let size = ap (λ (m : MapState). pairs_size m.pairs) same in omega arith
      | false ↦ λ h. cc
    ] is

-- the same of the payload that holds it
pub payload_sized : (s n : MapState) (r : StateRegion) (payload : List ℕ) (done : Result Unit FoldError) → Folds done (map_after s r) n → IsWordBy FitsStateRegion state_region_word payload r
    → OnOk done (pairs_size n.pairs ≤ pairs_size s.pairs + length payload)
payload_sized s n r payload (Ok u) is word = let size = region_sized s n r is in let same = ap length word.0 in omega arith
payload_sized s n r payload (Err e) is word = tt
