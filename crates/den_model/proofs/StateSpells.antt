-- The words of the journal and of the state's regions: what is written is read again, and what is read was written
-- so.
use Rattle.std.proofs.Common.{◌≡◌, ℕ, suc, ◌<◌, ◌≤◌, Bool, true, List, [], ◌∷◌, ◌++◌, length, Option, Some, refl, sym, ap, subst, ◌∙◌, append_assoc, inl, inr, arith}
use Rattle.std.specs.Prelude.{◌&&◌, ◌==◌, nat_le}
use Rattle.std.proofs.lemmas.Bool.{eqb-true, le-leb, leb-true, and_parts}
use Rattle.std.proofs.lemmas.List.{append-nil, nil_from_length}
use Rattle.den_model.specs.declared.journal.JournalRecord.{JournalRecord}
use Rattle.den_model.specs.declared.journal.JournalRecord.TheVariants as record'
use Rattle.den_model.specs.declared.region.StateRegion.{StateRegion}
use Rattle.den_model.specs.declared.region.StateRegion.TheVariants as state
use Rattle.den_model.specs.declared.region.StoredPair.{StoredPair}
use Rattle.den_model.specs.Spelling.{u64_word, list_word, record_fields, record_word, pair_word, state_region_word}
use Rattle.den_model.specs.Words.{IsBytes, FitsU64, FitsBlob, FitsList, FitsRecord, FitsPair, FitsStateRegion}
use Rattle.den_model.specs.Reading.{done_if, no_word, is_empty, record_of, record_at, pair_at, begin_at, pairs_at, records_at, mark_at, state_region_at}
use Rattle.den_model.proofs.Spells.{Spells, itself, no_none, done_if_some, chosen, spells_done, spells_then, spells_as, spells_u64, spells_blob, spells_list}
use Rattle.den_model.proofs.LogSpells.{Known}
use Rattle.den_model.proofs.RequestSpells.{spells_byte}
use Rattle.den_model.proofs.Tagged.{behind_none, behind_spelled, behind_or}

-- ---- the fields of a record

abbrev pub index_of : JournalRecord → ℕ
index_of (record'.Noop index term) = index
index_of (record'.Insert index term key value expiry) = index
index_of (record'.Delete index term key) = index
index_of (record'.CasFailed index term) = index
index_of (record'.Cleanup moment) = 0

abbrev pub term_of : JournalRecord → ℕ
term_of (record'.Noop index term) = term
term_of (record'.Insert index term key value expiry) = term
term_of (record'.Delete index term key) = term
term_of (record'.CasFailed index term) = term
term_of (record'.Cleanup moment) = 0

abbrev pub opcode_of : JournalRecord → ℕ
opcode_of (record'.Noop index term) = 0
opcode_of (record'.Insert index term key value expiry) = 1
opcode_of (record'.Delete index term key) = 2
opcode_of (record'.CasFailed index term) = 5
opcode_of (record'.Cleanup moment) = 6

abbrev pub key_of : JournalRecord → List ℕ
key_of (record'.Noop index term) = []
key_of (record'.Insert index term key value expiry) = key
key_of (record'.Delete index term key) = key
key_of (record'.CasFailed index term) = []
key_of (record'.Cleanup moment) = []

abbrev pub value_of : JournalRecord → List ℕ
value_of (record'.Noop index term) = []
value_of (record'.Insert index term key value expiry) = value
value_of (record'.Delete index term key) = []
value_of (record'.CasFailed index term) = []
value_of (record'.Cleanup moment) = []

abbrev pub expiry_of : JournalRecord → ℕ
expiry_of (record'.Noop index term) = 0
expiry_of (record'.Insert index term key value expiry) = expiry
expiry_of (record'.Delete index term key) = 0
expiry_of (record'.CasFailed index term) = 0
expiry_of (record'.Cleanup moment) = moment

-- an entry's index, and a cleanup's moment, is at least 1
abbrev pub IsPlaced : JournalRecord → Type 0
IsPlaced (record'.Noop index term) = 1 ≤ index
IsPlaced (record'.Insert index term key value expiry) = 1 ≤ index
IsPlaced (record'.Delete index term key) = 1 ≤ index
IsPlaced (record'.CasFailed index term) = 1 ≤ index
IsPlaced (record'.Cleanup moment) = 1 ≤ moment

-- the record has these fields
abbrev IsMade : ℕ → ℕ → ℕ → List ℕ → List ℕ → ℕ → JournalRecord → Type 0
IsMade index term opcode key value expiry r =
    IsPlaced r × ((((((Known r × (index_of r ≡ index)) × (term_of r ≡ term)) × (opcode_of r ≡ opcode)) × (key_of r ≡ key)) × (value_of r ≡ value)) × (expiry_of r ≡ expiry))

record_again : (r : JournalRecord) (rest : List ℕ) → IsPlaced r → record_of (index_of r) (term_of r) (opcode_of r) (key_of r) (value_of r) (expiry_of r) rest ≡ Some (r, rest)
unfolding record_of
record_again (record'.Noop index term) rest h = rw (le-leb 1 index h) refl
record_again (record'.Insert index term key value expiry) rest h = rw (le-leb 1 index h) refl
record_again (record'.Delete index term key) rest h = rw (le-leb 1 index h) refl
record_again (record'.CasFailed index term) rest h = rw (le-leb 1 index h) refl
record_again (record'.Cleanup moment) rest h = rw (le-leb 1 moment h) refl

no_bytes : (bytes : List ℕ) → is_empty bytes ≡ true → [] ≡ bytes
no_bytes bytes h = sym (nil_from_length bytes (eqb-true (length bytes) 0 h))

-- a record that passed its test
passed : (P : JournalRecord → Type 0) (test : Bool) (v : JournalRecord) (bytes : List ℕ) (y : JournalRecord) (rest : List ℕ) → (test ≡ true → P v) → done_if test v bytes ≡ Some (y, rest) → (bytes ≡ rest) × P y
passed P test v bytes y rest fine e =
    let g = done_if_some test v bytes (y, rest) e in
    (ap (λ (p : JournalRecord × List ℕ). p.1) g.1, subst P (ap (λ (p : JournalRecord × List ℕ). p.0) g.1) (fine g.0))

record_made : (index term opcode : ℕ) (key value : List ℕ) (expiry : ℕ) (bytes : List ℕ) (y : JournalRecord) (rest : List ℕ) → record_of index term opcode key value expiry bytes ≡ Some (y, rest) → (bytes ≡ rest) × IsMade index term opcode key value expiry y
unfolding record_of
record_made index term opcode key value expiry bytes y rest e =
    let P : JournalRecord → Type 0 = IsMade index term opcode key value expiry in
    let z : Option (JournalRecord × List ℕ) = Some (y, rest) in
    let entry = nat_le 1 index in
    let bare = entry && is_empty key && is_empty value in
    let code : (n : ℕ) → (opcode == n) ≡ true → n ≡ opcode = λ n p. sym (eqb-true opcode n p) in
    elim (chosen (opcode == 0) _ _ bytes z e) [
      | inl p ↦ passed P (bare && expiry == 0) (record'.Noop index term) bytes y rest
          (λ t. let a = and_parts bare (expiry == 0) t in let b = and_parts (entry && is_empty key) (is_empty value) a.0 in let c = and_parts entry (is_empty key) b.0 in
          (leb-true 1 index c.0, ((((((tt, refl), refl), code 0 p.0), no_bytes key c.1), no_bytes value b.1), sym (eqb-true expiry 0 a.1)))) p.1
      | inr p ↦ elim (chosen (opcode == 1) _ _ bytes z p.1) [
        | inl q ↦ passed P entry (record'.Insert index term key value expiry) bytes y rest
            (λ t. (leb-true 1 index t, ((((((tt, refl), refl), code 1 q.0), refl), refl), refl))) q.1
        | inr q ↦ elim (chosen (opcode == 2) _ _ bytes z q.1) [
          | inl r ↦ passed P (entry && is_empty value && expiry == 0) (record'.Delete index term key) bytes y rest
              (λ t. let a = and_parts (entry && is_empty value) (expiry == 0) t in let b = and_parts entry (is_empty value) a.0 in
              (leb-true 1 index b.0, ((((((tt, refl), refl), code 2 r.0), refl), no_bytes value b.1), sym (eqb-true expiry 0 a.1)))) r.1
          | inr r ↦ elim (chosen (opcode == 5) _ _ bytes z r.1) [
            | inl s ↦ passed P (bare && expiry == 0) (record'.CasFailed index term) bytes y rest
                (λ t. let a = and_parts bare (expiry == 0) t in let b = and_parts (entry && is_empty key) (is_empty value) a.0 in let c = and_parts entry (is_empty key) b.0 in
                (leb-true 1 index c.0, ((((((tt, refl), refl), code 5 s.0), no_bytes key c.1), no_bytes value b.1), sym (eqb-true expiry 0 a.1)))) s.1
            | inr s ↦ elim (chosen (opcode == 6) _ no_word bytes z s.1) [
              | inl u ↦ passed P (index == 0 && term == 0 && is_empty key && is_empty value && nat_le 1 expiry) (record'.Cleanup expiry) bytes y rest
                  (λ t. let a = and_parts (index == 0 && term == 0 && is_empty key && is_empty value) (nat_le 1 expiry) t in
                  let b = and_parts (index == 0 && term == 0 && is_empty key) (is_empty value) a.0 in
                  let c = and_parts (index == 0 && term == 0) (is_empty key) b.0 in
                  let d = and_parts (index == 0) (term == 0) c.0 in
                  (leb-true 1 expiry a.1, ((((((tt, sym (eqb-true index 0 d.0)), sym (eqb-true term 0 d.1)), code 6 u.0), no_bytes key c.1), no_bytes value b.1), refl))) u.1
              | inr u ↦ absurd (no_none (y, rest) u.1)
            ]
          ]
        ]
      ]
    ]

spells_record_of : (index term opcode : ℕ) (key value : List ℕ) (expiry : ℕ) → Spells itself (IsMade index term opcode key value expiry) (λ _. []) (record_of index term opcode key value expiry)
spells_record_of index term opcode key value expiry = record {
  again = λ r rest h.
      let k = h.1 in
      (λ i. record_of (sym k.0.0.0.0.0.1 i) (sym k.0.0.0.0.1 i) (sym k.0.0.0.1 i) (sym k.0.0.1 i) (sym k.0.1 i) (sym k.1 i) rest) ∙ record_again r rest h.0;
  found = λ bytes y rest h e.
      let t = record_made index term opcode key value expiry bytes y rest e in
      (y, refl, t.0, t.1);
}

-- what fits, field by field
abbrev FitsFields : JournalRecord → Type 0
FitsFields r = (FitsU64 (index_of r) × (FitsU64 (term_of r) × ((opcode_of r < 256) × (FitsBlob (key_of r) × (FitsBlob (value_of r) × (FitsU64 (expiry_of r) × IsPlaced r)))))) × Known r

fields_fit : (r : JournalRecord) → FitsRecord r → FitsFields r
fields_fit (record'.Noop index term) h = ((h.1, (h.2, (omega arith, (omega arith, (omega arith, (omega arith, h.0)))))), tt)
fields_fit (record'.Insert index term key value expiry) h = ((h.0.1, (h.0.2, (omega arith, (h.1, (h.2, (h.3, h.0.0)))))), tt)
fields_fit (record'.Delete index term key) h = ((h.0.1, (h.0.2, (omega arith, (h.1, (omega arith, (omega arith, h.0.0)))))), tt)
fields_fit (record'.CasFailed index term) h = ((h.1, (h.2, (omega arith, (omega arith, (omega arith, (omega arith, h.0)))))), tt)
fields_fit (record'.Cleanup moment) h = ((omega arith, (omega arith, (omega arith, (omega arith, (omega arith, (h.1, h.0)))))), tt)

fits_again : (r : JournalRecord) → FitsFields r → FitsRecord r
fits_again (record'.Noop index term) h = (h.0.1.1.1.1.1.1, h.0.0, h.0.1.0)
fits_again (record'.Insert index term key value expiry) h = ((h.0.1.1.1.1.1.1, h.0.0, h.0.1.0), h.0.1.1.1.0, h.0.1.1.1.1.0, h.0.1.1.1.1.1.0)
fits_again (record'.Delete index term key) h = ((h.0.1.1.1.1.1.1, h.0.0, h.0.1.0), h.0.1.1.1.0)
fits_again (record'.CasFailed index term) h = (h.0.1.1.1.1.1.1, h.0.0, h.0.1.0)
fits_again (record'.Cleanup moment) h = (h.0.1.1.1.1.1.1, h.0.1.1.1.1.1.0)

by_fields : (r : JournalRecord) → record_word r ≡ record_fields (index_of r) (term_of r) (opcode_of r) (key_of r) (value_of r) (expiry_of r)
by_fields (record'.Noop index term) = refl
by_fields (record'.Insert index term key value expiry) = refl
by_fields (record'.Delete index term key) = refl
by_fields (record'.CasFailed index term) = refl
by_fields (record'.Cleanup moment) = refl

pub spells_record : Spells itself FitsRecord record_word record_at
unfolding record_at
spells_record =
    spells_as (spells_then spells_u64 {known = Known} index_of (λ index _. spells_then spells_u64 term_of (λ term _. spells_then spells_byte opcode_of (λ opcode _. spells_then spells_blob key_of (λ key _. spells_then spells_blob value_of (λ value _. spells_then spells_u64 expiry_of (λ expiry _.
    spells_record_of index term opcode key value expiry))))))) fields_fit fits_again (λ r. by_fields r ∙ simp (append_assoc, append-nil) refl)

-- ---- pairs and regions

pub spells_pair : Spells itself FitsPair pair_word pair_at
unfolding pair_at
spells_pair =
    spells_as (spells_then spells_blob {known = Known} (λ (p : StoredPair). p.key) (λ key _. spells_then spells_blob (λ p. p.value) (λ value _. spells_then spells_u64 (λ p. p.term) (λ term _. spells_then spells_u64 (λ p. p.expiry) (λ expiry _.
    spells_done (record { key = key; value = value; term = term; expiry = expiry }) (λ x h i. record { key = h.0.0.0.1 i; value = h.0.0.1 i; term = h.0.1 i; expiry = h.1 i }) ((((tt, refl), refl), refl), refl))))))
    (λ p h. ((h.0, (h.1, (h.2, (h.3, tt)))), tt)) (λ p h. (h.0.0, h.0.1.0, h.0.1.1.0, h.0.1.1.1.0)) (λ p. simp (append_assoc, append-nil) refl)

abbrev begun : ℕ × ℕ → StateRegion
begun p = state.Begin p.0 p.1

abbrev marked_at : ℕ × ℕ → StateRegion
marked_at p = state.Mark p.0 p.1

abbrev FitsMark : ℕ × ℕ → Type 0
FitsMark p = FitsU64 p.0 × FitsU64 p.1

abbrev mark_word : ℕ × ℕ → List ℕ
mark_word p = u64_word p.0 ++ u64_word p.1

spells_begin : Spells begun FitsMark mark_word begin_at
unfolding begin_at
spells_begin =
    spells_as (spells_then spells_u64 {known = Known} (λ (p : ℕ × ℕ). p.0) (λ index _. spells_then spells_u64 (λ p. p.1) (λ term _.
    spells_done (index, term) (λ x h i. (h.0.1 i, h.1 i)) ((tt, refl), refl))))
    (λ p h. ((h.0, (h.1, tt)), tt)) (λ p h. (h.0.0, h.0.1.0)) (λ p. simp append-nil refl)

spells_mark : Spells marked_at FitsMark mark_word mark_at
unfolding mark_at
spells_mark =
    spells_as (spells_then spells_u64 {known = Known} (λ (p : ℕ × ℕ). p.0) (λ index _. spells_then spells_u64 (λ p. p.1) (λ term _.
    spells_done (index, term) (λ x h i. (h.0.1 i, h.1 i)) ((tt, refl), refl))))
    (λ p h. ((h.0, (h.1, tt)), tt)) (λ p h. (h.0.0, h.0.1.0)) (λ p. simp append-nil refl)

spells_pairs : Spells state.Pairs (FitsList FitsPair) (list_word pair_word) pairs_at
unfolding pairs_at
spells_pairs =
    spells_as (spells_then (spells_list spells_pair) {known = Known} (λ ps. ps) (λ ps _. spells_done ps (λ x h. h.1) (tt, refl)))
    (λ ps h. ((h, tt), tt)) (λ ps h. h.0.0) (λ ps. sym (append-nil (list_word pair_word ps)))

spells_records : Spells state.Records (FitsList FitsRecord) (list_word record_word) records_at
unfolding records_at
spells_records =
    spells_as (spells_then (spells_list spells_record) {known = Known} (λ rs. rs) (λ rs _. spells_done rs (λ x h. h.1) (tt, refl)))
    (λ rs h. ((h, tt), tt)) (λ rs h. h.0.0) (λ rs. sym (append-nil (list_word record_word rs)))

region_again : (r : StateRegion) (rest : List ℕ) → FitsStateRegion r → state_region_at (state_region_word r ++ rest) ≡ Some (r, rest)
unfolding state_region_at
region_again (state.Begin index term) rest h = spells_begin.again (index, term) rest h
region_again (state.Pairs pairs) rest h = spells_pairs.again pairs rest h
region_again (state.Records records) rest h = spells_records.again records rest h
region_again (state.Mark index term) rest h = spells_mark.again (index, term) rest h

region_found : (bytes : List ℕ) (y : StateRegion) (rest : List ℕ) → IsBytes bytes → state_region_at bytes ≡ Some (y, rest) → (r : StateRegion) × (y ≡ r) × (bytes ≡ state_region_word r ++ rest) × FitsStateRegion r
unfolding state_region_at
region_found [] y rest h e = absurd (no_none (y, rest) e)
region_found (tag ∷ bytes) y rest h e =
    let b = behind_or {fits = FitsStateRegion} {word = state_region_word} tag 1 (behind_spelled 1 spells_begin (λ x f. f) (λ x. refl))
    (behind_or tag 2 (behind_spelled 2 spells_pairs (λ x f. f) (λ x. refl))
    (behind_or tag 3 (behind_spelled 3 spells_records (λ x f. f) (λ x. refl))
    (behind_or tag 4 (behind_spelled 4 spells_mark (λ x f. f) (λ x. refl)) (behind_none tag)))) in
    let t = b.found bytes y rest (λ i. h (suc i)) e in
    (y, refl, t.0, t.1)

pub spells_state_region : Spells itself FitsStateRegion state_region_word state_region_at
spells_state_region = record { again = region_again; found = region_found }
