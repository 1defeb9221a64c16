-- The payloads of a checkpoint: what they give, one by one and together, and what they take.
use Rattle.std.proofs.Common.{◌≡◌, ℕ, ◌+◌, ◌*◌, ◌≤◌, List, [], ◌∷◌, ◌++◌, length, map, Option, Some, None, Ok, Err, refl, sym, ap, ◌∙◌, length-append, append_assoc, arith}
use Rattle.std.specs.List.{AllByRecursion, flat_map}
use Rattle.std.proofs.lemmas.List.{append-nil}
use Rattle.den_model.specs.declared.held.Held.{Held}
use Rattle.den_model.specs.declared.region.StateRegion.{StateRegion}
use Rattle.den_model.specs.declared.region.StateRegion.TheVariants.{Begin, Pairs}
use Rattle.den_model.specs.declared.region.StoredPair.{StoredPair}
use Rattle.den_model.specs.MapState.{MapState, with_pairs, map_after, map_after_payload, map_from}
use Rattle.den_model.specs.Regions.{Region}
use Rattle.den_model.specs.Spelling.{state_region_word}
use Rattle.den_model.specs.Table.{Table}
use Rattle.den_model.specs.Words.{FitsStateRegion}
use Rattle.den_model.proofs.Numbers.{length_u64_word}
use Rattle.den_model.proofs.RoundTrips.{state_region_again}
use Rattle.den_map.specs.Held.{IsSound}
use Rattle.den_map.specs.Pages.{page_size, stored, stored_pairs}
use Rattle.den_map.specs.Sizes.{pages_size, pairs_size, stored_size}
use Rattle.den_map.specs.Tail.{tail_after, tail_after_payload}
use Rattle.den_map.proofs.Paging.{page_long, stored_more}
use Rattle.den_map.proofs.Rebuilding.{rebuilt, with_both}

-- ---- one by one

-- the word of a region is read as it
pub word_map : (s : MapState) (r : StateRegion) → FitsStateRegion r → map_after_payload s (state_region_word r) ≡ map_after s r
unfolding map_after_payload
word_map s r fits = ap (λ (o : Option StateRegion). elim o [ None ↦ None | Some x ↦ map_after s x ]) (state_region_again r fits)

pub word_tail : (tail : ℕ) (r : StateRegion) → FitsStateRegion r → tail_after_payload tail (state_region_word r) ≡ tail_after tail r
unfolding tail_after_payload
word_tail tail r fits = ap (λ (o : Option StateRegion). elim o [ None ↦ tail | Some x ↦ tail_after tail x ]) (state_region_again r fits)

-- a beginning leaves nothing of what was before it
pub begin_map : (s : MapState) (index term : ℕ) → FitsStateRegion (Begin index term)
    → map_after_payload s (state_region_word (Begin index term)) ≡ Some (record { pairs = []; expiries = []; mark = record { index = index; term = term } })
unfolding map_after
begin_map s index term fits = word_map s (Begin index term) fits

pub page_map : (s : MapState) (page : List StoredPair) → FitsStateRegion (Pairs page) → map_after_payload s (state_region_word (Pairs page)) ≡ Some (with_pairs s page)
unfolding map_after
page_map s page fits = word_map s (Pairs page) fits

-- ---- together

-- the pairs of pages in order
abbrev pub pairs_of : List (List StoredPair) → List StoredPair
pairs_of pages = flat_map (λ page. page) pages

abbrev pub EachFits : List (List StoredPair) → Type 0
EachFits pages = AllByRecursion (λ page. FitsStateRegion (Pairs page)) pages

-- one page more
pub pairs_push : (pages : List (List StoredPair)) (page : List StoredPair) → pairs_of (pages ++ page ∷ []) ≡ pairs_of pages ++ page
pairs_push [] page = append-nil page
pairs_push (first ∷ pages) page = ap (λ (ps : List StoredPair). first ++ ps) (pairs_push pages page) ∙ sym (append_assoc first (pairs_of pages) page)

map_on : (s next : MapState) (r : Region) (rs : List Region) → map_after_payload s r.payload ≡ Some next → map_from s (r ∷ rs) ≡ map_from next rs
unfolding map_from
map_on s next r rs is = ap (λ (o : Option MapState). elim o [ None ↦ Err r.offset | Some n ↦ map_from n rs ]) is

pages_from : (s : MapState) (pages : List (List StoredPair)) (rs : List Region) → EachFits pages → map (λ (r : Region). r.payload) rs ≡ map (λ page. state_region_word (Pairs page)) pages
    → map_from s rs ≡ Ok (with_pairs s (pairs_of pages))
unfolding map_from
pages_from s [] [] fits is = refl
pages_from s [] (r ∷ rs) fits is = absurd (cc is)
pages_from s (page ∷ pages) [] fits is = absurd (cc is)
pages_from s (page ∷ pages) (r ∷ rs) fits is =
    let first : r.payload ≡ state_region_word (Pairs page) = cc in
    let rest : map (λ (q : Region). q.payload) rs ≡ map (λ page. state_region_word (Pairs page)) pages = cc in
    map_on s (with_pairs s page) r rs (ap (map_after_payload s) first ∙ page_map s page fits.0)
    ∙ pages_from (with_pairs s page) pages rs fits.1 rest
    ∙ ap (λ (m : MapState). Ok m) (with_both s page (pairs_of pages))

-- ---- what they take

pub begin_long : (index term : ℕ) → length (state_region_word (Begin index term)) ≡ 17
begin_long index term = simp (length-append, length_u64_word) (omega arith)

-- all pairs of a map take the same in its table and in pages
pub stored_long : (x : Table ℕ) (t : Table Held) → stored_size (map (stored x) t) ≡ pairs_size t
stored_long x [] = refl
stored_long x (e ∷ es) = let rest = stored_long x es in omega arith

some_long : (page : List StoredPair) → 1 ≤ length page → 32 ≤ stored_size page
some_long [] some = omega arith
some_long (p ∷ ps) some = omega arith

pages_long : (pages : List (List StoredPair)) → AllByRecursion (λ page. 1 ≤ length page) pages → pages_size pages ≤ 2 * stored_size (pairs_of pages)
pages_long [] some = omega arith
pages_long (page ∷ pages) some =
    let first = some_long page some.0 in
    let rest = pages_long pages some.1 in
    let size = page_long page in
    let both = stored_more page (pairs_of pages) in
    omega arith

-- one page more
pub size_push : (pages : List (List StoredPair)) (page : List StoredPair) → pages_size (pages ++ page ∷ []) ≡ pages_size pages + (9 + page_size page)
size_push [] page = omega arith
size_push (first ∷ pages) page = let rest = size_push pages page in omega arith

-- a beginning and pages of a map's pairs, the first so many of them or all
pub checkpoint_long : (m : MapState) (pages : List (List StoredPair)) (left : List StoredPair) → AllByRecursion (λ page. 1 ≤ length page) pages → pairs_of pages ++ left ≡ stored_pairs m
    → 26 + pages_size pages ≤ 64 + 2 * pairs_size m.pairs
checkpoint_long m pages left some is =
    let size = pages_long pages some in
    let both = stored_more (pairs_of pages) left in
    let same = ap stored_size is in
    let all = stored_long m.expiries m.pairs in
    omega arith
