-- Pages: what they take, and what is behind the last key of the pairs so far.
use Rattle.std.proofs.Common.{◌≡◌, ℕ, ◌+◌, ◌-◌, ◌^◌, ◌<◌, ◌≤◌, min, false, cond, filter, List, [], ◌∷◌, ◌++◌, length, take, drop, map, Some, option_map, slice_get, refl, sym, ap, subst, ◌∙◌, length-append, append_assoc, arith}
use Rattle.std.specs.List.{flat_map}
use Rattle.std.specs.List.Sorted.{IsStrictlySortedBy}
use Rattle.std.specs.Ordering.{is_lt, ordering_reverse}
use Rattle.std.specs.declared.cmp.Ordering.TheVariants.{Less}
use Rattle.std.proofs.lemmas.Cmp.{nat_list_cmp_total, tied_itself}
use Rattle.std.proofs.lemmas.List.{append-nil, nil_from_length}
use Rattle.std.proofs.Math.Seq.{drop-append_seam, take-append-add}
use Rattle.den_model.specs.declared.held.Held.{Held}
use Rattle.den_model.specs.declared.region.StoredPair.{StoredPair}
use Rattle.den_model.specs.Spelling.{u64_word, pair_word}
use Rattle.den_model.specs.Table.{Table, by_bytes}
use Rattle.den_model.proofs.Numbers.{length_u64_word}
use Rattle.den_table.specs.Keyed.{behind}
use Rattle.den_table.proofs.Sorted.{IsSorted, AllAbove}
use Rattle.den_map.specs.Pages.{IsPage, last_from, last_key, page_size, stored}
use Rattle.den_map.specs.Sizes.{pair_size, stored_size}

-- ---- what pairs take

pair_long : (p : StoredPair) → length (pair_word p) ≡ pair_size p.key p.value
pair_long p = simp (length-append, length_u64_word) (omega arith)

words_long : (ps : List StoredPair) → length (flat_map pair_word ps) ≡ stored_size ps
words_long [] = refl
words_long (p ∷ ps) = let first = pair_long p in let rest = words_long ps in let both = length-append (pair_word p) (flat_map pair_word ps) in omega arith

pub page_long : (ps : List StoredPair) → page_size ps ≡ 9 + stored_size ps
page_long ps =
    let head = length_u64_word (length ps) in
    let rest = words_long ps in
    let both = length-append (u64_word (length ps)) (flat_map pair_word ps) in
    omega arith

pub stored_more : (ps qs : List StoredPair) → stored_size (ps ++ qs) ≡ stored_size ps + stored_size qs
stored_more [] qs = omega arith
stored_more (p ∷ ps) qs = let rest = stored_more ps qs in omega arith

-- ---- the last key

last_at : (p : StoredPair) (ps : List StoredPair) → option_map (λ (q : StoredPair). q.key) (slice_get (p ∷ ps) (length ps)) ≡ Some (last_from p.key ps)
last_at p [] = refl
last_at p (q ∷ qs) = last_at q qs

pub last_is : (ps : List StoredPair) → option_map (λ (q : StoredPair). q.key) (slice_get ps (length ps - 1)) ≡ last_key ps
last_is [] = refl
last_is (p ∷ ps) =
    let before : length (p ∷ ps) - 1 ≡ length ps = omega arith in
    ap (λ n. option_map (λ (q : StoredPair). q.key) (slice_get (p ∷ ps) n)) before ∙ last_at p ps

last_more : (key : List ℕ) (ps : List StoredPair) (q : StoredPair) (qs : List StoredPair) → last_from key (ps ++ q ∷ qs) ≡ last_from q.key qs
last_more key [] q qs = refl
last_more key (p ∷ ps) q qs = last_more p.key ps q qs

-- a walk that goes on with a page has the page's last key behind it
pub last_goes_on : (front page : List StoredPair) → 1 ≤ length page → last_key (front ++ page) ≡ last_key page
last_goes_on front [] some = absurd (omega arith)
last_goes_on [] (q ∷ qs) some = refl
last_goes_on (p ∷ ps) (q ∷ qs) some = ap (λ (k : List ℕ). Some k) (last_more p.key ps q qs)

-- ---- what is behind it

not_below : (q k : List ℕ) → by_bytes q k ≡ Less → is_lt (by_bytes k q) ≡ false
not_below q k lt = ap is_lt (nat_list_cmp_total.antisymm k q) ∙ ap (λ o. is_lt (ordering_reverse o)) lt

-- nothing is left out where all are above
all_above : (k : List ℕ) (t : Table Held) → AllAbove k t → filter (λ e. is_lt (by_bytes k e.0)) t ≡ t
all_above k [] above = refl
all_above k (e ∷ es) above =
    ap (λ o. cond (is_lt o) (e ∷ filter (λ (q : List ℕ × Held). is_lt (by_bytes k q.0)) es) (filter (λ q. is_lt (by_bytes k q.0)) es)) above.0
    ∙ ap (λ (t : Table Held). e ∷ t) (all_above k es above.1)

module _ (x : Table ℕ) (left : List StoredPair) where
  -- a key that all are above is below the last of them
  last_above : (q k : List ℕ) (ps : List StoredPair) (t : Table Held) → by_bytes q k ≡ Less → AllAbove q t → ps ++ left ≡ map (stored x) t → by_bytes q (last_from k ps) ≡ Less
  last_above q k [] t lt above is = lt
  last_above q k (p ∷ ps) [] lt above is = cc
  last_above q k (p ∷ ps) (e ∷ es) lt above is =
      let first : p ≡ stored x e = cc in
      let rest : ps ++ left ≡ map (stored x) es = cc in
      last_above q p.key ps es (subst (λ (r : StoredPair). by_bytes q r.key ≡ Less) (sym first) above.0) above.1 rest

  -- the last key from one on is not below that one
  last_not_below : (k : List ℕ) (ps : List StoredPair) (t : Table Held) → AllAbove k t → ps ++ left ≡ map (stored x) t → is_lt (by_bytes (last_from k ps) k) ≡ false
  last_not_below k [] t above is = ap is_lt (tied_itself nat_list_cmp_total k)
  last_not_below k (p ∷ ps) [] above is = cc
  last_not_below k (p ∷ ps) (e ∷ es) above is =
      let first : p ≡ stored x e = cc in
      let rest : ps ++ left ≡ map (stored x) es = cc in
      not_below k (last_from p.key ps) (last_above k p.key ps es (subst (λ (r : StoredPair). by_bytes k r.key ≡ Less) (sym first) above.0) above.1 rest)

  behind_last : (k : List ℕ) (ps : List StoredPair) (t : Table Held) → AllAbove k t → IsSorted t → ps ++ left ≡ map (stored x) t → map (stored x) (behind (Some (last_from k ps)) t) ≡ left
  unfolding IsStrictlySortedBy
  behind_last k [] t above sorted is = ap (map (stored x)) (all_above k t above) ∙ sym is
  behind_last k (p ∷ ps) [] above sorted is = cc
  behind_last k (p ∷ ps) (e ∷ es) above sorted is =
      let first : p ≡ stored x e = cc in
      let rest : ps ++ left ≡ map (stored x) es = cc in
      let from = λ (q : List ℕ). filter (λ (f : List ℕ × Held). is_lt (by_bytes (last_from q ps) f.0)) es in
      ap (λ (r : StoredPair). map (stored x) (cond (is_lt (by_bytes (last_from r.key ps) e.0)) (e ∷ from r.key) (from r.key))) first
      ∙ ap (λ b. map (stored x) (cond b (e ∷ from e.0) (from e.0))) (last_not_below e.0 ps es sorted.0 rest)
      ∙ behind_last e.0 ps es sorted.0 sorted.1 rest

  -- behind the last of the pairs so far are those that are left
  pub behind_front : (front : List StoredPair) (t : Table Held) → IsSorted t → front ++ left ≡ map (stored x) t → map (stored x) (behind (last_key front) t) ≡ left
  unfolding IsStrictlySortedBy
  behind_front [] t sorted is = sym is
  behind_front (p ∷ ps) [] sorted is = cc
  behind_front (p ∷ ps) (e ∷ es) sorted is =
      let first : p ≡ stored x e = cc in
      let rest : ps ++ left ≡ map (stored x) es = cc in
      let from = λ (q : List ℕ). filter (λ (f : List ℕ × Held). is_lt (by_bytes (last_from q ps) f.0)) es in
      ap (λ (r : StoredPair). map (stored x) (cond (is_lt (by_bytes (last_from r.key ps) e.0)) (e ∷ from r.key) (from r.key))) first
      ∙ ap (λ b. map (stored x) (cond b (e ∷ from e.0) (from e.0))) (last_not_below e.0 ps es sorted.0 rest)
      ∙ behind_last e.0 ps es sorted.0 sorted.1 rest

-- ---- a page

pub page_first : (left page rest : List StoredPair) → page ++ rest ≡ left → page ++ drop (length page) left ≡ left
page_first left page rest is = ap (λ (l : List StoredPair). page ++ drop (length page) l) (sym is) ∙ ap (λ (l : List StoredPair). page ++ l) (drop-append_seam page rest) ∙ is

pub page_pushed : (before rest total : List StoredPair) (x p : StoredPair) → x ≡ p → before ++ p ∷ rest ≡ total → (before ++ x ∷ []) ++ rest ≡ total
page_pushed before rest total x p same so_far = append_assoc before (x ∷ []) rest ∙ ap (λ (y : StoredPair). before ++ y ∷ rest) same ∙ so_far

-- the size that is counted, at most 2 ^ 64 - 1
pub size_more : (size added now : ℕ) (before : List StoredPair) (p : StoredPair) (key value : List ℕ) → key ≡ p.key → value ≡ p.value → size ≡ min (9 + stored_size before) (2 ^ 64 - 1)
    → added ≡ min (pair_size key value) (2 ^ 64 - 1) → now ≡ min (size + added) (2 ^ 64 - 1) → now ≡ min (9 + stored_size (before ++ p ∷ [])) (2 ^ 64 - 1)
size_more size added now before p key value is_key is_value so_far more sum =
    let k : length key ≡ length p.key = ap length is_key in
    let v : length value ≡ length p.value = ap length is_value in
    let both = stored_more before (p ∷ []) in
    omega arith

-- where none is left a page is all that was
pub page_last : (left page : List StoredPair) (size : ℕ) → page ++ [] ≡ left → size ≡ min (9 + stored_size page) (2 ^ 64 - 1) → (2 ≤ length page → size ≤ 65536) → IsPage left page
page_last left page size is sized within =
    let long : length left ≡ length page = sym (ap length is) ∙ ap length (append-nil page) in
    record {
      first = page_first left page [] is;
      some = λ h. omega arith;
      small = λ two. let l = within two in let p = page_long page in omega arith;
      full = λ less. absurd (omega arith);
    }

-- and where one more does not fit
pub page_full : (left page rest : List StoredPair) (p : StoredPair) (size now : ℕ) → page ++ p ∷ rest ≡ left → size ≡ min (9 + stored_size page) (2 ^ 64 - 1) → (2 ≤ length page → size ≤ 65536)
    → 1 ≤ length page → now ≡ min (9 + stored_size (page ++ p ∷ [])) (2 ^ 64 - 1) → 65536 < now → IsPage left page
page_full left page rest p size now is sized within any more above =
    let next : take (length page + 1) left ≡ page ++ p ∷ [] = ap (take (length page + 1)) (sym is) ∙ take-append-add page (p ∷ rest) 1 in
    record {
      first = page_first left page (p ∷ rest) is;
      some = λ h. any;
      small = λ two. let l = within two in let q = page_long page in omega arith;
      full = λ less. subst (λ (ps : List StoredPair). 65536 < page_size ps) (sym next) (let q = page_long (page ++ p ∷ []) in omega arith);
    }

-- ---- a walk over pages

-- the pairs so far with the page, and those that are left then
pub walk_goes_on : (front left page all : List StoredPair) → front ++ left ≡ all → IsPage left page → (front ++ page) ++ drop (length page) left ≡ all
walk_goes_on front left page all is one = append_assoc front page (drop (length page) left) ∙ ap (λ (l : List StoredPair). front ++ l) one.first ∙ is

-- fewer are left
pub walk_smaller : (left page : List StoredPair) → IsPage left page → 1 ≤ length page → length (drop (length page) left) < length left
walk_smaller left page one some =
    let both : length page + length (drop (length page) left) ≡ length left = sym (length-append page (drop (length page) left)) ∙ ap length one.first in
    omega arith

nothing_left : (left page : List StoredPair) → IsPage left page → length page ≡ 0 → length left ≡ 0
nothing_left [] page one empty = refl
nothing_left (p ∷ ps) page one empty = let some = one.some (omega arith) in absurd (omega arith)

-- a page without a pair is behind the last
pub walk_ends : (front left page all : List StoredPair) → front ++ left ≡ all → IsPage left page → length page ≡ 0 → front ≡ all
walk_ends front left page all is one empty =
    let none : left ≡ [] = nil_from_length left (nothing_left left page one empty) in
    sym (append-nil front) ∙ ap (λ (l : List StoredPair). front ++ l) (sym none) ∙ is
