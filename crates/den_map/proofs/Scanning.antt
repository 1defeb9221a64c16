-- Scans: their keys, and which keys begin with a prefix.
use Rattle.std.proofs.Common.{◌≡◌, ℕ, ◌<◌, Bool, true, false, cond, filter, List, [], ◌∷◌, ◌++◌, append_assoc, map, nat_eq, refl, sym, ap, subst, ◌∙◌, true≢false, arith}
use Rattle.std.specs.Prelude.{◌&&◌}
use Rattle.std.specs.Global.{Vec}
use Rattle.std.specs.List.{AllByRecursion}
use Rattle.std.specs.List.Sorted.{IsStrictlySortedBy}
use Rattle.std.specs.Map.{keys_of}
use Rattle.std.specs.Ordering.{MatchOrdering, is_le, nat_cmp, ordering_then}
use Rattle.std.specs.declared.cmp.Ordering.TheVariants.{Less, Equal, Greater}
use Rattle.std.proofs.lemmas.Bool.Decides.{nat_tests}
use Rattle.std.proofs.lemmas.Cmp.{ranked, nat_cmp_total, tied_itself}
use Rattle.std.proofs.lemmas.Map.Views.{exact_unsigned_eq}
use Rattle.den_model.specs.declared.held.Held.{Held}
use Rattle.den_model.specs.declared.reply.KvEntry.{KvEntry}
use Rattle.den_model.specs.Step.{begins_with, pairs_under}
use Rattle.den_model.specs.Table.{Table, by_bytes}
use Rattle.den_table.specs.Keyed.{keyed}
use Rattle.den_table.proofs.Sorted.{IsSorted, AllAbove}
use Rattle.den_map.specs.Scan.{keys_in}

pub keys_of_pairs : (t : Table Held) → keys_in (map (λ (p : List ℕ × Held). record { key = p.0; value = p.1.value }) t) ≡ keys_of t
keys_of_pairs [] = refl
keys_of_pairs (p ∷ ps) = ap (λ (ks : List (List ℕ)). p.0 ∷ ks) (keys_of_pairs ps)

-- ---- the keys that begin with a prefix stand together, and none of them before it

begins_equal : (p y : ℕ) (b : Bool) → (nat_eq p y && b) ≡ true → (nat_cmp p y ≡ Equal) × (b ≡ true)
begins_equal p y b h =
    elim (nat_eq p y) as (λ c. nat_eq p y ≡ c → (c && b) ≡ true → (nat_cmp p y ≡ Equal) × (b ≡ true)) [
      | true ↦ λ is h. (ap (nat_cmp p) (sym (exact_unsigned_eq p y is)) ∙ tied_itself nat_cmp_total p, h)
      | false ↦ λ is h. absurd (true≢false (sym h))
    ] refl h

begins_from : (prefix q : List ℕ) → begins_with q prefix ≡ true → is_le (by_bytes prefix q) ≡ true
begins_from [] [] h = refl
begins_from [] (y ∷ ys) h = refl
begins_from (p ∷ ps) [] h = absurd (true≢false (sym h))
begins_from (p ∷ ps) (y ∷ ys) h =
    let first = begins_equal p y (begins_with ys ps) h in
    ap (λ o. is_le (ordering_then o (by_bytes ps ys))) first.0 ∙ begins_from ps ys first.1

pub under_from : (t : Table Held) (prefix : List ℕ) → pairs_under (filter (λ e. is_le (by_bytes prefix e.0)) t) prefix ≡ pairs_under t prefix
under_from [] prefix = refl
under_from (e ∷ es) prefix =
    let entry : KvEntry = record { key = e.0; value = e.1.value } in
    let begun = filter (λ (q : List ℕ × Held). is_le (by_bytes prefix q.0)) es in
    elim (begins_with e.0 prefix) as (λ b. begins_with e.0 prefix ≡ b → pairs_under (cond (is_le (by_bytes prefix e.0)) (e ∷ begun) begun) prefix ≡ map (λ (q : List ℕ × Held). record { key = q.0; value = q.1.value }) (cond b (e ∷ filter (λ q. begins_with q.0 prefix) es) (filter (λ q. begins_with q.0 prefix) es))) [
      | true ↦ λ is.
          ap (λ b. pairs_under (cond b (e ∷ begun) begun) prefix) (begins_from prefix e.0 is)
          ∙ ap (λ b. map (λ (q : List ℕ × Held). record { key = q.0; value = q.1.value }) (cond b (e ∷ filter (λ q. begins_with q.0 prefix) begun) (filter (λ q. begins_with q.0 prefix) begun))) is
          ∙ ap (λ (kept : List KvEntry). entry ∷ kept) (under_from es prefix)
      | false ↦ λ is.
          elim (is_le (by_bytes prefix e.0)) as (λ b. pairs_under (cond b (e ∷ begun) begun) prefix ≡ pairs_under es prefix) [
            | true ↦ ap (λ b. map (λ (q : List ℕ × Held). record { key = q.0; value = q.1.value }) (cond b (e ∷ filter (λ q. begins_with q.0 prefix) begun) (filter (λ q. begins_with q.0 prefix) begun))) is ∙ under_from es prefix
            | false ↦ under_from es prefix
          ]
    ] refl

below : (a b : ℕ) → nat_cmp a b ≡ Less → a < b
below a b is = subst (λ o. MatchOrdering o (a < b) (a ≡ b) (b < a)) is (ranked a b (nat_cmp a b) refl)

tie : (a b : ℕ) → nat_cmp a b ≡ Equal → a ≡ b
tie a b is = subst (λ o. MatchOrdering o (a < b) (a ≡ b) (b < a)) is (ranked a b (nat_cmp a b) refl)

differ : (p y : ℕ) (b : Bool) → p < y → (nat_eq p y && b) ≡ false
differ p y b lt = let fails : nat_eq p y ≡ false = grind (arith, nat_tests) in ap (λ c. c && b) fails

-- once a key from the prefix on does not begin with it, none above does
stops : (prefix k q : List ℕ) → is_le (by_bytes prefix k) ≡ true → begins_with k prefix ≡ false → by_bytes k q ≡ Less → begins_with q prefix ≡ false
stops [] k q le fails lt = absurd (true≢false fails)
stops (p ∷ ps) [] q le fails lt = absurd (true≢false (sym le))
stops (p ∷ ps) (x ∷ xs) [] le fails lt = refl
stops (p ∷ ps) (x ∷ xs) (y ∷ ys) le fails lt =
    elim (nat_cmp p x) as (λ o. nat_cmp p x ≡ o → is_le (ordering_then o (by_bytes ps xs)) ≡ true → (nat_eq p y && begins_with ys ps) ≡ false) [
      | Less ↦ λ px le.
          elim (nat_cmp x y) as (λ o. nat_cmp x y ≡ o → ordering_then o (by_bytes xs ys) ≡ Less → (nat_eq p y && begins_with ys ps) ≡ false) [
            | Less ↦ λ xy lt. let a = below p x px in let b = below x y xy in differ p y (begins_with ys ps) (omega arith)
            | Equal ↦ λ xy lt. let a = below p x px in let b = tie x y xy in differ p y (begins_with ys ps) (omega arith)
            | Greater ↦ λ xy lt. cc
          ] refl lt
      | Equal ↦ λ px le.
          elim (nat_cmp x y) as (λ o. nat_cmp x y ≡ o → ordering_then o (by_bytes xs ys) ≡ Less → (nat_eq p y && begins_with ys ps) ≡ false) [
            | Less ↦ λ xy lt. let a = tie p x px in let b = below x y xy in differ p y (begins_with ys ps) (omega arith)
            | Equal ↦ λ xy lt.
                let a = tie p x px in
                let one : nat_eq p x ≡ true = grind (arith, nat_tests, a) in
                let rest = stops ps xs ys le (sym (ap (λ c. c && begins_with xs ps) one) ∙ fails) lt in
                elim (nat_eq p y) as (λ c. (c && begins_with ys ps) ≡ false) [ true ↦ rest | false ↦ refl ]
            | Greater ↦ λ xy lt. cc
          ] refl lt
      | Greater ↦ λ px le. absurd (true≢false (sym le))
    ] refl le

abbrev pub AllFrom : List ℕ → Table Held → Type 0
AllFrom prefix t = AllByRecursion (λ q. is_le (by_bytes prefix q) ≡ true) (keys_of t)

pub all_from : (prefix : List ℕ) (t : Table Held) → AllFrom prefix (filter (λ e. is_le (by_bytes prefix e.0)) t)
all_from prefix [] = tt
all_from prefix (e ∷ es) =
    let rest = filter (λ (q : List ℕ × Held). is_le (by_bytes prefix q.0)) es in
    elim (is_le (by_bytes prefix e.0)) as (λ b. is_le (by_bytes prefix e.0) ≡ b → AllFrom prefix (cond b (e ∷ rest) rest)) [
      | true ↦ λ is. (is, all_from prefix es)
      | false ↦ λ is. all_from prefix es
    ] refl

pub none_under : (prefix k : List ℕ) (t : Table Held) → is_le (by_bytes prefix k) ≡ true → begins_with k prefix ≡ false → AllAbove k t → pairs_under t prefix ≡ []
none_under prefix k [] le fails above = refl
none_under prefix k (e ∷ es) le fails above =
    let rest = filter (λ (q : List ℕ × Held). begins_with q.0 prefix) es in
    ap (λ b. map (λ (q : List ℕ × Held). record { key = q.0; value = q.1.value }) (cond b (e ∷ rest) rest)) (stops prefix k e.0 le fails above.0) ∙ none_under prefix k es le fails above.1

-- ---- a walk from the prefix on

module _ (es rest : List (Vec ℕ × Held)) (e : Vec ℕ × Held) (is : es ≡ e ∷ rest) (prefix : List ℕ) where
  pub rest_sorted : IsSorted (keyed es) → IsSorted (keyed rest)
  unfolding IsStrictlySortedBy
  rest_sorted sorted = (subst (λ (xs : List (Vec ℕ × Held)). IsSorted (keyed xs)) is sorted).1

  pub rest_from : AllFrom prefix (keyed es) → AllFrom prefix (keyed rest)
  rest_from all = (subst (λ (xs : List (Vec ℕ × Held)). AllFrom prefix (keyed xs)) is all).1

  -- it ends at the first key that does not begin with the prefix
  pub over : IsSorted (keyed es) → AllFrom prefix (keyed es) → begins_with e.0.items prefix ≡ false → pairs_under (keyed es) prefix ≡ []
  unfolding IsStrictlySortedBy
  over sorted all fails =
      let order = subst (λ (xs : List (Vec ℕ × Held)). IsSorted (keyed xs)) is sorted in
      let from = subst (λ (xs : List (Vec ℕ × Held)). AllFrom prefix (keyed xs)) is all in
      let kept = filter (λ (q : List ℕ × Held). begins_with q.0 prefix) (keyed rest) in
      ap (λ (xs : List (Vec ℕ × Held)). pairs_under (keyed xs) prefix) is
      ∙ ap (λ b. map (λ (q : List ℕ × Held). record { key = q.0; value = q.1.value }) (cond b ((e.0.items, e.1) ∷ kept) kept)) fails
      ∙ none_under prefix e.0.items (keyed rest) from.0 fails order.0

-- a key that begins with it comes next
pub next_under : (es rest : List (Vec ℕ × Held)) (e : Vec ℕ × Held) (prefix : List ℕ) → es ≡ e ∷ rest → begins_with e.0.items prefix ≡ true
    → pairs_under (keyed es) prefix ≡ record { key = e.0.items; value = e.1.value } ∷ pairs_under (keyed rest) prefix
next_under es rest e prefix is begins =
    let kept = filter (λ (q : List ℕ × Held). begins_with q.0 prefix) (keyed rest) in
    ap (λ (xs : List (Vec ℕ × Held)). pairs_under (keyed xs) prefix) is
    ∙ ap (λ b. map (λ (q : List ℕ × Held). record { key = q.0; value = q.1.value }) (cond b ((e.0.items, e.1) ∷ kept) kept)) begins

-- and joins the pairs so far
pub pushed : (before : List KvEntry) (x entry : KvEntry) (rest total : List KvEntry) → x.key ≡ entry.key → x.value ≡ entry.value → before ++ entry ∷ rest ≡ total → (before ++ x ∷ []) ++ rest ≡ total
pushed before x entry rest total key value so_far =
    let same : x ≡ entry = λ i. record { key = key i; value = value i } in
    append_assoc before (x ∷ []) rest ∙ ap (λ (y : KvEntry). before ++ y ∷ rest) same ∙ so_far
