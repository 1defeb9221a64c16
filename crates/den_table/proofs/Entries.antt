-- What the keys of a table tell of its entries, where they are sorted.
use Rattle.std.proofs.Common.{◌≡◌, ℕ, ◌<◌, Bool, true, false, cond, filter, List, [], ◌∷◌, length, Option, Some, None, refl, sym, ap, ◌∙◌, arith}
use Rattle.std.specs.List.{list_any}
use Rattle.std.specs.List.Sorted.{IsStrictlySortedBy}
use Rattle.std.specs.Prelude.{◌||◌, is_some}
use Rattle.std.specs.Ordering.{is_eq, ordering_reverse}
use Rattle.std.specs.declared.cmp.Ordering.TheVariants.{Less, Equal, Greater}
use Rattle.std.proofs.lemmas.Cmp.{nat_list_cmp_total, eq_by_cmp_equiv}
use Rattle.std.proofs.lemmas.Map.Lookups.{exact_bytes}
use Rattle.den_model.specs.Table.{Table, by_bytes, is_same, at, is_held, set, unset}
use Rattle.den_table.proofs.Sorted.{IsSorted, AllAbove}
use Rattle.den_table.proofs.Tables.{same_is, above_lower, at_set, at_unset, sorted_set}

-- ---- what stands at a key

pub same_itself : (k : List ℕ) → is_same k k ≡ true
same_itself k = (eq_by_cmp_equiv nat_list_cmp_total).refl k

-- no key above another is that one
pub at_above : {X : Type 0} (k : List ℕ) (t : Table X) → AllAbove k t → at t k ≡ None
at_above k [] above = refl
at_above {X} k (e ∷ es) above = ap (λ o. cond (is_eq o) (Some e.1) (at es k)) above.0 ∙ at_above k es above.1

-- a key found behind the first is not the first
other_behind : {X : Type 0} (e : List ℕ × X) (es : Table X) (k : List ℕ) (x : X) → AllAbove e.0 es → at es k ≡ Some x → is_same k e.0 ≡ false
other_behind {X} e es k x above is =
    elim (is_same k e.0) as (λ b. is_same k e.0 ≡ b → b ≡ false) [
      | true ↦ λ same.
          let none : at es k ≡ None = ap (at es) (same_is k e.0 same) ∙ at_above e.0 es above in
          cc
      | false ↦ λ same. refl
    ] refl

pub at_behind : {X : Type 0} (e : List ℕ × X) (es : Table X) (k : List ℕ) (x : X) → AllAbove e.0 es → at es k ≡ Some x → at (e ∷ es) k ≡ Some x
at_behind {X} e es k x above is = ap (λ b. cond b (Some e.1) (at es k)) (other_behind e es k x above is) ∙ is

pub at_first : {X : Type 0} (e : List ℕ × X) (es : Table X) → at (e ∷ es) e.0 ≡ Some e.1
at_first {X} e es = ap (λ b. cond b (Some e.1) (at es e.0)) (same_itself e.0)

-- ---- tests of the values

-- a test that fails at each key fails at each entry
pub none_at : {X : Type 0} (p : X → Bool) (t : Table X) → IsSorted t → ((k : List ℕ) (x : X) → at t k ≡ Some x → p x ≡ false) → list_any (λ e. p e.1) t ≡ false
unfolding IsStrictlySortedBy
none_at p [] sorted fails = refl
none_at {X} p (e ∷ es) sorted fails =
    ap (λ b. b || list_any (λ (q : List ℕ × X). p q.1) es) (fails e.0 e.1 (at_first e es))
    ∙ none_at p es sorted.1 (λ k x is. fails k x (at_behind e es k x sorted.0 is))

-- one that passes at a key passes at an entry
pub some_at : {X : Type 0} (p : X → Bool) (t : Table X) (k : List ℕ) (x : X) → at t k ≡ Some x → p x ≡ true → list_any (λ e. p e.1) t ≡ true
some_at p [] k x is passes = cc
some_at {X} p (e ∷ es) k x is passes =
    elim (is_same k e.0) as (λ b. cond b (Some e.1) (at es k) ≡ Some x → (p e.1 || list_any (λ (q : List ℕ × X). p q.1) es) ≡ true) [
      | true ↦ λ h.
          let same : e.1 ≡ x = cc in
          ap (λ y. p y || list_any (λ (q : List ℕ × X). p q.1) es) same ∙ ap (λ b. b || list_any (λ (q : List ℕ × X). p q.1) es) passes
      | false ↦ λ h.
          elim (p e.1) as (λ b. (b || list_any (λ (q : List ℕ × X). p q.1) es) ≡ true) [ true ↦ refl | false ↦ some_at p es k x h passes ]
    ] is

-- what a filter by the values leaves at a key
pub at_kept : {X : Type 0} (p : X → Bool) (t : Table X) (k : List ℕ) → IsSorted t → at (filter (λ e. p e.1) t) k ≡ elim (at t k) [ None ↦ None | Some x ↦ cond (p x) (Some x) None ]
unfolding IsStrictlySortedBy
at_kept p [] k sorted = refl
at_kept {X} p (e ∷ es) k sorted =
    let rest = filter (λ (q : List ℕ × X). p q.1) es in
    elim (is_same k e.0) as (λ b. is_same k e.0 ≡ b → at (cond (p e.1) (e ∷ rest) rest) k ≡ elim (cond b (Some e.1) (at es k)) [ None ↦ None | Some x ↦ cond (p x) (Some x) None ]) [
      | true ↦ λ same.
          let none : at es k ≡ None = ap (at es) (same_is k e.0 same) ∙ at_above e.0 es sorted.0 in
          let gone : at rest k ≡ None = at_kept p es k sorted.1 ∙ ap (λ (o : Option X). elim o [ None ↦ None | Some x ↦ cond (p x) (Some x) None ]) none in
          elim (p e.1) as (λ b. at (cond b (e ∷ rest) rest) k ≡ cond b (Some e.1) None) [
            | true ↦ ap (λ b. cond b (Some e.1) (at rest k)) same
            | false ↦ gone
          ]
      | false ↦ λ other.
          elim (p e.1) as (λ b. at (cond b (e ∷ rest) rest) k ≡ elim (at es k) [ None ↦ None | Some x ↦ cond (p x) (Some x) None ]) [
            | true ↦ ap (λ b. cond b (Some e.1) (at rest k)) other ∙ at_kept p es k sorted.1
            | false ↦ at_kept p es k sorted.1
          ]
    ] refl

-- a filter by a test that passes at each key keeps all
pub all_kept : {X : Type 0} (p : List ℕ × X → Bool) (t : Table X) → IsSorted t → ((k : List ℕ) (x : X) → at t k ≡ Some x → p (k, x) ≡ true) → filter p t ≡ t
unfolding IsStrictlySortedBy
all_kept p [] sorted passes = refl
all_kept {X} p (e ∷ es) sorted passes =
    ap (λ b. cond b (e ∷ filter p es) (filter p es)) (passes e.0 e.1 (at_first e es))
    ∙ ap (λ (t : Table X). e ∷ t) (all_kept p es sorted.1 (λ k x is. passes k x (at_behind e es k x sorted.0 is)))

-- taking away a key that is not there changes nothing
pub unset_none : {X : Type 0} (t : Table X) (k : List ℕ) → at t k ≡ None → unset t k ≡ t
unset_none [] k none = refl
unset_none {X} (e ∷ es) k none =
    elim (is_same k e.0) as (λ b. cond b (Some e.1) (at es k) ≡ None → cond b es (e ∷ unset es k) ≡ e ∷ es) [
      | true ↦ λ h. cc
      | false ↦ λ h. ap (λ (t : Table X). e ∷ t) (unset_none es k h)
    ] none

-- a key that is taken away makes the table shorter
pub length_unset : {X : Type 0} (t : Table X) (k : List ℕ) (x : X) → at t k ≡ Some x → length (unset t k) < length t
length_unset [] k x is = cc
length_unset {X} (e ∷ es) k x is =
    elim (is_same k e.0) as (λ b. cond b (Some e.1) (at es k) ≡ Some x → length (cond b es (e ∷ unset es k)) < length (e ∷ es)) [
      | true ↦ λ h. omega arith
      | false ↦ λ h. let shorter = length_unset es k x h in omega arith
    ] is

-- ---- tables with the same at each key are the same

same_tail : {X : Type 0} (e f : List ℕ × X) (es fs : Table X) (k : List ℕ) → e.0 ≡ f.0 → AllAbove e.0 es → AllAbove f.0 fs → at (e ∷ es) k ≡ at (f ∷ fs) k → at es k ≡ at fs k
same_tail {X} e f es fs k key above below is =
    elim (is_same k e.0) as (λ b. is_same k e.0 ≡ b → at es k ≡ at fs k) [
      | true ↦ λ same.
          let left : at es k ≡ None = ap (at es) (same_is k e.0 same) ∙ at_above e.0 es above in
          let right : at fs k ≡ None = ap (at fs) (same_is k e.0 same ∙ key) ∙ at_above f.0 fs below in
          left ∙ sym right
      | false ↦ λ other.
          sym (ap (λ b. cond b (Some e.1) (at es k)) other) ∙ is ∙ ap (λ b. cond b (Some f.1) (at fs k)) (ap (is_same k) (sym key) ∙ other)
    ] refl

pub same_table : {X : Type 0} (t u : Table X) → IsSorted t → IsSorted u → ((k : List ℕ) → at t k ≡ at u k) → t ≡ u
unfolding IsStrictlySortedBy
same_table [] [] left right same = refl
same_table [] (f ∷ fs) left right same = let e = same f.0 ∙ at_first f fs in cc
same_table (e ∷ es) [] left right same = let f = sym (same e.0) ∙ at_first e es in cc
same_table {X} (e ∷ es) (f ∷ fs) left right same =
    elim (by_bytes e.0 f.0) as (λ o. by_bytes e.0 f.0 ≡ o → e ∷ es ≡ f ∷ fs) [
      | Less ↦ λ is.
          let none : at (f ∷ fs) e.0 ≡ None = at_above e.0 (f ∷ fs) (is, above_lower e.0 f.0 fs is right.0) in
          let held = sym (same e.0) ∙ at_first e es in
          cc
      | Equal ↦ λ is.
          let key : e.0 ≡ f.0 = exact_bytes e.0 f.0 is in
          let values : Some e.1 ≡ Some f.1 = sym (at_first e es) ∙ same e.0 ∙ ap (at (f ∷ fs)) key ∙ at_first f fs in
          let value : e.1 ≡ f.1 = cc in
          let first : e ≡ f = λ i. (key i, value i) in
          let rest : es ≡ fs = same_table es fs left.1 right.1 (λ k. same_tail e f es fs k key left.0 right.0 (same k)) in
          λ i. first i ∷ rest i
      | Greater ↦ λ is.
          let back : by_bytes f.0 e.0 ≡ Less = nat_list_cmp_total.antisymm f.0 e.0 ∙ ap ordering_reverse is in
          let none : at (e ∷ es) f.0 ≡ None = at_above f.0 (e ∷ es) (back, above_lower f.0 e.0 es back left.0) in
          let held = same f.0 ∙ at_first f fs in
          cc
    ] refl

-- what a key has already
pub set_same : {X : Type 0} (t : Table X) (k : List ℕ) (x : X) → IsSorted t → at t k ≡ Some x → set t k x ≡ t
set_same {X} t k x sorted is =
    same_table (set t k x) t (sorted_set t k x sorted) sorted (λ q. at_set t k x q ∙ elim (is_same q k) as (λ b. is_same q k ≡ b → cond b (Some x) (at t q) ≡ at t q) [
      | true ↦ λ same. sym is ∙ ap (at t) (sym (same_is q k same))
      | false ↦ λ other. refl
    ] refl)

-- ---- filters

-- tests that agree at each key keep the same
pub same_kept : {X : Type 0} (p q : List ℕ × X → Bool) (t : Table X) → IsSorted t → ((k : List ℕ) (x : X) → at t k ≡ Some x → p (k, x) ≡ q (k, x)) → filter p t ≡ filter q t
unfolding IsStrictlySortedBy
same_kept p q [] sorted agree = refl
same_kept {X} p q (e ∷ es) sorted agree =
    let rest = same_kept p q es sorted.1 (λ k x is. agree k x (at_behind e es k x sorted.0 is)) in
    let first = agree e.0 e.1 (at_first e es) in
    λ i. cond (first i) (e ∷ rest i) (rest i)

-- a filter that takes the entry of a key has no need of it
pub filter_unset : {X : Type 0} (p : List ℕ × X → Bool) (t : Table X) (k : List ℕ) → ((e : List ℕ × X) → is_same k e.0 ≡ true → at t k ≡ Some e.1 → p e ≡ false) → filter p (unset t k) ≡ filter p t
filter_unset p [] k takes = refl
filter_unset {X} p (e ∷ es) k takes =
    elim (is_same k e.0) as (λ b. is_same k e.0 ≡ b → filter p (cond b es (e ∷ unset es k)) ≡ cond (p e) (e ∷ filter p es) (filter p es)) [
      | true ↦ λ same. sym (ap (λ b. cond b (e ∷ filter p es) (filter p es)) (takes e same (ap (λ b. cond b (Some e.1) (at es k)) same)))
      | false ↦ λ other.
          let rest = filter_unset p es k (λ f same is. takes f same (ap (λ b. cond b (Some e.1) (at es k)) other ∙ is)) in
          ap (λ (t : Table X). cond (p e) (e ∷ t) t) rest
    ] refl

-- a test that fails at each entry fails at each key
pub fails_at : {X : Type 0} (p : X → Bool) (t : Table X) (k : List ℕ) (x : X) → list_any (λ e. p e.1) t ≡ false → at t k ≡ Some x → p x ≡ false
fails_at {X} p t k x none is =
    elim (p x) as (λ b. p x ≡ b → b ≡ false) [
      | true ↦ λ passes. sym (some_at p t k x is passes) ∙ none
      | false ↦ λ fails. refl
    ] refl

-- ---- keys that are held

pub held_set : {X : Type 0} (t : Table X) (k : List ℕ) (x : X) (q : List ℕ) → is_held (set t k x) q ≡ cond (is_same q k) true (is_held t q)
held_set {X} t k x q = ap (λ (o : Option X). is_some o) (at_set t k x q) ∙ elim (is_same q k) as (λ b. is_some (cond b (Some x) (at t q)) ≡ cond b true (is_held t q)) [ true ↦ refl | false ↦ refl ]

pub held_unset : {X : Type 0} (t : Table X) (k q : List ℕ) → IsSorted t → is_held (unset t k) q ≡ cond (is_same q k) false (is_held t q)
held_unset {X} t k q sorted = ap (λ (o : Option X). is_some o) (at_unset t k q sorted) ∙ elim (is_same q k) as (λ b. is_some (cond b None (at t q)) ≡ cond b false (is_held t q)) [ true ↦ refl | false ↦ refl ]
