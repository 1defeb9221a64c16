-- A schedule, and the table whose expiries it has.
use Rattle.std.proofs.Common.{◌≡◌, nat_eq, ℕ, ◌<◌, ◌≤◌, Bool, true, false, cond, filter, List, [], ◌∷◌, length, Option, Some, None, nat_le, nat_lt, if◌then◌else◌, refl, sym, ap, subst, ◌∙◌, true≢false, arith}
use Rattle.std.specs.Prelude.{◌||◌, ◌&&◌}
use Rattle.std.specs.Global.{Vec}
use Rattle.std.specs.List.{All, AllByRecursion, list_any}
use Rattle.std.specs.List.Sorted.{IsStrictlySortedBy}
use Rattle.std.specs.Cmp.{IsTotalOrder}
use Rattle.std.specs.Map.{IsKeyTest, AreApart}
use Rattle.std.specs.Set.{KeepsOthers}
use Rattle.std.specs.Option.{option_eq}
use Rattle.std.specs.Ordering.{is_eq, is_gt, nat_cmp, ordering_then, eq_by_cmp}
use Rattle.std.specs.declared.cmp.Ordering.{Ordering}
use Rattle.std.specs.declared.cmp.Ordering.TheVariants.{Less, Equal, Greater}
use Rattle.std.proofs.lemmas.Bool.{le-leb, leb-true, ltb-true}
use Rattle.std.proofs.lemmas.List.Elements.{All-cons, All-weaker}
use Rattle.std.proofs.lemmas.List.Folds.{list_any_none}
use Rattle.std.proofs.lemmas.Map.Lookups.{exact_unsigned}
use Rattle.std.proofs.lemmas.Cmp.{nat_eq_equiv, nat_cmp_total, nat_list_cmp_total, on_total, then_total, tied_itself}
use Rattle.std.proofs.lemmas.Map.Views.{exact_unsigned_eq}
use Rattle.den_model.specs.Apply.{is_expired}
use Rattle.den_model.specs.Table.{Table, by_bytes, is_same, at, set, unset}
use Rattle.den_table.proofs.Entries.{none_at, some_at, at_kept, same_table}
use Rattle.den_table.proofs.Sorted.{IsSorted, sorted_filter}
use Rattle.den_table.proofs.Tables.{same_is, at_set, at_unset, sorted_set}
use Rattle.den_lease.specs.Due.{has_due}
use Rattle.den_lease.specs.Scheduled.{is_entry, expires_at, IsScheduleOf}

-- moments, and at one moment keys
abbrev pub by_entry : ℕ × Vec ℕ → ℕ × Vec ℕ → Ordering
by_entry a b = ordering_then (nat_cmp a.0 b.0) (by_bytes a.1.items b.1.items)

by_entry_total : IsTotalOrder by_entry
by_entry_total = then_total (on_total (λ (e : ℕ × Vec ℕ). e.0) nat_cmp_total) (on_total (λ (e : ℕ × Vec ℕ). e.1.items) nat_list_cmp_total)

-- whether a moment and a key are those of an entry
abbrev pub same_entry : ℕ → List ℕ → ℕ → List ℕ → Bool
same_entry moment key m k = is_eq (ordering_then (nat_cmp moment m) (by_bytes key k))

-- ---- two entries

then_parts : (o p : Ordering) → is_eq (ordering_then o p) ≡ (is_eq o && is_eq p)
then_parts Less p = refl
then_parts Equal p = refl
then_parts Greater p = refl

and_left : (a b : Bool) → (a && b) ≡ true → a ≡ true
and_left true b h = refl
and_left false b h = h

and_right : (a b : Bool) → (a && b) ≡ true → b ≡ true
and_right true b h = h
and_right false b h = absurd (true≢false (sym h))

equal : (o : Ordering) → is_eq o ≡ true → o ≡ Equal
equal Less h = absurd (true≢false (sym h))
equal Equal h = refl
equal Greater h = absurd (true≢false (sym h))

same_moment : (moment m : ℕ) → is_eq (nat_cmp moment m) ≡ true → moment ≡ m
same_moment moment m h = exact_unsigned moment m (equal (nat_cmp moment m) h)

at_itself : (moment : ℕ) → is_eq (nat_cmp moment moment) ≡ true
at_itself moment = ap is_eq (tied_itself nat_cmp_total moment)

entry_is : (moment : ℕ) (key : List ℕ) (m : ℕ) (k : List ℕ) → same_entry moment key m k ≡ true → (moment ≡ m) × (key ≡ k)
entry_is moment key m k h =
    let both = sym (then_parts (nat_cmp moment m) (by_bytes key k)) ∙ h in
    (same_moment moment m (and_left _ _ both), same_is key k (and_right _ _ both))

-- ---- what a set has after a change at one entry

entry_test : (moment : ℕ) (key : List ℕ) → IsKeyTest (eq_by_cmp by_entry) (is_entry moment key)
entry_test moment key = λ x y h.
    let is = entry_is moment key x.0 x.1.items h in
    λ i. is_eq (ordering_then (nat_cmp (is.0 i) y.0) (by_bytes (is.1 i) y.1.items))

apart : (moment : ℕ) (key : List ℕ) (m : ℕ) (k : List ℕ) → same_entry moment key m k ≡ false → AreApart (is_entry m k) (is_entry moment key)
apart moment key m k other = λ e h.
    let is = entry_is m k e.0 e.1.items h in
    subst (λ (p : ℕ × List ℕ). same_entry moment key p.0 p.1 ≡ false) (λ i. (is.0 i, is.1 i)) other

pub changed : (m : ℕ) (k : List ℕ) (b : Bool) (old new : List (ℕ × Vec ℕ)) → KeepsOthers (eq_by_cmp by_entry) (is_entry m k) old new → list_any (is_entry m k) new ≡ b
    → (moment : ℕ) (key : List ℕ) → list_any (is_entry moment key) new ≡ cond (same_entry moment key m k) b (list_any (is_entry moment key) old)
unfolding KeepsOthers
changed m k b old new keeps is = λ moment key.
    elim (same_entry moment key m k) as (λ c. same_entry moment key m k ≡ c → list_any (is_entry moment key) new ≡ cond c b (list_any (is_entry moment key) old)) [
      | true ↦ λ same.
          let e = entry_is moment key m k same in
          (λ i. list_any (is_entry (e.0 i) (e.1 i)) new) ∙ is
      | false ↦ λ other. keeps (is_entry moment key) (entry_test moment key) (apart moment key m k other)
    ] refl

-- what new has, in the words of `changed`
abbrev pub Changes : ℕ → List ℕ → Bool → List (ℕ × Vec ℕ) → List (ℕ × Vec ℕ) → Type 0
Changes m k b old new = (moment : ℕ) (key : List ℕ) → list_any (is_entry moment key) new ≡ cond (same_entry moment key m k) b (list_any (is_entry moment key) old)

-- ---- what a table has after a change at one key

expires_set : (t : Table ℕ) (k : List ℕ) (m moment : ℕ) (key : List ℕ) → expires_at (set t k m) moment key ≡ cond (is_same key k) (is_eq (nat_cmp moment m)) (expires_at t moment key)
expires_set t k m moment key =
    ap (λ (o : Option ℕ). elim o [ None ↦ false | Some expiry ↦ is_eq (nat_cmp moment expiry) ]) (at_set t k m key)
    ∙ elim (is_same key k) as (λ b. elim (cond b (Some m) (at t key)) [ None ↦ false | Some expiry ↦ is_eq (nat_cmp moment expiry) ] ≡ cond b (is_eq (nat_cmp moment m)) (expires_at t moment key)) [ true ↦ refl | false ↦ refl ]

expires_unset : (t : Table ℕ) (k : List ℕ) (moment : ℕ) (key : List ℕ) → IsSorted t → expires_at (unset t k) moment key ≡ cond (is_same key k) false (expires_at t moment key)
expires_unset t k moment key sorted =
    ap (λ (o : Option ℕ). elim o [ None ↦ false | Some expiry ↦ is_eq (nat_cmp moment expiry) ]) (at_unset t k key sorted)
    ∙ elim (is_same key k) as (λ b. elim (cond b None (at t key)) [ None ↦ false | Some expiry ↦ is_eq (nat_cmp moment expiry) ] ≡ cond b false (expires_at t moment key)) [ true ↦ refl | false ↦ refl ]

expires_none : (t : Table ℕ) (k : List ℕ) (moment : ℕ) (key : List ℕ) → at t k ≡ None → is_same key k ≡ true → expires_at t moment key ≡ false
expires_none t k moment key none same =
    ap (λ (o : Option ℕ). elim o [ None ↦ false | Some expiry ↦ is_eq (nat_cmp moment expiry) ]) (ap (at t) (same_is key k same) ∙ none)

expires_held : (t : Table ℕ) (k : List ℕ) (old moment : ℕ) (key : List ℕ) → at t k ≡ Some old → is_same key k ≡ true → expires_at t moment key ≡ is_eq (nat_cmp moment old)
expires_held t k old moment key held same =
    ap (λ (o : Option ℕ). elim o [ None ↦ false | Some expiry ↦ is_eq (nat_cmp moment expiry) ]) (ap (at t) (same_is key k same) ∙ held)

pub held_is : (t : Table ℕ) (moment : ℕ) (key : List ℕ) → expires_at t moment key ≡ true → at t key ≡ Some moment
held_is t moment key =
    elim (at t key) as (λ (o : Option ℕ). elim o [ None ↦ false | Some expiry ↦ is_eq (nat_cmp moment expiry) ] ≡ true → o ≡ Some moment) [
      | None ↦ λ h. absurd (true≢false (sym h))
      | Some expiry ↦ λ h. ap (λ n. Some n) (sym (same_moment moment expiry h))
    ]

pub is_held : (t : Table ℕ) (moment : ℕ) (key : List ℕ) → at t key ≡ Some moment → expires_at t moment key ≡ true
is_held t moment key held =
    ap (λ (o : Option ℕ). elim o [ None ↦ false | Some expiry ↦ is_eq (nat_cmp moment expiry) ]) held ∙ at_itself moment

-- ---- the schedule after a change

-- a: the moment asked is the new one; c: the old one; b: the key asked is the one that changes; x: what was there
put_first : (a b x : Bool) → (b ≡ true → x ≡ false) → cond (a && b) true x ≡ cond b a x
put_first true true x h = refl
put_first true false x h = refl
put_first false true x h = h refl
put_first false false x h = refl

put_back : (a b x : Bool) → (a ≡ true → b ≡ true → x ≡ false) → cond (a && b) false (cond (a && b) true x) ≡ x
put_back true true x h = sym (h refl refl)
put_back true false x h = refl
put_back false b x h = refl

put_over : (a b c x : Bool) → (b ≡ true → x ≡ c) → (a ≡ true → c ≡ false) → cond (c && b) false (cond (a && b) true x) ≡ cond b a x
put_over true true true x h other = sym (other refl)
put_over true true false x h other = refl
put_over false true true x h other = refl
put_over false true false x h other = h refl
put_over true false true x h other = refl
put_over true false false x h other = refl
put_over false false true x h other = refl
put_over false false false x h other = refl

take_out : (b c x : Bool) → (b ≡ true → x ≡ c) → cond (c && b) false x ≡ cond b false x
take_out true true x h = refl
take_out true false x h = h refl
take_out false true x h = refl
take_out false false x h = refl

parts : (moment : ℕ) (key : List ℕ) (m : ℕ) (k : List ℕ) → same_entry moment key m k ≡ (is_eq (nat_cmp moment m) && is_same key k)
parts moment key m k = then_parts (nat_cmp moment m) (by_bytes key k)

module _ (t : Table ℕ) (s : List (ℕ × Vec ℕ)) (ok : IsScheduleOf t s) (k : List ℕ) where
  -- a key that had no expiry
  pub added : (m : ℕ) (n : List (ℕ × Vec ℕ)) → at t k ≡ None → Changes m k true s n → IsScheduleOf (set t k m) n
  added m n none put = λ moment key.
      put moment key ∙ ap (λ x. cond (same_entry moment key m k) true x) (ok moment key) ∙ ap (λ b. cond b true (expires_at t moment key)) (parts moment key m k)
      ∙ put_first (is_eq (nat_cmp moment m)) (is_same key k) (expires_at t moment key) (expires_none t k moment key none) ∙ sym (expires_set t k m moment key)

  -- an entry that is put in and taken out again
  pub undone : (m : ℕ) (n r : List (ℕ × Vec ℕ)) → expires_at t m k ≡ false → Changes m k true s n → Changes m k false n r → IsScheduleOf t r
  undone m n r absent put took = λ moment key.
      took moment key ∙ ap (λ x. cond (same_entry moment key m k) false x) (put moment key ∙ ap (λ x. cond (same_entry moment key m k) true x) (ok moment key))
      ∙ ap (λ b. cond b false (cond b true (expires_at t moment key))) (parts moment key m k)
      ∙ put_back (is_eq (nat_cmp moment m)) (is_same key k) (expires_at t moment key) (λ at_m same. (λ i. expires_at t (same_moment moment m at_m i) (same_is key k same i)) ∙ absent)

  -- a key that had another expiry
  pub moved : (old m : ℕ) (n r : List (ℕ × Vec ℕ)) → at t k ≡ Some old → is_eq (nat_cmp m old) ≡ false → Changes m k true s n → Changes old k false n r → IsScheduleOf (set t k m) r
  moved old m n r held other put took = λ moment key.
      took moment key ∙ ap (λ x. cond (same_entry moment key old k) false x) (put moment key ∙ ap (λ x. cond (same_entry moment key m k) true x) (ok moment key))
      ∙ (λ i. cond (parts moment key old k i) false (cond (parts moment key m k i) true (expires_at t moment key)))
      ∙ put_over (is_eq (nat_cmp moment m)) (is_same key k) (is_eq (nat_cmp moment old)) (expires_at t moment key) (expires_held t k old moment key held)
      (λ at_m. ap (λ n. is_eq (nat_cmp n old)) (same_moment moment m at_m) ∙ other)
      ∙ sym (expires_set t k m moment key)

  -- a key whose expiry is taken away
  pub removed : (old : ℕ) (r : List (ℕ × Vec ℕ)) → IsSorted t → at t k ≡ Some old → Changes old k false s r → IsScheduleOf (unset t k) r
  removed old r sorted held took = λ moment key.
      took moment key ∙ ap (λ x. cond (same_entry moment key old k) false x) (ok moment key) ∙ ap (λ b. cond b false (expires_at t moment key)) (parts moment key old k)
      ∙ take_out (is_same key k) (is_eq (nat_cmp moment old)) (expires_at t moment key) (expires_held t k old moment key held) ∙ sym (expires_unset t k moment key sorted)

-- ---- the first entry

later : (first e : ℕ × Vec ℕ) → is_gt (by_entry first e) ≡ false → first.0 ≤ e.0
later first e h =
    elim (nat_lt e.0 first.0) as (λ b. nat_lt e.0 first.0 ≡ b → first.0 ≤ e.0) [
      | true ↦ λ below. grind (arith, below)
      | false ↦ λ not_below. grind (arith, not_below)
    ] refl

-- no key expires before it
pub from_first : (t : Table ℕ) (s : List (ℕ × Vec ℕ)) (first : ℕ × Vec ℕ) (k : List ℕ) (m : ℕ) → IsScheduleOf t s → All (λ e. is_gt (by_entry first e) ≡ false) s → at t k ≡ Some m → first.0 ≤ m
from_first t s first k m ok least held =
    elim (nat_lt m first.0) as (λ b. nat_lt m first.0 ≡ b → first.0 ≤ m) [
      | true ↦ λ below.
          let none : list_any (is_entry m k) s ≡ false = list_any_none (is_entry m k) s (All-weaker (λ e. is_gt (by_entry first e) ≡ false) (λ e. is_entry m k e ≡ false) (λ e h.
          elim (is_entry m k e) as (λ b. is_entry m k e ≡ b → b ≡ false) [
            | true ↦ λ same.
                let is = (entry_is m k e.0 e.1.items same).0 in
                let le = later first e h in
                let lt = ltb-true m first.0 below in
                absurd (omega arith)
            | false ↦ λ other. refl
          ] refl) s least) in
          let has = ok m k ∙ is_held t m k held in
          absurd (true≢false (sym has ∙ none))
      | false ↦ λ not_below. grind (arith, not_below)
    ] refl

-- nothing is due before it
pub none_due : (t : Table ℕ) (s : List (ℕ × Vec ℕ)) (first : ℕ × Vec ℕ) (moment : ℕ) → IsScheduleOf t s → IsSorted t → All (λ e. is_gt (by_entry first e) ≡ false) s → moment < first.0 → has_due moment t ≡ false
none_due t s first moment ok sorted least lt =
    none_at (λ m. nat_le m moment) t sorted (λ k m held. let le = from_first t s first k m ok least held in grind arith)

-- nothing is due where nothing is scheduled
pub none_scheduled : (t : Table ℕ) (s : List (ℕ × Vec ℕ)) (moment : ℕ) → IsScheduleOf t s → IsSorted t → s ≡ [] → has_due moment t ≡ false
none_scheduled t s moment ok sorted empty =
    none_at (λ m. nat_le m moment) t sorted (λ k m held.
    let has : list_any (is_entry m k) s ≡ true = ok m k ∙ is_held t m k held in
    let none : list_any (is_entry m k) s ≡ false = ap (list_any (is_entry m k)) empty in
    absurd (true≢false (sym has ∙ none)))

-- an entry is an expiry of the table
pub entry_held : (t : Table ℕ) (s : List (ℕ × Vec ℕ)) (e : ℕ × Vec ℕ) → IsScheduleOf t s → list_any (is_entry e.0 e.1.items) s ≡ true → at t e.1.items ≡ Some e.0
entry_held t s e ok has = held_is t e.0 e.1.items (sym (ok e.0 e.1.items) ∙ has)

pub first_due : (t : Table ℕ) (m moment : ℕ) (k : List ℕ) → at t k ≡ Some m → m ≤ moment → has_due moment t ≡ true
first_due t m moment k held le = some_at (λ n. nat_le n moment) t k m held (le-leb m moment le)

pub is_due : (t : Table ℕ) (m moment : ℕ) (k : List ℕ) → at t k ≡ Some m → m ≤ moment → is_expired t moment k ≡ true
is_due t m moment k held le = ap (λ (o : Option ℕ). elim o [ None ↦ false | Some expiry ↦ nat_le expiry moment ]) held ∙ le-leb m moment le

-- ---- the entries up to a moment, put into a table

abbrev pub gather : ℕ → List (ℕ × Vec ℕ) → Table ℕ → Table ℕ
gather moment [] t = t
gather moment (e ∷ es) t = if nat_lt moment e.0 then t else gather moment es (set t e.1.items e.0)

pub gather_done : (moment : ℕ) (es : List (ℕ × Vec ℕ)) (t : Table ℕ) → es ≡ [] → gather moment es t ≡ t
gather_done moment es t none = ap (λ (l : List (ℕ × Vec ℕ)). gather moment l t) none

pub gather_stops : (moment : ℕ) (es rest : List (ℕ × Vec ℕ)) (e : ℕ × Vec ℕ) (t : Table ℕ) → es ≡ e ∷ rest → moment < e.0 → gather moment es t ≡ t
gather_stops moment es rest e t is lt =
    let before : nat_lt moment e.0 ≡ true = grind arith in
    ap (λ (l : List (ℕ × Vec ℕ)). gather moment l t) is ∙ ap (λ b. if b then t else gather moment rest (set t e.1.items e.0)) before

pub sorted_gather : (moment : ℕ) (es : List (ℕ × Vec ℕ)) (t : Table ℕ) → IsSorted t → IsSorted (gather moment es t)
sorted_gather moment [] t sorted = sorted
sorted_gather moment (e ∷ es) t sorted =
    elim (nat_lt moment e.0) as (λ b. IsSorted (if b then t else gather moment es (set t e.1.items e.0))) [
      | true ↦ sorted
      | false ↦ sorted_gather moment es (set t e.1.items e.0) (sorted_set t e.1.items e.0 sorted)
    ]

-- whether the key is among those
abbrev gathers : ℕ → List ℕ → ℕ × Vec ℕ → Bool
gathers moment key e = nat_le e.0 moment && is_same key e.1.items

late : (moment : ℕ) (key : List ℕ) (first : ℕ × Vec ℕ) (es : List (ℕ × Vec ℕ)) → moment < first.0 → AllByRecursion (λ e. by_entry first e ≡ Less) es → list_any (gathers moment key) es ≡ false
late moment key first [] lt above = refl
late moment key first (e ∷ es) lt above =
    let le = later first e (ap is_gt above.0) in
    let no : nat_le e.0 moment ≡ false = grind arith in
    ap (λ b. (b && is_same key e.1.items) || list_any (gathers moment key) es) no ∙ late moment key first es lt above.1

at_gather : (t : Table ℕ) (moment : ℕ) (es : List (ℕ × Vec ℕ)) (into : Table ℕ) (key : List ℕ) → IsStrictlySortedBy by_entry es → AllByRecursion (λ e. at t e.1.items ≡ Some e.0) es
    → at (gather moment es into) key ≡ cond (list_any (gathers moment key) es) (at t key) (at into key)
unfolding IsStrictlySortedBy
at_gather t moment [] into key sorted held = refl
at_gather t moment (e ∷ es) into key sorted held =
    let rest = list_any (gathers moment key) es in
    elim (nat_lt moment e.0) as (λ b. nat_lt moment e.0 ≡ b
    → at (if b then into else gather moment es (set into e.1.items e.0)) key ≡ cond ((nat_le e.0 moment && is_same key e.1.items) || rest) (at t key) (at into key)) [
      | true ↦ λ before.
          let lt = ltb-true moment e.0 before in
          let no : nat_le e.0 moment ≡ false = grind arith in
          sym (ap (λ b. cond ((b && is_same key e.1.items) || rest) (at t key) (at into key)) no ∙ ap (λ b. cond b (at t key) (at into key)) (late moment key e es lt sorted.0))
      | false ↦ λ not_before.
          let yes : nat_le e.0 moment ≡ true = grind (arith, not_before) in
          at_gather t moment es (set into e.1.items e.0) key sorted.1 held.1 ∙ ap (cond rest (at t key)) (at_set into e.1.items e.0 key)
          ∙ elim (is_same key e.1.items) as (λ b. is_same key e.1.items ≡ b → cond rest (at t key) (cond b (Some e.0) (at into key)) ≡ cond (b || rest) (at t key) (at into key)) [
            | true ↦ λ same.
                let here : at t key ≡ Some e.0 = ap (at t) (same_is key e.1.items same) ∙ held.0 in
                elim rest as (λ b. cond b (at t key) (Some e.0) ≡ at t key) [ true ↦ refl | false ↦ sym here ]
            | false ↦ λ other. refl
          ] refl
          ∙ sym (ap (λ b. cond ((b && is_same key e.1.items) || rest) (at t key) (at into key)) yes)
    ] refl

none_left : (a b : Bool) → false ≡ (a && (b && false))
none_left true true = refl
none_left true false = refl
none_left false b = refl

spread : (a b c : Bool) → ((a && b) || (a && c)) ≡ (a && (b || c))
spread true b c = refl
spread false b c = refl

whole : (a : Bool) → (a && true) ≡ a
whole true = refl
whole false = refl

-- where the key has an expiry, whether it is gathered is whether that is due
gathered : (t : Table ℕ) (moment : ℕ) (key : List ℕ) (m : ℕ) (es : List (ℕ × Vec ℕ)) → at t key ≡ Some m → AllByRecursion (λ e. at t e.1.items ≡ Some e.0) es
    → list_any (gathers moment key) es ≡ (nat_le m moment && list_any (is_entry m key) es)
gathered t moment key m [] held all = sym (elim (nat_le m moment) as (λ b. (b && false) ≡ false) [ true ↦ refl | false ↦ refl ])
gathered t moment key m (e ∷ es) held all =
    let rest = list_any (is_entry m key) es in
    let so_far = gathered t moment key m es held all.1 in
    let first : gathers moment key e ≡ (nat_le m moment && is_entry m key e) =
    elim (is_same key e.1.items) as (λ b. is_same key e.1.items ≡ b → (nat_le e.0 moment && b) ≡ (nat_le m moment && (is_eq (nat_cmp m e.0) && b))) [
      | true ↦ λ same.
          let here : Some m ≡ Some e.0 = sym held ∙ ap (at t) (same_is key e.1.items same) ∙ all.0 in
          let is : m ≡ e.0 = cc in
          let one : is_eq (nat_cmp m e.0) ≡ true = ap (λ n. is_eq (nat_cmp m n)) (sym is) ∙ at_itself m in
          ap (λ n. nat_le n moment && true) (sym is) ∙ ap (λ b. nat_le m moment && (b && true)) (sym one)
      | false ↦ λ other.
          elim (nat_le e.0 moment) as (λ b. (b && false) ≡ (nat_le m moment && (is_eq (nat_cmp m e.0) && false))) [
            | true ↦ none_left (nat_le m moment) (is_eq (nat_cmp m e.0))
            | false ↦ none_left (nat_le m moment) (is_eq (nat_cmp m e.0))
          ]
    ] refl ∙ ap (λ b. nat_le m moment && b) (sym (parts m key e.0 e.1.items)) in
    (λ i. first i || so_far i) ∙ spread (nat_le m moment) (is_entry m key e) rest

all_held : (t : Table ℕ) (s es : List (ℕ × Vec ℕ)) → IsScheduleOf t s → AllByRecursion (λ e. list_any (is_entry e.0 e.1.items) s ≡ true) es → AllByRecursion (λ e. at t e.1.items ≡ Some e.0) es
all_held t s [] ok found = tt
all_held t s (e ∷ es) ok found = (entry_held t s e ok found.0, all_held t s es ok found.1)

-- those that are due
pub gathers_due : (t : Table ℕ) (s : List (ℕ × Vec ℕ)) (moment : ℕ) → IsScheduleOf t s → IsSorted t → IsStrictlySortedBy by_entry s → AllByRecursion (λ e. list_any (is_entry e.0 e.1.items) s ≡ true) s
    → gather moment s [] ≡ filter (λ e. nat_le e.1 moment) t
unfolding IsStrictlySortedBy
gathers_due t s moment ok sorted order found =
    let held = all_held t s s ok found in
    same_table (gather moment s []) (filter (λ e. nat_le e.1 moment) t) (sorted_gather moment s [] tt) (sorted_filter (λ (e : List ℕ × ℕ). nat_le e.1 moment) t sorted) (λ key.
    at_gather t moment s [] key order held
    ∙ elim (at t key) as (λ (o : Option ℕ). at t key ≡ o → cond (list_any (gathers moment key) s) o None ≡ elim o [ None ↦ None | Some m ↦ cond (nat_le m moment) (Some m) None ]) [
      | None ↦ λ none. elim (list_any (gathers moment key) s) as (λ b. cond {A = Option ℕ} b None None ≡ None) [ true ↦ refl | false ↦ refl ]
      | Some m ↦ λ is.
          let has : list_any (is_entry m key) s ≡ true = ok m key ∙ is_held t m key is in
          ap (λ b. cond b (Some m) None) (gathered t moment key m s is held ∙ ap (λ b. nat_le m moment && b) has ∙ whole (nat_le m moment))
    ] refl
    ∙ sym (at_kept (λ m. nat_le m moment) t key sorted))

-- ---- what a call reads off the first entry

pub nothing : {X : Type 0} (xs : List X) → (0 < length xs → false ≡ true) → xs ≡ []
nothing [] none = refl
nothing (x ∷ xs) none = absurd (true≢false (sym (none (omega arith))))

pub first_tells : (t : Table ℕ) (s : List (ℕ × Vec ℕ)) (first : ℕ × Vec ℕ) (moment : ℕ) → IsScheduleOf t s → IsSorted t → All (λ e. is_gt (by_entry first e) ≡ false) s
    → list_any (is_entry first.0 first.1.items) s ≡ true → nat_le first.0 moment ≡ has_due moment t
first_tells t s first moment ok sorted least has =
    elim (nat_le first.0 moment) as (λ b. nat_le first.0 moment ≡ b → b ≡ has_due moment t) [
      | true ↦ λ is. let le = leb-true first.0 moment is in sym (first_due t first.0 moment first.1.items (entry_held t s first ok has) le)
      | false ↦ λ is. let lt : moment < first.0 = grind (arith, is) in sym (none_due t s first moment ok sorted least lt)
    ] refl

pub first_is_due : (t : Table ℕ) (s : List (ℕ × Vec ℕ)) (first : ℕ × Vec ℕ) (moment : ℕ) → IsScheduleOf t s → IsSorted t → All (λ e. is_gt (by_entry first e) ≡ false) s
    → list_any (is_entry first.0 first.1.items) s ≡ true → has_due moment t ≡ true → is_expired t moment first.1.items ≡ true
first_is_due t s first moment ok sorted least has due =
    is_due t first.0 moment first.1.items (entry_held t s first ok has) (leb-true first.0 moment (first_tells t s first moment ok sorted least has ∙ due))

-- the rest lies above the first
pub least_of : (first : ℕ × Vec ℕ) (rest : List (ℕ × Vec ℕ)) → All (λ e. by_entry first e ≡ Less) rest → All (λ e. is_gt (by_entry first e) ≡ false) (first ∷ rest)
least_of first rest above =
    All-cons (λ e. is_gt (by_entry first e) ≡ false) first rest (ap is_gt (tied_itself by_entry_total first))
    (All-weaker (λ e. by_entry first e ≡ Less) (λ e. is_gt (by_entry first e) ≡ false) (λ e h. ap is_gt h) rest above)

-- ---- the expiry that a key had, as a call compares it

pub same_expiry : (had : Option ℕ) (m : ℕ) → option_eq nat_eq had (Some m) ≡ true → had ≡ Some m
same_expiry None m h = absurd (true≢false (sym h))
same_expiry (Some old) m h = ap (λ n. Some n) (exact_unsigned_eq old m h)

pub other_moment : (old m : ℕ) → option_eq nat_eq (Some old) (Some m) ≡ false → is_eq (nat_cmp m old) ≡ false
other_moment old m h =
    elim (is_eq (nat_cmp m old)) as (λ b. is_eq (nat_cmp m old) ≡ b → b ≡ false) [
      | true ↦ λ is. let same = same_moment m old is in absurd (true≢false (sym (nat_eq_equiv.refl m) ∙ ap (λ n. nat_eq n m) same ∙ h))
      | false ↦ λ is. refl
    ] refl

pub other_expiry : (t : Table ℕ) (k : List ℕ) (had : Option ℕ) (m : ℕ) → had ≡ at t k → option_eq nat_eq had (Some m) ≡ false → expires_at t m k ≡ false
other_expiry t k had m is other =
    ap (λ (o : Option ℕ). elim o [ None ↦ false | Some expiry ↦ is_eq (nat_cmp m expiry) ]) (sym is)
    ∙ elim had as (λ (o : Option ℕ). option_eq nat_eq o (Some m) ≡ false → elim o [ None ↦ false | Some expiry ↦ is_eq (nat_cmp m expiry) ] ≡ false) [
      | None ↦ λ h. refl
      | Some old ↦ λ h. other_moment old m h
    ] other
