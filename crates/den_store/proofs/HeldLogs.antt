-- What the changes of a log in memory make of the log.
use Rattle.std.proofs.Common.{◌≡◌, ℕ, suc, ◌+◌, ◌-◌, ◌<◌, ◌≤◌, inl, inr, Bool, true, false, List, [], ◌∷◌, ◌++◌, length, get_or, Option, Some, None, refl, sym, ap, ◌∙◌, subst, arith}
use Rattle.std.specs.List.{AllByRecursion}
use Rattle.std.specs.Prelude.{nat_lt, nat_le, ◌==◌, ◌||◌, ◌&&◌, not, is_none, is_some, IfSome, if◌then◌else◌}
use Rattle.std.proofs.lemmas.Bool.{eqb-true, ltb-true, ltb-false, lt-ltb, le-ltb, le-leb, lt-leb, leb-true, and_from, and_parts, or_cases, cond-true, cond-false, cases_Bool}
use Rattle.den_model.specs.declared.log_id.LogId.{LogId}
use Rattle.den_model.specs.declared.region.LogRegion.TheVariants.{Append, Purge, Replace}
use Rattle.den_model.specs.Entries.{LogEntry, EntriesFrom, rise_above, rise_from, begin_from}
use Rattle.den_model.specs.Words.{FitsEntry, FitsLogRegion}
use Rattle.den_model.proofs.Spells.{some_is}
use Rattle.den_store.specs.Lookup.{rest_region}
use Rattle.den_store.specs.Order.{IsInOrder}
use Rattle.den_store.proofs.Rising.{lower, replaced_rise, rise_from_above, rise_from_lower, above_rise_from, above_rise, below_rise}
use Rattle.den_model.specs.Log.{Log, floor, below, above, changed, replaced, is_lawful, last_of}

pub last_none : (i : ℕ) (es : List LogEntry) → length es ≤ 0 → last_of i es ≡ i
last_none i [] le = refl
last_none i (e ∷ es) le = absurd (omega arith)

pub last_some : (i : ℕ) (es : List LogEntry) (e : LogEntry) → 0 < length es → ((d : LogEntry) → e ≡ get_or es (length es - 1) d) → last_of i es ≡ e.index
last_some i [] e lt at = absurd (omega arith)
last_some i (x ∷ []) e lt at = ap (λ (y : LogEntry). y.index) (sym (at x))
last_some i (x ∷ y ∷ es) e lt at =
    let one : suc (suc (length es)) - 1 ≡ suc (length es) = omega arith in
    let two : suc (length es) - 1 ≡ length es = omega arith in
    last_some x.index (y ∷ es) e (omega arith)
    (λ d. at d ∙ ap (λ (k : ℕ). get_or (x ∷ y ∷ es) k d) one ∙ sym (ap (λ (k : ℕ). get_or (y ∷ es) k d) two))

pub next_le : (a b : ℕ) → nat_lt a b ≡ nat_le (a + 1) b
next_le a b = elim (cases_Bool (nat_lt a b)) [
  | inl t ↦ t ∙ sym (le-leb (a + 1) b (omega (arith, ltb-true a b t)))
  | inr f ↦ f ∙ sym (lt-leb (a + 1) b (omega (arith, ltb-false a b f)))
]

pub admits_append : (l : Log) (es : List LogEntry) (e : LogEntry) → 1 ≤ length es → e ≡ get_or es 0 e → nat_lt (floor l) e.index ≡ begin_from (floor l + 1) es
admits_append l [] e some at = absurd (omega arith)
admits_append l (x ∷ es) e some at = next_le (floor l) e.index ∙ ap (λ (y : LogEntry). nat_le (floor l + 1) y.index) at

pub purged : (l : Log) (index term : ℕ) (kept : List LogEntry) → floor l < index → kept ≡ above index l.entries
    → let new : Log = record { boundary = Some (record { index = index; term = term }); entries = kept } in new ≡ changed l (Purge index term)
purged l index term kept lt is =
    let all : Log = record { boundary = Some (record { index = index; term = term }); entries = above index l.entries } in
    (λ i. record { boundary = Some (record { index = index; term = term }); entries = is i }) ∙ sym (cond-true (nat_lt (floor l) index) all l (lt-ltb (floor l) index lt))

pub not_purged : (l : Log) (index term : ℕ) → index ≤ floor l → l ≡ changed l (Purge index term)
not_purged l index term le =
    let all : Log = record { boundary = Some (record { index = index; term = term }); entries = above index l.entries } in
    sym (cond-false (nat_lt (floor l) index) all l (le-ltb (floor l) index le))

pub unbounded : (o : Option LogId) (r b : Bool) → is_some o ≡ not r → r ≡ true → r ≡ (is_none o || b)
unbounded None r b is t = t
unbounded (Some x) r b is t = absurd (cc (is, ap not t))

pub bounded : (o : Option LogId) (r b : Bool) → is_some o ≡ not r → r ≡ false → b ≡ (is_none o || b)
bounded None r b is f = absurd (cc (is, ap not f))
bounded (Some x) r b is f = refl

-- a replacement from above the boundary is lawful
pub above_lawful : (o : Option LogId) (es : List LogEntry) (from : ℕ) → IfSome o (λ b. b.index < from) → let l : Log = record { boundary = o; entries = es } in (is_none o || nat_lt (floor l) from) ≡ true
above_lawful None es from above = refl
above_lawful (Some b) es from above = lt-ltb b.index from above

pub made_of : (test : Bool) (x y : EntriesFrom) → Some x ≡ (if test then Some y else None) → x ≡ y
made_of true x y is = some_is x y is
made_of false x y is = absurd (cc is)

-- ---- the order of what a region makes

-- entries in order rise from the least index on
pub all_rise : (l : Log) (es : List LogEntry) → IsInOrder l → es ≡ l.entries → rise_above 0 es ≡ true
all_rise l es order is = subst (λ (x : List LogEntry). rise_above 0 x ≡ true) (sym is) (lower 0 (floor l) l.entries (omega arith) order.rises)

floor_none : (o : Option LogId) (es : List LogEntry) → is_none o ≡ true → let l : Log = record { boundary = o; entries = es } in floor l ≡ 0
floor_none None es none = refl
floor_none (Some b) es none = absurd (cc none)

no_floor : (l : Log) → is_none l.boundary ≡ true → floor l ≡ 0
no_floor l none = floor_none l.boundary l.entries none

-- the same boundary, and entries that are equal
pub same_order : (l : Log) (es : List LogEntry) → es ≡ l.entries → IsInOrder l → let now : Log = record { boundary = l.boundary; entries = es } in IsInOrder now
same_order l es is order = record { rises = subst (λ (x : List LogEntry). rise_above (floor l) x ≡ true) (sym is) order.rises }

pub replaced_order : (l : Log) (from : ℕ) (new es : List LogEntry) → IsInOrder l → rise_above (floor l) new ≡ true → begin_from from new ≡ true → es ≡ below from l.entries ++ new
    → let now : Log = record { boundary = l.boundary; entries = es } in IsInOrder now
replaced_order l from new es order rise begin is =
    record { rises = subst (λ (x : List LogEntry). rise_above (floor l) x ≡ true) (sym is) (replaced_rise (floor l) from l.entries new order.rises rise begin) }

pub truncated_order : (l : Log) (from : ℕ) (es : List LogEntry) → IsInOrder l → es ≡ below from l.entries → let now : Log = record { boundary = l.boundary; entries = es } in IsInOrder now
truncated_order l from es order is = record { rises = subst (λ (x : List LogEntry). rise_above (floor l) x ≡ true) (sym is) (below_rise (floor l) from l.entries order.rises) }

pub purged_order : (l : Log) (index term : ℕ) (es : List LogEntry) → IsInOrder l → es ≡ above index l.entries
    → let now : Log = record { boundary = Some (record { index = index; term = term }); entries = es } in IsInOrder now
purged_order l index term es order is = record { rises = subst (λ (x : List LogEntry). rise_above index x ≡ true) (sym is) (above_rise (floor l) index l.entries order.rises) }

-- entries that rise from an index on rise above what the first of them is above
rise_after : (floor from : ℕ) (es : List LogEntry) → rise_from from es ≡ true → begin_from (floor + 1) es ≡ true → rise_above floor es ≡ true
rise_after floor from [] rise begin = refl
rise_after floor from (e ∷ es) rise begin =
    let p = and_parts (nat_le from e.index) (rise_from (e.index + 1) es) rise in
    and_from (nat_lt floor e.index) (rise_above e.index es) (lt-ltb floor e.index (omega (arith, leb-true (floor + 1) e.index begin))) (rise_from_above e.index es p.1)

-- a replacement's first entry is above the boundary
begins_above : (l : Log) (from : ℕ) (es : List LogEntry) → AllByRecursion FitsEntry es → rise_from from es ≡ true → (is_none l.boundary || nat_lt (floor l) from) ≡ true → begin_from (floor l + 1) es ≡ true
begins_above l from [] fits rise lawful = refl
begins_above l from (e ∷ es) fits rise lawful =
    let p = and_parts (nat_le from e.index) (rise_from (e.index + 1) es) rise in
    le-leb (floor l + 1) e.index (elim (or_cases (is_none l.boundary) (nat_lt (floor l) from) lawful) [
      | inl none ↦ omega (arith, fits.0.0, no_floor l none)
      | inr below ↦ omega (arith, ltb-true (floor l) from below, leb-true from e.index p.0)
    ])

-- the entries of a lawful region rise above the boundary
pub append_rises : (l : Log) (es : List LogEntry) → is_lawful l (Append es) ≡ true → FitsLogRegion (Append es) → rise_above (floor l) es ≡ true
append_rises l es lawful fits = rise_after (floor l) 1 es fits.2 lawful

pub replace_rises : (l : Log) (r : EntriesFrom) → is_lawful l (Replace r) ≡ true → FitsLogRegion (Replace r) → rise_above (floor l) r.entries ≡ true
replace_rises l r lawful fits = rise_after (floor l) r.from r.entries fits.2 (begins_above l r.from r.entries fits.1.1 fits.2 lawful)

pub append_none : (l : Log) (es : List LogEntry) → length es ≤ 0 → l ≡ changed l (Append es)
append_none l [] none = refl
append_none l (e ∷ es) none = absurd (omega arith)

-- entries that rise are as an append wants them
pub append_made : (es : List LogEntry) → 0 < length es → rise_from 1 es ≡ true → (if nat_le 1 (length es) && rise_from 1 es then Some es else None) ≡ Some es
append_made es some rise = ap (λ b. if b then Some es else None) (and_from (nat_le 1 (length es)) (rise_from 1 es) (le-leb 1 (length es) some) rise)

pub some_there : (es : List LogEntry) → (length es == 0) ≡ false → 0 < length es
some_there [] none = absurd (cc none)
some_there (e ∷ es) none = omega arith

-- the region of entries that rise above an index
rise_from_one : (index : ℕ) (es : List LogEntry) → rise_above index es ≡ true → rise_from 1 es ≡ true
rise_from_one index es rise = rise_from_lower 1 (index + 1) es (omega arith) (above_rise_from index es rise)

pub rest_none : (index : ℕ) (es : List LogEntry) → rise_above index es ≡ true → None ≡ (if nat_le 1 (length es) && rise_from 1 es then Some es else None) → None ≡ rest_region es
rest_none index [] rise is = refl
rest_none index (e ∷ es) rise is = absurd (cc (is ∙ append_made (e ∷ es) (omega arith) (rise_from_one index (e ∷ es) rise)))

pub none_there : (es : List LogEntry) → (length es == 0) ≡ true → length es ≤ 0
none_there [] none = omega arith
none_there (e ∷ es) none = absurd (omega (arith, eqb-true (length (e ∷ es)) 0 none))
