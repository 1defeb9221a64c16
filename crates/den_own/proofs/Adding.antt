-- What the changes of a log make of its entries.
use Rattle.std.proofs.Common.{◌≡◌, ◌≤◌, ◌<◌, ◌+◌, ℕ, true, List, [], ◌∷◌, Option, Some, None, refl, ap, sym, arith}
use Rattle.std.specs.Prelude.{nat_lt, nat_le, IfSome}
use Rattle.std.proofs.lemmas.Bool.{and_parts, and_from, le-leb, leb-true, lt-ltb, ltb-true}
use Rattle.den_model.specs.declared.log_id.LogId.{LogId}
use Rattle.den_model.specs.declared.region.LogRegion.{LogRegion}
use Rattle.den_model.specs.declared.region.LogRegion.TheVariants.{Append}
use Rattle.den_model.specs.Entries.{LogEntry, begin_from, rise_above, rise_from}
use Rattle.den_model.specs.Log.{Log, changed, floor, last_index, last_of, replaced}
use Rattle.den_model.specs.Sizes.{entries_size, store_rise}
use Rattle.den_store.specs.Folds.{changed_size, log_rises}
use Rattle.den_store.specs.Lookup.{entries_of}
use Rattle.den_store.specs.Order.{IsInOrder}
use Rattle.den_store.proofs.Rising.{rise_from_above}
use Rattle.den_own.specs.Entries.{first_index}
use Rattle.den_own.specs.Logs.{log_weight}

-- a change makes a log heavier by no more than its entries
pub log_lighter : (l : Log) (r : LogRegion) → log_weight (changed l r) ≤ log_weight l + store_rise (entries_size (entries_of r))
log_lighter l r = omega (arith, changed_size l r, log_rises r)

-- entries that are added stand from the first one on
pub added_from : (l : Log) (es : List LogEntry) (from : ℕ) → first_index es ≡ Some from → replaced l from es ≡ changed l (Append es)
added_from l [] from is = absurd (cc is)
added_from l (e ∷ es) from is = let same : e.index ≡ from = cc is in ap (λ i. replaced l i (e ∷ es)) (sym same)

-- none are added
pub none_added : (l : Log) (es : List LogEntry) → first_index es ≡ None → l ≡ changed l (Append es)
none_added l [] is = refl
none_added l (e ∷ es) is = absurd (cc is)

-- they begin with the first one
pub begins : (es : List LogEntry) (from : ℕ) → first_index es ≡ Some from → begin_from from es ≡ true
begins [] from is = refl
begins (e ∷ es) from is = let same : e.index ≡ from = cc is in le-leb from e.index (omega (arith, same))

-- entries that rise from an index on, the first at least 1, rise above a boundary below that index
pub rises_above : (o : Option LogId) (held es : List LogEntry) (from : ℕ) → IfSome o (λ b. b.index < from) → begin_from 1 es ≡ true → rise_from from es ≡ true
    → let l : Log = record { boundary = o; entries = held } in rise_above (floor l) es ≡ true
rises_above o held [] from above positive rise = refl
rises_above None held (e ∷ es) from above positive rise =
    let p = and_parts (nat_le from e.index) (rise_from (e.index + 1) es) rise in
    and_from (nat_lt 0 e.index) (rise_above e.index es) (lt-ltb 0 e.index (omega (arith, leb-true 1 e.index positive))) (rise_from_above e.index es p.1)
rises_above (Some b) held (e ∷ es) from above positive rise =
    let p = and_parts (nat_le from e.index) (rise_from (e.index + 1) es) rise in
    and_from (nat_lt b.index e.index) (rise_above e.index es) (lt-ltb b.index e.index (omega (arith, above, leb-true from e.index p.0))) (rise_from_above e.index es p.1)

-- the last of entries that rise above an index is not below it
last_above : (a : ℕ) (es : List LogEntry) → rise_above a es ≡ true → a ≤ last_of a es
last_above a [] rise = omega arith
last_above a (e ∷ es) rise =
    let p = and_parts (nat_lt a e.index) (rise_above e.index es) rise in
    omega (arith, ltb-true a e.index p.0, last_above e.index es p.1)

-- an entry above the last index stands above the boundary
pub next_rises : (l : Log) (e : LogEntry) → IsInOrder l → last_index l < e.index → rise_from (floor l + 1) (e ∷ []) ≡ true
next_rises l e order above =
    and_from (nat_le (floor l + 1) e.index) true (le-leb (floor l + 1) e.index (omega (arith, above, last_above (floor l) l.entries order.rises))) refl
