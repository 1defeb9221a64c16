use Rattle.std.proofs.Common.{◌≡◌, ℕ, ◌+◌, List, drop, true, false, ◌∙◌, sym, ap}
use Rattle.std.specs.Ordering.{is_lt}
use Rattle.std.specs.declared.cmp.Ordering.{Ordering}
use Rattle.den_model.specs.Table.{by_bytes}
use Rattle.den_lease.specs.Rising.{rises_above}
use Rattle.den_lease.proofs.Rising.{walk}
use Rattle.den_lease.proofs.snapshot.rises_above.Goals as goal

pub returns-then-not-is_lt : goal.returns-then-not-is_lt
returns-then-not-is_lt c =
    let last = c.loop-row.last.now in
    let e : List ℕ × ℕ = c.row-item.result in
    let key : c.as_slice-in-loop-row.result.now ≡ e.0 = c.as_slice-in-loop-row.ensures ∙ ap (λ (p : List ℕ × ℕ). p.0) c.row.view_is in
    let order : c.cmp.result ≡ by_bytes last e.0 = c.cmp.ensures ∙ λ j. by_bytes (c.as_slice.ensures j) (key j) in
    walk last c.args.rows.now c.loop-row.row-index e false _ c.loop-row-test.true c.row-item.is (ap (λ (o : Ordering). is_lt o) (sym order) ∙ sym c.is_lt.ensures ∙ c.if-not-is_lt.true) c.loop-row.invariant

pub loop-row-preserved : goal.loop-row-preserved
loop-row-preserved c =
    let last = c.loop-row.last.now in
    let e : List ℕ × ℕ = c.row-item.result in
    let key : c.as_slice-in-loop-row.result.now ≡ e.0 = c.as_slice-in-loop-row.ensures ∙ ap (λ (p : List ℕ × ℕ). p.0) c.row.view_is in
    let order : c.cmp.result ≡ by_bytes last e.0 = c.cmp.ensures ∙ λ j. by_bytes (c.as_slice.ensures j) (key j) in
    ap (λ (k : List ℕ). rises_above k (drop (c.loop-row.row-index + 1) c.args.rows.now)) (ap (λ (p : List ℕ × ℕ). p.0) c.row.view_is)
    ∙ walk last c.args.rows.now c.loop-row.row-index e true _ c.loop-row-test.true c.row-item.is (ap (λ (o : Ordering). is_lt o) (sym order) ∙ sym c.is_lt.ensures ∙ c.if-not-is_lt.false) c.loop-row.invariant
