use Rattle.std.proofs.Common.{◌≡◌, ℕ, List, ◌∙◌, ap, take, get_or, length, subst, ◌<◌}
use Rattle.den_model.specs.Table.{Table, set}
use Rattle.den_lease.proofs.Rising.{set_next}
use Rattle.den_lease.proofs.expiries.Expiries.load.Goals as goal

pub loop-row-preserved : goal.loop-row-preserved
loop-row-preserved c =
    let t = c.args.snapshot.now in
    let i = c.loop-row.row-index in
    let e : List ℕ × ℕ = c.row-item.result in
    let same : c.as_slice-row-items.result.now ≡ t = c.as_slice-row-items.ensures.is in
    let is : e ≡ get_or t i e = c.row-item.is ∙ ap (λ (u : Table ℕ). get_or u i e) same in
    let key : c.as_slice.result.now ≡ e.0 = c.as_slice.ensures ∙ ap (λ (p : List ℕ × ℕ). p.0) c.row.view_is in
    let expiry : c.row.inside.expiry ≡ e.1 = ap (λ (p : List ℕ × ℕ). p.1) c.row.view_is in
    let at : c.insert.new.self ≡ set (take i t) e.0 e.1 = c.in_ok-insert.ensures.ok ∙ λ j. set (c.loop-row.invariant j) (key j) (expiry j) in
    at ∙ set_next t i e c.as_slice-row-items.ensures.rise (subst (λ (u : Table ℕ). i < length u) same c.loop-row-test.true) is
