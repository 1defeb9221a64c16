use Rattle.std.proofs.Common.{◌≡◌, true, false, ◌∙◌, sym, ap}
use Rattle.std.specs.Ordering.{is_lt}
use Rattle.std.specs.declared.cmp.Ordering.{Ordering}
use Rattle.den_model.specs.Table.{by_bytes}
use Rattle.den_snapshot.proofs.Rising.{walk}
use Rattle.den_snapshot.proofs.snapshot.rises_above.Goals as goal

pub returns-then-not-is_lt : goal.returns-then-not-is_lt
returns-then-not-is_lt c =
    let last = c.loop-pair.last.now in
    let p = c.pair-item.result in
    let order : c.cmp.result ≡ by_bytes last p.key = c.cmp.ensures ∙ λ j. by_bytes (c.as_slice.ensures j) (c.as_slice-in-loop-pair.ensures j) in
    walk last c.args.pairs.now c.loop-pair.pair-index p false _ c.loop-pair-test.true c.pair-item.is (ap (λ (o : Ordering). is_lt o) (sym order) ∙ sym c.is_lt.ensures ∙ c.if-not-is_lt.true) c.loop-pair.invariant

pub loop-pair-preserved : goal.loop-pair-preserved
loop-pair-preserved c =
    let last = c.loop-pair.last.now in
    let p = c.pair-item.result in
    let order : c.cmp.result ≡ by_bytes last p.key = c.cmp.ensures ∙ λ j. by_bytes (c.as_slice.ensures j) (c.as_slice-in-loop-pair.ensures j) in
    walk last c.args.pairs.now c.loop-pair.pair-index p true _ c.loop-pair-test.true c.pair-item.is (ap (λ (o : Ordering). is_lt o) (sym order) ∙ sym c.is_lt.ensures ∙ c.if-not-is_lt.false) c.loop-pair.invariant
