use Rattle.den_model.proofs.Rising.{from_first}
use Rattle.den_model.proofs.region.rise_from.Goals as goal

pub returns-then-index : goal.returns-then-index
returns-then-index c =
    from_first c.args.index c.args.entries.now c.first-item.result c.index.result c.index-then-index.result c.rise_above.result c.in-len1-up.len_at_least c.first-item.is c.index.ensures.is c.if-index.true c.index-then-index.ensures.is c.rise_above.ensures
