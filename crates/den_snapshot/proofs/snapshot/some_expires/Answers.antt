use Rattle.den_snapshot.proofs.Expiring.{walk_finds, walk_ends}
use Rattle.den_snapshot.proofs.snapshot.some_expires.Goals as goal

pub returns-then-pair-gt0 : goal.returns-then-pair-gt0
returns-then-pair-gt0 c = walk_finds c.args.pairs.now c.loop-pair.pair-index c.pair-item.result _ c.loop-pair-test.true c.pair-item.is c.if-pair-gt0.true c.loop-pair.invariant

pub returns : goal.returns
returns c = walk_ends c.args.pairs.now c.loop-pair.pair-index _ c.loop-pair-test.false c.loop-pair.invariant
