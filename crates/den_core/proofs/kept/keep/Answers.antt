use Rattle.std.proofs.Common.{arith}
use Rattle.den_core.proofs.Keeping.{none_of, run_none}
use Rattle.den_core.proofs.kept.keep.Goals as goal

-- no event is given
pub returns-then-is_empty-clause-kept : goal.returns-then-is_empty-clause-kept
returns-then-is_empty-clause-kept c =
    run_none c.args.run.now c.args.turned.now.out.events (none_of c.args.turned.now.out.events (grind (arith, c.if-is_empty.true, c.if-is_empty.ensures, c.as_slice.ensures)))
