use Rattle.std.proofs.Common.{◌∙◌, sym}
use Rattle.den_core.proofs.CatchUp.{last_some}
use Rattle.den_core.proofs.recovery.last_of.Goals as goal

pub returns-in-Some : goal.returns-in-Some
returns-in-Some c =
    c.index.ensures.is ∙ sym (last_some c.args.index c.args.entries.now c.in-Some.entry.now c.in-Some.ensures.item.3.0 c.in-Some.ensures.item.3.1)
