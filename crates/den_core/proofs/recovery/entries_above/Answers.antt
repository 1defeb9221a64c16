use Rattle.std.proofs.Common.{◌∙◌, arith}
use Rattle.std.proofs.lemmas.Result.{IfOk-weaker}
use Rattle.den_core.proofs.CatchUp.{entries_some, entries_none}
use Rattle.den_core.proofs.recovery.entries_above.Goals as goal

pub returns-in-Some-clause-entries : goal.returns-in-Some-clause-entries
returns-in-Some-clause-entries g c = IfOk-weaker c.get_entries.result _ _
    (λ entries is. is ∙ entries_some (g.G.LogStore.shown c.args.log.now).value _ _ _ c.in-Some.ensures.1 c.last_index-last.ensures (g.met.G.LogStore.in_order c.args.log.now))
    c.get_entries.ensures.entries

pub returns-in-None-clause-entries : goal.returns-in-None-clause-entries
returns-in-None-clause-entries g c = IfOk-weaker c.get_entries-in-None.result _ _
    (λ entries is. is ∙ entries_none (g.G.LogStore.shown c.args.log.now).value c.args.index c.last_index-last.result (omega (arith, c.in-None.ensures, c.last_index-last.type_inv)) c.last_index-last.ensures (g.met.G.LogStore.in_order c.args.log.now))
    c.get_entries-in-None.ensures.entries
