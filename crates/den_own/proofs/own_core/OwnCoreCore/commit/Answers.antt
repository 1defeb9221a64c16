use Rattle.den_own.proofs.Adding.{next_rises}
use Rattle.den_own.proofs.own_core.OwnCoreCore.commit.Goals as goal

pub persist_entries-requires-clause-rise : goal.persist_entries-requires-clause-rise
persist_entries-requires-clause-rise g c = next_rises (g.G.LogStore.shown c.args.log.now).value c.args.entry (g.met.G.LogStore.in_order c.args.log.now) c.requires.above
