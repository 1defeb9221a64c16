use Rattle.den_embed.proofs.Ending.{stop_ended}
use Rattle.den_embed.proofs.engine.stop_by.Goals as goal

pub returns-clause-ended : goal.returns-clause-ended
returns-clause-ended g c = stop_ended _ _ _ _ c.stopped_by.ensures c.ask-answered.ensures.asks
