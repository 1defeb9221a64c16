use Rattle.std.proofs.Common.{refl}
use Rattle.den_client.proofs.Asked.{answered}
use Rattle.den_client.proofs.embedded.EmbeddedClient.ask.Goals as goal

pub returns-in-Ok-clause-asks : goal.returns-in-Ok-clause-asks
returns-in-Ok-clause-asks g c = answered _ _ _ _ refl refl (g.met.N.Caller.replayed _ c.in-Ok.ensures.lawful) c.in-Ok.ensures.called
