use Rattle.std.proofs.Common.{refl}
use Rattle.den_client.proofs.Calls.{called_alone}
use Rattle.den_client.proofs.local.call_at.Goals as goal

pub returns-clause-called : goal.returns-clause-called
returns-clause-called g c =
    called_alone _ _ _ _ c.now-moment.result c.args.call _ _ (record { told = c.now-moment.ensures.tells; reading = c.now-moment.ensures.told }) refl c.turn.ensures.start c.turn.ensures.turned
