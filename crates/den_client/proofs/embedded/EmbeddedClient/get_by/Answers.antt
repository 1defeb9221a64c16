use Rattle.den_client.proofs.Asked.{handed_on}
use Rattle.den_client.proofs.embedded.EmbeddedClient.get_by.Goals as goal

pub returns-in_err-answer-clause-asks : goal.returns-in_err-answer-clause-asks
returns-in_err-answer-clause-asks g c = handed_on _ _ _ _ _ _ _ c.in_ok-call.ensures c.from_residual-in_err-answer.ensures.1 c.in_err-answer.ensures.asks
