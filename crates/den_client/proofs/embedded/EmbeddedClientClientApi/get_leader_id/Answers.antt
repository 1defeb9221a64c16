use Rattle.den_client.proofs.Asked.{handed_on}
use Rattle.den_client.proofs.embedded.EmbeddedClientClientApi.get_leader_id.Goals as goal

pub returns-in_err-answer-clause-asks : goal.returns-in_err-answer-clause-asks
returns-in_err-answer-clause-asks g c = handed_on _ _ _ _ _ _ _ c.members_call.ensures c.from_residual.ensures.1 c.in_err-answer.ensures.asks
