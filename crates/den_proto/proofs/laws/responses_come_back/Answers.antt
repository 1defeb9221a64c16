use Rattle.den_proto.proofs.Again.{response_back}
use Rattle.den_proto.proofs.laws.responses_come_back.Goals as goal

pub returns : goal.returns
returns c = response_back
