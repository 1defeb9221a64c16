use Rattle.den_proto.proofs.Again.{hint_read}
use Rattle.den_proto.proofs.laws.hints_are_read.Goals as goal

pub returns : goal.returns
returns c = hint_read
