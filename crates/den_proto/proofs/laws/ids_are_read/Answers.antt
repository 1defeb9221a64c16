use Rattle.den_proto.proofs.Ids.{id_read}
use Rattle.den_proto.proofs.laws.ids_are_read.Goals as goal

pub returns : goal.returns
returns c = id_read
