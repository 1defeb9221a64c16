use Rattle.den_proto.proofs.Ids.{is_numeral}
use Rattle.den_proto.proofs.laws.ids_are_numerals.Goals as goal

pub returns : goal.returns
returns c = is_numeral
