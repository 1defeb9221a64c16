use Rattle.den_model.proofs.CutInto.{bodies_same}
use Rattle.den_model.proofs.laws.bodies_are_told.Goals as goal

pub returns : goal.returns
returns c = bodies_same
