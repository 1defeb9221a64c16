use Rattle.den_model.proofs.Cut.{regions_end}
use Rattle.den_model.proofs.laws.whole_slots_are_read.Goals as goal

pub returns : goal.returns
returns c = regions_end
