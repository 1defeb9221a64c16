use Rattle.den_snapshot.proofs.Again.{taken_again}
use Rattle.den_snapshot.proofs.laws.maps_give_the_snapshot.Goals as goal

pub returns : goal.returns
returns c = taken_again
