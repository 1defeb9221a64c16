use Rattle.den_client.proofs.Values.{reads_give_values}
use Rattle.den_client.proofs.laws.reads_give_values.Goals as goal

pub returns : goal.returns
returns c = reads_give_values
