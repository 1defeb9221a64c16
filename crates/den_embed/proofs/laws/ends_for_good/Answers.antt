use Rattle.den_embed.proofs.Ending.{ends_for_good}
use Rattle.den_embed.proofs.laws.ends_for_good.Goals as goal

pub returns : goal.returns
returns c = ends_for_good
