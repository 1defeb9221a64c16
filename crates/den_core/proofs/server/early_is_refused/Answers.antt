use Rattle.den_core.proofs.Early
use Rattle.den_core.proofs.server.early_is_refused.Goals as goal

pub returns : goal.returns
returns c = Early.early_is_refused
