use Rattle.std.proofs.Common.{◌∙◌}
use Rattle.den_core.proofs.Sending.{length_put}
use Rattle.den_core.proofs.server.set_length.Goals as goal

pub returns : goal.returns
returns c = length_put _ _ (c.copy_from_slice.ensures.after ∙ c.to_be_bytes.ensures)
