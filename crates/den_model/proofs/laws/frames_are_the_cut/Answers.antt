use Rattle.den_model.proofs.CutInto.{cut_iff}
use Rattle.den_model.proofs.laws.frames_are_the_cut.Goals as goal

pub returns : goal.returns
returns c = λ limit bytes fs fits. cut_iff limit bytes fs fits
