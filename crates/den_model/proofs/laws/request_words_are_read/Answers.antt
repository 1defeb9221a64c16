use Rattle.den_model.specs.Reading.{request_in}
use Rattle.den_model.proofs.RequestWords.{request_iff}
use Rattle.den_model.proofs.laws.request_words_are_read.Goals as goal

pub returns : goal.returns
unfolding request_in
returns c = request_iff
