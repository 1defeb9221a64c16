use Rattle.den_model.specs.Reading.{hard_state_in}
use Rattle.den_model.proofs.Spells.{word_iff}
use Rattle.den_model.proofs.LogSpells.{spells_hard_state}
use Rattle.den_model.proofs.laws.hard_state_words_are_read.Goals as goal

pub returns : goal.returns
unfolding hard_state_in
returns c = word_iff spells_hard_state
