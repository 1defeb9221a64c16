use Rattle.den_model.specs.Reading.{state_region_in}
use Rattle.den_model.proofs.Spells.{word_iff}
use Rattle.den_model.proofs.StateSpells.{spells_state_region}
use Rattle.den_model.proofs.laws.state_words_are_read.Goals as goal

pub returns : goal.returns
unfolding state_region_in
returns c = word_iff spells_state_region
