use Rattle.den_model.specs.Reading.{record_in}
use Rattle.den_model.proofs.Spells.{word_iff}
use Rattle.den_model.proofs.StateSpells.{spells_record}
use Rattle.den_model.proofs.laws.record_words_are_read.Goals as goal

pub returns : goal.returns
unfolding record_in
returns c = word_iff spells_record
