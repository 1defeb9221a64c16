use Rattle.den_model.specs.Reading.{log_region_in}
use Rattle.den_model.proofs.Spells.{word_iff}
use Rattle.den_model.proofs.RegionSpells.{spells_log_region}
use Rattle.den_model.proofs.laws.log_words_are_read.Goals as goal

pub returns : goal.returns
unfolding log_region_in
returns c = word_iff spells_log_region
