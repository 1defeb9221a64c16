use Rattle.den_model.specs.ReplyReading.{event_in}
use Rattle.den_model.proofs.Spells.{word_iff}
use Rattle.den_model.proofs.ReplySpells.{spells_event}
use Rattle.den_model.proofs.laws.event_words_are_read.Goals as goal

pub returns : goal.returns
unfolding event_in
returns c = word_iff spells_event
