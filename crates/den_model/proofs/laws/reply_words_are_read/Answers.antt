use Rattle.den_model.specs.ReplyReading.{reply_in}
use Rattle.den_model.proofs.Spells.{word_iff}
use Rattle.den_model.proofs.ReplySpells.{spells_reply}
use Rattle.den_model.proofs.laws.reply_words_are_read.Goals as goal

pub returns : goal.returns
unfolding reply_in
returns c = word_iff spells_reply
