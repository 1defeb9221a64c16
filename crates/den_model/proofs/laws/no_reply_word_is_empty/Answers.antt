use Rattle.den_model.proofs.ReplySpells.{reply_some}
use Rattle.den_model.proofs.laws.no_reply_word_is_empty.Goals as goal

pub returns : goal.returns
returns c = reply_some
