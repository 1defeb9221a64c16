use Rattle.den_model.proofs.Spells.{word_iff}
use Rattle.den_snapshot.specs.Words.{snapshot_in}
use Rattle.den_snapshot.specs.Spelled.{spells_snapshot}
use Rattle.den_snapshot.proofs.laws.snapshot_words_are_read.Goals as goal

pub returns : goal.returns
unfolding snapshot_in
returns c = word_iff spells_snapshot
