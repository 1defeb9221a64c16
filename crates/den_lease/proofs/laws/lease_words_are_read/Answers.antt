use Rattle.den_model.proofs.Spells.{word_iff}
use Rattle.den_lease.specs.Words.{leases_in}
use Rattle.den_lease.specs.Laws.{spells_leases}
use Rattle.den_lease.proofs.laws.lease_words_are_read.Goals as goal

pub returns : goal.returns
unfolding leases_in
returns c = word_iff spells_leases
