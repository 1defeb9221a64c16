use Rattle.std.proofs.Common.{◌∙◌}
use Rattle.den_disk.specs.declared.place.Family.TheVariants.{Log as log_family}
use Rattle.den_model.specs.declared.region.LogRegion.TheVariants.{Replace}
use Rattle.den_own.specs.Logs.{log_of, log_weight}
use Rattle.den_own.proofs.Adding.{log_lighter, rises_above}
use Rattle.den_own.proofs.Unwritten.{either}
use Rattle.den_own.proofs.log.OwnLogLogStore.replace_range.Goals as goal

pub replace-requires-clause-rise : goal.replace-requires-clause-rise
replace-requires-clause-rise g c = rises_above c.args.self.now.boundary c.args.self.now.entries.items c.args.new_entries.now c.args.from_index c.requires.above c.first_index-first.ensures.positive c.requires.rise

pub returns-clause-writes : goal.returns-clause-writes
returns-clause-writes g c =
    let l = log_of c.args.self.now in
    either g.D.Disk log_family _ c.args.self.now.failed log_weight l c.args._disk.now c.replace.result _ _ (c.replace.ensures.failed ∙ c.requires.stands.ready)
    (log_lighter l (Replace (record { from = c.args.from_index; entries = c.args.new_entries.now }))) c.replace.ensures.log c.replace.ensures.refused
