use Rattle.std.proofs.Common.{◌∙◌, sym}
use Rattle.std.proofs.lemmas.Result.{on_ok_weaker}
use Rattle.den_disk.specs.declared.place.Family.TheVariants.{Log as log_family}
use Rattle.den_model.specs.declared.region.LogRegion.TheVariants.{Append}
use Rattle.den_model.specs.Log.{floor}
use Rattle.den_store.proofs.Rising.{rise_from_above}
use Rattle.den_own.specs.Logs.{log_of, log_weight}
use Rattle.den_own.proofs.Adding.{added_from, log_lighter, none_added}
use Rattle.den_own.proofs.Unwritten.{either, makes}
use Rattle.den_own.proofs.log.OwnLogLogStore.persist_entries.Goals as goal

pub replace-requires-clause-rise : goal.replace-requires-clause-rise
replace-requires-clause-rise g c = rise_from_above (floor (log_of c.args.self.now)) c.args.entries.now c.requires.rise

pub returns-in-Some-clause-writes : goal.returns-in-Some-clause-writes
returns-in-Some-clause-writes g c =
    let l = log_of c.args.self.now in
    let es = c.args.entries.now in
    either g.D.Disk log_family _ c.args.self.now.failed log_weight l c.args._disk.now c.replace.result _ _ (c.replace.ensures.failed ∙ c.requires.stands.ready) (log_lighter l (Append es))
    (on_ok_weaker c.replace.result (λ is. is ∙ added_from l es c.in-Some.from (sym c.in-Some.ensures.is)) c.replace.ensures.log) c.replace.ensures.refused

pub returns-in-None-clause-writes : goal.returns-in-None-clause-writes
returns-in-None-clause-writes g c =
    let l = log_of c.args.self.now in
    let es = c.args.entries.now in
    makes g.D.Disk log_family _ c.args.self.now.failed log_weight l c.args._disk.now _ _ _ c.requires.stands.ready (none_added l es (sym c.in-None.ensures.is)) (log_lighter l (Append es))
