use Rattle.std.proofs.Common.{Err, sym, subst}
use Rattle.den_codec.specs.declared.error.Error.{Error}
use Rattle.den_server.specs.Promises.{Runs}
use Rattle.den_server.proofs.Promised.{no_call_goes_on, not_run}
use Rattle.den_server.proofs.Standard.{under_standard}
use Rattle.den_server.specs.Default.{standard_run}
use Rattle.den_server.proofs.standalone.StandaloneEngine.run_default.Goals as goal

-- memory was wanting, and no call was made
pub returns-in-Err-clause-runs : goal.returns-in-Err-clause-runs
returns-in-Err-clause-runs g c = subst (λ (e : Error). Runs g.D.Disk g.L.Link g.C.Clock standard_run c.args.disk.now c.args.disk.now c.args.link.now c.args.link.now c.args.clock.now c.args.clock.now (Err e)) (sym c.in-Err.ensures.refused)
    (not_run g.D.Disk g.L.Link g.C.Clock standard_run c.args.disk.now c.args.link.now c.args.clock.now (λ files. g.met.D.Disk.images_now c.args.disk.now files))

pub returns-in-Err-clause-goes_on : goal.returns-in-Err-clause-goes_on
returns-in-Err-clause-goes_on g c = no_call_goes_on g.D.Disk g.L.Link g.C.Clock c.args.disk.now c.args.link.now c.args.clock.now

-- the run
pub returns-clause-runs : goal.returns-clause-runs
returns-clause-runs g c =
    under_standard (λ config. Runs g.D.Disk g.L.Link g.C.Clock config c.args.disk.now c.run.new.disk c.args.link.now c.run.new.link c.args.clock.now c.run.new.clock c.run.result)
    c.in-Ok.config.node c.in-Ok.ensures.standard c.run.ensures.runs
