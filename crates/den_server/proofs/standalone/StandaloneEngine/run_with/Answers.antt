use Rattle.std.proofs.Common.{IsTrue, ◌≡◌, ◌-◌, refl}
use Rattle.den_disk.specs.Goes.{Rose}
use Rattle.den_config.specs.Sources.{solo_configuration_in}
use Rattle.den_model.specs.Sizes.{files_size}
use Rattle.den_server.specs.Promises.{IsRunTooShort, Runs, refused_for, run_config}
use Rattle.den_server.proofs.Promised.{no_call_goes_on}
use Rattle.den_server.proofs.Told.{source_refused, run_made}
use Rattle.den_server.proofs.standalone.StandaloneEngine.run_with.Goals as goal

-- no configuration was read, and no other call was made
pub returns-in-Err-clause-runs : goal.returns-in-Err-clause-runs
returns-in-Err-clause-runs g c = source_refused (Rose (g.S.Source.faults c.args.conf.now) (g.S.Source.faults c.read_solo.new.conf)) (IsTrue (g.S.Source.tells c.args.conf.now)) (solo_configuration_in (g.S.Source.left c.args.conf.now))
    ((c.args.disk.now ≡ c.args.disk.now) × (c.args.link.now ≡ c.args.link.now) × (c.args.clock.now ≡ c.args.clock.now))
    (λ config answer. Runs g.D.Disk g.L.Link g.C.Clock config c.args.disk.now c.args.disk.now c.args.link.now c.args.link.now c.args.clock.now c.args.clock.now answer)
    c.in-Err.error (refl, refl, refl) c.in-Err.ensures.refused

pub returns-in-Err-clause-goes_on : goal.returns-in-Err-clause-goes_on
returns-in-Err-clause-goes_on g c = no_call_goes_on g.D.Disk g.L.Link g.C.Clock c.args.disk.now c.args.link.now c.args.clock.now

-- the run
pub returns-clause-runs : goal.returns-clause-runs
returns-clause-runs g c =
    let D = g.D.Disk in
    let L = g.L.Link in
    let first = c.args.disk.now in
    let config = run_config c.in-Ok.config.node in
    run_made (Rose (g.S.Source.faults c.args.conf.now) (g.S.Source.faults c.read_solo.new.conf)) (IsTrue (g.S.Source.tells c.args.conf.now)) (solo_configuration_in (g.S.Source.left c.args.conf.now))
    ((c.run.new.disk ≡ first) × (c.run.new.link ≡ c.args.link.now) × (c.run.new.clock ≡ c.args.clock.now))
    (λ config answer. Runs D L g.C.Clock config first c.run.new.disk c.args.link.now c.run.new.link c.args.clock.now c.run.new.clock answer)
    c.in-Ok.config.node c.run.result (Rose (D.faults first) (D.faults c.run.new.disk)) (Rose (L.faults c.args.link.now) (L.faults c.run.new.link)) (IsTrue (D.kind first).tells) (refused_for config (D.content first).reading)
    (IsRunTooShort D L g.C.Clock config first c.run.new.disk c.args.link.now c.run.new.link c.args.clock.now c.run.new.clock) (D.kind first).limit (files_size (D.content first).reading) (L.taken c.run.new.link - L.taken c.args.link.now)
    c.in-Ok.ensures.given c.run.ensures.runs.refused c.run.ensures.runs
