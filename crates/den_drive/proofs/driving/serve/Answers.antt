use Rattle.std.proofs.Common.{◌∙◌, arith, refl, sym}
use Rattle.den_disk.specs.contracts.memory.MemDiskDisk.TheImpl.{ghosts as disk}
use Rattle.den_disk.specs.Memory.{file_of}
use Rattle.den_drive.specs.contracts.feed.FeedLink.TheImpl.{ghosts as link}
use Rattle.den_drive.specs.contracts.moments.MomentsClock.TheImpl.{ghosts as clock}
use Rattle.den_drive.proofs.Empty.{all_empty}
use Rattle.den_drive.proofs.Served.{said_run, want_run}
use Rattle.den_drive.proofs.driving.serve.Goals as goal

pub returns-then-counts-clause-sent : goal.returns-then-counts-clause-sent
returns-then-counts-clause-sent c =
    let empty = all_empty (file_of c.new-disk.result.files) c.new-disk.ensures.empty in
    said_run disk link clock c.new-disk.result c.run_default.new.disk c.args.link.now c.run_default.new.link c.new-clock.result c.run_default.new.clock c.run_default.new.clock.given
    refl refl (sym c.counts.ensures ∙ c.if-counts.true) empty c.requires.unsent c.new-clock.ensures refl c.in-Ok.ensures.runs.served

pub want_of-requires : goal.want_of-requires
want_of-requires c =
    let empty = all_empty (file_of c.new-disk.result.files) c.new-disk.ensures.empty in
    want_run disk link clock c.new-disk.result c.run_default.new.disk c.args.link.now c.run_default.new.link c.new-clock.result c.run_default.new.clock
    refl (omega arith) empty (omega (arith, c.run_default.new.link.small)) c.in-Err.error c.in-Err.ensures.runs.refused
