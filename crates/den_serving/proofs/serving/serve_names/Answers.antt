use Rattle.den_serving.proofs.Answered.{link_alone}
use Rattle.den_serving.proofs.serving.serve_names.Goals as goal

pub returns-in-Some-clause-goes_on : goal.returns-in-Some-clause-goes_on
returns-in-Some-clause-goes_on g c = link_alone g.D.Disk g.L.Link g.C.Clock c.args.disk.now c.args.link.now c.serve_drive.new.link c.args.clock.now c.serve_drive.ensures.on
