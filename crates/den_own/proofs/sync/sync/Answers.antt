use Rattle.den_own.proofs.Unwritten.{no_image}
use Rattle.den_own.proofs.sync.sync.Goals as goal

pub returns-in-Ok-clause-images : goal.returns-in-Ok-clause-images
returns-in-Ok-clause-images g c = no_image g.D.Disk g.met.D.Disk.images_now c.args.disk.now c.sync.new.self c.sync.result c.sync.ensures.kind c.sync.ensures.syncs

pub returns-in-Err-clause-images : goal.returns-in-Err-clause-images
returns-in-Err-clause-images g c = no_image g.D.Disk g.met.D.Disk.images_now c.args.disk.now c.sync.new.self c.sync.result c.sync.ensures.kind c.sync.ensures.syncs
