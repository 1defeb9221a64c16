use Rattle.std.proofs.Common.{map, string_bytes}
use Rattle.den_server.proofs.Promised.{no_call_goes_on}
use Rattle.den_serving.proofs.Answered.{nothing_done}
use Rattle.den_words.specs.Words.{names_in}
use Rattle.den_serving.proofs.serving.serve_words.Goals as goal

pub returns-in-Ok-None-clause-goes_on : goal.returns-in-Ok-None-clause-goes_on
returns-in-Ok-None-clause-goes_on g c = no_call_goes_on g.D.Disk g.L.Link g.C.Clock c.args.disk.now c.args.link.now c.args.clock.now

pub returns-in-Err-clause-answer : goal.returns-in-Err-clause-answer
returns-in-Err-clause-answer g c = nothing_done g.S.Source g.D.Disk g.L.Link g.C.Clock c.args.conf.now c.args.disk.now c.args.link.now c.args.clock.now (names_in (map string_bytes c.args.words.now))

pub returns-in-Err-clause-goes_on : goal.returns-in-Err-clause-goes_on
returns-in-Err-clause-goes_on g c = no_call_goes_on g.D.Disk g.L.Link g.C.Clock c.args.disk.now c.args.link.now c.args.clock.now
