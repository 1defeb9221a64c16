use Rattle.std.proofs.Common.{◌∙◌}
use Rattle.den_gate.proofs.Seen.{seen_part}
use Rattle.den_gate.proofs.take.take_payload.Goals as goal

pub returns-then-shows-clause-payload : goal.returns-then-shows-clause-payload
returns-then-shows-clause-payload g c = λ tells.
    let file = (g.D.Disk.content c.args.disk.now).reading c.args.slot in
    let within = c.shows.ensures.0 c.if-shows.true in
    c.in_ok-of.ensures ∙ seen_part c.args.window.now file c.args.from c.args.to c.behind.result.now (c.requires.shows tells) within.0 c.requires.sized within.1 c.behind.ensures.is
