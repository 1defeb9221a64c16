use Rattle.std.proofs.Common.{◌≤◌, ◌+◌, sym, arith}
use Rattle.den_gate.proofs.Seen.{seen_all}
use Rattle.den_gate.proofs.look.look.Goals as goal

pub returns-clause-found : goal.returns-clause-found
returns-clause-found g c = λ tells.
    let file = (g.D.Disk.content c.args.disk.now).reading c.args.slot in
    let w = c.reach.new.self in
    let high : c.args.at ≤ w.from + w.filled = omega (arith, c.in_ok-reach.ensures.high) in
    c.found_in.ensures.found file (sym (c.requires.len tells)) (seen_all w file c.args.at c.behind.result.now (c.in_ok-reach.ensures.shows tells) c.in_ok-reach.ensures.low high c.behind.ensures.is)
