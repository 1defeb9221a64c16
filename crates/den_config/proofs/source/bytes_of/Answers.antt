use Rattle.std.proofs.Common.{arith, ap, length, length-append}
use Rattle.den_config.proofs.Sourced.{held_too_long}
use Rattle.den_config.proofs.source.bytes_of.Goals as goal

pub returns-clause-stops : goal.returns-clause-stops
returns-clause-stops g c = λ told.
    let loop = c.loop-piece in
    omega (arith, loop.held.ok.0, ap length (loop.invariant.bytes told), length-append loop.held.items (g.S.Source.left loop.conf))

pub returns-clause-refused : goal.returns-clause-refused
returns-clause-refused g c = λ told. held_too_long _ c.loop-piece.held.items _ (c.loop-piece.invariant.bytes told) (omega (arith, c.loop-piece.held.ok.0))
