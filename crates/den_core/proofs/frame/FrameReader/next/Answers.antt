use Rattle.std.proofs.Common.{IsTrue, arith, sym, subst}
use Rattle.den_core.proofs.FirstFrame.{frames_tail, frames_first}
use Rattle.den_core.proofs.frame.FrameReader.next.Goals as goal

pub returns-then-got-lt8-clause-found : goal.returns-then-got-lt8-clause-found
returns-then-got-lt8-clause-found g c = λ told.
    let fill = c.in_ok-got.ensures in
    frames_tail _ _ _ _ c.if-got-lt8.true c.if-got-eq0.false (fill.took.fits told) (fill.took.rest told) (fill.end (omega (arith, c.if-got-lt8.true, c.fill.auto.buf)) told)

pub returns-clause-found : goal.returns-clause-found
returns-clause-found g c = λ told.
    let fill = c.in_ok-got.ensures in
    let then : IsTrue (g.L.Link.tells c.fill.new.link) = subst (λ b. IsTrue b) (sym fill.on.same) told in
    frames_first _ _ _ _ _ c.fill.new.buf _ _ c.if-got-lt8.false fill.size c.fill.auto.buf (fill.took.fits told) (fill.took.rest told) (fill.bytes told) c.from_be_bytes.ensures (c.in_ok-behind.ensures.behind then)
