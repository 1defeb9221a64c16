use Rattle.std.proofs.Common.{◌<◌, ◌≤◌, rules, ◌∙◌, ap, subst}
use Rattle.den_model.specs.Frames.{frame_in}
use Rattle.den_core.proofs.FirstFrame.{behind_long, behind_read}
use Rattle.den_core.proofs.frame.FrameReader.behind.Goals as goal

pub returns-then-size-from-clause-behind : goal.returns-then-size-from-clause-behind
returns-then-size-from-clause-behind g c = λ told.
    behind_long _ _ _ _ (subst (λ n. n < c.args.size) c.from.ensures c.if-size-from.true) (c.in_ok-skip.ensures.rest told)

pub returns-clause-behind : goal.returns-clause-behind
returns-clause-behind g c = λ told.
    behind_read _ _ _ _ c.read_body.new.body.items _ _ (search rules) (subst (λ n. c.args.size ≤ n) c.from.ensures c.if-size-from.false) (c.in_ok-read_body.ensures.body told)
    (c.in_ok-frame_in.ensures.is ∙ ap frame_in c.deref.ensures.value)
