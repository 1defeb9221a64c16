use Rattle.std.proofs.Common.{◌≡◌, ◌<◌, ◌+◌, ◌-◌, length, arith}
use Rattle.den_disk.proofs.Dropped.{caps_down, dropped_more}
use Rattle.den_disk.proofs.Spoilt.{lasts_down, spoilt_more}
use Rattle.den_disk.proofs.spoil.spoil.Goals as goal

pub loop-left-preserved : goal.loop-left-preserved
loop-left-preserved c =
    let steps = c.args.steps.now in
    let next : c.loop-left.left ≡ c.loop-left.left - 1 + 1 = omega arith in
    let lt : c.loop-left.left - 1 < length steps = omega arith in
    let is = c.index-steps-left.is in
    let before = c.loop-left.invariant in
    record {
      within = omega arith;
      twelve = c.spoil_step.array_long;
      spoilt = spoilt_more c.loop-left.caps steps _ c.loop-left.left c.index-steps-left.result _ _ _ next lt is before.lasts c.spoil_step.ensures.spoils before.spoilt;
      lasts = lasts_down c.loop-left.caps _ steps _ c.loop-left.left c.index-steps-left.result next lt is before.twelve c.spoil_step.ensures.caps before.lasts;
      caps = caps_down c.loop-left.caps _ steps _ c.loop-left.left c.index-steps-left.result next lt is before.twelve c.spoil_step.ensures.caps before.caps;
      dropped = λ zero. dropped_more c.loop-left.caps steps _ c.loop-left.left c.index-steps-left.result c.args.files.now _ _ next lt is before.caps (c.spoil_step.ensures.dropped zero) (λ q. (before.spoilt q).as_long) (before.dropped zero);
    }
