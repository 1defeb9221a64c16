use Rattle.std.proofs.Common.{◌≤◌, IsTrue, length, sym, subst, arith}
use Rattle.std.proofs.lemmas.Result.{on_ok_weaker}
use Rattle.den_disk.specs.Files.{Content, fit}
use Rattle.den_disk.proofs.Places.{change-here}
use Rattle.den_disk.proofs.Images.{length-fit}
use Rattle.den_gate.proofs.Alone.{stays_alone, resizes_alone, then_alone}
use Rattle.den_gate.proofs.turn.make_byte.Goals as goal

pub returns-in_err-len-clause-run : goal.returns-in_err-len-clause-run
returns-in_err-len-clause-run g c = (stays_alone g.D.Disk g.met.D.Disk.images_now c.args.place c.len.ensures.kind c.len.ensures.stays).run

pub returns-then-len-gt0-clause-run : goal.returns-then-len-gt0-clause-run
returns-then-len-gt0-clause-run g c = (stays_alone g.D.Disk g.met.D.Disk.images_now c.args.place c.len.ensures.kind c.len.ensures.stays).run

pub returns-clause-run : goal.returns-clause-run
returns-clause-run g c =
    let len = stays_alone g.D.Disk g.met.D.Disk.images_now c.args.place c.len.ensures.kind c.len.ensures.stays in
    (then_alone len (resizes_alone g.D.Disk g.met.D.Disk.images_now c.args.place c.resize.ensures.kind 1 c.resize.ensures.resizes)).run

pub returns-clause-long : goal.returns-clause-long
returns-clause-long g c = λ tells.
    let place = c.args.place in
    let c1 = g.D.Disk.content c.len.new.self in
    let tells1 = subst (λ k. IsTrue k.tells) (sym c.len.ensures.kind) tells in
    let long : 1 ≤ length (fit 1 (c1.reading place)) = omega (arith, length-fit 1 (c1.reading place)) in
    on_ok_weaker c.resize.result
    (λ done. subst (λ (k : Content). 1 ≤ length (k.reading place)) (sym done.0) (subst (λ l. 1 ≤ length l) (sym (change-here place (fit 1) c1.reading)) long))
    (c.resize.ensures.resizes tells1).ok
