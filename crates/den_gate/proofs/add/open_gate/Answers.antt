use Rattle.std.proofs.Common.{◌+◌, ◌≤◌, [], ◌∷◌, ◌++◌, IsTrue, length, sym, ◌∙◌, ap, subst, arith}
use Rattle.std.proofs.lemmas.Result.{on_ok_weaker}
use Rattle.den_disk.specs.Files.{Files, Content, synced}
use Rattle.den_disk.proofs.Images.{length-written}
use Rattle.den_gate.specs.Steps.{IsOpen}
use Rattle.den_gate.proofs.Calm.{opened}
use Rattle.den_gate.proofs.Runs.{ran_opens, ran_opened, ran_adds}
use Rattle.den_gate.proofs.add.open_gate.Goals as goal

pub returns-in_err-write_at-clause-run : goal.returns-in_err-write_at-clause-run
returns-in_err-write_at-clause-run g c = λ tells ps p staged.
    let content = g.D.Disk.content in
    let moment = g.D.Disk.moment in
    let images = g.D.Disk.images in
    let d0 = c.args.disk.now in
    let d1 = c.write_at.new.self in
    let tells1 = subst (λ k. IsTrue k.tells) (sym c.write_at.ensures.kind) tells in
    let law0 = λ (files : Files). g.met.D.Disk.images_now d0 files tells in
    let law1 = λ (files : Files). g.met.D.Disk.images_now d1 files tells1 in
    let one = ran_opens content moment images c.args.slot ps c.args.end d0 law0 p c.write_at.result d1 staged law1 (c.write_at.ensures.writes tells) in
    ran_adds content moment images c.args.slot ps c.args.end d0 law0 p d1 one

pub returns-clause-run : goal.returns-clause-run
returns-clause-run g c = λ tells ps p staged.
    let content = g.D.Disk.content in
    let moment = g.D.Disk.moment in
    let images = g.D.Disk.images in
    let d0 = c.args.disk.now in
    let d1 = c.write_at.new.self in
    let d2 = c.sync.new.self in
    let tells1 = subst (λ k. IsTrue k.tells) (sym c.write_at.ensures.kind) tells in
    let tells2 = subst (λ k. IsTrue k.tells) (sym c.sync.ensures.kind) tells1 in
    let law0 = λ (files : Files). g.met.D.Disk.images_now d0 files tells in
    let law1 = λ (files : Files). g.met.D.Disk.images_now d1 files tells1 in
    let law2 = λ (files : Files). g.met.D.Disk.images_now d2 files tells2 in
    let one = ran_opens content moment images c.args.slot ps c.args.end d0 law0 p c.write_at.result d1 staged law1 (c.write_at.ensures.writes tells) in
    let two = ran_opened content moment images c.args.slot ps c.args.end d0 law0 p c.sync.result d1 d2 law1 law2 one (c.sync.ensures.syncs tells1) in
    ran_adds content moment images c.args.slot ps c.args.end d0 law0 p d2 two

pub returns-clause-open : goal.returns-clause-open
returns-clause-open g c = λ tells ps p staged.
    let tells1 = subst (λ k. IsTrue k.tells) (sym c.write_at.ensures.kind) tells in
    on_ok_weaker c.sync.result
    (λ done. subst (λ k. IsOpen c.args.slot (ps ++ p ∷ []) (c.args.end + (9 + length p)) k) (sym (done.0 ∙ ap synced ((c.in_ok-write_at.ensures.writes tells).ok).0)) (opened c.args.slot ps p c.args.end (g.D.Disk.content c.args.disk.now) staged))
    (c.sync.ensures.syncs tells1).ok

pub returns-clause-long : goal.returns-clause-long
returns-clause-long g c = λ tells.
    let d0 = g.D.Disk.content c.args.disk.now in
    let d1 = g.D.Disk.content c.write_at.new.self in
    let tells1 = subst (λ k. IsTrue k.tells) (sym c.write_at.ensures.kind) tells in
    let room : c.args.end + 1 ≤ length (d0.reading c.args.slot) = omega (arith, c.requires tells) in
    let long = length-written c.args.slot c.args.end (1 ∷ []) d0 d1 room ((c.in_ok-write_at.ensures.writes tells).ok).0 in
    on_ok_weaker c.sync.result (λ done. ap (λ (k : Content). length (k.reading c.args.slot)) done.0 ∙ long) (c.sync.ensures.syncs tells1).ok
