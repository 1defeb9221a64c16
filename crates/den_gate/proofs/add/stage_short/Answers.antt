use Rattle.std.proofs.Common.{◌+◌, ◌≤◌, IsTrue, length, take, sym, ◌∙◌, ap, subst, arith}
use Rattle.std.proofs.lemmas.Result.{on_ok_weaker}
use Rattle.den_disk.specs.Files.{Files, Content, synced}
use Rattle.den_disk.proofs.Images.{length-written}
use Rattle.den_gate.specs.Steps.{IsStaged}
use Rattle.den_gate.proofs.Written.{size_behind}
use Rattle.den_gate.proofs.Calm.{staged_at_once}
use Rattle.den_gate.proofs.Runs.{ran_start, ran_writes, ran_syncs, ran_keeps}
use Rattle.den_gate.proofs.add.stage_short.Goals as goal

pub returns-in_err-write_at-clause-run : goal.returns-in_err-write_at-clause-run
returns-in_err-write_at-clause-run g c = λ tells ps open_.
    let content = g.D.Disk.content in
    let moment = g.D.Disk.moment in
    let images = g.D.Disk.images in
    let slot = c.args.slot in
    let end = c.args.end in
    let n = length c.args.payload.now in
    let d0 = c.args.disk.now in
    let d1 = c.write_at.new.self in
    let tells1 = subst (λ k. IsTrue k.tells) (sym c.write_at.ensures.kind) tells in
    let law0 = λ (files : Files). g.met.D.Disk.images_now d0 files tells in
    let law1 = λ (files : Files). g.met.D.Disk.images_now d1 files tells1 in
    let bytes = take (9 + n) c.behind_gate-row.result in
    let size = size_behind c.args.payload.now bytes c.behind_gate-row.ensures in
    let room1 : end + 1 + length bytes ≤ length ((content d0).reading slot) = omega (arith, size, c.requires.room tells) in
    let start = ran_start content moment images slot ps end d0 law0 open_ in
    let one = ran_writes content moment images slot ps end d0 law0 c.write_at.result (end + 1) bytes d0 d1 (omega arith) room1 law0 law1 start (c.write_at.ensures.writes tells) in
    ran_keeps content moment images slot ps end d0 law0 d1 one

pub returns-clause-run : goal.returns-clause-run
returns-clause-run g c = λ tells ps open_.
    let content = g.D.Disk.content in
    let moment = g.D.Disk.moment in
    let images = g.D.Disk.images in
    let slot = c.args.slot in
    let end = c.args.end in
    let n = length c.args.payload.now in
    let d0 = c.args.disk.now in
    let d1 = c.write_at.new.self in
    let tells1 = subst (λ k. IsTrue k.tells) (sym c.write_at.ensures.kind) tells in
    let law0 = λ (files : Files). g.met.D.Disk.images_now d0 files tells in
    let law1 = λ (files : Files). g.met.D.Disk.images_now d1 files tells1 in
    let bytes = take (9 + n) c.behind_gate-row.result in
    let size = size_behind c.args.payload.now bytes c.behind_gate-row.ensures in
    let room1 : end + 1 + length bytes ≤ length ((content d0).reading slot) = omega (arith, size, c.requires.room tells) in
    let start = ran_start content moment images slot ps end d0 law0 open_ in
    let one = ran_writes content moment images slot ps end d0 law0 c.write_at.result (end + 1) bytes d0 d1 (omega arith) room1 law0 law1 start (c.write_at.ensures.writes tells) in
    let d2 = c.sync.new.self in
    let tells2 = subst (λ k. IsTrue k.tells) (sym c.sync.ensures.kind) tells1 in
    let law2 = λ (files : Files). g.met.D.Disk.images_now d2 files tells2 in
    let two = ran_syncs content moment images slot ps end d0 law0 c.sync.result d1 d2 law1 law2 one (c.sync.ensures.syncs tells1) in
    ran_keeps content moment images slot ps end d0 law0 d2 two

pub returns-clause-staged : goal.returns-clause-staged
returns-clause-staged g c = λ tells ps open_.
    let slot = c.args.slot in
    let end = c.args.end in
    let p = c.args.payload.now in
    let bytes = take (9 + length p) c.behind_gate-row.result in
    let tells1 = subst (λ k. IsTrue k.tells) (sym c.write_at.ensures.kind) tells in
    let one = ((c.in_ok-write_at.ensures.writes tells).ok).0 in
    let after = staged_at_once slot ps p bytes end (g.D.Disk.content c.args.disk.now) open_ (c.requires.room tells) (omega (arith, c.requires.end)) c.behind_gate-row.ensures (size_behind p bytes c.behind_gate-row.ensures) in
    on_ok_weaker c.sync.result
    (λ done. subst (λ (k : Content). IsStaged slot ps p end k) (sym (done.0 ∙ ap synced one)) after)
    (c.sync.ensures.syncs tells1).ok

pub returns-clause-long : goal.returns-clause-long
returns-clause-long g c = λ tells.
    let content = g.D.Disk.content in
    let slot = c.args.slot in
    let end = c.args.end in
    let p = c.args.payload.now in
    let d0 = content c.args.disk.now in
    let d1 = content c.write_at.new.self in
    let tells1 = subst (λ k. IsTrue k.tells) (sym c.write_at.ensures.kind) tells in
    let bytes = take (9 + length p) c.behind_gate-row.result in
    let size = size_behind p bytes c.behind_gate-row.ensures in
    let room1 : end + 1 + length bytes ≤ length (d0.reading slot) = omega (arith, size, c.requires.room tells) in
    let long1 = length-written slot (end + 1) bytes d0 d1 room1 ((c.in_ok-write_at.ensures.writes tells).ok).0 in
    on_ok_weaker c.sync.result (λ done. ap (λ (k : Content). length (k.reading slot)) done.0 ∙ long1) (c.sync.ensures.syncs tells1).ok
