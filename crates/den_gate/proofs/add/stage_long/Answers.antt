use Rattle.std.proofs.Common.{◌≡◌, ◌+◌, ◌≤◌, List, ℕ, [], ◌∷◌, IsTrue, length, sym, ◌∙◌, ap, subst, arith}
use Rattle.std.proofs.lemmas.Result.{on_ok_weaker}
use Rattle.den_disk.specs.Files.{Files, Content, written, synced}
use Rattle.den_disk.proofs.Images.{length-written}
use Rattle.den_model.specs.Spelling.{u64_word}
use Rattle.den_gate.specs.Steps.{IsStaged}
use Rattle.den_gate.proofs.Written.{length-word, word-is}
use Rattle.den_gate.proofs.Calm.{staged_after}
use Rattle.den_gate.proofs.Runs.{ran_start, ran_writes, ran_syncs, ran_keeps}
use Rattle.den_gate.proofs.add.stage_long.Goals as goal

pub returns-in_err-write_at-clause-run : goal.returns-in_err-write_at-clause-run
returns-in_err-write_at-clause-run g c = λ tells ps open_.
    let content = g.D.Disk.content in
    let moment = g.D.Disk.moment in
    let images = g.D.Disk.images in
    let slot = c.args.slot in
    let end = c.args.end in
    let n = length c.args.payload.now in
    let d0 = c.args.disk.now in
    let d1 = c.write_at.new.self in
    let tells1 = subst (λ k. IsTrue k.tells) (sym c.write_at.ensures.kind) tells in
    let law0 = λ (files : Files). g.met.D.Disk.images_now d0 files tells in
    let law1 = λ (files : Files). g.met.D.Disk.images_now d1 files tells1 in
    let field : length c.to_be_bytes.result ≡ 8 = ap length (word-is n c.to_be_bytes.result c.to_be_bytes.ensures) ∙ length-word n in
    let room1 : end + 1 + length c.to_be_bytes.result ≤ length ((content d0).reading slot) = omega (arith, c.requires.room tells) in
    let start = ran_start content moment images slot ps end d0 law0 open_ in
    let one = ran_writes content moment images slot ps end d0 law0 c.write_at.result (end + 1) c.to_be_bytes.result d0 d1 (omega arith) room1 law0 law1 start (c.write_at.ensures.writes tells) in
    ran_keeps content moment images slot ps end d0 law0 d1 one

pub returns-in_err-write_at-2-clause-run : goal.returns-in_err-write_at-2-clause-run
returns-in_err-write_at-2-clause-run g c = λ tells ps open_.
    let content = g.D.Disk.content in
    let moment = g.D.Disk.moment in
    let images = g.D.Disk.images in
    let slot = c.args.slot in
    let end = c.args.end in
    let n = length c.args.payload.now in
    let d0 = c.args.disk.now in
    let d1 = c.write_at.new.self in
    let tells1 = subst (λ k. IsTrue k.tells) (sym c.write_at.ensures.kind) tells in
    let law0 = λ (files : Files). g.met.D.Disk.images_now d0 files tells in
    let law1 = λ (files : Files). g.met.D.Disk.images_now d1 files tells1 in
    let field : length c.to_be_bytes.result ≡ 8 = ap length (word-is n c.to_be_bytes.result c.to_be_bytes.ensures) ∙ length-word n in
    let room1 : end + 1 + length c.to_be_bytes.result ≤ length ((content d0).reading slot) = omega (arith, c.requires.room tells) in
    let start = ran_start content moment images slot ps end d0 law0 open_ in
    let one = ran_writes content moment images slot ps end d0 law0 c.write_at.result (end + 1) c.to_be_bytes.result d0 d1 (omega arith) room1 law0 law1 start (c.write_at.ensures.writes tells) in
    let d2 = c.write_at-2.new.self in
    let tells2 = subst (λ k. IsTrue k.tells) (sym c.write_at-2.ensures.kind) tells1 in
    let law2 = λ (files : Files). g.met.D.Disk.images_now d2 files tells2 in
    let long1 = length-written slot (end + 1) c.to_be_bytes.result (content d0) (content d1) room1 ((c.in_ok-write_at.ensures.writes tells).ok).0 in
    let room2 : end + 9 + n ≤ length ((content d1).reading slot) = omega (arith, c.requires.room tells) in
    let two = ran_writes content moment images slot ps end d0 law0 c.write_at-2.result (end + 9) c.args.payload.now d1 d2 (omega arith) room2 law1 law2 one (c.write_at-2.ensures.writes tells1) in
    ran_keeps content moment images slot ps end d0 law0 d2 two

pub returns-in_err-write_at-3-clause-run : goal.returns-in_err-write_at-3-clause-run
returns-in_err-write_at-3-clause-run g c = λ tells ps open_.
    let content = g.D.Disk.content in
    let moment = g.D.Disk.moment in
    let images = g.D.Disk.images in
    let slot = c.args.slot in
    let end = c.args.end in
    let n = length c.args.payload.now in
    let d0 = c.args.disk.now in
    let d1 = c.write_at.new.self in
    let tells1 = subst (λ k. IsTrue k.tells) (sym c.write_at.ensures.kind) tells in
    let law0 = λ (files : Files). g.met.D.Disk.images_now d0 files tells in
    let law1 = λ (files : Files). g.met.D.Disk.images_now d1 files tells1 in
    let field : length c.to_be_bytes.result ≡ 8 = ap length (word-is n c.to_be_bytes.result c.to_be_bytes.ensures) ∙ length-word n in
    let room1 : end + 1 + length c.to_be_bytes.result ≤ length ((content d0).reading slot) = omega (arith, c.requires.room tells) in
    let start = ran_start content moment images slot ps end d0 law0 open_ in
    let one = ran_writes content moment images slot ps end d0 law0 c.write_at.result (end + 1) c.to_be_bytes.result d0 d1 (omega arith) room1 law0 law1 start (c.write_at.ensures.writes tells) in
    let d2 = c.write_at-2.new.self in
    let tells2 = subst (λ k. IsTrue k.tells) (sym c.write_at-2.ensures.kind) tells1 in
    let law2 = λ (files : Files). g.met.D.Disk.images_now d2 files tells2 in
    let long1 = length-written slot (end + 1) c.to_be_bytes.result (content d0) (content d1) room1 ((c.in_ok-write_at.ensures.writes tells).ok).0 in
    let room2 : end + 9 + n ≤ length ((content d1).reading slot) = omega (arith, c.requires.room tells) in
    let two = ran_writes content moment images slot ps end d0 law0 c.write_at-2.result (end + 9) c.args.payload.now d1 d2 (omega arith) room2 law1 law2 one (c.write_at-2.ensures.writes tells1) in
    let d3 = c.write_at-3.new.self in
    let tells3 = subst (λ k. IsTrue k.tells) (sym c.write_at-3.ensures.kind) tells2 in
    let law3 = λ (files : Files). g.met.D.Disk.images_now d3 files tells3 in
    let long2 = length-written slot (end + 9) c.args.payload.now (content d1) (content d2) room2 ((c.in_ok-write_at-2.ensures.writes tells1).ok).0 in
    let room3 : end + 9 + n + 1 ≤ length ((content d2).reading slot) = omega (arith, c.requires.room tells) in
    let three = ran_writes content moment images slot ps end d0 law0 c.write_at-3.result (end + 9 + n) (0 ∷ []) d2 d3 (omega arith) room3 law2 law3 two (c.write_at-3.ensures.writes tells2) in
    ran_keeps content moment images slot ps end d0 law0 d3 three

pub returns-clause-run : goal.returns-clause-run
returns-clause-run g c = λ tells ps open_.
    let content = g.D.Disk.content in
    let moment = g.D.Disk.moment in
    let images = g.D.Disk.images in
    let slot = c.args.slot in
    let end = c.args.end in
    let n = length c.args.payload.now in
    let d0 = c.args.disk.now in
    let d1 = c.write_at.new.self in
    let tells1 = subst (λ k. IsTrue k.tells) (sym c.write_at.ensures.kind) tells in
    let law0 = λ (files : Files). g.met.D.Disk.images_now d0 files tells in
    let law1 = λ (files : Files). g.met.D.Disk.images_now d1 files tells1 in
    let field : length c.to_be_bytes.result ≡ 8 = ap length (word-is n c.to_be_bytes.result c.to_be_bytes.ensures) ∙ length-word n in
    let room1 : end + 1 + length c.to_be_bytes.result ≤ length ((content d0).reading slot) = omega (arith, c.requires.room tells) in
    let start = ran_start content moment images slot ps end d0 law0 open_ in
    let one = ran_writes content moment images slot ps end d0 law0 c.write_at.result (end + 1) c.to_be_bytes.result d0 d1 (omega arith) room1 law0 law1 start (c.write_at.ensures.writes tells) in
    let d2 = c.write_at-2.new.self in
    let tells2 = subst (λ k. IsTrue k.tells) (sym c.write_at-2.ensures.kind) tells1 in
    let law2 = λ (files : Files). g.met.D.Disk.images_now d2 files tells2 in
    let long1 = length-written slot (end + 1) c.to_be_bytes.result (content d0) (content d1) room1 ((c.in_ok-write_at.ensures.writes tells).ok).0 in
    let room2 : end + 9 + n ≤ length ((content d1).reading slot) = omega (arith, c.requires.room tells) in
    let two = ran_writes content moment images slot ps end d0 law0 c.write_at-2.result (end + 9) c.args.payload.now d1 d2 (omega arith) room2 law1 law2 one (c.write_at-2.ensures.writes tells1) in
    let d3 = c.write_at-3.new.self in
    let tells3 = subst (λ k. IsTrue k.tells) (sym c.write_at-3.ensures.kind) tells2 in
    let law3 = λ (files : Files). g.met.D.Disk.images_now d3 files tells3 in
    let long2 = length-written slot (end + 9) c.args.payload.now (content d1) (content d2) room2 ((c.in_ok-write_at-2.ensures.writes tells1).ok).0 in
    let room3 : end + 9 + n + 1 ≤ length ((content d2).reading slot) = omega (arith, c.requires.room tells) in
    let three = ran_writes content moment images slot ps end d0 law0 c.write_at-3.result (end + 9 + n) (0 ∷ []) d2 d3 (omega arith) room3 law2 law3 two (c.write_at-3.ensures.writes tells2) in
    let d4 = c.sync.new.self in
    let tells4 = subst (λ k. IsTrue k.tells) (sym c.sync.ensures.kind) tells3 in
    let law4 = λ (files : Files). g.met.D.Disk.images_now d4 files tells4 in
    let four = ran_syncs content moment images slot ps end d0 law0 c.sync.result d3 d4 law3 law4 three (c.sync.ensures.syncs tells3) in
    ran_keeps content moment images slot ps end d0 law0 d4 four

pub returns-clause-staged : goal.returns-clause-staged
returns-clause-staged g c = λ tells ps open_.
    let slot = c.args.slot in
    let end = c.args.end in
    let p = c.args.payload.now in
    let n = length p in
    let c0 = g.D.Disk.content c.args.disk.now in
    let tells1 = subst (λ k. IsTrue k.tells) (sym c.write_at.ensures.kind) tells in
    let tells2 = subst (λ k. IsTrue k.tells) (sym c.write_at-2.ensures.kind) tells1 in
    let tells3 = subst (λ k. IsTrue k.tells) (sym c.write_at-3.ensures.kind) tells2 in
    let one : g.D.Disk.content c.write_at.new.self ≡ written slot (end + 1) (u64_word n) c0 =
    ((c.in_ok-write_at.ensures.writes tells).ok).0 ∙ ap (λ (b : List ℕ). written slot (end + 1) b c0) (word-is n c.to_be_bytes.result c.to_be_bytes.ensures) in
    let two : g.D.Disk.content c.write_at-2.new.self ≡ written slot (end + 9) p (written slot (end + 1) (u64_word n) c0) =
    ((c.in_ok-write_at-2.ensures.writes tells1).ok).0 ∙ ap (written slot (end + 9) p) one in
    let three : g.D.Disk.content c.write_at-3.new.self ≡ written slot (end + 9 + n) (0 ∷ []) (written slot (end + 9) p (written slot (end + 1) (u64_word n) c0)) =
    ((c.in_ok-write_at-3.ensures.writes tells2).ok).0 ∙ ap (written slot (end + 9 + n) (0 ∷ [])) two in
    let after = staged_after slot ps p end c0 open_ (c.requires.room tells) (omega (arith, c.requires.end)) in
    on_ok_weaker c.sync.result
    (λ done. subst (λ (k : Content). IsStaged slot ps p end k) (sym (done.0 ∙ ap synced three)) after)
    (c.sync.ensures.syncs tells3).ok

pub returns-clause-long : goal.returns-clause-long
returns-clause-long g c = λ tells.
    let content = g.D.Disk.content in
    let slot = c.args.slot in
    let end = c.args.end in
    let n = length c.args.payload.now in
    let d0 = content c.args.disk.now in
    let d1 = content c.write_at.new.self in
    let d2 = content c.write_at-2.new.self in
    let d3 = content c.write_at-3.new.self in
    let tells1 = subst (λ k. IsTrue k.tells) (sym c.write_at.ensures.kind) tells in
    let tells2 = subst (λ k. IsTrue k.tells) (sym c.write_at-2.ensures.kind) tells1 in
    let tells3 = subst (λ k. IsTrue k.tells) (sym c.write_at-3.ensures.kind) tells2 in
    let field : length c.to_be_bytes.result ≡ 8 = ap length (word-is n c.to_be_bytes.result c.to_be_bytes.ensures) ∙ length-word n in
    let room1 : end + 1 + length c.to_be_bytes.result ≤ length (d0.reading slot) = omega (arith, c.requires.room tells) in
    let long1 = length-written slot (end + 1) c.to_be_bytes.result d0 d1 room1 ((c.in_ok-write_at.ensures.writes tells).ok).0 in
    let room2 : end + 9 + n ≤ length (d1.reading slot) = omega (arith, c.requires.room tells) in
    let long2 = length-written slot (end + 9) c.args.payload.now d1 d2 room2 ((c.in_ok-write_at-2.ensures.writes tells1).ok).0 in
    let room3 : end + 9 + n + 1 ≤ length (d2.reading slot) = omega (arith, c.requires.room tells) in
    let long3 = length-written slot (end + 9 + n) (0 ∷ []) d2 d3 room3 ((c.in_ok-write_at-3.ensures.writes tells2).ok).0 in
    on_ok_weaker c.sync.result (λ done. ap (λ (k : Content). length (k.reading slot)) done.0 ∙ long3 ∙ long2 ∙ long1) (c.sync.ensures.syncs tells3).ok
