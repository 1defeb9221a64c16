use Rattle.std.proofs.Common.{◌≡◌, ◌≤◌, ◌+◌, [], ◌∷◌, ◌++◌, ℕ, List, IsTrue, length, sym, ◌∙◌, ap, subst, arith}
use Rattle.std.proofs.lemmas.Result.{on_ok_weaker}
use Rattle.den_disk.specs.Files.{Content, written}
use Rattle.den_disk.proofs.Images.{length-written}
use Rattle.den_model.specs.Spelling.{u64_word}
use Rattle.den_gate.specs.Slot.{Holds}
use Rattle.den_gate.proofs.Written.{length-word, word-is}
use Rattle.den_gate.proofs.Alone.{writes_alone, then_alone}
use Rattle.den_gate.proofs.Filling.{region_written}
use Rattle.den_gate.proofs.draft.put_region.Goals as goal

pub returns-in_err-write_at-clause-run : goal.returns-in_err-write_at-clause-run
returns-in_err-write_at-clause-run g c =
    let field = writes_alone g.D.Disk g.met.D.Disk.images_now c.args.slot c.write_at.ensures.kind (c.args.end + 1) c.to_be_bytes.result c.write_at.ensures.writes in
    field.run

pub returns-in_err-write_at-2-clause-run : goal.returns-in_err-write_at-2-clause-run
returns-in_err-write_at-2-clause-run g c =
    let field = writes_alone g.D.Disk g.met.D.Disk.images_now c.args.slot c.write_at.ensures.kind (c.args.end + 1) c.to_be_bytes.result c.write_at.ensures.writes in
    let body = writes_alone g.D.Disk g.met.D.Disk.images_now c.args.slot c.write_at-2.ensures.kind (c.args.end + 9) c.args.payload.now c.write_at-2.ensures.writes in
    (then_alone field body).run

pub returns-in_err-write_at-3-clause-run : goal.returns-in_err-write_at-3-clause-run
returns-in_err-write_at-3-clause-run g c =
    let field = writes_alone g.D.Disk g.met.D.Disk.images_now c.args.slot c.write_at.ensures.kind (c.args.end + 1) c.to_be_bytes.result c.write_at.ensures.writes in
    let body = writes_alone g.D.Disk g.met.D.Disk.images_now c.args.slot c.write_at-2.ensures.kind (c.args.end + 9) c.args.payload.now c.write_at-2.ensures.writes in
    let gate = writes_alone g.D.Disk g.met.D.Disk.images_now c.args.slot c.write_at-3.ensures.kind (c.args.end + 9 + length c.args.payload.now) (0 ∷ []) c.write_at-3.ensures.writes in
    (then_alone (then_alone field body) gate).run

pub returns-clause-run : goal.returns-clause-run
returns-clause-run g c =
    let field = writes_alone g.D.Disk g.met.D.Disk.images_now c.args.slot c.write_at.ensures.kind (c.args.end + 1) c.to_be_bytes.result c.write_at.ensures.writes in
    let body = writes_alone g.D.Disk g.met.D.Disk.images_now c.args.slot c.write_at-2.ensures.kind (c.args.end + 9) c.args.payload.now c.write_at-2.ensures.writes in
    let gate = writes_alone g.D.Disk g.met.D.Disk.images_now c.args.slot c.write_at-3.ensures.kind (c.args.end + 9 + length c.args.payload.now) (0 ∷ []) c.write_at-3.ensures.writes in
    let opened = writes_alone g.D.Disk g.met.D.Disk.images_now c.args.slot c.write_at-4.ensures.kind c.args.end (1 ∷ []) c.write_at-4.ensures.writes in
    (then_alone (then_alone (then_alone field body) gate) opened).run

pub returns-clause-holds : goal.returns-clause-holds
returns-clause-holds g c = λ tells ps h.
    let slot = c.args.slot in
    let end = c.args.end in
    let p = c.args.payload.now in
    let n = length p in
    let c0 = g.D.Disk.content c.args.disk.now in
    let tells1 = subst (λ k. IsTrue k.tells) (sym c.write_at.ensures.kind) tells in
    let tells2 = subst (λ k. IsTrue k.tells) (sym c.write_at-2.ensures.kind) tells1 in
    let tells3 = subst (λ k. IsTrue k.tells) (sym c.write_at-3.ensures.kind) tells2 in
    let one : g.D.Disk.content c.write_at.new.self ≡ written slot (end + 1) (u64_word n) c0 =
    ((c.in_ok-write_at.ensures.writes tells).ok).0 ∙ ap (λ (b : List ℕ). written slot (end + 1) b c0) (word-is n c.to_be_bytes.result c.to_be_bytes.ensures) in
    let two : g.D.Disk.content c.write_at-2.new.self ≡ written slot (end + 9) p (written slot (end + 1) (u64_word n) c0) =
    ((c.in_ok-write_at-2.ensures.writes tells1).ok).0 ∙ ap (written slot (end + 9) p) one in
    let three : g.D.Disk.content c.write_at-3.new.self ≡ written slot (end + 9 + n) (0 ∷ []) (written slot (end + 9) p (written slot (end + 1) (u64_word n) c0)) =
    ((c.in_ok-write_at-3.ensures.writes tells2).ok).0 ∙ ap (written slot (end + 9 + n) (0 ∷ [])) two in
    let after = region_written slot ps p end c0 h (c.requires.room tells) (omega (arith, c.requires.end)) in
    on_ok_weaker c.write_at-4.result
    (λ done. subst (λ (k : Content). Holds (ps ++ p ∷ []) (end + (9 + n)) (k.reading slot)) (sym (done.0 ∙ ap (written slot end (1 ∷ [])) three)) after)
    (c.write_at-4.ensures.writes tells3).ok

pub returns-clause-long : goal.returns-clause-long
returns-clause-long g c = λ tells.
    let content = g.D.Disk.content in
    let slot = c.args.slot in
    let end = c.args.end in
    let p = c.args.payload.now in
    let n = length p in
    let c0 = content c.args.disk.now in
    let c1 = content c.write_at.new.self in
    let c2 = content c.write_at-2.new.self in
    let c3 = content c.write_at-3.new.self in
    let tells1 = subst (λ k. IsTrue k.tells) (sym c.write_at.ensures.kind) tells in
    let tells2 = subst (λ k. IsTrue k.tells) (sym c.write_at-2.ensures.kind) tells1 in
    let tells3 = subst (λ k. IsTrue k.tells) (sym c.write_at-3.ensures.kind) tells2 in
    let field : length c.to_be_bytes.result ≡ 8 = ap length (word-is n c.to_be_bytes.result c.to_be_bytes.ensures) ∙ length-word n in
    let all = c.requires.room tells in
    let room1 : end + 1 + length c.to_be_bytes.result ≤ length (c0.reading slot) = omega (arith, all) in
    let long1 = length-written slot (end + 1) c.to_be_bytes.result c0 c1 room1 ((c.in_ok-write_at.ensures.writes tells).ok).0 in
    let room2 : end + 9 + n ≤ length (c1.reading slot) = omega (arith, all) in
    let long2 = length-written slot (end + 9) p c1 c2 room2 ((c.in_ok-write_at-2.ensures.writes tells1).ok).0 in
    let room3 : end + 9 + n + 1 ≤ length (c2.reading slot) = omega (arith, all) in
    let long3 = length-written slot (end + 9 + n) (0 ∷ []) c2 c3 room3 ((c.in_ok-write_at-3.ensures.writes tells2).ok).0 in
    let room4 : end + 1 ≤ length (c3.reading slot) = omega (arith, all) in
    on_ok_weaker c.write_at-4.result
    (λ done. length-written slot end (1 ∷ []) c3 (content c.write_at-4.new.self) room4 done.0 ∙ long3 ∙ long2 ∙ long1)
    (c.write_at-4.ensures.writes tells3).ok
