use Rattle.std.proofs.Common.{IsTrue, sym, subst, arith}
use Rattle.den_gate.specs.Slot.{payloads_of}
use Rattle.den_gate.proofs.Written.{staged_long}
use Rattle.den_gate.proofs.Runs.{keeps_then, adds_then, keeps_or_adds}
use Rattle.den_gate.proofs.add.add.Goals as goal

pub returns-in_err-stage-clause-run : goal.returns-in_err-stage-clause-run
returns-in_err-stage-clause-run g c = λ tells ps open0.
    let content = g.D.Disk.content in
    let moment = g.D.Disk.moment in
    let images = g.D.Disk.images in
    let slot = c.args.slot in
    let d0 = c.args.disk.now in
    let d1 = c.make_room.new.disk in
    let d2 = c.stage.new.disk in
    let tells1 = subst (λ k. IsTrue k.tells) (sym c.make_room.ensures.kind) tells in
    let open1 = c.in_ok-make_room.ensures.open tells ps open0 in
    let both = keeps_then content moment images slot ps d0 d1 d2 (c.make_room.ensures.run tells ps open0) (c.stage.ensures.run tells1 ps open1) in
    keeps_or_adds content moment images slot ps c.args.payload.now d0 d2 both

pub returns-in_err-open_gate-clause-run : goal.returns-in_err-open_gate-clause-run
returns-in_err-open_gate-clause-run g c = λ tells ps open0.
    let content = g.D.Disk.content in
    let moment = g.D.Disk.moment in
    let images = g.D.Disk.images in
    let slot = c.args.slot in
    let p = c.args.payload.now in
    let d0 = c.args.disk.now in
    let d1 = c.make_room.new.disk in
    let d2 = c.stage.new.disk in
    let tells1 = subst (λ k. IsTrue k.tells) (sym c.make_room.ensures.kind) tells in
    let tells2 = subst (λ k. IsTrue k.tells) (sym c.stage.ensures.kind) tells1 in
    let open1 = c.in_ok-make_room.ensures.open tells ps open0 in
    let staged2 = c.in_ok-stage.ensures.staged tells1 ps open1 in
    let both = keeps_then content moment images slot ps d0 d1 d2 (c.make_room.ensures.run tells ps open0) (c.stage.ensures.run tells1 ps open1) in
    adds_then content moment images slot ps d0 d2 c.open_gate.new.disk both p (c.open_gate.ensures.run tells2 ps p staged2)

pub returns-clause-run : goal.returns-clause-run
returns-clause-run g c = λ tells ps open0.
    let content = g.D.Disk.content in
    let moment = g.D.Disk.moment in
    let images = g.D.Disk.images in
    let slot = c.args.slot in
    let p = c.args.payload.now in
    let d0 = c.args.disk.now in
    let d1 = c.make_room.new.disk in
    let d2 = c.stage.new.disk in
    let tells1 = subst (λ k. IsTrue k.tells) (sym c.make_room.ensures.kind) tells in
    let tells2 = subst (λ k. IsTrue k.tells) (sym c.stage.ensures.kind) tells1 in
    let open1 = c.in_ok-make_room.ensures.open tells ps open0 in
    let staged2 = c.in_ok-stage.ensures.staged tells1 ps open1 in
    let both = keeps_then content moment images slot ps d0 d1 d2 (c.make_room.ensures.run tells ps open0) (c.stage.ensures.run tells1 ps open1) in
    adds_then content moment images slot ps d0 d2 c.open_gate.new.disk both p (c.open_gate.ensures.run tells2 ps p staged2)

pub open_gate-requires : goal.open_gate-requires
open_gate-requires g c = λ tells2.
    let slot = c.args.slot in
    let c0 = g.D.Disk.content c.args.disk.now in
    let tells1 = subst (λ k. IsTrue k.tells) c.stage.ensures.kind tells2 in
    let tells = subst (λ k. IsTrue k.tells) c.make_room.ensures.kind tells1 in
    let ps = payloads_of (c0.reading slot) in
    let open1 = c.in_ok-make_room.ensures.open tells ps (c.requires.open tells) in
    let staged2 = c.in_ok-stage.ensures.staged tells1 ps open1 in
    omega (arith, staged_long ps c.args.payload.now c.args.end ((g.D.Disk.content c.stage.new.disk).reading slot) staged2.staged)
