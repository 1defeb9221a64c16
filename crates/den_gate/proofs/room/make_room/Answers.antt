use Rattle.std.proofs.Common.{◌≤◌, IsTrue, sym, subst, arith}
use Rattle.den_disk.specs.Files.{Files, Content}
use Rattle.den_gate.specs.Slot.{Holds}
use Rattle.den_gate.specs.Steps.{IsOpen}
use Rattle.den_gate.proofs.Calm.{open_resized}
use Rattle.den_gate.proofs.Runs.{ran_start, ran_stays, ran_resizes, ran_keeps}
use Rattle.den_gate.proofs.Alone.{stays_alone, resizes_alone, then_alone}
use Rattle.den_gate.proofs.Filling.{holds_resized}
use Rattle.den_gate.proofs.room.make_room.Goals as goal

pub returns-in_err-len-clause-run : goal.returns-in_err-len-clause-run
returns-in_err-len-clause-run g c = λ tells ps open_.
    let content = g.D.Disk.content in
    let moment = g.D.Disk.moment in
    let images = g.D.Disk.images in
    let slot = c.args.slot in
    let end = c.args.end in
    let d0 = c.args.disk.now in
    let d1 = c.len.new.self in
    let law0 = λ (files : Files). g.met.D.Disk.images_now d0 files tells in
    let start = ran_start content moment images slot ps end d0 law0 open_ in
    let one = ran_stays content moment images slot ps end d0 law0 d0 d1 law0 start (c.len.ensures.stays tells) in
    ran_keeps content moment images slot ps end d0 law0 d1 one

pub returns-then-wanted-len-clause-run : goal.returns-then-wanted-len-clause-run
returns-then-wanted-len-clause-run g c = λ tells ps open_.
    let content = g.D.Disk.content in
    let moment = g.D.Disk.moment in
    let images = g.D.Disk.images in
    let slot = c.args.slot in
    let end = c.args.end in
    let d0 = c.args.disk.now in
    let d1 = c.len.new.self in
    let law0 = λ (files : Files). g.met.D.Disk.images_now d0 files tells in
    let start = ran_start content moment images slot ps end d0 law0 open_ in
    let one = ran_stays content moment images slot ps end d0 law0 d0 d1 law0 start (c.len.ensures.stays tells) in
    ran_keeps content moment images slot ps end d0 law0 d1 one

pub returns-then-needed-limit-clause-run : goal.returns-then-needed-limit-clause-run
returns-then-needed-limit-clause-run g c = λ tells ps open_.
    let content = g.D.Disk.content in
    let moment = g.D.Disk.moment in
    let images = g.D.Disk.images in
    let slot = c.args.slot in
    let end = c.args.end in
    let d0 = c.args.disk.now in
    let d1 = c.len.new.self in
    let law0 = λ (files : Files). g.met.D.Disk.images_now d0 files tells in
    let start = ran_start content moment images slot ps end d0 law0 open_ in
    let one = ran_stays content moment images slot ps end d0 law0 d0 d1 law0 start (c.len.ensures.stays tells) in
    ran_keeps content moment images slot ps end d0 law0 d1 one

pub returns-in_err-resize-clause-run : goal.returns-in_err-resize-clause-run
returns-in_err-resize-clause-run g c = λ tells ps open_.
    let content = g.D.Disk.content in
    let moment = g.D.Disk.moment in
    let images = g.D.Disk.images in
    let slot = c.args.slot in
    let end = c.args.end in
    let d0 = c.args.disk.now in
    let d1 = c.len.new.self in
    let law0 = λ (files : Files). g.met.D.Disk.images_now d0 files tells in
    let start = ran_start content moment images slot ps end d0 law0 open_ in
    let one = ran_stays content moment images slot ps end d0 law0 d0 d1 law0 start (c.len.ensures.stays tells) in
    let d2 = c.resize.new.self in
    let tells1 = subst (λ k. IsTrue k.tells) (sym c.len.ensures.kind) tells in
    let tells2 = subst (λ k. IsTrue k.tells) (sym c.resize.ensures.kind) tells1 in
    let law1 = λ (files : Files). g.met.D.Disk.images_now d1 files tells1 in
    let law2 = λ (files : Files). g.met.D.Disk.images_now d2 files tells2 in
    let fits : end ≤ c.in_chunks-needed.result = omega (arith, c.in_chunks-needed.ensures) in
    let two = ran_resizes content moment images slot ps end d0 law0 c.resize.result c.in_chunks-needed.result d1 d2 fits law1 law2 one (c.resize.ensures.resizes tells1) in
    ran_keeps content moment images slot ps end d0 law0 d2 two

pub returns-clause-run : goal.returns-clause-run
returns-clause-run g c = λ tells ps open_.
    let content = g.D.Disk.content in
    let moment = g.D.Disk.moment in
    let images = g.D.Disk.images in
    let slot = c.args.slot in
    let end = c.args.end in
    let d0 = c.args.disk.now in
    let d1 = c.len.new.self in
    let law0 = λ (files : Files). g.met.D.Disk.images_now d0 files tells in
    let start = ran_start content moment images slot ps end d0 law0 open_ in
    let one = ran_stays content moment images slot ps end d0 law0 d0 d1 law0 start (c.len.ensures.stays tells) in
    let d2 = c.resize.new.self in
    let tells1 = subst (λ k. IsTrue k.tells) (sym c.len.ensures.kind) tells in
    let tells2 = subst (λ k. IsTrue k.tells) (sym c.resize.ensures.kind) tells1 in
    let law1 = λ (files : Files). g.met.D.Disk.images_now d1 files tells1 in
    let law2 = λ (files : Files). g.met.D.Disk.images_now d2 files tells2 in
    let fits : end ≤ c.in_chunks-needed.result = omega (arith, c.in_chunks-needed.ensures) in
    let two = ran_resizes content moment images slot ps end d0 law0 c.resize.result c.in_chunks-needed.result d1 d2 fits law1 law2 one (c.resize.ensures.resizes tells1) in
    ran_keeps content moment images slot ps end d0 law0 d2 two

pub returns-clause-open : goal.returns-clause-open
returns-clause-open g c = λ tells ps open_.
    let content = g.D.Disk.content in
    let slot = c.args.slot in
    let end = c.args.end in
    let tells1 = subst (λ k. IsTrue k.tells) (sym c.len.ensures.kind) tells in
    let fits : end ≤ c.in_chunks-needed.result = omega (arith, c.in_chunks-needed.ensures) in
    let before = subst (λ (k : Content). IsOpen slot ps end k) (sym (c.len.ensures.stays tells).content_same) open_ in
    subst (λ (k : Content). IsOpen slot ps end k) (sym ((c.in_ok-resize.ensures.resizes tells1).ok).0) (open_resized slot ps end (content c.len.new.self) c.in_chunks-needed.result fits before)

pub returns-clause-holds : goal.returns-clause-holds
returns-clause-holds g c = λ tells ps h.
    let content = g.D.Disk.content in
    let slot = c.args.slot in
    let end = c.args.end in
    let tells1 = subst (λ k. IsTrue k.tells) (sym c.len.ensures.kind) tells in
    let fits : end ≤ c.in_chunks-needed.result = omega (arith, c.in_chunks-needed.ensures) in
    let before = subst (λ (k : Content). Holds ps end (k.reading slot)) (sym (c.len.ensures.stays tells).content_same) h in
    subst (λ (k : Content). Holds ps end (k.reading slot)) (sym ((c.in_ok-resize.ensures.resizes tells1).ok).0) (holds_resized slot ps end (content c.len.new.self) c.in_chunks-needed.result fits before)

pub returns-then-wanted-len-clause-holds : goal.returns-then-wanted-len-clause-holds
returns-then-wanted-len-clause-holds g c = λ tells ps h.
    subst (λ (k : Content). Holds ps c.args.end (k.reading c.args.slot)) (sym (c.len.ensures.stays tells).content_same) h

pub returns-in_err-len-clause-alone : goal.returns-in_err-len-clause-alone
returns-in_err-len-clause-alone g c = (stays_alone g.D.Disk g.met.D.Disk.images_now c.args.slot c.len.ensures.kind c.len.ensures.stays).run

pub returns-then-wanted-len-clause-alone : goal.returns-then-wanted-len-clause-alone
returns-then-wanted-len-clause-alone g c = (stays_alone g.D.Disk g.met.D.Disk.images_now c.args.slot c.len.ensures.kind c.len.ensures.stays).run

pub returns-then-needed-limit-clause-alone : goal.returns-then-needed-limit-clause-alone
returns-then-needed-limit-clause-alone g c = (stays_alone g.D.Disk g.met.D.Disk.images_now c.args.slot c.len.ensures.kind c.len.ensures.stays).run

pub returns-in_err-resize-clause-alone : goal.returns-in_err-resize-clause-alone
returns-in_err-resize-clause-alone g c =
    let len = stays_alone g.D.Disk g.met.D.Disk.images_now c.args.slot c.len.ensures.kind c.len.ensures.stays in
    let sized = resizes_alone g.D.Disk g.met.D.Disk.images_now c.args.slot c.resize.ensures.kind c.in_chunks-needed.result c.resize.ensures.resizes in
    (then_alone len sized).run

pub returns-clause-alone : goal.returns-clause-alone
returns-clause-alone g c =
    let len = stays_alone g.D.Disk g.met.D.Disk.images_now c.args.slot c.len.ensures.kind c.len.ensures.stays in
    let sized = resizes_alone g.D.Disk g.met.D.Disk.images_now c.args.slot c.resize.ensures.kind c.in_chunks-needed.result c.resize.ensures.resizes in
    (then_alone len sized).run
