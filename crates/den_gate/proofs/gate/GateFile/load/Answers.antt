use Rattle.std.proofs.Common.{IsTrue, sym, ◌∙◌, subst, arith}
use Rattle.den_disk.specs.Files.{Files}
use Rattle.den_gate.proofs.Settling.{goes_on, Settles, settles_sync, settles_stays, settles_images}
use Rattle.den_gate.proofs.gate.GateFile.load.Goals as goal

pub returns-in_err-sync-clause-disk : goal.returns-in_err-sync-clause-disk
returns-in_err-sync-clause-disk g c =
    let kind = g.D.Disk.kind in
    let content = g.D.Disk.content in
    let moment = g.D.Disk.moment in
    let images = g.D.Disk.images in
    let d0 = c.args.disk.now in
    let d1 = c.sync.new.self in
    let one : IsTrue (kind d0).tells → Settles content moment images d0 d1 = λ tells.
    settles_sync content moment images d0 c.sync.result d1 (λ (files : Files). g.met.D.Disk.images_now d0 files tells)
    (λ (files : Files). g.met.D.Disk.images_now d1 files (subst (λ k. IsTrue k.tells) (sym c.sync.ensures.kind) tells)) (c.sync.ensures.syncs tells) in
    goes_on kind content moment images g.D.Disk.faults (λ t files. images d0 (moment d0) files) d0 d1 c.sync.ensures.kind (omega (arith, c.sync.ensures.cause.later)) (λ tells. (one tells).leaves)

pub returns-in_err-sync-clause-spares : goal.returns-in_err-sync-clause-spares
returns-in_err-sync-clause-spares g c =
    let kind = g.D.Disk.kind in
    let content = g.D.Disk.content in
    let moment = g.D.Disk.moment in
    let images = g.D.Disk.images in
    let d0 = c.args.disk.now in
    let d1 = c.sync.new.self in
    let one : IsTrue (kind d0).tells → Settles content moment images d0 d1 = λ tells.
    settles_sync content moment images d0 c.sync.result d1 (λ (files : Files). g.met.D.Disk.images_now d0 files tells)
    (λ (files : Files). g.met.D.Disk.images_now d1 files (subst (λ k. IsTrue k.tells) (sym c.sync.ensures.kind) tells)) (c.sync.ensures.syncs tells) in
    λ tells. (one tells).spares

pub returns-in_err-sync-clause-images : goal.returns-in_err-sync-clause-images
returns-in_err-sync-clause-images g c =
    let kind = g.D.Disk.kind in
    let content = g.D.Disk.content in
    let moment = g.D.Disk.moment in
    let images = g.D.Disk.images in
    let d0 = c.args.disk.now in
    let d1 = c.sync.new.self in
    let one : IsTrue (kind d0).tells → Settles content moment images d0 d1 = λ tells.
    settles_sync content moment images d0 c.sync.result d1 (λ (files : Files). g.met.D.Disk.images_now d0 files tells)
    (λ (files : Files). g.met.D.Disk.images_now d1 files (subst (λ k. IsTrue k.tells) (sym c.sync.ensures.kind) tells)) (c.sync.ensures.syncs tells) in
    λ tells. settles_images content moment images d0 d1 (one tells)

pub returns-in_err-slot-clause-disk : goal.returns-in_err-slot-clause-disk
returns-in_err-slot-clause-disk g c =
    let kind = g.D.Disk.kind in
    let content = g.D.Disk.content in
    let moment = g.D.Disk.moment in
    let images = g.D.Disk.images in
    let d0 = c.args.disk.now in
    let d1 = c.sync.new.self in
    let one : IsTrue (kind d0).tells → Settles content moment images d0 d1 = λ tells.
    settles_sync content moment images d0 c.sync.result d1 (λ (files : Files). g.met.D.Disk.images_now d0 files tells)
    (λ (files : Files). g.met.D.Disk.images_now d1 files (subst (λ k. IsTrue k.tells) (sym c.sync.ensures.kind) tells)) (c.sync.ensures.syncs tells) in
    let d2 = c.find_slot.new.disk in
    let two : IsTrue (kind d0).tells → Settles content moment images d0 d2 = λ tells.
    settles_stays content moment images d0 d1 d2 (one tells) (c.find_slot.ensures.stays (subst (λ k. IsTrue k.tells) (sym c.sync.ensures.kind) tells)) in
    goes_on kind content moment images g.D.Disk.faults (λ t files. images d0 (moment d0) files) d0 d2 (c.find_slot.ensures.kind ∙ c.sync.ensures.kind) (omega (arith, c.sync.ensures.cause.later, c.find_slot.ensures.cause.later)) (λ tells. (two tells).leaves)

pub returns-in_err-slot-clause-spares : goal.returns-in_err-slot-clause-spares
returns-in_err-slot-clause-spares g c =
    let kind = g.D.Disk.kind in
    let content = g.D.Disk.content in
    let moment = g.D.Disk.moment in
    let images = g.D.Disk.images in
    let d0 = c.args.disk.now in
    let d1 = c.sync.new.self in
    let one : IsTrue (kind d0).tells → Settles content moment images d0 d1 = λ tells.
    settles_sync content moment images d0 c.sync.result d1 (λ (files : Files). g.met.D.Disk.images_now d0 files tells)
    (λ (files : Files). g.met.D.Disk.images_now d1 files (subst (λ k. IsTrue k.tells) (sym c.sync.ensures.kind) tells)) (c.sync.ensures.syncs tells) in
    let d2 = c.find_slot.new.disk in
    let two : IsTrue (kind d0).tells → Settles content moment images d0 d2 = λ tells.
    settles_stays content moment images d0 d1 d2 (one tells) (c.find_slot.ensures.stays (subst (λ k. IsTrue k.tells) (sym c.sync.ensures.kind) tells)) in
    λ tells. (two tells).spares

pub returns-in_err-slot-clause-images : goal.returns-in_err-slot-clause-images
returns-in_err-slot-clause-images g c =
    let kind = g.D.Disk.kind in
    let content = g.D.Disk.content in
    let moment = g.D.Disk.moment in
    let images = g.D.Disk.images in
    let d0 = c.args.disk.now in
    let d1 = c.sync.new.self in
    let one : IsTrue (kind d0).tells → Settles content moment images d0 d1 = λ tells.
    settles_sync content moment images d0 c.sync.result d1 (λ (files : Files). g.met.D.Disk.images_now d0 files tells)
    (λ (files : Files). g.met.D.Disk.images_now d1 files (subst (λ k. IsTrue k.tells) (sym c.sync.ensures.kind) tells)) (c.sync.ensures.syncs tells) in
    let d2 = c.find_slot.new.disk in
    let two : IsTrue (kind d0).tells → Settles content moment images d0 d2 = λ tells.
    settles_stays content moment images d0 d1 d2 (one tells) (c.find_slot.ensures.stays (subst (λ k. IsTrue k.tells) (sym c.sync.ensures.kind) tells)) in
    λ tells. settles_images content moment images d0 d2 (two tells)

pub returns-in_err-end-clause-disk : goal.returns-in_err-end-clause-disk
returns-in_err-end-clause-disk g c =
    let kind = g.D.Disk.kind in
    let content = g.D.Disk.content in
    let moment = g.D.Disk.moment in
    let images = g.D.Disk.images in
    let d0 = c.args.disk.now in
    let d1 = c.sync.new.self in
    let one : IsTrue (kind d0).tells → Settles content moment images d0 d1 = λ tells.
    settles_sync content moment images d0 c.sync.result d1 (λ (files : Files). g.met.D.Disk.images_now d0 files tells)
    (λ (files : Files). g.met.D.Disk.images_now d1 files (subst (λ k. IsTrue k.tells) (sym c.sync.ensures.kind) tells)) (c.sync.ensures.syncs tells) in
    let d2 = c.find_slot.new.disk in
    let two : IsTrue (kind d0).tells → Settles content moment images d0 d2 = λ tells.
    settles_stays content moment images d0 d1 d2 (one tells) (c.find_slot.ensures.stays (subst (λ k. IsTrue k.tells) (sym c.sync.ensures.kind) tells)) in
    let d3 = c.find_end.new.disk in
    let kind2 = c.find_slot.ensures.kind ∙ c.sync.ensures.kind in
    let three : IsTrue (kind d0).tells → Settles content moment images d0 d3 = λ tells.
    settles_stays content moment images d0 d2 d3 (two tells) (c.find_end.ensures.stays (subst (λ k. IsTrue k.tells) (sym kind2) tells)) in
    goes_on kind content moment images g.D.Disk.faults (λ t files. images d0 (moment d0) files) d0 d3 (c.find_end.ensures.kind ∙ kind2) (omega (arith, c.sync.ensures.cause.later, c.find_slot.ensures.cause.later, c.find_end.ensures.later)) (λ tells. (three tells).leaves)

pub returns-in_err-end-clause-spares : goal.returns-in_err-end-clause-spares
returns-in_err-end-clause-spares g c =
    let kind = g.D.Disk.kind in
    let content = g.D.Disk.content in
    let moment = g.D.Disk.moment in
    let images = g.D.Disk.images in
    let d0 = c.args.disk.now in
    let d1 = c.sync.new.self in
    let one : IsTrue (kind d0).tells → Settles content moment images d0 d1 = λ tells.
    settles_sync content moment images d0 c.sync.result d1 (λ (files : Files). g.met.D.Disk.images_now d0 files tells)
    (λ (files : Files). g.met.D.Disk.images_now d1 files (subst (λ k. IsTrue k.tells) (sym c.sync.ensures.kind) tells)) (c.sync.ensures.syncs tells) in
    let d2 = c.find_slot.new.disk in
    let two : IsTrue (kind d0).tells → Settles content moment images d0 d2 = λ tells.
    settles_stays content moment images d0 d1 d2 (one tells) (c.find_slot.ensures.stays (subst (λ k. IsTrue k.tells) (sym c.sync.ensures.kind) tells)) in
    let d3 = c.find_end.new.disk in
    let kind2 = c.find_slot.ensures.kind ∙ c.sync.ensures.kind in
    let three : IsTrue (kind d0).tells → Settles content moment images d0 d3 = λ tells.
    settles_stays content moment images d0 d2 d3 (two tells) (c.find_end.ensures.stays (subst (λ k. IsTrue k.tells) (sym kind2) tells)) in
    λ tells. (three tells).spares

pub returns-in_err-end-clause-images : goal.returns-in_err-end-clause-images
returns-in_err-end-clause-images g c =
    let kind = g.D.Disk.kind in
    let content = g.D.Disk.content in
    let moment = g.D.Disk.moment in
    let images = g.D.Disk.images in
    let d0 = c.args.disk.now in
    let d1 = c.sync.new.self in
    let one : IsTrue (kind d0).tells → Settles content moment images d0 d1 = λ tells.
    settles_sync content moment images d0 c.sync.result d1 (λ (files : Files). g.met.D.Disk.images_now d0 files tells)
    (λ (files : Files). g.met.D.Disk.images_now d1 files (subst (λ k. IsTrue k.tells) (sym c.sync.ensures.kind) tells)) (c.sync.ensures.syncs tells) in
    let d2 = c.find_slot.new.disk in
    let two : IsTrue (kind d0).tells → Settles content moment images d0 d2 = λ tells.
    settles_stays content moment images d0 d1 d2 (one tells) (c.find_slot.ensures.stays (subst (λ k. IsTrue k.tells) (sym c.sync.ensures.kind) tells)) in
    let d3 = c.find_end.new.disk in
    let kind2 = c.find_slot.ensures.kind ∙ c.sync.ensures.kind in
    let three : IsTrue (kind d0).tells → Settles content moment images d0 d3 = λ tells.
    settles_stays content moment images d0 d2 d3 (two tells) (c.find_end.ensures.stays (subst (λ k. IsTrue k.tells) (sym kind2) tells)) in
    λ tells. settles_images content moment images d0 d3 (three tells)

pub returns-clause-disk : goal.returns-clause-disk
returns-clause-disk g c =
    let kind = g.D.Disk.kind in
    let content = g.D.Disk.content in
    let moment = g.D.Disk.moment in
    let images = g.D.Disk.images in
    let d0 = c.args.disk.now in
    let d1 = c.sync.new.self in
    let one : IsTrue (kind d0).tells → Settles content moment images d0 d1 = λ tells.
    settles_sync content moment images d0 c.sync.result d1 (λ (files : Files). g.met.D.Disk.images_now d0 files tells)
    (λ (files : Files). g.met.D.Disk.images_now d1 files (subst (λ k. IsTrue k.tells) (sym c.sync.ensures.kind) tells)) (c.sync.ensures.syncs tells) in
    let d2 = c.find_slot.new.disk in
    let two : IsTrue (kind d0).tells → Settles content moment images d0 d2 = λ tells.
    settles_stays content moment images d0 d1 d2 (one tells) (c.find_slot.ensures.stays (subst (λ k. IsTrue k.tells) (sym c.sync.ensures.kind) tells)) in
    let d3 = c.find_end.new.disk in
    let kind2 = c.find_slot.ensures.kind ∙ c.sync.ensures.kind in
    let three : IsTrue (kind d0).tells → Settles content moment images d0 d3 = λ tells.
    settles_stays content moment images d0 d2 d3 (two tells) (c.find_end.ensures.stays (subst (λ k. IsTrue k.tells) (sym kind2) tells)) in
    goes_on kind content moment images g.D.Disk.faults (λ t files. images d0 (moment d0) files) d0 d3 (c.find_end.ensures.kind ∙ kind2) (omega (arith, c.sync.ensures.cause.later, c.find_slot.ensures.cause.later, c.find_end.ensures.later)) (λ tells. (three tells).leaves)

pub returns-clause-spares : goal.returns-clause-spares
returns-clause-spares g c =
    let kind = g.D.Disk.kind in
    let content = g.D.Disk.content in
    let moment = g.D.Disk.moment in
    let images = g.D.Disk.images in
    let d0 = c.args.disk.now in
    let d1 = c.sync.new.self in
    let one : IsTrue (kind d0).tells → Settles content moment images d0 d1 = λ tells.
    settles_sync content moment images d0 c.sync.result d1 (λ (files : Files). g.met.D.Disk.images_now d0 files tells)
    (λ (files : Files). g.met.D.Disk.images_now d1 files (subst (λ k. IsTrue k.tells) (sym c.sync.ensures.kind) tells)) (c.sync.ensures.syncs tells) in
    let d2 = c.find_slot.new.disk in
    let two : IsTrue (kind d0).tells → Settles content moment images d0 d2 = λ tells.
    settles_stays content moment images d0 d1 d2 (one tells) (c.find_slot.ensures.stays (subst (λ k. IsTrue k.tells) (sym c.sync.ensures.kind) tells)) in
    let d3 = c.find_end.new.disk in
    let kind2 = c.find_slot.ensures.kind ∙ c.sync.ensures.kind in
    let three : IsTrue (kind d0).tells → Settles content moment images d0 d3 = λ tells.
    settles_stays content moment images d0 d2 d3 (two tells) (c.find_end.ensures.stays (subst (λ k. IsTrue k.tells) (sym kind2) tells)) in
    λ tells. (three tells).spares

pub returns-clause-images : goal.returns-clause-images
returns-clause-images g c =
    let kind = g.D.Disk.kind in
    let content = g.D.Disk.content in
    let moment = g.D.Disk.moment in
    let images = g.D.Disk.images in
    let d0 = c.args.disk.now in
    let d1 = c.sync.new.self in
    let one : IsTrue (kind d0).tells → Settles content moment images d0 d1 = λ tells.
    settles_sync content moment images d0 c.sync.result d1 (λ (files : Files). g.met.D.Disk.images_now d0 files tells)
    (λ (files : Files). g.met.D.Disk.images_now d1 files (subst (λ k. IsTrue k.tells) (sym c.sync.ensures.kind) tells)) (c.sync.ensures.syncs tells) in
    let d2 = c.find_slot.new.disk in
    let two : IsTrue (kind d0).tells → Settles content moment images d0 d2 = λ tells.
    settles_stays content moment images d0 d1 d2 (one tells) (c.find_slot.ensures.stays (subst (λ k. IsTrue k.tells) (sym c.sync.ensures.kind) tells)) in
    let d3 = c.find_end.new.disk in
    let kind2 = c.find_slot.ensures.kind ∙ c.sync.ensures.kind in
    let three : IsTrue (kind d0).tells → Settles content moment images d0 d3 = λ tells.
    settles_stays content moment images d0 d2 d3 (two tells) (c.find_end.ensures.stays (subst (λ k. IsTrue k.tells) (sym kind2) tells)) in
    λ tells. settles_images content moment images d0 d3 (three tells)
