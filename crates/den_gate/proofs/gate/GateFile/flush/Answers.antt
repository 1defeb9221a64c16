use Rattle.std.proofs.Common.{ℕ, List, IsTrue, sym, subst}
use Rattle.den_gate.specs.Slot.{Holds}
use Rattle.den_gate.specs.Draft.{other_slot, draft_end}
use Rattle.den_disk.specs.Files.{Files}
use Rattle.den_gate.proofs.Settling.{settles_sync, settles_images}
use Rattle.den_gate.proofs.gate.GateFile.flush.Goals as goal

pub returns-in_err-synced-clause-images : goal.returns-in_err-synced-clause-images
returns-in_err-synced-clause-images g c = λ tells.
    let d0 = c.args.disk.now in
    let d1 = c.sync-synced.new.self in
    settles_images g.D.Disk.content g.D.Disk.moment g.D.Disk.images d0 d1
    (settles_sync g.D.Disk.content g.D.Disk.moment g.D.Disk.images d0 c.sync-synced.result d1 (λ (files : Files). g.met.D.Disk.images_now d0 files tells)
    (λ (files : Files). g.met.D.Disk.images_now d1 files (subst (λ k. IsTrue k.tells) (sym c.sync-synced.ensures.kind) tells)) (c.sync-synced.ensures.syncs tells))

pub returns-clause-images : goal.returns-clause-images
returns-clause-images g c = λ tells.
    let d0 = c.args.disk.now in
    let d1 = c.sync-synced.new.self in
    settles_images g.D.Disk.content g.D.Disk.moment g.D.Disk.images d0 d1
    (settles_sync g.D.Disk.content g.D.Disk.moment g.D.Disk.images d0 c.sync-synced.result d1 (λ (files : Files). g.met.D.Disk.images_now d0 files tells)
    (λ (files : Files). g.met.D.Disk.images_now d1 files (subst (λ k. IsTrue k.tells) (sym c.sync-synced.ensures.kind) tells)) (c.sync-synced.ensures.syncs tells))

pub returns-in_err-synced-clause-draft_kept : goal.returns-in_err-synced-clause-draft_kept
returns-in_err-synced-clause-draft_kept g c = λ tells list d.
    let d0 = c.args.disk.now in
    let d1 = c.sync-synced.new.self in
    let other = other_slot c.args.self.now.slot in
    let settles = settles_sync g.D.Disk.content g.D.Disk.moment g.D.Disk.images d0 c.sync-synced.result d1 (λ (files : Files). g.met.D.Disk.images_now d0 files tells)
    (λ (files : Files). g.met.D.Disk.images_now d1 files (subst (λ k. IsTrue k.tells) (sym c.sync-synced.ensures.kind) tells)) (c.sync-synced.ensures.syncs tells) in
    record { begun = d.begun; holds = subst (λ (l : List ℕ). Holds list (draft_end c.args.self.now) l) (sym (settles.spares.reading other)) d.holds }

pub returns-clause-draft_kept : goal.returns-clause-draft_kept
returns-clause-draft_kept g c = λ tells list d.
    let d0 = c.args.disk.now in
    let d1 = c.sync-synced.new.self in
    let other = other_slot c.args.self.now.slot in
    let settles = settles_sync g.D.Disk.content g.D.Disk.moment g.D.Disk.images d0 c.sync-synced.result d1 (λ (files : Files). g.met.D.Disk.images_now d0 files tells)
    (λ (files : Files). g.met.D.Disk.images_now d1 files (subst (λ k. IsTrue k.tells) (sym c.sync-synced.ensures.kind) tells)) (c.sync-synced.ensures.syncs tells) in
    record { begun = d.begun; holds = subst (λ (l : List ℕ). Holds list (draft_end c.args.self.now) l) (sym (settles.spares.reading other)) d.holds }
