use Rattle.std.proofs.Common.{sym, ◌∙◌}
use Rattle.den_snapshot.specs.Words.{snapshot_in}
use Rattle.den_state.proofs.Installing.{left, left_moves, unread}
use Rattle.den_state.proofs.file_machine.FileStateMachine.find_snapshot.Goals as goal

pub returns-then-wants_lease-clause-moves : goal.returns-then-wants_lease-clause-moves
returns-then-wants_lease-clause-moves g c =
    let r = c.read_one.ensures.reads in
    left_moves g.D.Disk c.args.self.now c.args.disk.now c.read_one.new.disk c.requires.stands r.spares (λ files tells i. (g.met.D.Disk.images_now c.args.disk.now files tells).0 i) r.images

pub returns-then-wants_lease-clause-refused : goal.returns-then-wants_lease-clause-refused
unfolding snapshot_in
returns-then-wants_lease-clause-refused g c = λ moment last.
    let r = c.read_one.ensures.reads in (
      left g.D.Disk c.args.self.now c.args.disk.now c.read_one.new.disk c.requires.stands r.spares r.images,
      record { taken = c.in-Ok.snapshot; found = record { there = λ tells. c.in-Ok.ensures.reads.value tells; wants = sym c.wants_lease.ensures ∙ c.if-wants_lease.true } },
    )

pub returns-then-is_fault-clause-moves : goal.returns-then-is_fault-clause-moves
returns-then-is_fault-clause-moves g c =
    let r = c.read_one.ensures.reads in
    left_moves g.D.Disk c.args.self.now c.args.disk.now c.read_one.new.disk c.requires.stands r.spares (λ files tells i. (g.met.D.Disk.images_now c.args.disk.now files tells).0 i) r.images

pub returns-else-wants_lease-clause-moves : goal.returns-else-wants_lease-clause-moves
returns-else-wants_lease-clause-moves g c =
    let r = c.read_one.ensures.reads in
    left_moves g.D.Disk c.args.self.now c.args.disk.now c.read_one.new.disk c.requires.stands r.spares (λ files tells i. (g.met.D.Disk.images_now c.args.disk.now files tells).0 i) r.images

pub returns-else-wants_lease-clause-found : goal.returns-else-wants_lease-clause-found
unfolding snapshot_in
returns-else-wants_lease-clause-found g c = record { there = λ tells. c.in-Ok.ensures.reads.value tells; wants = sym c.wants_lease.ensures ∙ c.if-wants_lease.false }

pub returns-else-is_fault-clause-moves : goal.returns-else-is_fault-clause-moves
returns-else-is_fault-clause-moves g c =
    let r = c.read_one.ensures.reads in
    left_moves g.D.Disk c.args.self.now c.args.disk.now c.read_one.new.disk c.requires.stands r.spares (λ files tells i. (g.met.D.Disk.images_now c.args.disk.now files tells).0 i) r.images

pub returns-else-is_fault-clause-refused : goal.returns-else-is_fault-clause-refused
unfolding snapshot_in
returns-else-is_fault-clause-refused g c = λ moment last.
    let s = c.args.self.now in
    unread g.D.Disk s.leased moment last s s c.args.disk.now c.read_one.new.disk c.in-Err.error (sym c.is_fault.ensures ∙ c.if-is_fault.false) c.in-Err.ensures.reads.refused
    (left g.D.Disk s c.args.disk.now c.read_one.new.disk c.requires.stands c.read_one.ensures.reads.spares c.read_one.ensures.reads.images)

pub returns-else-wants_lease-clause-left : goal.returns-else-wants_lease-clause-left
returns-else-wants_lease-clause-left g c =
    let r = c.read_one.ensures.reads in
    left g.D.Disk c.args.self.now c.args.disk.now c.read_one.new.disk c.requires.stands r.spares r.images
