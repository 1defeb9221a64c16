use Rattle.den_gate.specs.Slot.{payloads_of}
use Rattle.den_gate.specs.Steps.{Keeps}
use Rattle.std.proofs.lemmas.Result.{on_ok_weaker}
use Rattle.den_gate.proofs.Written.{at_rest}
use Rattle.den_gate.proofs.Families.{images_spared, family_keeps}
use Rattle.den_gate.specs.Draft.{draft_end}
use Rattle.den_gate.proofs.Drafts.{draft_beside}
use Rattle.den_gate.proofs.gate.GateFile.reserve.Goals as goal

pub returns-clause-at_rest : goal.returns-clause-at_rest
returns-clause-at_rest g c = λ tells.
    let slot = c.args.self.now.slot in
    let ps = payloads_of ((g.D.Disk.content c.args.disk.now).reading slot) in
    on_ok_weaker c.make_room-made.result (λ open_. (at_rest slot ps c.args.self.now.end (g.D.Disk.content c.make_room-made.new.disk) open_).0) (c.make_room-made.ensures.open tells ps (c.requires.at_rest tells))

pub returns-clause-same : goal.returns-clause-same
returns-clause-same g c = λ tells.
    let slot = c.args.self.now.slot in
    let ps = payloads_of ((g.D.Disk.content c.args.disk.now).reading slot) in
    on_ok_weaker c.make_room-made.result (λ open_. (at_rest slot ps c.args.self.now.end (g.D.Disk.content c.make_room-made.new.disk) open_).1) (c.make_room-made.ensures.open tells ps (c.requires.at_rest tells))

pub returns-clause-family : goal.returns-clause-family
returns-clause-family g c = λ tells current.
    let slot = c.args.self.now.slot in
    let d0 = c.args.disk.now in
    let ps = payloads_of ((g.D.Disk.content d0).reading slot) in
    family_keeps g.D.Disk.content g.D.Disk.moment g.D.Disk.images slot d0 c.make_room-made.new.disk (λ files i. (g.met.D.Disk.images_now d0 files tells).0 i) current ps
    (c.make_room-made.ensures.run tells ps (c.requires.at_rest tells)).any_moment

pub returns-clause-images : goal.returns-clause-images
returns-clause-images g c = λ tells.
    let slot = c.args.self.now.slot in
    let d0 = c.args.disk.now in
    let ps = payloads_of ((g.D.Disk.content d0).reading slot) in
    images_spared g.D.Disk.content g.D.Disk.moment g.D.Disk.images slot d0 c.make_room-made.new.disk (λ t files. Keeps slot ps (g.D.Disk.images d0 (g.D.Disk.moment d0)) files)
    (λ t files k. k.from) (c.make_room-made.ensures.run tells ps (c.requires.at_rest tells)).any_moment

pub returns-clause-draft_kept : goal.returns-clause-draft_kept
returns-clause-draft_kept g c = λ tells list d.
    let d0 = c.args.disk.now in
    let slot = c.args.self.now.slot in
    let ps = payloads_of ((g.D.Disk.content d0).reading slot) in
    record { begun = d.begun; holds = draft_beside slot list (draft_end c.args.self.now) (g.D.Disk.content d0) (g.D.Disk.content c.make_room-made.new.disk) (c.make_room-made.ensures.run tells ps (c.requires.at_rest tells)).spares d.holds }
