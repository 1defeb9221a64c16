use Rattle.std.proofs.Common.{◌+◌, [], ◌∷◌, ◌++◌, length}
use Rattle.den_gate.specs.Slot.{payloads_of}
use Rattle.den_gate.specs.Steps.{KeepsOrAdds}
use Rattle.den_gate.proofs.Written.{at_rest}
use Rattle.den_gate.proofs.Families.{images_spared, family_adds}
use Rattle.den_gate.specs.Draft.{draft_end}
use Rattle.den_gate.proofs.Drafts.{draft_beside}
use Rattle.den_gate.proofs.gate.GateFile.append.Goals as goal

pub returns-in_err-add-clause-family : goal.returns-in_err-add-clause-family
returns-in_err-add-clause-family g c = λ tells current.
    let slot = c.args.self.now.slot in
    let d0 = c.args.disk.now in
    let ps = payloads_of ((g.D.Disk.content d0).reading slot) in
    family_adds g.D.Disk.content g.D.Disk.moment g.D.Disk.images slot d0 c.add.new.disk (λ files i. (g.met.D.Disk.images_now d0 files tells).0 i) current ps c.args.payload.now
    (c.add.ensures.run tells ps (c.requires.at_rest tells)).any_moment

pub returns-in_err-add-clause-images : goal.returns-in_err-add-clause-images
returns-in_err-add-clause-images g c = λ tells.
    let slot = c.args.self.now.slot in
    let d0 = c.args.disk.now in
    let ps = payloads_of ((g.D.Disk.content d0).reading slot) in
    images_spared g.D.Disk.content g.D.Disk.moment g.D.Disk.images slot d0 c.add.new.disk (λ t files. KeepsOrAdds slot ps c.args.payload.now (g.D.Disk.images d0 (g.D.Disk.moment d0)) files)
    (λ t files k. k.from) (c.add.ensures.run tells ps (c.requires.at_rest tells)).any_moment

pub returns-clause-family : goal.returns-clause-family
returns-clause-family g c = λ tells current.
    let slot = c.args.self.now.slot in
    let d0 = c.args.disk.now in
    let ps = payloads_of ((g.D.Disk.content d0).reading slot) in
    family_adds g.D.Disk.content g.D.Disk.moment g.D.Disk.images slot d0 c.add.new.disk (λ files i. (g.met.D.Disk.images_now d0 files tells).0 i) current ps c.args.payload.now
    (c.add.ensures.run tells ps (c.requires.at_rest tells)).any_moment

pub returns-clause-images : goal.returns-clause-images
returns-clause-images g c = λ tells.
    let slot = c.args.self.now.slot in
    let d0 = c.args.disk.now in
    let ps = payloads_of ((g.D.Disk.content d0).reading slot) in
    images_spared g.D.Disk.content g.D.Disk.moment g.D.Disk.images slot d0 c.add.new.disk (λ t files. KeepsOrAdds slot ps c.args.payload.now (g.D.Disk.images d0 (g.D.Disk.moment d0)) files)
    (λ t files k. k.from) (c.add.ensures.run tells ps (c.requires.at_rest tells)).any_moment

pub returns-clause-at_rest : goal.returns-clause-at_rest
returns-clause-at_rest g c = λ tells.
    let slot = c.args.self.now.slot in
    let p = c.args.payload.now in
    let ps = payloads_of ((g.D.Disk.content c.args.disk.now).reading slot) in
    (at_rest slot (ps ++ p ∷ []) (c.args.self.now.end + (9 + length p)) (g.D.Disk.content c.add.new.disk) (c.in_ok-add.ensures.open tells ps (c.requires.at_rest tells))).0

pub returns-clause-appended : goal.returns-clause-appended
returns-clause-appended g c = λ tells.
    let slot = c.args.self.now.slot in
    let p = c.args.payload.now in
    let ps = payloads_of ((g.D.Disk.content c.args.disk.now).reading slot) in
    (at_rest slot (ps ++ p ∷ []) (c.args.self.now.end + (9 + length p)) (g.D.Disk.content c.add.new.disk) (c.in_ok-add.ensures.open tells ps (c.requires.at_rest tells))).1

pub returns-in_err-add-clause-draft_kept : goal.returns-in_err-add-clause-draft_kept
returns-in_err-add-clause-draft_kept g c = λ tells list d.
    let d0 = c.args.disk.now in
    let slot = c.args.self.now.slot in
    let ps = payloads_of ((g.D.Disk.content d0).reading slot) in
    record { begun = d.begun; holds = draft_beside slot list (draft_end c.args.self.now) (g.D.Disk.content d0) (g.D.Disk.content c.add.new.disk) (c.add.ensures.run tells ps (c.requires.at_rest tells)).spares d.holds }

pub returns-clause-draft_kept : goal.returns-clause-draft_kept
returns-clause-draft_kept g c = λ tells list d.
    let d0 = c.args.disk.now in
    let slot = c.args.self.now.slot in
    let ps = payloads_of ((g.D.Disk.content d0).reading slot) in
    record { begun = d.begun; holds = draft_beside slot list (draft_end c.args.self.now) (g.D.Disk.content d0) (g.D.Disk.content c.add.new.disk) (c.add.ensures.run tells ps (c.requires.at_rest tells)).spares d.holds }
