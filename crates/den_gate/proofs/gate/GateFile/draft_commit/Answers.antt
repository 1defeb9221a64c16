use Rattle.std.proofs.Common.{refl, ap, rules}
use Rattle.den_disk.specs.declared.place.Place.{Place}
use Rattle.den_gate.specs.Slot.{payloads_of}
use Rattle.den_gate.specs.Draft.{draft_end, other_slot}
use Rattle.den_gate.proofs.Drafts.{writes_own, rewrites_list, rests_with, is_drafted}
use Rattle.den_gate.proofs.gate.GateFile.draft_commit.Goals as goal

pub returns-in_err-commit-clause-writes : goal.returns-in_err-commit-clause-writes
returns-in_err-commit-clause-writes g c =
    let commit = c.commit.ensures in
    writes_own g.D.Disk c.args.self.now _ c.args.disk.now c.commit.new.disk _ commit.kind commit.later refl (search rules) (search rules) commit.run

pub returns-in_err-commit-clause-rewrites : goal.returns-in_err-commit-clause-rewrites
returns-in_err-commit-clause-rewrites g c = λ tells list d rest current.
    let was = c.args.self.now in
    let content = g.D.Disk.content c.args.disk.now in
    let old = payloads_of (content.reading was.slot) in
    rewrites_list g.D.Disk was _ c.args.disk.now c.commit.new.disk list (c.commit.ensures.flips tells old list (is_drafted was.slot old list was.end (draft_end was) content rest current d.holds))

pub returns-clause-writes : goal.returns-clause-writes
returns-clause-writes g c =
    let commit = c.commit.ensures in
    writes_own g.D.Disk c.args.self.now _ c.args.disk.now c.commit.new.disk _ commit.kind commit.later (ap (λ (p : Place). p.family) c.other_of-self.ensures) (search rules) (search rules) commit.run

pub returns-clause-rewrites : goal.returns-clause-rewrites
returns-clause-rewrites g c = λ tells list d rest current.
    let was = c.args.self.now in
    let content = g.D.Disk.content c.args.disk.now in
    let old = payloads_of (content.reading was.slot) in
    rewrites_list g.D.Disk was _ c.args.disk.now c.commit.new.disk list (c.commit.ensures.flips tells old list (is_drafted was.slot old list was.end (draft_end was) content rest current d.holds))

pub returns-clause-rests : goal.returns-clause-rests
returns-clause-rests g c = λ tells list d current.
    let was = c.args.self.now in
    rests_with _ (other_slot was.slot) (draft_end was) list (g.D.Disk.content c.commit.new.disk) c.other_of-self.ensures c.unwrap_or-end.ensures
    (c.in_ok-commit.ensures.done tells list (draft_end was) current d.holds)
