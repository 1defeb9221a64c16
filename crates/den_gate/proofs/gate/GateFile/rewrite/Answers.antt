use Rattle.std.proofs.Common.{◌≡◌, ◌≤◌, ◌⊎◌, ◌+◌, ◌∙◌, ℕ, None, true, length, refl, ap, subst, arith, rules}
use Rattle.den_disk.specs.declared.place.Part.{Part}
use Rattle.den_disk.specs.declared.place.Place.{Place}
use Rattle.den_disk.specs.Goes.{Rose}
use Rattle.den_model.specs.Regions.{open_regions}
use Rattle.den_gate.specs.declared.gate.GateFile.{GateFile}
use Rattle.den_gate.specs.Causes.{Because}
use Rattle.den_gate.specs.Slot.{payloads_of, whole_chunks}
use Rattle.den_gate.specs.Draft.{other_slot, KeepsList, PassesLimit}
use Rattle.den_gate.proofs.Refusals.{because_wider}
use Rattle.den_gate.proofs.Drafts.{writes_own, keeps_list, rewrites_list, filled_others, filled_turns, made_others, made_turns, made_filled, made_rests}
use Rattle.den_gate.proofs.gate.GateFile.rewrite.Goals as goal

pub returns-in_err-end-clause-writes : goal.returns-in_err-end-clause-writes
returns-in_err-end-clause-writes g c =
    let slot = c.args.self.now.slot in
    let fill = c.fill.ensures in
    writes_own g.D.Disk c.args.self.now _ c.args.disk.now c.fill.new.disk _ fill.kind fill.later refl (search rules) (search rules)
    (λ tells. filled_others g.D.Disk g.met.D.Disk.images_now slot c.other_of-other.result c.other_of-other.ensures fill.run tells)

pub returns-in_err-end-clause-rewrites : goal.returns-in_err-end-clause-rewrites
returns-in_err-end-clause-rewrites g c = λ tells.
    let was = c.args.self.now in
    let old = payloads_of ((g.D.Disk.content c.args.disk.now).reading was.slot) in
    rewrites_list g.D.Disk was _ c.args.disk.now c.fill.new.disk c.args.list.now
    (filled_turns g.D.Disk g.met.D.Disk.images_now was.slot c.other_of-other.result c.other_of-other.ensures c.fill.ensures.run tells old c.args.list.now was.end
    (c.requires.at_rest tells) (c.requires.current tells))

pub returns-in_err-commit-clause-writes : goal.returns-in_err-commit-clause-writes
returns-in_err-commit-clause-writes g c =
    let slot = c.args.self.now.slot in
    let fill = c.fill.ensures in
    let commit = c.commit.ensures in
    writes_own g.D.Disk c.args.self.now _ c.args.disk.now c.commit.new.disk _ (commit.kind ∙ fill.kind) (omega (arith, fill.later, commit.later)) refl (search rules) (search rules)
    (λ tells. made_others g.D.Disk g.met.D.Disk.images_now slot c.other_of-other.result c.other_of-other.ensures fill.run tells fill.kind c.commit.new.disk commit.run)

pub returns-in_err-commit-clause-rewrites : goal.returns-in_err-commit-clause-rewrites
returns-in_err-commit-clause-rewrites g c = λ tells.
    let was = c.args.self.now in
    let old = payloads_of ((g.D.Disk.content c.args.disk.now).reading was.slot) in
    rewrites_list g.D.Disk was _ c.args.disk.now c.commit.new.disk c.args.list.now
    (made_turns g.D.Disk g.met.D.Disk.images_now was.slot c.other_of-other.result c.other_of-other.ensures c.fill.ensures.run tells c.fill.ensures.kind old c.args.list.now was.end c.in_ok-end.end
    (c.in_ok-end.ensures.holds tells) (c.requires.at_rest tells) (c.requires.current tells) c.commit.new.disk c.commit.ensures.flips)

pub returns-clause-writes : goal.returns-clause-writes
returns-clause-writes g c =
    let slot = c.args.self.now.slot in
    let fill = c.fill.ensures in
    let commit = c.commit.ensures in
    writes_own g.D.Disk c.args.self.now _ c.args.disk.now c.commit.new.disk _ (commit.kind ∙ fill.kind) (omega (arith, fill.later, commit.later)) (ap (λ (p : Place). p.family) c.other_of-other.ensures) (search rules) (search rules)
    (λ tells. made_others g.D.Disk g.met.D.Disk.images_now slot c.other_of-other.result c.other_of-other.ensures fill.run tells fill.kind c.commit.new.disk commit.run)

pub returns-clause-rewrites : goal.returns-clause-rewrites
returns-clause-rewrites g c = λ tells.
    let was = c.args.self.now in
    let old = payloads_of ((g.D.Disk.content c.args.disk.now).reading was.slot) in
    rewrites_list g.D.Disk was _ c.args.disk.now c.commit.new.disk c.args.list.now
    (made_turns g.D.Disk g.met.D.Disk.images_now was.slot c.other_of-other.result c.other_of-other.ensures c.fill.ensures.run tells c.fill.ensures.kind old c.args.list.now was.end c.in_ok-end.end
    (c.in_ok-end.ensures.holds tells) (c.requires.at_rest tells) (c.requires.current tells) c.commit.new.disk c.commit.ensures.flips)

pub returns-clause-rests : goal.returns-clause-rests
returns-clause-rests g c = λ tells.
    let was = c.args.self.now in
    let old = payloads_of ((g.D.Disk.content c.args.disk.now).reading was.slot) in
    made_rests g.D.Disk g.met.D.Disk.images_now was.slot c.other_of-other.result c.other_of-other.ensures c.fill.ensures.run tells c.fill.ensures.kind old c.args.list.now was.end c.in_ok-end.end
    (c.in_ok-end.ensures.holds tells) (c.requires.at_rest tells) (c.requires.current tells) _ c.commit.new.disk refl refl c.in_ok-commit.ensures.done

pub returns-clause-not_full : goal.returns-clause-not_full
returns-clause-not_full g c = λ tells.
    subst (λ (n : ℕ). (n ≡ 0) ⊎ (whole_chunks (n + 1) ≤ (g.D.Disk.kind c.args.disk.now).limit)) c.in_ok-end.ensures.end.0 (c.in_ok-end.ensures.not_full tells)

pub returns-clause-filled : goal.returns-clause-filled
returns-clause-filled g c = λ tells.
    made_filled g.D.Disk g.met.D.Disk.images_now c.args.self.now.slot c.other_of-other.result c.other_of-other.ensures c.fill.ensures.run tells c.fill.ensures.kind c.commit.new.disk c.in_ok-end.end
    (length (open_regions c.args.list.now)) c.in_ok-end.ensures.end.0 c.commit.ensures.kept (c.in_ok-end.ensures.filled tells)

pub returns-in_err-end-clause-refused : goal.returns-in_err-end-clause-refused
returns-in_err-end-clause-refused g c =
    let was = c.args.self.now in
    let list = c.args.list.now in
    let first = c.args.disk.now in
    let last = c.fill.new.disk in
    let e = c.in_err-end.field-0.0 in
    let other = c.other_of-other.result in
    let now : GateFile = record { slot = was.slot; end = was.end; failed = true; draft = None; low = was.low; draft_low = omega arith } in
    let stays : KeepsList g.D.Disk was now first last =
    keeps_list g.D.Disk was now first last g.met.D.Disk.images_now other c.other_of-other.ensures refl refl c.fill.ensures.run in
    let rose = Rose (g.D.Disk.faults first) (g.D.Disk.faults last) in
    let more = λ (needed limit : ℕ). PassesLimit g.D.Disk (other_slot was.slot) list first last needed limit × KeepsList g.D.Disk was now first last in
    let widen : (needed limit : ℕ) → PassesLimit g.D.Disk other list first last needed limit → more needed limit =
    λ needed limit h. (subst (λ (p : Place). PassesLimit g.D.Disk p list first last needed limit) c.other_of-other.ensures h, stays) in
    let better : Because ⊥ rose more (λ (part : Part) (offset : ℕ). ⊥) e =
    because_wider ⊥ rose rose (PassesLimit g.D.Disk other list first last) more (λ (part : Part) (offset : ℕ). ⊥) (λ r. r) widen e c.in_err-end.ensures.refused in
    search (rules, better)
