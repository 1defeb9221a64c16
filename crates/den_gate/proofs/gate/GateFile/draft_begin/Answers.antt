use Rattle.std.proofs.Common.{[], ◌≡◌, OnOk, refl, subst, rules}
use Rattle.std.proofs.lemmas.Result.{on_ok_weaker}
use Rattle.den_disk.specs.declared.place.Place.{Place}
use Rattle.den_gate.specs.Slot.{Holds}
use Rattle.den_gate.proofs.Drafts.{writes_own, keeps_list, slot_others}
use Rattle.den_gate.proofs.gate.GateFile.draft_begin.Goals as goal

pub returns-clause-writes : goal.returns-clause-writes
returns-clause-writes g c =
    let clear = c.clear-cleared.ensures in
    writes_own g.D.Disk c.args.self.now _ c.args.disk.now c.clear-cleared.new.disk c.clear-cleared.result clear.kind clear.later refl (search rules) (search rules)
    (λ tells. slot_others g.D.Disk c.args.self.now.slot c.other_of.result c.other_of.ensures (clear.run tells))

pub returns-clause-keeps : goal.returns-clause-keeps
returns-clause-keeps g c =
    keeps_list g.D.Disk c.args.self.now _ c.args.disk.now c.clear-cleared.new.disk g.met.D.Disk.images_now c.other_of.result c.other_of.ensures refl refl c.clear-cleared.ensures.run

pub returns-clause-begun : goal.returns-clause-begun
returns-clause-begun g c = λ tells.
    let d1 = c.clear-cleared.new.disk in
    on_ok_weaker c.clear-cleared.result
    (λ h. record { begun = refl; holds = subst (λ (p : Place). Holds [] 0 ((g.D.Disk.content d1).reading p)) c.other_of.ensures h })
    (c.clear-cleared.ensures.holds tells)

pub returns-clause-cleared : goal.returns-clause-cleared
returns-clause-cleared g c = λ tells.
    let d1 = c.clear-cleared.new.disk in
    subst (λ (p : Place). OnOk c.clear-cleared.result ((g.D.Disk.content d1).reading p ≡ [])) c.other_of.ensures (c.clear-cleared.ensures.cleared tells)
