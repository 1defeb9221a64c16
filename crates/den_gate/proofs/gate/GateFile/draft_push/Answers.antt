use Rattle.std.proofs.Common.{◌+◌, [], ◌∷◌, ◌++◌, ℕ, length, refl, sym, subst, rules}
use Rattle.den_disk.specs.declared.place.Place.{Place}
use Rattle.den_gate.specs.Slot.{SlotGrows, Holds}
use Rattle.den_gate.specs.Draft.{draft_end, other_slot}
use Rattle.den_gate.proofs.Drafts.{writes_own, keeps_list, slot_others}
use Rattle.den_gate.proofs.gate.GateFile.draft_push.Goals as goal

pub returns-in_err-push-clause-writes : goal.returns-in_err-push-clause-writes
returns-in_err-push-clause-writes g c =
    let push = c.push.ensures in
    writes_own g.D.Disk c.args.self.now _ c.args.disk.now c.push.new.disk _ push.kind push.later refl (search rules) (search rules)
    (λ tells. slot_others g.D.Disk c.args.self.now.slot c.other_of.result c.other_of.ensures (push.run tells))

pub returns-in_err-push-clause-keeps : goal.returns-in_err-push-clause-keeps
returns-in_err-push-clause-keeps g c =
    keeps_list g.D.Disk c.args.self.now _ c.args.disk.now c.push.new.disk g.met.D.Disk.images_now c.other_of.result c.other_of.ensures refl refl c.push.ensures.run

pub returns-clause-writes : goal.returns-clause-writes
returns-clause-writes g c =
    let push = c.push.ensures in
    writes_own g.D.Disk c.args.self.now _ c.args.disk.now c.push.new.disk _ push.kind push.later refl (search rules) (search rules)
    (λ tells. slot_others g.D.Disk c.args.self.now.slot c.other_of.result c.other_of.ensures (push.run tells))

pub returns-clause-keeps : goal.returns-clause-keeps
returns-clause-keeps g c =
    keeps_list g.D.Disk c.args.self.now _ c.args.disk.now c.push.new.disk g.met.D.Disk.images_now c.other_of.result c.other_of.ensures refl refl c.push.ensures.run

pub returns-clause-pushed : goal.returns-clause-pushed
returns-clause-pushed g c = λ tells list d.
    let content = g.D.Disk.content in
    let slot = c.args.self.now.slot in
    let d0 = c.args.disk.now in
    let d1 = c.push.new.disk in
    let p = c.args.payload.now in
    let end = c.unwrap_or-end.result in
    let place = c.other_of.result in
    let before : Holds list end ((content d0).reading place) =
    subst (λ (q : Place). Holds list end ((content d0).reading q)) (sym c.other_of.ensures) (subst (λ (e : ℕ). Holds list e ((content d0).reading (other_slot slot))) (sym c.unwrap_or-end.ensures) d.holds) in
    let after = c.in_ok-push.ensures.holds tells list before in
    record { begun = refl; holds = subst (λ (q : Place). Holds (list ++ p ∷ []) (end + (9 + length p)) ((content d1).reading q)) c.other_of.ensures after }

pub returns-clause-grows : goal.returns-clause-grows
returns-clause-grows g c = λ tells.
    let content = g.D.Disk.content in
    let n = length c.args.payload.now in
    let grows_at = λ (p : Place) (e : ℕ). SlotGrows ((content c.args.disk.now).reading p) ((content c.push.new.disk).reading p) e n in
    subst (λ (p : Place). grows_at p (draft_end c.args.self.now)) c.other_of.ensures (subst (λ (e : ℕ). grows_at c.other_of.result e) c.unwrap_or-end.ensures (c.in_ok-push.ensures.grows tells))
