use Rattle.std.proofs.Common.{[], ◌∷◌, IsTrue, sym, ◌∙◌, ap, subst}
use Rattle.std.proofs.lemmas.Result.{on_ok_weaker}
use Rattle.den_disk.specs.Files.{Content, synced}
use Rattle.den_model.specs.Image.{head_of}
use Rattle.den_gate.specs.Gate.{IsCurrent}
use Rattle.den_gate.specs.Draft.{other_slot}
use Rattle.den_gate.proofs.OtherSlot.{named_other}
use Rattle.den_gate.proofs.Alone.{Alone, writes_alone, syncs_alone, then_alone}
use Rattle.den_gate.proofs.turn.flip.Goals as goal

pub returns-in_err-write_at-clause-run : goal.returns-in_err-write_at-clause-run
returns-in_err-write_at-clause-run g c =
    let head = head_of c.args.slot.family in
    let byte : Alone g.D.Disk head c.args.disk.now c.make_byte.new.disk = record { kind = c.make_byte.ensures.kind; run = c.make_byte.ensures.run } in
    (then_alone byte (writes_alone g.D.Disk g.met.D.Disk.images_now head c.write_at.ensures.kind 0 (c.other_name-name.result ∷ []) c.write_at.ensures.writes)).run

pub returns-clause-run : goal.returns-clause-run
returns-clause-run g c =
    let head = head_of c.args.slot.family in
    let byte : Alone g.D.Disk head c.args.disk.now c.make_byte.new.disk = record { kind = c.make_byte.ensures.kind; run = c.make_byte.ensures.run } in
    let named = then_alone byte (writes_alone g.D.Disk g.met.D.Disk.images_now head c.write_at.ensures.kind 0 (c.other_name-name.result ∷ []) c.write_at.ensures.writes) in
    (then_alone named (syncs_alone g.D.Disk g.met.D.Disk.images_now head c.sync.ensures.kind c.sync.ensures.syncs)).run

pub returns-clause-current : goal.returns-clause-current
returns-clause-current g c = λ tells is.
    let slot = c.args.slot in
    let tells1 = subst (λ k. IsTrue k.tells) (sym c.make_byte.ensures.kind) tells in
    let tells2 = subst (λ k. IsTrue k.tells) (sym c.write_at.ensures.kind) tells1 in
    on_ok_weaker c.sync.result
    (λ done. subst (λ (k : Content). IsCurrent (other_slot slot) k) (sym (done.0 ∙ ap synced ((c.in_ok-write_at.ensures.writes tells1).ok).0))
    (named_other slot (g.D.Disk.content c.make_byte.new.disk) c.other_name-name.result is c.other_name-name.ensures))
    (c.sync.ensures.syncs tells2).ok
