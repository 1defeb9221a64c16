use Rattle.std.proofs.Common.{IsTrue, length, sym, subst}
use Rattle.den_gate.proofs.Alone.{Alone, then_alone}
use Rattle.den_gate.proofs.Filling.{grows_on}
use Rattle.den_gate.proofs.draft.push.Goals as goal

pub returns-in_err-put_region-clause-run : goal.returns-in_err-put_region-clause-run
returns-in_err-put_region-clause-run g c =
    let room : Alone g.D.Disk c.args.slot c.args.disk.now c.make_room.new.disk = record { kind = c.make_room.ensures.kind; run = c.make_room.ensures.alone } in
    let put : Alone g.D.Disk c.args.slot c.make_room.new.disk c.put_region.new.disk = record { kind = c.put_region.ensures.kind; run = c.put_region.ensures.run } in
    (then_alone room put).run

pub returns-clause-run : goal.returns-clause-run
returns-clause-run g c =
    let room : Alone g.D.Disk c.args.slot c.args.disk.now c.make_room.new.disk = record { kind = c.make_room.ensures.kind; run = c.make_room.ensures.alone } in
    let put : Alone g.D.Disk c.args.slot c.make_room.new.disk c.put_region.new.disk = record { kind = c.put_region.ensures.kind; run = c.put_region.ensures.run } in
    (then_alone room put).run

pub returns-clause-grows : goal.returns-clause-grows
returns-clause-grows g c = λ tells.
    let content = g.D.Disk.content in
    let slot = c.args.slot in
    let tells1 = subst (λ k. IsTrue k.tells) (sym c.make_room.ensures.kind) tells in
    grows_on ((content c.args.disk.now).reading slot) ((content c.make_room.new.disk).reading slot) ((content c.put_region.new.disk).reading slot) c.args.end (length c.args.payload.now)
    (c.in_ok-make_room.ensures.grows tells) (c.in_ok-put_region.ensures.long tells1)
