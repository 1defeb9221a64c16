use Rattle.std.proofs.Common.{IsTrue, IfErr, rules, arith, refl, ◌∙◌, ap, sym, subst}
use Rattle.den_disk.specs.Files.{Kind}
use Rattle.den_model.specs.Crash.{Stands, bytes_of}
use Rattle.den_disk.specs.Goes.{Rose}
use Rattle.den_core.specs.Refusals.{IsServeRefusal}
use Rattle.den_core.proofs.Fronts.{none_is_front, sent_is_front}
use Rattle.den_core.proofs.Lists.{added_is, bytes_of-stamped}
use Rattle.den_core.proofs.Refusing.{not_done}
use Rattle.den_core.proofs.Stretch.{then_sent_over, stands_now}
use Rattle.den_core.proofs.Weighing.{heavier_out, short_step}
use Rattle.den_core.proofs.server.serve_frame.Goals as goal

-- the step is made, and a front of what it answers is sent
pub returns-in_err-send_all-clause-survives : goal.returns-in_err-send_all-clause-survives
returns-in_err-send_all-clause-survives g c = λ disk_tells link_tells told.
    let step = c.in_ok-out.ensures in
    let disk = c.step.new.disk in
    let then : IsTrue (g.D.Disk.kind disk).tells = subst (λ (k : Kind). IsTrue k.tells) (sym step.makes.goes_on.same) disk_tells in
    let stands : Stands g.S.Stepper.says.holds (g.D.Disk.images disk) (g.D.Disk.moment disk) (g.S.Stepper.seen c.step.new.self).kv.durable =
    stands_now g.S.Stepper.says.holds (g.D.Disk.images disk) (g.D.Disk.moment disk) (g.D.Disk.content disk) (g.S.Stepper.seen c.step.new.self).kv.durable (λ files. g.met.D.Disk.images_now disk files then) (λ files. g.met.S.Stepper.agrees.rests_hold told c.step.new.self (g.D.Disk.content disk) files step.makes.done.ready (step.makes.done.rests disk_tells)) in
    then_sent_over g.S.Stepper.says.holds _ _ _ _ (g.S.Stepper.seen c.step.new.self).kv _ _ _ _ (step.makes.goes_on.told disk_tells).later (step.makes.survives disk_tells told) step.makes.done.state stands
    step.answer (c.send_all.ensures.front link_tells)

pub returns-clause-survives : goal.returns-clause-survives
returns-clause-survives g c = λ disk_tells link_tells told.
    let step = c.in_ok-out.ensures in
    let disk = c.step.new.disk in
    let then : IsTrue (g.D.Disk.kind disk).tells = subst (λ (k : Kind). IsTrue k.tells) (sym step.makes.goes_on.same) disk_tells in
    let stands : Stands g.S.Stepper.says.holds (g.D.Disk.images disk) (g.D.Disk.moment disk) (g.S.Stepper.seen c.step.new.self).kv.durable =
    stands_now g.S.Stepper.says.holds (g.D.Disk.images disk) (g.D.Disk.moment disk) (g.D.Disk.content disk) (g.S.Stepper.seen c.step.new.self).kv.durable (λ files. g.met.D.Disk.images_now disk files then) (λ files. g.met.S.Stepper.agrees.rests_hold told c.step.new.self (g.D.Disk.content disk) files step.makes.done.ready (step.makes.done.rests disk_tells)) in
    then_sent_over g.S.Stepper.says.holds _ _ _ _ (g.S.Stepper.seen c.step.new.self).kv _ _ _ _ (step.makes.goes_on.told disk_tells).later (step.makes.survives disk_tells told) step.makes.done.state stands
    step.answer (c.send_all.ensures.front link_tells)

-- all of it was sent
pub returns-clause-whole : goal.returns-clause-whole
returns-clause-whole g c = λ link_tells. record {
  state = c.in_ok-out.ensures.makes.done.state;
  logged = c.in_ok-out.ensures.makes.done.logged;
  bytes = ap bytes_of (added_is _ _ _ (c.in_ok-send_all.ensures.all link_tells)) ∙ bytes_of-stamped _ _ ∙ c.in_ok-out.ensures.answer;
}

-- a front of it was sent
pub returns-in_err-send_all-clause-prefix : goal.returns-in_err-send_all-clause-prefix
returns-in_err-send_all-clause-prefix g c = λ link_tells. sent_is_front _ _ _ _ _ c.in_ok-out.ensures.answer (c.send_all.ensures.front link_tells)

pub returns-clause-prefix : goal.returns-clause-prefix
returns-clause-prefix g c = λ link_tells. sent_is_front _ _ _ _ _ c.in_ok-out.ensures.answer (c.send_all.ensures.front link_tells)

-- the step was refused
pub returns-in_err-out-clause-prefix : goal.returns-in_err-out-clause-prefix
returns-in_err-out-clause-prefix g c = λ link_tells. none_is_front (g.L.Link.sent c.args.link.now) _

pub returns-in_err-out-clause-serves : goal.returns-in_err-out-clause-serves
returns-in_err-out-clause-serves g c =
    let makes = c.in_err-out.ensures.makes in
    let refused : IfErr c.from_residual.result (λ e. IsServeRefusal (Rose (g.D.Disk.faults c.args.disk.now) (g.D.Disk.faults c.step.new.disk)) (Rose (g.L.Link.faults c.args.link.now) (g.L.Link.faults c.args.link.now)) (g.D.Disk.kind c.args.disk.now).limit e) = search rules in
    record {
      goes_on = makes.goes_on;
      snapshot = makes.snapshot;
      same_most = makes.same_most;
      short = not_done c.from_residual.result c.in_err-out.field-0.0 _ c.from_residual.ensures.1;
      state_short = not_done c.from_residual.result c.in_err-out.field-0.0 _ c.from_residual.ensures.1;
      ready = not_done c.from_residual.result c.in_err-out.field-0.0 _ c.from_residual.ensures.1;
      rests = not_done c.from_residual.result c.in_err-out.field-0.0 _ c.from_residual.ensures.1;
      refused = refused;
      full = heavier_out c.from_residual.result c.in_err-out.field-0.0 _ _ _ _ _ _ _ _ c.from_residual.ensures.1 (λ t. t)
          (λ needed t short. short_step _ _ _ _ _ _ needed _ (λ kv log next begun. (begun, λ told. refl)) refl (omega arith) short) refl (omega arith) makes.refused.full;
    }
