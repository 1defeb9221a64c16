use Rattle.std.proofs.Common.{⊎_elim, IsTrue, IfErr, rules, arith, ap, refl, sym, ◌∙◌, subst}
use Rattle.std.proofs.lemmas.Result.{on_ok_weaker}
use Rattle.den_disk.specs.Files.{Kind}
use Rattle.den_model.specs.Crash.{Stands, Tells}
use Rattle.den_model.specs.Frames.{frames}
use Rattle.den_core.proofs.GoesOn.{disk_twice, on_ok_three}
use Rattle.den_core.proofs.Fronts.{none_is_front, front_of_run}
use Rattle.den_core.proofs.Beginning.{frames_reached, opening_reached, opens_only, runs, runs_answered, runs_whole}
use Rattle.den_core.proofs.Refusing.{not_done}
use Rattle.den_core.proofs.Weighing.{heavier_all, heavier_out, short_step}
use Rattle.den_core.specs.Refusals.{IsServeRefusal}
use Rattle.den_disk.specs.Goes.{Rose}
use Rattle.den_core.proofs.Spared.{spares_twice}
use Rattle.den_core.proofs.Stretch.{stands_now}
use Rattle.den_core.proofs.server.run_from.Goals as goal

-- the opening was begun
pub returns-in_err-open_at-clause-any_moment : goal.returns-in_err-open_at-clause-any_moment
returns-in_err-open_at-clause-any_moment g c = λ told says.
    opens_only g.S.Stepper.says.holds _ (frames c.args.limit (g.L.Link.left c.args.link.now)) _ _ _ _ _ c.max-time.ensures (c.open_at.ensures.makes.survives told.disk_tells says)
    (g.C.Clock.readings c.args.clock.now) (g.C.Clock.readings c.now.new.self) (g.L.Link.sent c.args.link.now) (c.now.ensures.told told.clock_tells)

pub returns-clause-any_moment : goal.returns-clause-any_moment
returns-clause-any_moment g c = λ told says.
    let opening = c.in_ok-open_at.ensures in
    let here : Tells (g.D.Disk.kind c.open_at.new.disk).tells (g.L.Link.tells c.args.link.now) (g.C.Clock.tells c.serve.new.clock) =
    record { disk_tells = subst (λ (k : Kind). IsTrue k.tells) (sym opening.makes.goes_on.same) told.disk_tells; link_tells = told.link_tells; clock_tells = told.clock_tells } in
    let on = c.serve.ensures.serves.goes_on.told here.disk_tells in
    runs g.S.Stepper.says.holds _ (frames c.args.limit (g.L.Link.left c.args.link.now)) _ _ _ _ _ c.max-time.ensures (opening.makes.survives told.disk_tells says)
    _ _ _ _ _ _ _ (opening.makes.goes_on.told told.disk_tells).later on.later on.past
    (c.now.ensures.told (c.serve.ensures.clock.told told.clock_tells)) (c.serve.ensures.clock.grows told.clock_tells) opening.makes.done.state
    (c.serve.ensures.survives here says)

pub returns-in_err-open_at-clause-prefix : goal.returns-in_err-open_at-clause-prefix
returns-in_err-open_at-clause-prefix g c = λ link_tells clock_tells. none_is_front (g.L.Link.sent c.args.link.now) _

pub returns-clause-prefix : goal.returns-clause-prefix
returns-clause-prefix g c = λ link_tells clock_tells.
    front_of_run (g.S.Stepper.seen c.args.stepper.now).kv (frames c.args.limit (g.L.Link.left c.args.link.now)) _ _ c.max-time.ensures _ _ _ _ _
    (c.now.ensures.told (c.serve.ensures.clock.told clock_tells)) (c.serve.ensures.clock.grows clock_tells) c.in_ok-open_at.ensures.makes.done.state
    (c.serve.ensures.prefix link_tells clock_tells)

pub returns-clause-answered : goal.returns-clause-answered
returns-clause-answered g c = on_ok_weaker c.serve.result (λ done told.
    let opening = c.in_ok-open_at.ensures in
    let here : Tells (g.D.Disk.kind c.open_at.new.disk).tells (g.L.Link.tells c.args.link.now) (g.C.Clock.tells c.serve.new.clock) =
    record { disk_tells = subst (λ (k : Kind). IsTrue k.tells) (sym opening.makes.goes_on.same) told.disk_tells; link_tells = told.link_tells; clock_tells = told.clock_tells } in
    runs_answered _ (frames c.args.limit (g.L.Link.left c.args.link.now)) _ _ c.max-time.ensures _ _ _ _
    (c.now.ensures.told (c.serve.ensures.clock.told told.clock_tells)) (c.serve.ensures.clock.grows told.clock_tells) opening.makes.done.state
    g.S.Stepper.says.holds _ _ _ _ _ _ opening.makes.done.logged (done here)) c.serve.ensures.done

pub returns-clause-served : goal.returns-clause-served
returns-clause-served g c = on_ok_three c.serve.result (λ done ready rests told says.
    let opening = c.in_ok-open_at.ensures in
    let disk = c.serve.new.disk in
    let s = c.serve.new.stepper in
    let here : Tells (g.D.Disk.kind c.open_at.new.disk).tells (g.L.Link.tells c.args.link.now) (g.C.Clock.tells c.serve.new.clock) =
    record { disk_tells = subst (λ (k : Kind). IsTrue k.tells) (sym opening.makes.goes_on.same) told.disk_tells; link_tells = told.link_tells; clock_tells = told.clock_tells } in
    let then : IsTrue (g.D.Disk.kind disk).tells = subst (λ (k : Kind). IsTrue k.tells) (sym c.serve.ensures.serves.goes_on.same) here.disk_tells in
    let stands : Stands g.S.Stepper.says.holds (g.D.Disk.images disk) (g.D.Disk.moment disk) (g.S.Stepper.seen s).kv.durable =
    stands_now _ _ _ (g.D.Disk.content disk) _ (λ files. g.met.D.Disk.images_now disk files then) (λ files. g.met.S.Stepper.agrees.rests_hold says s (g.D.Disk.content disk) files ready (rests here.disk_tells)) in
    runs_whole _ (frames c.args.limit (g.L.Link.left c.args.link.now)) _ _ c.max-time.ensures _ _ _ _
    (c.now.ensures.told (c.serve.ensures.clock.told told.clock_tells)) (c.serve.ensures.clock.grows told.clock_tells) opening.makes.done.state
    g.S.Stepper.says.holds _ _ _ _ _ _ opening.makes.done.logged (done here)
    g.S.Stepper.says.logs (g.D.Disk.images disk) (g.D.Disk.moment disk) stands
    (λ files at. g.met.S.Stepper.agrees.rests_log says s (g.D.Disk.content disk) files ready (rests here.disk_tells) ((g.met.D.Disk.images_now disk files then).0 at))) c.serve.ensures.done c.serve.ensures.serves.ready c.serve.ensures.serves.rests

pub returns-clause-short : goal.returns-clause-short
returns-clause-short g c = on_ok_three c.serve.result (λ short ready rests either told says.
    let disk = c.serve.new.disk in
    let s = c.serve.new.stepper in
    let here : IsTrue (g.D.Disk.kind c.open_at.new.disk).tells = subst (λ (k : Kind). IsTrue k.tells) (sym c.open_at.ensures.makes.goes_on.same) told in
    let then : IsTrue (g.D.Disk.kind disk).tells = subst (λ (k : Kind). IsTrue k.tells) (sym c.serve.ensures.serves.goes_on.same) here in
    record {
      each = λ files at. (
        (g.S.Stepper.seen s).log,
        g.met.S.Stepper.agrees.rests_log says s (g.D.Disk.content disk) files ready (rests here) ((g.met.D.Disk.images_now disk files then).0 at),
        omega (arith, short (⊎_elim c.in_ok-open_at.ensures.short c.in_ok-open_at.ensures.short_kept either), c.serve.ensures.serves.same_most, c.open_at.ensures.makes.same_most),
      );
    }) c.serve.ensures.serves.short c.serve.ensures.serves.ready c.serve.ensures.serves.rests

pub returns-clause-serves : goal.returns-clause-serves
returns-clause-serves g c =
    let serves = c.serve.ensures.serves in
    let refused : IfErr c.serve.result (λ e. IsServeRefusal (Rose (g.D.Disk.faults c.args.disk.now) (g.D.Disk.faults c.serve.new.disk)) (Rose (g.L.Link.faults c.args.link.now) (g.L.Link.faults c.serve.new.link)) (g.D.Disk.kind c.args.disk.now).limit e) = search rules in
    record {
      goes_on = disk_twice _ _ _ _ _ _ _ c.open_at.ensures.makes.goes_on serves.goes_on;
      snapshot = spares_twice _ _ _ _ _ _ _ _ _ c.open_at.ensures.makes.goes_on serves.goes_on c.open_at.ensures.makes.snapshot serves.snapshot;
      same_most = serves.same_most ∙ c.open_at.ensures.makes.same_most;
      short = on_ok_weaker c.serve.result (λ short was. short (c.in_ok-open_at.ensures.short_kept was)) serves.short;
      state_short = on_ok_weaker c.serve.result (λ short was. short (c.in_ok-open_at.ensures.state_kept was)) serves.state_short;
      ready = serves.ready;
      rests = on_ok_weaker c.serve.result (λ rests told. rests (subst (λ (k : Kind). IsTrue k.tells) (sym c.open_at.ensures.makes.goes_on.same) told)) serves.rests;
      refused = refused;
      full = heavier_all c.serve.result _ _ _ _ _ _ _ _ (λ t. (subst (λ (k : Kind). IsTrue k.tells) (sym c.open_at.ensures.makes.goes_on.same) t.0, t.1))
          (λ needed t short. short_step _ _ _ _ _ _ needed _
          (λ kv log next reached told.
          let opening = c.in_ok-open_at.ensures in
          let here : Tells (g.D.Disk.kind c.open_at.new.disk).tells (g.L.Link.tells c.args.link.now) (g.C.Clock.tells c.serve.new.clock) =
          record { disk_tells = subst (λ (k : Kind). IsTrue k.tells) (sym opening.makes.goes_on.same) told.disk_tells; link_tells = told.link_tells; clock_tells = told.clock_tells } in
          frames_reached _ _ _ _ (frames c.args.limit (g.L.Link.left c.args.link.now)) _ _ _ _ _ _ kv log next (c.now.ensures.told (c.serve.ensures.clock.told told.clock_tells)) (c.serve.ensures.clock.grows told.clock_tells)
          c.max-time.ensures opening.makes.done.state opening.makes.done.logged (reached here))
          c.open_at.ensures.makes.same_most (omega (arith, c.in_ok-open_at.ensures.makes.done.weight)) short)
          (ap (λ (k : Kind). k.limit) c.open_at.ensures.makes.goes_on.same)
          (omega (arith, c.in_ok-open_at.ensures.makes.done.weight)) serves.full;
    }

pub returns-in_err-open_at-clause-serves : goal.returns-in_err-open_at-clause-serves
returns-in_err-open_at-clause-serves g c =
    let makes = c.in_err-open_at.ensures.makes in
    let refused : IfErr c.from_residual.result (λ e. IsServeRefusal (Rose (g.D.Disk.faults c.args.disk.now) (g.D.Disk.faults c.open_at.new.disk)) (Rose (g.L.Link.faults c.args.link.now) (g.L.Link.faults c.args.link.now)) (g.D.Disk.kind c.args.disk.now).limit e) = search rules in
    record {
      goes_on = makes.goes_on;
      snapshot = makes.snapshot;
      same_most = makes.same_most;
      short = not_done c.from_residual.result c.in_err-open_at.field-0.0 _ c.from_residual.ensures.1;
      state_short = not_done c.from_residual.result c.in_err-open_at.field-0.0 _ c.from_residual.ensures.1;
      ready = not_done c.from_residual.result c.in_err-open_at.field-0.0 _ c.from_residual.ensures.1;
      rests = not_done c.from_residual.result c.in_err-open_at.field-0.0 _ c.from_residual.ensures.1;
      refused = refused;
      full = heavier_out c.from_residual.result c.in_err-open_at.field-0.0 _ _ _ _ _ _ _ _ c.from_residual.ensures.1 (λ t. t)
          (λ needed t short. short_step _ _ _ _ _ _ needed _
          (λ kv log next begun told. opening_reached _ _ (frames c.args.limit (g.L.Link.left c.args.link.now)) _ _ _ _ (g.L.Link.sent c.args.link.now) kv log next (c.now.ensures.told told.clock_tells) c.max-time.ensures begun)
          refl (omega arith) short) refl (omega arith) makes.refused.full;
    }

pub returns-clause-state_short : goal.returns-clause-state_short
returns-clause-state_short g c = on_ok_weaker c.serve.result (λ short leading. short (c.in_ok-open_at.ensures.state_short leading)) c.serve.ensures.serves.state_short
