use Rattle.std.proofs.Common.{◌∷◌, IsTrue, IfErr, rules, refl, sym, ◌∙◌, ap, subst, arith}
use Rattle.den_disk.specs.Files.{Kind}
use Rattle.den_model.specs.Crash.{Tells}
use Rattle.den_model.specs.Frames.{frames}
use Rattle.den_core.proofs.FramesSoFar.{begins, begun_over, served_over, done_over, turn_reached}
use Rattle.den_core.proofs.Fronts.{none_answered, all_is_front, begun_is_front, one_answered}
use Rattle.den_core.proofs.GoesOn.{disk_same, disk_twice, link_same, link_twice, clock_same, clock_twice, clock_read, found_some, found_none}
use Rattle.den_core.proofs.Refusing.{not_done}
use Rattle.den_core.specs.Refusals.{IsServeRefusal}
use Rattle.den_disk.specs.Goes.{Rose}
use Rattle.den_core.proofs.Spared.{spares_still, spares_twice}
use Rattle.den_core.proofs.Stretch.{stands_now}
use Rattle.den_core.proofs.Weighing.{counted_on, served_on, heavier_out, short_step}
use Rattle.den_core.proofs.server.serve.Goals as goal

pub frames-init : goal.frames-init
frames-init g c = record {
  limit = c.new-reader.ensures;
  disk = disk_same _ _ _ _ _;
  snapshot = λ told. spares_still _ _ _ _ _;
  link = link_same _ _ _ _ _ _;
  clock = clock_same _ _ _;
  counted = λ told. refl;
  weight = omega arith;
  most = refl;
  short = λ short. short;
  state_short = λ short. short;
  ready = c.requires.stands.ready;
  rests = c.requires.stands.rests;
  so_far = λ told.
      let disk = c.args.disk.now in
      let s = c.args.stepper.now in
      begins g.S.Stepper.says.told g.S.Stepper.says.holds _ _ _ (g.C.Clock.readings c.args.clock.now) (g.L.Link.sent c.args.link.now) _ (g.S.Stepper.seen s).log (λ says. stands_now _ _ _ (g.D.Disk.content disk) _ (λ files. g.met.D.Disk.images_now disk files told.disk_tells)
      (λ files. g.met.S.Stepper.agrees.rests_hold says s (g.D.Disk.content disk) files c.requires.stands.ready (c.requires.stands.rests told.disk_tells)));
  answered = λ link_tells clock_tells. none_answered _ (g.C.Clock.readings c.args.clock.now) (g.L.Link.sent c.args.link.now) _;
}

-- the input is at its end
pub returns-in_default-clause-done : goal.returns-in_default-clause-done
returns-in_default-clause-done g c = λ told.
    let inv = c.frames.invariant in
    let link_tells : IsTrue (g.L.Link.tells c.frames.link) = subst (λ b. IsTrue b) (sym inv.link.same) told.link_tells in
    done_over g.S.Stepper.says.told g.S.Stepper.says.holds _ _ _ _ _ _ _ _ _ _ _ _ _ _ _ (inv.so_far told) (found_none _ _ _ _ c.in_default.is (c.in_ok-found.ensures.found link_tells)) (c.next.ensures.sent link_tells)

pub returns-in_default-clause-prefix : goal.returns-in_default-clause-prefix
returns-in_default-clause-prefix g c = λ link_told clock_tells.
    let inv = c.frames.invariant in
    all_is_front _ _ _ _ _ _ _ _ (inv.answered link_told clock_tells) (c.next.ensures.sent (subst (λ b. IsTrue b) (sym inv.link.same) link_told))

-- it could not be read
pub returns-in_err-found-clause-prefix : goal.returns-in_err-found-clause-prefix
returns-in_err-found-clause-prefix g c = λ link_told clock_tells.
    let inv = c.frames.invariant in
    all_is_front _ _ _ _ _ _ _ _ (inv.answered link_told clock_tells) (c.next.ensures.sent (subst (λ b. IsTrue b) (sym inv.link.same) link_told))

-- a frame was begun
pub returns-in_err-serve_frame-clause-prefix : goal.returns-in_err-serve_frame-clause-prefix
returns-in_err-serve_frame-clause-prefix g c = λ link_told clock_tells.
    let inv = c.frames.invariant in
    let before : IsTrue (g.C.Clock.tells c.frames.clock) = c.now.ensures.tells clock_tells in
    let link_tells : IsTrue (g.L.Link.tells c.frames.link) = subst (λ b. IsTrue b) (sym inv.link.same) link_told in
    let then_tells : IsTrue (g.L.Link.tells c.next.new.link) = subst (λ b. IsTrue b) (sym c.next.ensures.on.same) link_tells in
    begun_is_front _ _ _ _ _ _ _ _ _ _ _ _ _ _ _
    (inv.clock.grows before) (c.now.ensures.told clock_tells) c.max-time.ensures
    (inv.link.grows link_told) (c.next.ensures.sent link_tells) (c.serve_frame.ensures.link.grows then_tells)
    (inv.answered link_told before) (found_some _ _ _ _ _ _ inv.limit c.in-Some.is (c.in_ok-found.ensures.found link_tells))
    (c.serve_frame.ensures.prefix then_tells)

pub returns-in_err-serve_frame-clause-survives : goal.returns-in_err-serve_frame-clause-survives
returns-in_err-serve_frame-clause-survives g c = λ told.
    let inv = c.frames.invariant in
    let before : Tells (g.D.Disk.kind c.args.disk.now).tells (g.L.Link.tells c.args.link.now) (g.C.Clock.tells c.frames.clock) =
    record { disk_tells = told.disk_tells; link_tells = told.link_tells; clock_tells = c.now.ensures.tells told.clock_tells } in
    let link_tells : IsTrue (g.L.Link.tells c.frames.link) = subst (λ b. IsTrue b) (sym inv.link.same) told.link_tells in
    let disk_tells : IsTrue (g.D.Disk.kind c.frames.disk).tells = subst (λ (k : Kind). IsTrue k.tells) (sym inv.disk.same) told.disk_tells in
    let then_tells : IsTrue (g.L.Link.tells c.next.new.link) = subst (λ b. IsTrue b) (sym c.next.ensures.on.same) link_tells in
    let on = c.serve_frame.ensures.serves.goes_on.told disk_tells in
    begun_over g.S.Stepper.says.told g.S.Stepper.says.holds _ _ _ _ _ _ _ _ _ _ _ _ _ _ _ _ _ _ _ _ _ _
    (inv.disk.told told.disk_tells).later on.later on.past
    (inv.clock.grows before.clock_tells) (c.now.ensures.told told.clock_tells) c.max-time.ensures
    (inv.link.grows told.link_tells) (c.next.ensures.sent link_tells) (c.serve_frame.ensures.link.grows then_tells)
    (inv.so_far before) (found_some _ _ _ _ _ _ inv.limit c.in-Some.is (c.in_ok-found.ensures.found link_tells))
    (λ says. c.serve_frame.ensures.survives disk_tells then_tells says)

pub returns-in_err-serve_frame-clause-serves : goal.returns-in_err-serve_frame-clause-serves
returns-in_err-serve_frame-clause-serves g c =
    let inv = c.frames.invariant in
    let refused : IfErr c.from_residual-in_err-serve_frame.result (λ e. IsServeRefusal (Rose (g.D.Disk.faults c.args.disk.now) (g.D.Disk.faults c.serve_frame.new.disk)) (Rose (g.L.Link.faults c.args.link.now) (g.L.Link.faults c.serve_frame.new.link)) (g.D.Disk.kind c.args.disk.now).limit e) = search rules in
    record {
      goes_on = disk_twice _ _ _ _ _ _ _ inv.disk c.serve_frame.ensures.serves.goes_on;
      snapshot = spares_twice _ _ _ _ _ _ _ _ _ inv.disk c.serve_frame.ensures.serves.goes_on inv.snapshot c.serve_frame.ensures.serves.snapshot;
      same_most = c.serve_frame.ensures.serves.same_most ∙ inv.most;
      short = not_done c.from_residual-in_err-serve_frame.result c.in_err-serve_frame.field-0.0 _ c.from_residual-in_err-serve_frame.ensures.1;
      state_short = not_done c.from_residual-in_err-serve_frame.result c.in_err-serve_frame.field-0.0 _ c.from_residual-in_err-serve_frame.ensures.1;
      ready = not_done c.from_residual-in_err-serve_frame.result c.in_err-serve_frame.field-0.0 _ c.from_residual-in_err-serve_frame.ensures.1;
      rests = not_done c.from_residual-in_err-serve_frame.result c.in_err-serve_frame.field-0.0 _ c.from_residual-in_err-serve_frame.ensures.1;
      refused = refused;
      full = heavier_out c.from_residual-in_err-serve_frame.result c.in_err-serve_frame.field-0.0 _ _ _ _ _ _ _ _ c.from_residual-in_err-serve_frame.ensures.1
          (λ t. (subst (λ (k : Kind). IsTrue k.tells) (sym inv.disk.same) t.0, t.1))
          (λ needed t short. short_step _ _ _ _ _ _ needed _
          (λ kv log next begun told.
          let before : Tells (g.D.Disk.kind c.args.disk.now).tells (g.L.Link.tells c.args.link.now) (g.C.Clock.tells c.frames.clock) =
          record { disk_tells = told.disk_tells; link_tells = told.link_tells; clock_tells = c.now.ensures.tells told.clock_tells } in
          let link_tells : IsTrue (g.L.Link.tells c.frames.link) = subst (λ b. IsTrue b) (sym inv.link.same) told.link_tells in
          let then_tells : IsTrue (g.L.Link.tells c.next.new.link) = subst (λ b. IsTrue b) (sym c.next.ensures.on.same) link_tells in
          turn_reached _ _ _ _ _ _ _ _ _ _ _ _ _ _ _ _ _ _ _ _ _ kv log next (inv.clock.grows before.clock_tells) (c.now.ensures.told told.clock_tells) c.max-time.ensures
          (begun.1 then_tells ∙ c.next.ensures.sent link_tells) (inv.so_far before) (found_some _ _ _ _ _ _ inv.limit c.in-Some.is (c.in_ok-found.ensures.found link_tells)) begun.0)
          inv.most
          (served_on (g.S.Stepper.seen c.args.stepper.now).weight (g.S.Stepper.seen c.frames.stepper).weight (g.L.Link.taken c.args.link.now) (g.L.Link.taken c.frames.link) (g.L.Link.taken c.next.new.link) (g.L.Link.taken c.serve_frame.new.link) _ c.in-Some.frame c.in-Some.is inv.weight inv.link.more c.in_ok-found.ensures.size c.serve_frame.ensures.taken c.next.ensures.on.more)
          short)
          (ap (λ (k : Kind). k.limit) inv.disk.same)
          (served_on (g.S.Stepper.seen c.args.stepper.now).weight (g.S.Stepper.seen c.frames.stepper).weight (g.L.Link.taken c.args.link.now) (g.L.Link.taken c.frames.link) (g.L.Link.taken c.next.new.link) (g.L.Link.taken c.serve_frame.new.link) _ c.in-Some.frame c.in-Some.is inv.weight inv.link.more c.in_ok-found.ensures.size c.serve_frame.ensures.taken c.next.ensures.on.more) c.in_err-serve_frame.ensures.serves.full;
    }

-- and served
pub frames-preserved : goal.frames-preserved
frames-preserved g c =
    let inv = c.frames.invariant in
    record {
      limit = c.next.ensures.limit ∙ inv.limit;
      disk = disk_twice _ _ _ _ _ _ _ inv.disk c.serve_frame.ensures.serves.goes_on;
      snapshot = spares_twice _ _ _ _ _ _ _ _ _ inv.disk c.serve_frame.ensures.serves.goes_on inv.snapshot c.serve_frame.ensures.serves.snapshot;
      link = link_twice _ _ _ _ _ _ _ _ (link_twice _ _ _ _ _ _ _ _ inv.link c.next.ensures.on) c.serve_frame.ensures.link;
      clock = clock_twice _ _ _ _ _ inv.clock (clock_read _ _ _ _ c.now.result c.now.ensures.told c.now.ensures.tells);
      counted = λ told.
          let link_tells : IsTrue (g.L.Link.tells c.frames.link) = subst (λ b. IsTrue b) (sym inv.link.same) told in
          let then_tells : IsTrue (g.L.Link.tells c.next.new.link) = subst (λ b. IsTrue b) (sym c.next.ensures.on.same) link_tells in
          counted_on (g.L.Link.taken c.args.link.now) (g.L.Link.taken c.next.new.link) (g.L.Link.taken c.serve_frame.new.link) (g.L.Link.left c.args.link.now) (g.L.Link.left c.next.new.link) (g.L.Link.left c.serve_frame.new.link)
          c.serve_frame.ensures.taken (c.serve_frame.ensures.left then_tells) (c.next.ensures.counted link_tells ∙ inv.counted told);
      weight = omega (arith, c.in_ok-serve_frame.ensures.weight, served_on (g.S.Stepper.seen c.args.stepper.now).weight (g.S.Stepper.seen c.frames.stepper).weight (g.L.Link.taken c.args.link.now) (g.L.Link.taken c.frames.link) (g.L.Link.taken c.next.new.link) (g.L.Link.taken c.serve_frame.new.link) _ c.in-Some.frame c.in-Some.is inv.weight inv.link.more c.in_ok-found.ensures.size c.serve_frame.ensures.taken c.next.ensures.on.more);
      most = c.serve_frame.ensures.serves.same_most ∙ inv.most;
      short = λ short. c.in_ok-serve_frame.ensures.serves.short (inv.short short);
      state_short = λ short. c.in_ok-serve_frame.ensures.serves.state_short (inv.state_short short);
      ready = c.in_ok-serve_frame.ensures.serves.ready;
      rests = λ told. c.in_ok-serve_frame.ensures.serves.rests (subst (λ (k : Kind). IsTrue k.tells) (sym inv.disk.same) told);
      so_far = λ told.
          let before : Tells (g.D.Disk.kind c.args.disk.now).tells (g.L.Link.tells c.args.link.now) (g.C.Clock.tells c.frames.clock) =
          record { disk_tells = told.disk_tells; link_tells = told.link_tells; clock_tells = c.now.ensures.tells told.clock_tells } in
          let link_tells : IsTrue (g.L.Link.tells c.frames.link) = subst (λ b. IsTrue b) (sym inv.link.same) told.link_tells in
          let disk_tells : IsTrue (g.D.Disk.kind c.frames.disk).tells = subst (λ (k : Kind). IsTrue k.tells) (sym inv.disk.same) told.disk_tells in
          let then_tells : IsTrue (g.L.Link.tells c.next.new.link) = subst (λ b. IsTrue b) (sym c.next.ensures.on.same) link_tells in
          let on = c.serve_frame.ensures.serves.goes_on.told disk_tells in
          served_over g.S.Stepper.says.told g.S.Stepper.says.holds _ _ _ _ _ _ _ _ _ _ _ _ _ _ _ _ _ _ _ _ _ _
          (inv.disk.told told.disk_tells).later on.later on.past
          (inv.clock.grows before.clock_tells) (c.now.ensures.told told.clock_tells) c.max-time.ensures
          (inv.link.grows told.link_tells) (c.next.ensures.sent link_tells) (c.serve_frame.ensures.link.grows then_tells)
          (inv.so_far before)
          (found_some _ _ _ _ _ _ inv.limit c.in-Some.is (c.in_ok-found.ensures.found link_tells)
          ∙ ap (λ left. c.in-Some.frame ∷ frames c.args.limit left) (sym (c.serve_frame.ensures.left then_tells)))
          (λ says. c.serve_frame.ensures.survives disk_tells then_tells says)
          _ _ (c.in_ok-serve_frame.ensures.whole then_tells);
      answered = λ link_told clock_tells.
          let before : IsTrue (g.C.Clock.tells c.frames.clock) = c.now.ensures.tells clock_tells in
          let link_tells : IsTrue (g.L.Link.tells c.frames.link) = subst (λ b. IsTrue b) (sym inv.link.same) link_told in
          let then_tells : IsTrue (g.L.Link.tells c.next.new.link) = subst (λ b. IsTrue b) (sym c.next.ensures.on.same) link_tells in
          one_answered _ _ _ _ _ _ _ _ _ _ _ _ _ _ _
          (inv.clock.grows before) (c.now.ensures.told clock_tells) c.max-time.ensures
          (inv.link.grows link_told) (c.next.ensures.sent link_tells) (c.serve_frame.ensures.link.grows then_tells)
          (inv.answered link_told before)
          (found_some _ _ _ _ _ _ inv.limit c.in-Some.is (c.in_ok-found.ensures.found link_tells)
          ∙ ap (λ left. c.in-Some.frame ∷ frames c.args.limit left) (sym (c.serve_frame.ensures.left then_tells)))
          _ (c.in_ok-serve_frame.ensures.whole then_tells).state (c.in_ok-serve_frame.ensures.whole then_tells).bytes;
    }
