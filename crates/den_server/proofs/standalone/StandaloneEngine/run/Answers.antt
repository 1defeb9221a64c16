use Rattle.std.proofs.Common.{ℕ, Option, Result, Err, IsOk, IfErr, IsTrue, arith, ◌-◌, length, inl, inr, refl, sym, subst, ap, ◌∙◌}
use Rattle.std.proofs.lemmas.Result.{on_ok_weaker}
use Rattle.den_disk.specs.Goes.{Rose, added}
use Rattle.den_model.specs.Crash.{Tells, Survives, IsServed, bytes_of}
use Rattle.den_model.specs.Frames.{frames}
use Rattle.den_model.specs.Image.{durable_in, log_in, ok}
use Rattle.den_model.specs.Kv.{Kv}
use Rattle.den_model.specs.Plan.{plan_over}
use Rattle.den_model.specs.Sizes.{files_size}
use Rattle.den_codec.specs.declared.config.RaftNodeConfig.{RaftNodeConfig}
use Rattle.den_core.specs.Full.{IsFullBy, IsReached, IsStepTooShort}
use Rattle.den_core.proofs.Weighing.{same_short, short_step}
use Rattle.den_server.specs.Causes.{IsCatchUpTooShort, IsRunRefusal}
use Rattle.den_model.specs.Log.{Log}
use Rattle.den_model.specs.Step.{Step}
use Rattle.den_codec.specs.Standard.{entered}
use Rattle.den_core.specs.Making.{GivesShortLog}
use Rattle.den_core.specs.Parts.{kv_of}
use Rattle.den_core.specs.Refusals.{IsServeRefusal}
use Rattle.den_core.specs.Weights.{run_weight}
use Rattle.den_store.specs.FileLog.{log_shown}
use Rattle.den_store.specs.FileMeta.{meta_shown}
use Rattle.den_state.specs.FileState.{state_map, stored_of}
use Rattle.den_state.specs.Stored.{nothing_stored, stored_from}
use Rattle.den_journal.specs.Lies.{gives_hold}
use Rattle.den_codec.specs.declared.error.Error.{Error}
use Rattle.den_disk.specs.Files.{Files, Kind}
use Rattle.den_server.specs.Opening.{refusal_in, held_weight}
use Rattle.den_server.proofs.Ended.{rose_then, opening_ended, serving_ended, away, refused_not_read, completed}
use Rattle.den_server.specs.Promises.{IsRunTooShort, EndsEarly, SurvivesPending, run_config}
use Rattle.den_server.proofs.Promised.{sends_prefix, survives_all_along, disk_alone}
use Rattle.den_server.proofs.Refused.{if_err_two}
use Rattle.den_server.proofs.Surviving.{of_node, opening_then, no_reading, served_from, log_same, reached_from}
use Rattle.den_disk.specs.declared.place.Family.TheVariants.{Snapshot as snapshot_family, State}
use Rattle.den_core.proofs.GoesOn.{disk_twice, on_ok_three}
use Rattle.den_core.proofs.Spared.{spares_twice}
use Rattle.den_server.proofs.standalone.StandaloneEngine.run.Goals as goal

-- what files are refused for, under a configuration
abbrev refusal_of : RaftNodeConfig → Files → Option Error
refusal_of n files = refusal_in n.raft.lease.enabled files

-- ---- the opening was refused

pub returns-in-Err-clause-runs : goal.returns-in-Err-clause-runs
returns-in-Err-clause-runs g c =
    let none : Result (Unit {0}) Error = Err c.in-Err.error in
    let pending : SurvivesPending g.D.Disk g.L.Link g.C.Clock (run_config c.args.config.now.node) c.args.disk.now c.open_folder.new.disk c.args.link.now c.args.link.now c.args.clock.now c.args.clock.now (IsOk none) =
    λ kept told stands.
    let D = g.D.Disk in
    let first = c.args.disk.now in
    let last = c.open_folder.new.disk in
    no_reading durable_in (D.images first) (D.images last) (D.moment first) (D.moment last) _ _ (g.L.Link.sent c.args.link.now) (entered c.args.config.now.node kept)
    c.args.config.now.node.network.max_frame_size (g.L.Link.left c.args.link.now) (g.C.Clock.readings c.args.clock.now)
    (of_node durable_in (D.images first) (D.images last) (D.moment first) (D.moment last) _ _ _ _ kept c.node.ensures (c.in-Err.ensures.opening kept told.disk_tells stands)) in
    let early : IfErr none (EndsEarly g.D.Disk g.L.Link g.C.Clock (run_config c.args.config.now.node) c.args.disk.now c.open_folder.new.disk c.args.link.now c.args.link.now c.args.clock.now c.args.clock.now) =
    let D = g.D.Disk in
    let L = g.L.Link in
    let first = c.args.disk.now in
    let short = λ (most needed : ℕ). IsCatchUpTooShort (D.content first).reading most needed (D.content c.open_folder.new.disk).reading in
    opening_ended (Rose (D.faults first) (D.faults c.open_folder.new.disk)) (Rose (L.faults c.args.link.now) (L.faults c.args.link.now)) (IsTrue (D.kind first).tells) (refusal_of c.args.config.now.node (D.content first).reading)
    short
    (IsRunTooShort D L g.C.Clock (run_config c.args.config.now.node) first c.open_folder.new.disk c.args.link.now c.args.link.now c.args.clock.now c.args.clock.now)
    (D.kind first).limit (files_size (D.content first).reading) (L.taken c.args.link.now - L.taken c.args.link.now) c.in-Err.error
    (λ needed le short. inl (record { log = short.log; map = short.map; log_read = short.log_read; map_read = short.map_read; short = same_short _ _ _ needed _ le short.short }))
    (subst (λ (n : RaftNodeConfig). IsRunRefusal (Rose (D.faults first) (D.faults c.open_folder.new.disk)) ⊥ (IsTrue (D.kind first).tells) (refusal_of n (D.content first).reading) short
    (D.kind first).limit (files_size (D.content first).reading) 0 c.in-Err.error) c.node.ensures c.in-Err.ensures.refused) in
    record {
      served = record {};
      short = record {};
      state_short = record {};
      prefix = sends_prefix g.D.Disk g.L.Link g.C.Clock (run_config c.args.config.now.node) c.args.disk.now c.open_folder.new.disk c.args.link.now c.args.link.now c.args.clock.now c.args.clock.now _
          c.open_folder.ensures.disk.same (λ files. g.met.D.Disk.images_now c.open_folder.new.disk files) pending;
      any_moment = survives_all_along g.D.Disk g.L.Link g.C.Clock (run_config c.args.config.now.node) c.args.disk.now c.open_folder.new.disk c.args.link.now c.args.link.now c.args.clock.now c.args.clock.now _
          (λ files. g.met.D.Disk.images_now c.args.disk.now files) pending;
      opening = pending;
      refused = early;
      turned_away = λ e told is.
          let reading = (g.D.Disk.content c.args.disk.now).reading in
          let here = ap (λ (n : RaftNodeConfig). refusal_of n reading) c.node.ensures ∙ is in
          ((record {}, away _ _ (refusal_of c.node.result.now reading) _ _ _ e c.in-Err.error told here c.in-Err.ensures.refused), c.open_folder.ensures.untouched e told here, refl, refl);
      complete = λ told link_tells unrefused disk link small.
          let D = g.D.Disk in
          let L = g.L.Link in
          let first = c.args.disk.now in
          completed (Rose (D.faults first) (D.faults c.open_folder.new.disk)) (Rose (L.faults c.args.link.now) (L.faults c.args.link.now)) (IsTrue (D.kind first).tells) (refusal_of c.args.config.now.node (D.content first).reading)
          (IsRunTooShort D L g.C.Clock (run_config c.args.config.now.node) first c.open_folder.new.disk c.args.link.now c.args.link.now c.args.clock.now c.args.clock.now)
          (D.kind first).limit (files_size (D.content first).reading) (L.taken c.args.link.now - L.taken c.args.link.now) (length (L.left c.args.link.now)) none told unrefused disk link
          (omega arith) small early;
    }

pub returns-in-Err-clause-goes_on : goal.returns-in-Err-clause-goes_on
returns-in-Err-clause-goes_on g c =
    disk_alone g.D.Disk g.L.Link g.C.Clock c.args.disk.now c.open_folder.new.disk c.args.link.now c.args.clock.now c.open_folder.ensures.disk c.open_folder.ensures.snapshot

-- ---- the run

pub returns-clause-runs : goal.returns-clause-runs
returns-clause-runs g c =
    let pending : SurvivesPending g.D.Disk g.L.Link g.C.Clock (run_config c.args.config.now.node) c.args.disk.now c.run_from.new.disk c.args.link.now c.run_from.new.link c.args.clock.now c.run_from.new.clock (IsOk c.run_from.result) =
    λ kept told stands.
    let D = g.D.Disk in
    let first = c.args.disk.now in
    let opened = c.open_folder.new.disk in
    let last = c.run_from.new.disk in
    let opened_tells : IsTrue (D.kind opened).tells = subst (λ (k : Kind). IsTrue k.tells) (sym c.open_folder.ensures.disk.same) told.disk_tells in
    let here : Tells (D.kind opened).tells (g.L.Link.tells c.args.link.now) (g.C.Clock.tells c.run_from.new.clock) =
    record { disk_tells = opened_tells; link_tells = told.link_tells; clock_tells = told.clock_tells } in
    let readings = added (g.C.Clock.readings c.args.clock.now) (g.C.Clock.readings c.run_from.new.clock) in
    let sent = added (g.L.Link.sent c.args.link.now) (g.L.Link.sent c.run_from.new.link) in
    let goes = c.run_from.ensures.serves.goes_on.told opened_tells in
    opening_then durable_in (D.images first) (D.images opened) (D.images last) (D.moment first) (D.moment opened) (D.moment last) _ _ _ _
    sent (entered c.args.config.now.node kept) _
    (λ (k : Kv). plan_over k c.args.config.now.node.network.max_frame_size (g.L.Link.left c.args.link.now) readings)
    refl goes.later goes.past
    (of_node durable_in (D.images first) (D.images opened) (D.moment first) (D.moment opened) _ _ _ _ kept c.node.ensures (c.in-Ok.ensures.opening kept told.disk_tells stands))
    (c.in-Ok.ensures.kv kept told.disk_tells stands ∙ ap (λ (n : RaftNodeConfig). entered n kept) c.node.ensures)
    (subst (λ (n : RaftNodeConfig). Survives durable_in (D.images last) (D.moment opened) (D.moment last)
    sent (kv_of ((meta_shown c.in-Ok.engine.meta).value) (state_map c.in-Ok.engine.state) c.in-Ok.engine.running)
    (plan_over (kv_of ((meta_shown c.in-Ok.engine.meta).value) (state_map c.in-Ok.engine.state) c.in-Ok.engine.running) n.network.max_frame_size (g.L.Link.left c.args.link.now) readings))
    c.node-2.ensures (c.run_from.ensures.any_moment here (tt, tt, tt))) in
    let early : IfErr c.run_from.result (EndsEarly g.D.Disk g.L.Link g.C.Clock (run_config c.args.config.now.node) c.args.disk.now c.run_from.new.disk c.args.link.now c.run_from.new.link c.args.clock.now c.run_from.new.clock) =
    if_err_two c.run_from.result _ _ _
    (λ e h full.
    let D = g.D.Disk in
    let L = g.L.Link in
    let engine = c.in-Ok.engine in
    let weight = held_weight engine.log engine.meta engine.state in
    let taken = L.taken c.run_from.new.link - L.taken c.args.link.now in
    let link_rose = Rose (L.faults c.args.link.now) (L.faults c.run_from.new.link) in
    let rose = Rose (D.faults c.open_folder.new.disk) (D.faults c.run_from.new.disk) in
    let files = (D.content c.run_from.new.disk).reading in
    let kv = kv_of (meta_shown engine.meta).value (state_map engine.state) engine.running in
    let readings = added (g.C.Clock.readings c.args.clock.now) (g.C.Clock.readings c.run_from.new.clock) in
    let sent = bytes_of (added (L.sent c.args.link.now) (L.sent c.run_from.new.link)) in
    let begun : Kv → Log → Step → Type 0 = λ k log next. Tells (D.kind c.open_folder.new.disk).tells (L.tells c.args.link.now) (g.C.Clock.tells c.run_from.new.clock)
    → IsReached kv (log_shown engine.log).value (plan_over kv c.node-2.result.now.network.max_frame_size (L.left c.args.link.now) readings) sent k log next in
    let slot : ℕ → Type 0 = λ needed. IsStepTooShort begun engine.most (run_weight weight taken) needed files in
    serving_ended rose _ link_rose (IsTrue (D.kind c.args.disk.now).tells) _ (refusal_of c.args.config.now.node (D.content c.args.disk.now).reading) slot
    (IsRunTooShort D L g.C.Clock (run_config c.args.config.now.node) c.args.disk.now c.run_from.new.disk c.args.link.now c.run_from.new.link c.args.clock.now c.run_from.new.clock)
    (D.kind c.args.disk.now).limit weight (files_size (D.content c.args.disk.now).reading) taken e
    (λ r. rose_then _ _ _ c.open_folder.ensures.disk.counts r) (λ told. (told, (tt, tt, tt)))
    (λ needed told le short. inr (short_step begun _ _ _ (run_weight weight taken) _ needed files
    (λ k log next reached kept held tells stands read.
    let opened_tells : IsTrue (D.kind c.open_folder.new.disk).tells = subst (λ (x : Kind). IsTrue x.tells) (sym c.open_folder.ensures.disk.same) tells.disk_tells in
    reached_from (λ k. plan_over k c.args.config.now.node.network.max_frame_size (L.left c.args.link.now) readings) sent kv (entered c.args.config.now.node kept) (log_shown engine.log).value held k log next
    (c.in-Ok.ensures.kv kept tells.disk_tells stands ∙ ap (λ (n : RaftNodeConfig). entered n kept) c.node.ensures)
    (log_same (log_in (D.content c.args.disk.now).reading) _ held (c.in-Ok.ensures.log tells.disk_tells) read)
    (subst (λ (n : RaftNodeConfig). IsReached kv (log_shown engine.log).value (plan_over kv n.network.max_frame_size (L.left c.args.link.now) readings) sent k log next) c.node-2.ensures
    (reached (record { disk_tells = opened_tells; link_tells = tells.link_tells; clock_tells = tells.clock_tells }))))
    (c.in-Ok.ensures.most ∙ ap (λ (n : RaftNodeConfig). n.raft.max_log_entries) c.node.ensures) le short))
    (λ told. sym (ap (λ (n : RaftNodeConfig). refusal_of n (D.content c.args.disk.now).reading) c.node.ensures) ∙ c.in-Ok.ensures.accepted told) (λ told. c.in-Ok.ensures.weight told)
    (subst (λ (k : Kind). IsServeRefusal rose link_rose k.limit e) c.open_folder.ensures.disk.same h)
    (subst (λ (k : Kind). IsFullBy (IsTrue k.tells × (Unit {0} × Unit {0} × Unit {0})) slot k.limit (run_weight weight taken) e) c.open_folder.ensures.disk.same full))
    c.run_from.ensures.serves.refused c.run_from.ensures.serves.full in
    record {
      served = on_ok_weaker c.run_from.result (λ served kept log told stands read.
          let D = g.D.Disk in
          let opened_tells : IsTrue (D.kind c.open_folder.new.disk).tells = subst (λ (k : Kind). IsTrue k.tells) (sym c.open_folder.ensures.disk.same) told.disk_tells in
          let here : Tells (D.kind c.open_folder.new.disk).tells (g.L.Link.tells c.args.link.now) (g.C.Clock.tells c.run_from.new.clock) =
          record { disk_tells = opened_tells; link_tells = told.link_tells; clock_tells = told.clock_tells } in
          let readings = added (g.C.Clock.readings c.args.clock.now) (g.C.Clock.readings c.run_from.new.clock) in
          served_from (λ files. ok (log_in files)) (D.images c.run_from.new.disk) _ _ _ _ _ (entered c.args.config.now.node kept) _ log _
          (λ (k : Kv). plan_over k c.args.config.now.node.network.max_frame_size (g.L.Link.left c.args.link.now) readings)
          (c.in-Ok.ensures.kv kept told.disk_tells stands ∙ ap (λ (n : RaftNodeConfig). entered n kept) c.node.ensures)
          (log_same (log_in (D.content c.args.disk.now).reading) _ log (c.in-Ok.ensures.log told.disk_tells) read)
          (subst (λ (n : RaftNodeConfig). IsServed durable_in (λ files. ok (log_in files)) (D.images c.run_from.new.disk) (D.moment c.run_from.new.disk) (g.L.Link.left c.run_from.new.link) (length readings)
          (length (frames n.network.max_frame_size (g.L.Link.left c.args.link.now)))
          (added (g.L.Link.sent c.args.link.now) (g.L.Link.sent c.run_from.new.link)) (kv_of (meta_shown c.in-Ok.engine.meta).value (state_map c.in-Ok.engine.state) c.in-Ok.engine.running) (log_shown c.in-Ok.engine.log).value
          (plan_over (kv_of (meta_shown c.in-Ok.engine.meta).value (state_map c.in-Ok.engine.state) c.in-Ok.engine.running) n.network.max_frame_size (g.L.Link.left c.args.link.now) readings))
          c.node-2.ensures (served here (tt, tt, tt)))) c.run_from.ensures.served;
      short = on_ok_weaker c.run_from.result (λ short told.
          let D = g.D.Disk in
          let last = c.run_from.new.disk in
          let opened_tells : IsTrue (D.kind c.open_folder.new.disk).tells = subst (λ (k : Kind). IsTrue k.tells) (sym c.open_folder.ensures.disk.same) told in
          subst (λ n. GivesShortLog (λ files. ok (log_in files)) (D.images last) (D.moment last) n) (c.in-Ok.ensures.most ∙ ap (λ (n : RaftNodeConfig). n.raft.max_log_entries) c.node.ensures)
          (short (inl c.in-Ok.ensures.leads) opened_tells (tt, tt, tt))) c.run_from.ensures.short;
      state_short = on_ok_three c.run_from.result (λ short ready rests told files at.
          let D = g.D.Disk in
          let last = c.run_from.new.disk in
          let state = c.run_from.new.stepper.state in
          let opened_tells : IsTrue (D.kind c.open_folder.new.disk).tells = subst (λ (k : Kind). IsTrue k.tells) (sym c.open_folder.ensures.disk.same) told in
          let last_tells : IsTrue (D.kind last).tells = subst (λ (k : Kind). IsTrue k.tells) (sym c.run_from.ensures.serves.goes_on.same) opened_tells in (
            stored_of state,
            gives_hold State (stored_from nothing_stored) state.journal.gate (stored_of state) (D.content last) files (rests opened_tells).state.rests ((g.met.D.Disk.images_now last files last_tells).0 at),
            short c.in-Ok.ensures.leads,
          )) c.run_from.ensures.state_short c.run_from.ensures.serves.ready c.run_from.ensures.serves.rests;
      prefix = sends_prefix g.D.Disk g.L.Link g.C.Clock (run_config c.args.config.now.node) c.args.disk.now c.run_from.new.disk c.args.link.now c.run_from.new.link c.args.clock.now c.run_from.new.clock _
          (c.run_from.ensures.serves.goes_on.same ∙ c.open_folder.ensures.disk.same) (λ files. g.met.D.Disk.images_now c.run_from.new.disk files) pending;
      any_moment = survives_all_along g.D.Disk g.L.Link g.C.Clock (run_config c.args.config.now.node) c.args.disk.now c.run_from.new.disk c.args.link.now c.run_from.new.link c.args.clock.now c.run_from.new.clock _
          (λ files. g.met.D.Disk.images_now c.args.disk.now files) pending;
      opening = pending;
      refused = early;
      turned_away = λ e told is.
          let reading = (g.D.Disk.content c.args.disk.now).reading in
          absurd (refused_not_read (refusal_of c.node.result.now reading) e (c.in-Ok.ensures.accepted told) (ap (λ (n : RaftNodeConfig). refusal_of n reading) c.node.ensures ∙ is));
      complete = λ told link_tells unrefused disk link small.
          let D = g.D.Disk in
          let L = g.L.Link in
          let first = c.args.disk.now in
          completed (Rose (D.faults first) (D.faults c.run_from.new.disk)) (Rose (L.faults c.args.link.now) (L.faults c.run_from.new.link)) (IsTrue (D.kind first).tells) (refusal_of c.args.config.now.node (D.content first).reading)
          (IsRunTooShort D L g.C.Clock (run_config c.args.config.now.node) first c.run_from.new.disk c.args.link.now c.run_from.new.link c.args.clock.now c.run_from.new.clock)
          (D.kind first).limit (files_size (D.content first).reading) (L.taken c.run_from.new.link - L.taken c.args.link.now) (length (L.left c.args.link.now)) c.run_from.result told unrefused disk link
          (omega (arith, c.run_from.ensures.counted link_tells)) small early;
    }

pub returns-clause-goes_on : goal.returns-clause-goes_on
returns-clause-goes_on g c = record {
  disk_goes_on = disk_twice g.D.Disk.kind g.D.Disk.moment g.D.Disk.images g.D.Disk.faults c.args.disk.now c.open_folder.new.disk c.run_from.new.disk c.open_folder.ensures.disk c.run_from.ensures.serves.goes_on;
  link_goes_on = c.run_from.ensures.link;
  clock_goes_on = c.run_from.ensures.clock;
  snapshot = spares_twice g.D.Disk.kind g.D.Disk.content g.D.Disk.moment g.D.Disk.images g.D.Disk.faults snapshot_family c.args.disk.now c.open_folder.new.disk c.run_from.new.disk
      c.open_folder.ensures.disk c.run_from.ensures.serves.goes_on c.in-Ok.ensures.snapshot c.run_from.ensures.serves.snapshot;
}
