use Rattle.std.proofs.Common.{IsTrue, ◌+◌, ◌-◌, inl, inr, refl, sym, ap, subst, ◌∙◌, List, length}
use Rattle.std.proofs.lemmas.Result.{on_ok_weaker}
use Rattle.den_disk.specs.declared.place.Family.TheVariants.{Snapshot as snapshot_family}
use Rattle.den_disk.specs.Files.{Kind}
use Rattle.den_disk.specs.Goes.{IsPrefix, Rose, added}
use Rattle.den_model.specs.Crash.{IsAnswered, Tells, bytes_of}
use Rattle.den_model.specs.Frames.{frames}
use Rattle.den_model.specs.Kv.{Kv, Running}
use Rattle.den_model.specs.Log.{Log}
use Rattle.den_model.specs.Plan.{output, plan_over}
use Rattle.den_model.specs.Step.{Step, is_leader}
use Rattle.den_core.specs.Full.{IsReached, IsSlotTooShort, IsStepTooShort}
use Rattle.den_core.specs.Making.{GivesShortLog}
use Rattle.den_core.specs.Parts.{kv_of}
use Rattle.den_core.specs.PayloadSizes.{opened_sizes}
use Rattle.den_core.specs.Weights.{run_weight}
use Rattle.den_core.proofs.GoesOn.{disk_twice, on_ok_three}
use Rattle.den_core.proofs.Spared.{spares_twice}
use Rattle.den_core.proofs.Weighing.{heavier, same_short, short_step}
use Rattle.den_server.specs.Custom.{Stores, IsOneTooShort, behind, brought_weight, refusal_of, says_of}
use Rattle.den_server.proofs.Ended.{rose_then}
use Rattle.den_server.proofs.Handed.{runs_from, on_ok_two, nothing_sent, ends_with_opening, goes_on_from, served_over, opening_cause, serving_cause, never_both, named_so, opening_lighter, run_lighter, led_or, reached_over}
use Rattle.den_server.proofs.Promised.{disk_alone}
use Rattle.den_server.proofs.Refused.{if_err_two, some_refused}
use Rattle.den_server.proofs.custom.run_over.Goals as goal

-- ---- the opening was refused

pub returns-in-Err-clause-any_moment : goal.returns-in-Err-clause-any_moment
returns-in-Err-clause-any_moment g c = λ kept tells told keep.
    let D = g.D.Disk in
    ends_with_opening _ (D.images c.recover.new.disk) (D.moment c.args.disk.now) (D.moment c.recover.new.disk) (g.L.Link.sent c.args.link.now) _
    c.args.config.now.network.max_frame_size (g.L.Link.left c.args.link.now) (g.C.Clock.readings c.args.clock.now) (c.recover.ensures.survives kept tells.disk_tells told keep)

pub returns-in-Err-clause-prefix : goal.returns-in-Err-clause-prefix
returns-in-Err-clause-prefix g c = λ kept link_tells clock_tells keep. nothing_sent (g.L.Link.sent c.args.link.now) _

pub returns-in-Err-clause-refused : goal.returns-in-Err-clause-refused
returns-in-Err-clause-refused g c =
    let D = g.D.Disk in
    let L = g.L.Link in
    let first = c.args.disk.now in
    let last = c.recover.new.disk in
    let link = c.args.link.now in
    let clock = c.args.clock.now in
    let s : Stores = record {
      log = g.G.LogStore.shown c.args.log;
      meta = g.T.MetaStore.shown c.args.meta;
      state = g.M.StateMachine.shown c.args.state;
      map = g.M.StateMachine.map c.args.state;
      place = g.G.LogStore.place c.args.log;
      leased = (g.M.StateMachine.settings c.args.state).leased;
      says = says_of g.G.LogStore.holds g.T.MetaStore.holds g.M.StateMachine.holds;
    } in
    let brought = brought_weight s in
    let heavy = run_weight brought (L.taken link - L.taken link) in
    let files = (D.content last).reading in
    let sizes = opened_sizes (g.K.Core.view c.args.core).role c.args.config.now.raft.max_log_entries s.log.value s.map (behind s) in
    opening_cause (Rose (D.faults first) (D.faults last)) (Rose (L.faults link) (L.faults link)) (D.kind first).limit (refusal_of s) _ c.in-Err.error c.in-Err.ensures.refused
    (heavier (IsTrue (D.kind first).tells × s.says.told) (IsTrue (D.kind first).tells × s.says.told) (λ needed. IsSlotTooShort sizes brought needed files)
    (IsOneTooShort D L g.C.Clock s (g.K.Core.view c.args.core) c.args.config.now first last link link clock clock)
    (D.kind first).limit (D.kind first).limit brought heavy c.in-Err.error (λ t. t)
    (λ needed t short. inl (same_short sizes brought heavy needed files (opening_lighter brought (L.taken link - L.taken link)) short)) refl (opening_lighter brought (L.taken link - L.taken link)) c.in-Err.ensures.full)

pub returns-in-Err-clause-turned_away : goal.returns-in-Err-clause-turned_away
returns-in-Err-clause-turned_away g c = λ e is. (
  record { never = record {}; named = named_so _ _ _ e c.in-Err.error is c.in-Err.ensures.refused },
  c.recover.ensures.untouched (some_refused _ _ e refl is),
  refl,
  refl,
)

pub returns-in-Err-clause-goes_on : goal.returns-in-Err-clause-goes_on
returns-in-Err-clause-goes_on g c =
    disk_alone g.D.Disk g.L.Link g.C.Clock c.args.disk.now c.recover.new.disk c.args.link.now c.args.clock.now c.recover.ensures.disk c.recover.ensures.snapshot

-- ---- the run

pub returns-clause-served : goal.returns-clause-served
returns-clause-served g c = on_ok_two c.run_from.result (λ answered served kept tells keep.
    let D = g.D.Disk in
    let engine = c.in-Ok.engine in
    let limit = c.args.config.now.network.max_frame_size in
    let input = g.L.Link.left c.args.link.now in
    let left = g.L.Link.left c.run_from.new.link in
    let readings = added (g.C.Clock.readings c.args.clock.now) (g.C.Clock.readings c.run_from.new.clock) in
    let sent = added (g.L.Link.sent c.args.link.now) (g.L.Link.sent c.run_from.new.link) in
    let opened_tells : IsTrue (D.kind c.recover.new.disk).tells = subst (λ (k : Kind). IsTrue k.tells) (sym c.recover.ensures.disk.same) tells.disk_tells in
    let here : Tells (D.kind c.recover.new.disk).tells (g.L.Link.tells c.args.link.now) (g.C.Clock.tells c.run_from.new.clock) =
    record { disk_tells = opened_tells; link_tells = tells.link_tells; clock_tells = tells.clock_tells } in
    let kv = kv_of (g.T.MetaStore.shown engine.meta).value (g.M.StateMachine.map engine.state) engine.running in
    let same = runs_from _ kv kept _ c.in-Ok.ensures.opened c.in-Ok.ensures.running keep in (
      subst (λ (k : Kv). IsAnswered left (length readings) (length (frames limit input)) sent k (plan_over k limit input readings)) same (answered here),
      λ told. served_over _ _ (D.images c.run_from.new.disk) (D.moment c.run_from.new.disk) left (length readings) (length (frames limit input)) sent _ kv _ (g.G.LogStore.shown engine.log).value
          (λ (k : Kv). plan_over k limit input readings) same c.in-Ok.ensures.purged (served here told),
    )) c.run_from.ensures.answered c.run_from.ensures.served

pub returns-clause-short : goal.returns-clause-short
returns-clause-short g c = on_ok_weaker c.run_from.result (λ short tells told.
    let D = g.D.Disk in
    let last = c.run_from.new.disk in
    let opened_tells : IsTrue (D.kind c.recover.new.disk).tells = subst (λ (k : Kind). IsTrue k.tells) (sym c.recover.ensures.disk.same) tells in
    subst (λ n. GivesShortLog g.G.LogStore.holds.of (D.images last) (D.moment last) n) c.in-Ok.ensures.most
    (short (led_or (is_leader c.in-Ok.engine.running.role) _
    (λ follows. c.in-Ok.ensures.short (sym (ap (λ (r : Running). is_leader r.setting.role) c.in-Ok.ensures.running) ∙ follows))) opened_tells told)) c.run_from.ensures.short

pub returns-clause-state_short : goal.returns-clause-state_short
returns-clause-state_short g c = on_ok_three c.run_from.result (λ short ready rests leading. (
  c.run_from.new.stepper.state,
  short (ap (λ (r : Running). is_leader r.setting.role) c.in-Ok.ensures.running ∙ leading),
  ready.1.state,
  λ tells. (rests (subst (λ (k : Kind). IsTrue k.tells) (sym c.recover.ensures.disk.same) tells)).state,
)) c.run_from.ensures.state_short c.run_from.ensures.serves.ready c.run_from.ensures.serves.rests

pub returns-clause-prefix : goal.returns-clause-prefix
returns-clause-prefix g c = λ kept link_tells clock_tells keep.
    let engine = c.in-Ok.engine in
    let readings = added (g.C.Clock.readings c.args.clock.now) (g.C.Clock.readings c.run_from.new.clock) in
    let sent = added (g.L.Link.sent c.args.link.now) (g.L.Link.sent c.run_from.new.link) in
    let kv = kv_of (g.T.MetaStore.shown engine.meta).value (g.M.StateMachine.map engine.state) engine.running in
    subst (λ (k : Kv). IsPrefix (bytes_of sent) (output k (plan_over k c.args.config.now.network.max_frame_size (g.L.Link.left c.args.link.now) readings)))
    (runs_from _ kv kept _ c.in-Ok.ensures.opened c.in-Ok.ensures.running keep) (c.run_from.ensures.prefix link_tells clock_tells)

pub returns-clause-any_moment : goal.returns-clause-any_moment
returns-clause-any_moment g c = λ kept tells told keep.
    let D = g.D.Disk in
    let engine = c.in-Ok.engine in
    let first = c.args.disk.now in
    let opened = c.recover.new.disk in
    let last = c.run_from.new.disk in
    let opened_tells : IsTrue (D.kind opened).tells = subst (λ (k : Kind). IsTrue k.tells) (sym c.recover.ensures.disk.same) tells.disk_tells in
    let here : Tells (D.kind opened).tells (g.L.Link.tells c.args.link.now) (g.C.Clock.tells c.run_from.new.clock) =
    record { disk_tells = opened_tells; link_tells = tells.link_tells; clock_tells = tells.clock_tells } in
    let readings = added (g.C.Clock.readings c.args.clock.now) (g.C.Clock.readings c.run_from.new.clock) in
    let sent = added (g.L.Link.sent c.args.link.now) (g.L.Link.sent c.run_from.new.link) in
    let kv = kv_of (g.T.MetaStore.shown engine.meta).value (g.M.StateMachine.map engine.state) engine.running in
    let goes = c.run_from.ensures.serves.goes_on.told opened_tells in
    goes_on_from _ (D.images opened) (D.images last) (D.moment first) (D.moment opened) (D.moment last) sent _ kv
    (λ (k : Kv). plan_over k c.args.config.now.network.max_frame_size (g.L.Link.left c.args.link.now) readings)
    (c.recover.ensures.disk.told tells.disk_tells).later goes.later goes.past (runs_from _ kv kept _ c.in-Ok.ensures.opened c.in-Ok.ensures.running keep)
    (c.recover.ensures.survives kept tells.disk_tells told keep) (c.run_from.ensures.any_moment here told)

pub returns-clause-refused : goal.returns-clause-refused
returns-clause-refused g c = if_err_two c.run_from.result _ _ _
    (λ e h full.
    let D = g.D.Disk in
    let L = g.L.Link in
    let engine = c.in-Ok.engine in
    let first = c.args.disk.now in
    let opened = c.recover.new.disk in
    let last = c.run_from.new.disk in
    let link = c.args.link.now in
    let s : Stores = record {
      log = g.G.LogStore.shown c.args.log;
      meta = g.T.MetaStore.shown c.args.meta;
      state = g.M.StateMachine.shown c.args.state;
      map = g.M.StateMachine.map c.args.state;
      place = g.G.LogStore.place c.args.log;
      leased = (g.M.StateMachine.settings c.args.state).leased;
      says = says_of g.G.LogStore.holds g.T.MetaStore.holds g.M.StateMachine.holds;
    } in
    let brought = brought_weight s in
    let weight = (g.G.LogStore.shown engine.log).weight + (g.T.MetaStore.shown engine.meta).weight + (g.M.StateMachine.shown engine.state).weight in
    let taken = L.taken c.run_from.new.link - L.taken link in
    let files = (D.content last).reading in
    let kv = kv_of (g.T.MetaStore.shown engine.meta).value (g.M.StateMachine.map engine.state) engine.running in
    let old_log = (g.G.LogStore.shown engine.log).value in
    let readings = added (g.C.Clock.readings c.args.clock.now) (g.C.Clock.readings c.run_from.new.clock) in
    let sent = bytes_of (added (L.sent link) (L.sent c.run_from.new.link)) in
    let steps : Kv → List Step = λ k. plan_over k c.args.config.now.network.max_frame_size (L.left link) readings in
    let begun : Kv → Log → Step → Type 0 = λ k log next. Tells (D.kind opened).tells (L.tells link) (g.C.Clock.tells c.run_from.new.clock) → IsReached kv old_log (steps kv) sent k log next in
    let kind_same = ap (λ (k : Kind). k.limit) c.recover.ensures.disk.same in
    serving_cause (Rose (D.faults opened) (D.faults last)) (Rose (D.faults first) (D.faults last)) (Rose (L.faults link) (L.faults c.run_from.new.link)) (D.kind first).limit (D.kind opened).limit (refusal_of s) _ e
    (λ r. rose_then _ _ _ c.recover.ensures.disk.counts r) kind_same c.in-Ok.ensures.unrefused h
    (heavier (IsTrue (D.kind first).tells × s.says.told) (IsTrue (D.kind opened).tells × s.says.told) (λ needed. IsStepTooShort begun engine.most (run_weight weight taken) needed files)
    (IsOneTooShort D L g.C.Clock s (g.K.Core.view c.args.core) c.args.config.now first last link c.run_from.new.link c.args.clock.now c.run_from.new.clock)
    (D.kind first).limit (D.kind opened).limit (run_weight weight taken) (run_weight brought taken) e
    (λ t. (subst (λ (k : Kind). IsTrue k.tells) (sym c.recover.ensures.disk.same) t.0, t.1))
    (λ needed t short. inr (short_step begun _ _ _ (run_weight weight taken) (run_weight brought taken) needed files
    (λ k log next reached kept tells keep.
    let opened_tells : IsTrue (D.kind opened).tells = subst (λ (x : Kind). IsTrue x.tells) (sym c.recover.ensures.disk.same) tells.disk_tells in
    reached_over steps sent kv _ old_log s.log.value k log next
    (runs_from _ kv kept _ c.in-Ok.ensures.opened c.in-Ok.ensures.running keep) c.in-Ok.ensures.purged
    (reached (record { disk_tells = opened_tells; link_tells = tells.link_tells; clock_tells = tells.clock_tells })))
    c.in-Ok.ensures.most (run_lighter weight brought taken c.in-Ok.ensures.weight) short))
    kind_same (run_lighter weight brought taken c.in-Ok.ensures.weight) full))
    c.run_from.ensures.serves.refused c.run_from.ensures.serves.full

pub returns-clause-turned_away : goal.returns-clause-turned_away
returns-clause-turned_away g c = λ e is. absurd (never_both _ e c.in-Ok.ensures.unrefused is)

pub returns-clause-goes_on : goal.returns-clause-goes_on
returns-clause-goes_on g c = record {
  disk_goes_on = disk_twice g.D.Disk.kind g.D.Disk.moment g.D.Disk.images g.D.Disk.faults c.args.disk.now c.recover.new.disk c.run_from.new.disk c.recover.ensures.disk c.run_from.ensures.serves.goes_on;
  link_goes_on = c.run_from.ensures.link;
  clock_goes_on = c.run_from.ensures.clock;
  snapshot = spares_twice g.D.Disk.kind g.D.Disk.content g.D.Disk.moment g.D.Disk.images g.D.Disk.faults snapshot_family c.args.disk.now c.recover.new.disk c.run_from.new.disk
      c.recover.ensures.disk c.run_from.ensures.serves.goes_on c.recover.ensures.snapshot c.run_from.ensures.serves.snapshot;
}
