use Rattle.std.proofs.Common.{sym, subst}
use Rattle.den_core.specs.Parts.{running_seen, IsCaughtUp}
use Rattle.den_core.proofs.CatchUp.{left_in_order, left_caught_up, started_left, started_applied, survives_catching_up}
use Rattle.den_core.proofs.Spared.{log_state, meta_state, snapshot_state, apart_own, spares_by}
use Rattle.den_core.proofs.recovery.catch_up.Goals as goal

pub apply_all-requires-clause-in_order : goal.apply_all-requires-clause-in_order
apply_all-requires-clause-in_order g c = left_in_order (g.G.LogStore.shown c.args.log).value (g.M.StateMachine.map c.start.new.self) _ (started_left _ _ _ _ c.start.ensures.map c.requires.left)

-- the map moved, or did not
pub returns-in_err-apply_all-clause-survives : goal.returns-in_err-apply_all-clause-survives
returns-in_err-apply_all-clause-survives g c = λ kept told held is.
    let disk = c.args.disk.now in
    let rests = c.requires.rests told in
    survives_catching_up g.G.LogStore.holds.of g.T.MetaStore.holds.of g.M.StateMachine.holds.of (g.D.Disk.images disk) (g.D.Disk.images c.apply_all.new.disk) (g.D.Disk.moment disk) (g.D.Disk.moment c.apply_all.new.disk) (g.D.Disk.content disk)
    (g.G.LogStore.shown c.args.log).value (g.T.MetaStore.shown c.args.meta).value (g.M.StateMachine.map c.args.state) (g.M.StateMachine.map c.start.new.self) c.args.entries.now (record { durable = kept; running = running_seen c.args.running })
    c.start.ensures.map c.requires.left is (λ files. g.met.D.Disk.images_now disk files told)
    (λ files at. g.met.G.LogStore.lies.rests_hold held.0 c.args.log (g.D.Disk.content disk) files c.requires.log_ready rests.log at)
    (λ files at. g.met.T.MetaStore.lies.rests_hold held.1 c.args.meta (g.D.Disk.content disk) files c.requires.meta_ready rests.meta at)
    g.met.G.LogStore.lies.holds_own g.met.T.MetaStore.lies.holds_own (c.apply_all.ensures.others told) (c.apply_all.ensures.own told held.2)

pub returns-clause-survives : goal.returns-clause-survives
returns-clause-survives g c = λ kept told held is.
    let disk = c.args.disk.now in
    let rests = c.requires.rests told in
    survives_catching_up g.G.LogStore.holds.of g.T.MetaStore.holds.of g.M.StateMachine.holds.of (g.D.Disk.images disk) (g.D.Disk.images c.apply_all.new.disk) (g.D.Disk.moment disk) (g.D.Disk.moment c.apply_all.new.disk) (g.D.Disk.content disk)
    (g.G.LogStore.shown c.args.log).value (g.T.MetaStore.shown c.args.meta).value (g.M.StateMachine.map c.args.state) (g.M.StateMachine.map c.start.new.self) c.args.entries.now (record { durable = kept; running = running_seen c.args.running })
    c.start.ensures.map c.requires.left is (λ files. g.met.D.Disk.images_now disk files told)
    (λ files at. g.met.G.LogStore.lies.rests_hold held.0 c.args.log (g.D.Disk.content disk) files c.requires.log_ready rests.log at)
    (λ files at. g.met.T.MetaStore.lies.rests_hold held.1 c.args.meta (g.D.Disk.content disk) files c.requires.meta_ready rests.meta at)
    g.met.G.LogStore.lies.holds_own g.met.T.MetaStore.lies.holds_own (c.apply_all.ensures.others told) (c.apply_all.ensures.own told held.2)

pub new-requires-clause-caught_up : goal.new-requires-clause-caught_up
new-requires-clause-caught_up g c = subst (λ s. IsCaughtUp (g.G.LogStore.shown c.args.log).value s) (sym c.in_ok-apply_all.ensures.applied)
    (left_caught_up (g.G.LogStore.shown c.args.log).value (g.M.StateMachine.map c.start.new.self) _ (started_left _ _ _ _ c.start.ensures.map c.requires.left))

pub returns-clause-opened : goal.returns-clause-opened
returns-clause-opened g c = started_applied (g.G.LogStore.shown c.args.log).value (g.T.MetaStore.shown c.args.meta).value (g.M.StateMachine.map c.args.state) (g.M.StateMachine.map c.start.new.self) (g.M.StateMachine.map c.apply_all.new.state)
    c.args.entries.now c.args.running _ c.start.ensures.map c.requires.left c.in_ok-apply_all.ensures.applied c.new.ensures.kv

pub returns-clause-rests : goal.returns-clause-rests
returns-clause-rests g c = λ told. c.new.ensures.rests (g.D.Disk.content c.apply_all.new.disk) (record {
  log = g.met.G.LogStore.lies.rests_own c.args.log _ _ (apart_own _ _ _ _ log_state (c.in_ok-apply_all.ensures.spares told)) (c.requires.rests told).log;
  meta = g.met.T.MetaStore.lies.rests_own c.args.meta _ _ (apart_own _ _ _ _ meta_state (c.in_ok-apply_all.ensures.spares told)) (c.requires.rests told).meta;
  state = c.in_ok-apply_all.ensures.rests told;
})

pub returns-in_err-apply_all-clause-snapshot : goal.returns-in_err-apply_all-clause-snapshot
returns-in_err-apply_all-clause-snapshot g c = λ told. spares_by _ _ _ _ _ _ _ snapshot_state (c.apply_all.ensures.spares told) (c.apply_all.ensures.others told)

pub returns-clause-snapshot : goal.returns-clause-snapshot
returns-clause-snapshot g c = λ told. spares_by _ _ _ _ _ _ _ snapshot_state (c.apply_all.ensures.spares told) (c.apply_all.ensures.others told)
