use Rattle.std.proofs.Common.{◌≡◌, ◌≤◌, ◌∙◌, false, ap, refl, subst, sym}
use Rattle.den_model.specs.Image.{term_of}
use Rattle.den_core.specs.Asked.{outcome_of}
use Rattle.den_model.specs.Step.{answer}
use Rattle.den_core.specs.declared.run.Run.{Run}
use Rattle.den_core.specs.Kept.{IsTurned}
use Rattle.den_core.specs.Parts.{kv_of, running_seen, IsReady}
use Rattle.den_core.specs.Weights.{ask_rise, asked_rise}
use Rattle.den_core.proofs.Spared.{all_at_rest}
use Rattle.den_core.proofs.Turns.{ask_made, ask_near, ask_refused, ask_said, ask_stays, ask_wanted, ready_aside}
use Rattle.den_core.proofs.Telling.{committed_turned, said_turned, watched_turned}
use Rattle.den_state.specs.Machine.{rest_hold}
use Rattle.den_core.proofs.engine.answer.Goals as goal

-- nothing was done
pub returns-in_err-command-clause-makes : goal.returns-in_err-command-clause-makes
returns-in_err-command-clause-makes g c =
    let engine = c.args.engine.now in
    let disk = c.args.disk.now in
    let stands = c.requires.stands in
    ask_wanted _ _ _ c.args.frame c.args.time _ _ _ stands
    (λ told held. all_at_rest g.G.LogStore.holds.of g.T.MetaStore.holds.of g.M.StateMachine.holds.of _ _ (g.D.Disk.content disk) _ (g.T.MetaStore.shown engine.meta).value _ stands.ready.1.caught_up
    (λ files. g.met.D.Disk.images_now disk files told)
    (λ files at. g.met.G.LogStore.lies.rests_hold held.0 engine.log (g.D.Disk.content disk) files stands.ready.1.log (stands.rests told).log at)
    (λ files at. g.met.T.MetaStore.lies.rests_hold held.1 engine.meta (g.D.Disk.content disk) files stands.ready.1.meta (stands.rests told).meta at)
    (λ files at. rest_hold g.met.M.StateMachine.lies held.2 engine.state (g.M.StateMachine.map engine.state) (g.D.Disk.content disk) files stands.ready.1.state (stands.rests told).state at))
    c.in_err-command.field-0.0 _ c.from_residual.ensures.1 c.in_err-command.ensures.refused

pub returns-in-Say-clause-makes : goal.returns-in-Say-clause-makes
returns-in-Say-clause-makes g c =
    let engine = c.args.engine.now in
    let disk = c.args.disk.now in
    let stands = c.requires.stands in
    ask_said _ _ _ c.args.frame c.args.time _ _ _ stands
    (λ told held. all_at_rest g.G.LogStore.holds.of g.T.MetaStore.holds.of g.M.StateMachine.holds.of _ _ (g.D.Disk.content disk) _ (g.T.MetaStore.shown engine.meta).value _ stands.ready.1.caught_up
    (λ files. g.met.D.Disk.images_now disk files told)
    (λ files at. g.met.G.LogStore.lies.rests_hold held.0 engine.log (g.D.Disk.content disk) files stands.ready.1.log (stands.rests told).log at)
    (λ files at. g.met.T.MetaStore.lies.rests_hold held.1 engine.meta (g.D.Disk.content disk) files stands.ready.1.meta (stands.rests told).meta at)
    (λ files at. rest_hold g.met.M.StateMachine.lies held.2 engine.state (g.M.StateMachine.map engine.state) (g.D.Disk.content disk) files stands.ready.1.state (stands.rests told).state at))
    _ _ (c.in_ok-command.ensures.asked (term_of (g.T.MetaStore.shown engine.meta).value) c.args.time ∙ ap (outcome_of _ c.args.time) c.in-Say.is)

-- the command was refused
pub returns-in_err-succeeded-in-Commit-clause-makes : goal.returns-in_err-succeeded-in-Commit-clause-makes
returns-in_err-succeeded-in-Commit-clause-makes g c =
    ask_refused _ _ _ c.args.frame c.args.time _ _ _ (c.in_ok-command.ensures.asked (term_of (g.T.MetaStore.shown c.args.engine.now.meta).value) c.args.time ∙ ap (outcome_of _ c.args.time) c.in-Commit.is) _
    (subst (λ asked. asked_rise asked ≤ ask_rise c.args.frame) c.in-Commit.is c.in_ok-command.ensures.rise) _ _ _
    c.in_err-succeeded-in-Commit.field-0.0 _ c.from_residual-in_err-succeeded-in-Commit.ensures.1 (λ joined. joined) c.in_err-succeeded-in-Commit.ensures.makes

pub returns-in_ok-succeeded-in-Commit-clause-makes : goal.returns-in_ok-succeeded-in-Commit-clause-makes
returns-in_ok-succeeded-in-Commit-clause-makes g c =
    ask_made _ _ _ c.args.frame c.args.time _ _ _ (c.in_ok-command.ensures.asked (term_of (g.T.MetaStore.shown c.args.engine.now.meta).value) c.args.time ∙ ap (outcome_of _ c.args.time) c.in-Commit.is) _
    (subst (λ asked. asked_rise asked ≤ ask_rise c.args.frame) c.in-Commit.is c.in_ok-command.ensures.rise) _ _ _
    _ _ (ap running_seen c.commit_and_trim.ensures.running) c.in_ok-succeeded-in-Commit.ensures.ready c.in_ok-succeeded-in-Commit.ensures.makes

-- memory was wanting for what those who watch would be told
pub returns-in_err-telling-in-Commit-clause-makes : goal.returns-in_err-telling-in-Commit-clause-makes
returns-in_err-telling-in-Commit-clause-makes g c =
    let engine = c.args.engine.now in
    let disk = c.args.disk.now in
    let stands = c.requires.stands in
    ask_wanted _ _ _ c.args.frame c.args.time _ _ _ stands
    (λ told held. all_at_rest g.G.LogStore.holds.of g.T.MetaStore.holds.of g.M.StateMachine.holds.of _ _ (g.D.Disk.content disk) _ (g.T.MetaStore.shown engine.meta).value _ stands.ready.1.caught_up
    (λ files. g.met.D.Disk.images_now disk files told)
    (λ files at. g.met.G.LogStore.lies.rests_hold held.0 engine.log (g.D.Disk.content disk) files stands.ready.1.log (stands.rests told).log at)
    (λ files at. g.met.T.MetaStore.lies.rests_hold held.1 engine.meta (g.D.Disk.content disk) files stands.ready.1.meta (stands.rests told).meta at)
    (λ files at. rest_hold g.met.M.StateMachine.lies held.2 engine.state (g.M.StateMachine.map engine.state) (g.D.Disk.content disk) files stands.ready.1.state (stands.rests told).state at))
    c.in_err-telling-in-Commit.field-0.0 _ c.from_residual-in_err-telling-in-Commit.ensures.1 c.in_err-telling-in-Commit.ensures.refused

-- a watcher was registered or refused
pub returns-in_ok-reply-in-Watch-clause-makes : goal.returns-in_ok-reply-in-Watch-clause-makes
returns-in_ok-reply-in-Watch-clause-makes g c =
    let engine = c.args.engine.now in
    let disk = c.args.disk.now in
    let stands = c.requires.stands in
    let kv = kv_of (g.T.MetaStore.shown engine.meta).value (g.M.StateMachine.map engine.state) engine.running in
    ask_stays _ _ _ c.args.frame c.args.time _ _ _ stands
    (λ told held. all_at_rest g.G.LogStore.holds.of g.T.MetaStore.holds.of g.M.StateMachine.holds.of _ _ (g.D.Disk.content disk) _ (g.T.MetaStore.shown engine.meta).value _ stands.ready.1.caught_up
    (λ files. g.met.D.Disk.images_now disk files told)
    (λ files at. g.met.G.LogStore.lies.rests_hold held.0 engine.log (g.D.Disk.content disk) files stands.ready.1.log (stands.rests told).log at)
    (λ files at. g.met.T.MetaStore.lies.rests_hold held.1 engine.meta (g.D.Disk.content disk) files stands.ready.1.meta (stands.rests told).meta at)
    (λ files at. rest_hold g.met.M.StateMachine.lies held.2 engine.state (g.M.StateMachine.map engine.state) (g.D.Disk.content disk) files stands.ready.1.state (stands.rests told).state at))
    _ _ _ (c.in_ok-command.ensures.asked kv.durable.term c.args.time ∙ ap (outcome_of kv c.args.time) c.in-Watch.is ∙ c.in_ok-reply-in-Watch.ensures.watched kv.durable)
    refl refl refl refl refl refl
    (subst (λ (r : Run). (engine.failed ≡ false) × IsReady (g.G.LogStore.shown engine.log).ready (g.T.MetaStore.shown engine.meta).ready (g.M.StateMachine.shown engine.state).ready
    (g.G.LogStore.shown engine.log).value (g.M.StateMachine.map engine.state) (g.K.Core.view engine.core).role (g.M.StateMachine.settings engine.state) r) (sym c.register.ensures.aside)
    (stands.ready.0, ready_aside _ _ _ _ _ _ _ engine.running (record engine.running { registry = c.register.new.run.registry }) refl refl stands.ready.1))
    stands.rests

-- and memory was wanting
pub returns-in_err-reply-in-Watch-clause-makes : goal.returns-in_err-reply-in-Watch-clause-makes
returns-in_err-reply-in-Watch-clause-makes g c =
    let engine = c.args.engine.now in
    let disk = c.args.disk.now in
    let stands = c.requires.stands in
    ask_near _ _ _ c.args.frame c.args.time _ _ _ stands
    (λ told held. all_at_rest g.G.LogStore.holds.of g.T.MetaStore.holds.of g.M.StateMachine.holds.of _ _ (g.D.Disk.content disk) _ (g.T.MetaStore.shown engine.meta).value _ stands.ready.1.caught_up
    (λ files. g.met.D.Disk.images_now disk files told)
    (λ files at. g.met.G.LogStore.lies.rests_hold held.0 engine.log (g.D.Disk.content disk) files stands.ready.1.log (stands.rests told).log at)
    (λ files at. g.met.T.MetaStore.lies.rests_hold held.1 engine.meta (g.D.Disk.content disk) files stands.ready.1.meta (stands.rests told).meta at)
    (λ files at. rest_hold g.met.M.StateMachine.lies held.2 engine.state (g.M.StateMachine.map engine.state) (g.D.Disk.content disk) files stands.ready.1.state (stands.rests told).state at))
    _ (ap (kv_of (g.T.MetaStore.shown engine.meta).value (g.M.StateMachine.map engine.state)) c.in_err-reply-in-Watch.ensures.refused.1) (ap (λ (r : Run). r.registry) c.in_err-reply-in-Watch.ensures.refused.1) refl refl refl (λ short. short)
    (subst (λ (r : Run). (engine.failed ≡ false) × IsReady (g.G.LogStore.shown engine.log).ready (g.T.MetaStore.shown engine.meta).ready (g.M.StateMachine.shown engine.state).ready
    (g.G.LogStore.shown engine.log).value (g.M.StateMachine.map engine.state) (g.K.Core.view engine.core).role (g.M.StateMachine.settings engine.state) r) (sym c.in_err-reply-in-Watch.ensures.refused.1))
    (λ told rests. rests)
    c.in_err-reply-in-Watch.field-0.0 _ c.from_residual-in_err-reply-in-Watch.ensures.1 c.in_err-reply-in-Watch.ensures.refused.0

-- ---- what is told

pub returns-in-Say-clause-turned : goal.returns-in-Say-clause-turned
returns-in-Say-clause-turned g c =
    let engine = c.args.engine.now in
    let kv = kv_of (g.T.MetaStore.shown engine.meta).value (g.M.StateMachine.map engine.state) engine.running in
    said_turned _ kv engine.running.registry _ _ (c.in_ok-command.ensures.asked kv.durable.term c.args.time ∙ ap (outcome_of kv c.args.time) c.in-Say.is) refl refl c.said-in-Say.ensures

pub returns-in_ok-succeeded-in-Commit-clause-turned : goal.returns-in_ok-succeeded-in-Commit-clause-turned
returns-in_ok-succeeded-in-Commit-clause-turned g c =
    let engine = c.args.engine.now in
    let kv = kv_of (g.T.MetaStore.shown engine.meta).value (g.M.StateMachine.map engine.state) engine.running in
    subst (λ (r : Run). IsTurned (answer kv c.args.time c.args.frame) engine.running.registry r.registry c.told.result) (sym c.commit_and_trim.ensures.running)
    (committed_turned _ kv c.args.time _ engine.running.registry _ _ _ _
    (c.in_ok-command.ensures.asked kv.durable.term c.args.time ∙ ap (outcome_of kv c.args.time) c.in-Commit.is) refl refl
    c.in_ok-succeeded-in-Commit.ensures.succeeded (c.in_ok-telling-in-Commit.ensures.events kv.durable.term) c.in_ok-telling-in-Commit.ensures.change
    c.told.ensures.reply c.told.ensures.events c.told.ensures.change)

pub returns-in_ok-reply-in-Watch-clause-turned : goal.returns-in_ok-reply-in-Watch-clause-turned
returns-in_ok-reply-in-Watch-clause-turned g c =
    let engine = c.args.engine.now in
    let kv = kv_of (g.T.MetaStore.shown engine.meta).value (g.M.StateMachine.map engine.state) engine.running in
    watched_turned _ _ engine.running.registry _ _ _
    (c.in_ok-command.ensures.asked kv.durable.term c.args.time ∙ ap (outcome_of kv c.args.time) c.in-Watch.is ∙ c.in_ok-reply-in-Watch.ensures.watched kv.durable)
    refl refl c.in_ok-reply-in-Watch.ensures.grown c.said.ensures
