use Rattle.std.proofs.Common.{IsTrue, ap, refl, sym, ◌∙◌, subst, arith}
use Rattle.den_disk.specs.Files.{Kind}
use Rattle.den_model.specs.Kv.{Running}
use Rattle.den_core.specs.Parts.{running_seen}
use Rattle.den_core.proofs.Begins.{start_is}
use Rattle.den_core.proofs.Opened.{opened_is, still_on}
use Rattle.den_core.proofs.Refusing.{at_exit, refusal_behind}
use Rattle.den_core.proofs.Spared.{spares_twice}
use Rattle.den_core.proofs.Weighing.{brought_among, heavier_out, purged_among, short_slot}
use Rattle.den_core.proofs.recovery.bring_together.Goals as goal

-- the entries were refused
pub returns-in_err-engine-clause-full : goal.returns-in_err-engine-clause-full
returns-in_err-engine-clause-full g c =
    heavier_out c.from_residual.result c.in_err-engine.field-0.0 _ _ _ _ _ _ _ _ c.from_residual.ensures.1 (λ t. t)
    (λ needed t. short_slot _ _ _ _ needed _
    (brought_among (g.K.Core.view c.args.core).role c.args.most (g.G.LogStore.shown c.args.log).value (g.M.StateMachine.map c.args.state) c.args.entries.now) (omega arith))
    refl (omega arith) c.in_err-engine.ensures.full

-- the purge was begun
pub returns-in_err-trim_opened-clause-snapshot : goal.returns-in_err-trim_opened-clause-snapshot
returns-in_err-trim_opened-clause-snapshot g c = spares_twice _ _ _ _ _ _ _ _ _ c.catch_up.ensures.disk c.trim_opened.ensures.makes.goes_on c.catch_up.ensures.snapshot c.trim_opened.ensures.makes.snapshot

pub returns-in_err-trim_opened-clause-survives : goal.returns-in_err-trim_opened-clause-survives
returns-in_err-trim_opened-clause-survives g c = λ kept told held is.
    let then : IsTrue (g.D.Disk.kind c.catch_up.new.disk).tells = subst (λ (k : Kind). IsTrue k.tells) (sym c.catch_up.ensures.disk.same) told in
    still_on _ _ _ _ _ _ _ _ (c.trim_opened.ensures.makes.goes_on.told then).past (c.catch_up.ensures.survives kept told held is)
    (start_is _ kept _ (running_seen c.args.running) c.in_ok-engine.ensures.opened is c.in_ok-engine.ensures.running) (c.trim_opened.ensures.makes.survives then held)

pub returns-in_err-trim_opened-clause-refused : goal.returns-in_err-trim_opened-clause-refused
returns-in_err-trim_opened-clause-refused g c =
    let on = c.catch_up.ensures.disk in
    at_exit c.from_residual-in_err-trim_opened.result c.in_err-trim_opened.field-0.0 _ c.from_residual-in_err-trim_opened.ensures.1
    (refusal_behind _ _ _ _ c.in_err-trim_opened.field-0.0 (λ rose. omega (arith, rose, on.counts)) (ap (λ (k : Kind). k.limit) on.same) c.in_err-trim_opened.ensures.makes.refused.cause)

pub returns-in_err-trim_opened-clause-full : goal.returns-in_err-trim_opened-clause-full
returns-in_err-trim_opened-clause-full g c =
    let on = c.catch_up.ensures.disk in
    let made = c.in_ok-engine.ensures in
    heavier_out c.from_residual-in_err-trim_opened.result c.in_err-trim_opened.field-0.0 _ _ _ _ _ _ _ _ c.from_residual-in_err-trim_opened.ensures.1
    (λ t. (subst (λ (k : Kind). IsTrue k.tells) (sym on.same) t.0, t.1))
    (λ needed t. short_slot _ _ _ _ needed _
    (purged_among (g.K.Core.view c.args.core).role _ c.args.most _ (g.G.LogStore.shown c.args.log).value _ (g.M.StateMachine.map c.args.state) c.args.entries.now
    (ap (λ (r : Running). r.setting.role) made.running ∙ c.requires.goes_with.role_is) made.most made.log) (omega (arith, made.weight)))
    (ap (λ (k : Kind). k.limit) on.same) (omega (arith, made.weight)) c.in_err-trim_opened.ensures.makes.refused.full

-- it was made
pub returns-clause-snapshot : goal.returns-clause-snapshot
returns-clause-snapshot g c = spares_twice _ _ _ _ _ _ _ _ _ c.catch_up.ensures.disk c.trim_opened.ensures.makes.goes_on c.catch_up.ensures.snapshot c.trim_opened.ensures.makes.snapshot

pub returns-clause-survives : goal.returns-clause-survives
returns-clause-survives g c = λ kept told held is.
    let then : IsTrue (g.D.Disk.kind c.catch_up.new.disk).tells = subst (λ (k : Kind). IsTrue k.tells) (sym c.catch_up.ensures.disk.same) told in
    still_on _ _ _ _ _ _ _ _ (c.trim_opened.ensures.makes.goes_on.told then).past (c.catch_up.ensures.survives kept told held is)
    (start_is _ kept _ (running_seen c.args.running) c.in_ok-engine.ensures.opened is c.in_ok-engine.ensures.running) (c.trim_opened.ensures.makes.survives then held)

pub returns-clause-log : goal.returns-clause-log
returns-clause-log g c =
    let made = c.in_ok-engine.ensures in
    opened_is _ (g.G.LogStore.shown c.args.log).value _ (g.K.Core.view c.args.core).role _ c.args.most _ c.in_ok-trim_opened.ensures.log
    (ap (λ (r : Running). r.setting.role) made.running ∙ c.requires.goes_with.role_is) made.most made.log
