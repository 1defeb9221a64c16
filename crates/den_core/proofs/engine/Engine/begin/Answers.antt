use Rattle.std.proofs.Common.{IsTrue, arith, ap, refl, sym, ◌∙◌, subst}
use Rattle.den_disk.specs.Files.{Kind}
use Rattle.den_model.specs.Kv.{Running}
use Rattle.den_model.specs.Step.{is_leader}
use Rattle.den_core.proofs.Begins.{begins, first_short, later_short, opened, start_is}
use Rattle.den_core.proofs.GoesOn.{clock_read}
use Rattle.den_core.proofs.Spared.{spares_twice}
use Rattle.den_core.proofs.Weighing.{heavier_out}
use Rattle.den_core.proofs.engine.Engine.begin.Goals as goal

pub returns-in_err-engine-clause-full : goal.returns-in_err-engine-clause-full
returns-in_err-engine-clause-full g c =
    heavier_out c.from_residual.result c.in_err-engine.field-0.0 _ _ _ _ _ _ _ _ c.from_residual.ensures.1 (λ t. t)
    (λ needed t short. first_short _ _ _ _ _ _ _ _ _ needed _ (omega arith) short) refl (omega arith) c.in_err-engine.ensures.full

pub returns-in_err-open_at-clause-snapshot : goal.returns-in_err-open_at-clause-snapshot
returns-in_err-open_at-clause-snapshot g c = spares_twice _ _ _ _ _ _ _ _ _ c.recover.ensures.disk c.open_at.ensures.makes.goes_on c.recover.ensures.snapshot c.open_at.ensures.makes.snapshot

pub returns-in_err-open_at-clause-clock : goal.returns-in_err-open_at-clause-clock
returns-in_err-open_at-clause-clock g c = clock_read _ _ _ _ _ c.now.ensures.told c.now.ensures.tells

-- the opening's steps were begun
pub returns-in_err-open_at-clause-survives : goal.returns-in_err-open_at-clause-survives
returns-in_err-open_at-clause-survives g c = λ kept told clock_told says is.
    let on = c.recover.ensures.disk in
    let then : IsTrue (g.D.Disk.kind c.recover.new.disk).tells = subst (λ (k : Kind). IsTrue k.tells) (sym on.same) told in
    let more = c.open_at.ensures.makes.goes_on.told then in
    begins _ _ _ _ _ _ kept _ _ _ _ _ _ (on.told told).later more.later more.past (c.recover.ensures.survives kept told says is)
    (start_is _ kept _ _ c.in_ok-engine.ensures.opened is c.in_ok-engine.ensures.running) (c.now.ensures.told clock_told) c.max-time.ensures
    (c.open_at.ensures.makes.survives then says)

pub returns-in_err-open_at-clause-full : goal.returns-in_err-open_at-clause-full
returns-in_err-open_at-clause-full g c =
    heavier_out c.from_residual-in_err-open_at.result c.in_err-open_at.field-0.0 _ _ _ _ _ _ _ _ c.from_residual-in_err-open_at.ensures.1
    (λ t. (subst (λ (k : Kind). IsTrue k.tells) (sym c.recover.ensures.disk.same) t.0, t.1))
    (λ needed t short. later_short _ _ _ _ _ _ _ _ _ _ _ _ _ needed _ _ _ c.in_ok-engine.ensures.opened c.in_ok-engine.ensures.running c.in_ok-engine.ensures.purged c.now.ensures.told c.max-time.ensures
    c.in_ok-engine.ensures.most (omega (arith, c.in_ok-engine.ensures.weight)) short)
    (ap (λ (k : Kind). k.limit) c.recover.ensures.disk.same) (omega (arith, c.in_ok-engine.ensures.weight)) c.in_err-open_at.ensures.makes.refused.full

pub returns-clause-snapshot : goal.returns-clause-snapshot
returns-clause-snapshot g c = spares_twice _ _ _ _ _ _ _ _ _ c.recover.ensures.disk c.open_at.ensures.makes.goes_on c.recover.ensures.snapshot c.open_at.ensures.makes.snapshot

pub returns-clause-clock : goal.returns-clause-clock
returns-clause-clock g c = clock_read _ _ _ _ _ c.now.ensures.told c.now.ensures.tells

pub returns-clause-survives : goal.returns-clause-survives
returns-clause-survives g c = λ kept told clock_told says is.
    let on = c.recover.ensures.disk in
    let then : IsTrue (g.D.Disk.kind c.recover.new.disk).tells = subst (λ (k : Kind). IsTrue k.tells) (sym on.same) told in
    let more = c.open_at.ensures.makes.goes_on.told then in
    begins _ _ _ _ _ _ kept _ _ _ _ _ _ (on.told told).later more.later more.past (c.recover.ensures.survives kept told says is)
    (start_is _ kept _ _ c.in_ok-engine.ensures.opened is c.in_ok-engine.ensures.running) (c.now.ensures.told clock_told) c.max-time.ensures
    (c.open_at.ensures.makes.survives then says)

pub returns-clause-opened : goal.returns-clause-opened
returns-clause-opened g c =
    opened g.D.Disk _ _ _ _ _ _ _ _ _ _ _ _ _ _ _ _ c.recover.ensures.disk c.in_ok-engine.ensures.opened c.in_ok-engine.ensures.running c.in_ok-engine.ensures.purged
    c.in_ok-engine.ensures.most (omega (arith, c.in_ok-engine.ensures.weight)) c.now.ensures.told c.max-time.ensures c.open_at.ensures.makes.same_most
    c.in_ok-open_at.ensures.makes.done c.in_ok-open_at.ensures.short
    (λ follows. c.in_ok-engine.ensures.short (sym (ap (λ (r : Running). is_leader r.setting.role) c.in_ok-engine.ensures.running) ∙ follows))
    c.in_ok-open_at.ensures.short_kept c.in_ok-open_at.ensures.state_short
    c.in_ok-engine.ensures.waits c.in_ok-open_at.ensures.waits

pub returns-clause-started : goal.returns-clause-started
returns-clause-started g c = c.in_ok-open_at.ensures.makes.done.ready.1.runs
