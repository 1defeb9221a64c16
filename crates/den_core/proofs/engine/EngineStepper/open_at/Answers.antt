use Rattle.std.proofs.Common.{◌≡◌, ⊎_elim, true, false, [], ◌∷◌, inl, inr, refl, sym, ◌∙◌, subst, arith}
use Rattle.den_model.specs.Plan.{first_cleanup}
use Rattle.den_model.specs.Step.{Noop, Raise}
use Rattle.den_core.specs.Parts.{kv_of}
use Rattle.den_core.specs.Refusals.{HasCleaned}
use Rattle.den_core.proofs.Turns.{fails_when, opening_is, opening_leads, opening_rest, opening_term}
use Rattle.den_core.proofs.Twice.{both_twice, more_room, refused_first, same_steps}
use Rattle.den_core.proofs.engine.EngineStepper.open_at.Goals as goal

-- of one that does not lead
pub returns-then-not-leads-clause-makes : goal.returns-then-not-leads-clause-makes
returns-then-not-leads-clause-makes g c =
    let old = c.args.self.now in
    let kv = kv_of (g.T.MetaStore.shown old.meta).value (g.M.StateMachine.map old.state) old.running in
    let rest = opening_rest kv c.args.time (sym c.leads.ensures ∙ c.if-not-leads.true) in
    same_steps _ _ _ _ _ _ (first_cleanup kv c.args.time) _ _ _ _ (sym rest)
    (more_room _ _ _ _ _ _ (first_cleanup kv c.args.time) _ _ _ _ _ (omega arith)
    (⊎_elim (λ cleaned. inr (subst (HasCleaned kv) (sym rest) cleaned)) (λ never. let bad : false ≡ true = never in cc)) c.clean_first.ensures.makes)

-- the term was refused, and nothing was cleaned
pub returns-in_err-begin_term-clause-makes : goal.returns-in_err-begin_term-clause-makes
returns-in_err-begin_term-clause-makes g c =
    let old = c.args.self.now in
    let kv = kv_of (g.T.MetaStore.shown old.meta).value (g.M.StateMachine.map old.state) old.running in
    same_steps _ _ _ _ _ _ _ _ _ _ _ (sym (opening_leads kv c.args.time (sym c.leads.ensures ∙ c.if-not-leads.false)))
    (refused_first _ _ _ _ _ _ (Raise ∷ Noop c.args.time ∷ []) (first_cleanup kv c.args.time) _ _ _ _ c.in_err-begin_term.field-0.0 _ c.from_residual.ensures.1 (omega arith) inl c.in_err-begin_term.ensures.makes)

-- a term and a cleanup behind it
pub returns-clause-makes : goal.returns-clause-makes
returns-clause-makes g c =
    let old = c.args.self.now in
    let mid = c.begin_term.new.engine in
    let kv = kv_of (g.T.MetaStore.shown old.meta).value (g.M.StateMachine.map old.state) old.running in
    let between = kv_of (g.T.MetaStore.shown mid.meta).value (g.M.StateMachine.map mid.state) mid.running in
    let makes = c.in_ok-begin_term.ensures.makes in
    same_steps _ _ _ _ _ _ _ _ _ _ _ (opening_is kv between c.args.time (sym c.leads.ensures ∙ c.if-not-leads.false) makes.done.state)
    (both_twice _ _ _ _ _ _ (Raise ∷ Noop c.args.time ∷ []) (first_cleanup between c.args.time) _ _ _ _ _ _ _ makes refl (omega arith) _ _ _
    (fails_when _ _ _ _ _ c.clean_first-2.ensures.failed (λ same. inl (opening_term kv between _ c.args.time makes.done.state same)))
    c.clean_first-2.ensures.makes)
