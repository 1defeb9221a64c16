use Rattle.std.proofs.Common.{Some, ◌∙◌, sym, ap}
use Rattle.den_model.specs.Reading.{hard_state_in}
use Rattle.den_store.specs.Folds.{state_read, state_unread}
use Rattle.den_store.proofs.last_state.LastStateFolded.take.Goals as goal

pub returns-in_default-clause-taken : goal.returns-in_default-clause-taken
unfolding hard_state_in
returns-in_default-clause-taken c = state_unread c.args.self.now.last c.args.payload.now (sym c.in_ok-state.ensures.is ∙ c.in_default.is)

pub returns-clause-taken : goal.returns-clause-taken
unfolding hard_state_in
returns-clause-taken c = state_read c.args.self.now.last c.args.payload.now c.in-Some.state (sym c.in_ok-state.ensures.is ∙ c.in-Some.is) ∙ ap (λ s. Some s) (sym c.in_ok-settle.ensures.settled)
