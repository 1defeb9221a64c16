-- The last of some hard states.
use Rattle.std.specs.Prelude.{ℕ, List, Option, Some, None}
use Rattle.den_model.specs.declared.log_id.HardState.{HardState}
use Rattle.den_model.specs.Reading.{hard_state_in}

-- the last hard state after one more payload; none where that is no word
unfoldable pub state_after : Option HardState → List ℕ → Option (Option HardState)
state_after last payload = elim (hard_state_in payload) [ None ↦ None | Some h ↦ Some (Some h) ]
