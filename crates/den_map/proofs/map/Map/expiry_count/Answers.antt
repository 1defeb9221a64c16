use Rattle.std.proofs.Common.{subst}
use Rattle.den_model.specs.MapState.{MapState}
use Rattle.den_map.specs.Held.{EachIsHeld}
use Rattle.den_map.proofs.map.Map.expiry_count.Goals as goal

pub returns-clause-held : goal.returns-clause-held
returns-clause-held c = subst (λ (m : MapState). EachIsHeld m.expiries m.pairs) c.self.view_is c.self.invariant.held
