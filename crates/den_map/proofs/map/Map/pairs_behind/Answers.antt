use Rattle.std.proofs.Common.{subst}
use Rattle.den_map.specs.Held.{IsSound}
use Rattle.den_map.proofs.map.Map.pairs_behind.Goals as goal

pub returns-clause-sound : goal.returns-clause-sound
returns-clause-sound c = subst IsSound c.self.view_is (record { sorted = c.iter_behind.ensures.sorted; expiries = c.self.invariant })
