use Rattle.std.proofs.Common.{◌≡◌, filter_map, take}
use Rattle.den_model.specs.Step.{held_pair}
use Rattle.den_model.specs.MapState.{part_of}
use Rattle.den_core.proofs.ask.pairs_at.Given as goal

-- the pairs of the keys so far
abbrev pub invariant-loop-key : goal.invariant-loop-key
invariant-loop-key g l = l.pairs.items ≡ filter_map (held_pair (part_of (g.M.StateMachine.map l.state) 0)) (take l.key-index l.keys)
