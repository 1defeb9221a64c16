use Rattle.std.proofs.Common.{◌≡◌, drop}
use Rattle.den_model.specs.MapState.{with_pairs}
use Rattle.den_map.proofs.map.Map.add_pairs.Given as goal

-- what the rest gives from here is what all give from the start
abbrev pub invariant-loop-pair : goal.invariant-loop-pair
invariant-loop-pair l = with_pairs l.self (drop l.pair-index l.pairs) ≡ with_pairs l.fn.self l.pairs
