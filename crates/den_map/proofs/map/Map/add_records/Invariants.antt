use Rattle.std.proofs.Common.{◌≡◌, drop}
use Rattle.den_model.specs.MapState.{map_after_records}
use Rattle.den_map.proofs.map.Map.add_records.Given as goal

-- what the rest gives from here is what all give from the start
abbrev pub invariant-loop-journaled : goal.invariant-loop-journaled
invariant-loop-journaled l = map_after_records l.self (drop l.journaled-index l.records) ≡ map_after_records l.fn.self l.records
