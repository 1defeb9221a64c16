use Rattle.std.proofs.Common.{◌≡◌, ◌<◌, length, None, Some, take, drop}
use Rattle.den_model.specs.MapState.{map_applied_all, map_after_records, results_of}
use Rattle.den_map.specs.Order.{out_of_order}
use Rattle.den_map.specs.Journal.{all_recorded}
use Rattle.den_map.specs.Written.{IsOver}
use Rattle.den_map.proofs.map.Map.journal.Given as goal

-- what the entries so far wrote, recorded and answered
abbrev pub invariant-loop-i : goal.invariant-loop-i
invariant-loop-i l = let so_far = take l.i l.chunk in record {
  order : out_of_order (map_applied_all l.self so_far).mark.index (drop l.i l.chunk) ≡ None;
  over : l.i < length l.chunk → IsOver l.writes l.self (map_applied_all l.self so_far);
  records : l.records.items ≡ all_recorded l.self so_far;
  lawful : map_after_records l.self l.records.items ≡ Some (map_applied_all l.self so_far);
  results : l.results.items ≡ results_of l.self so_far;
}
