use Rattle.std.proofs.Common.{◌≡◌, drop}
use Rattle.den_map.specs.Order.{out_of_order}
use Rattle.den_map.proofs.chunk.out_of_order.Given as goal

-- the rest from here tells as all do
abbrev pub invariant-loop-entry : goal.invariant-loop-entry
invariant-loop-entry l = out_of_order l.last (drop l.entry-index l.chunk) ≡ out_of_order l.mark l.chunk
