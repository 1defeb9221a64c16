use Rattle.std.proofs.Common.{◌≡◌, drop}
use Rattle.den_map.specs.Leases.{asks_lease}
use Rattle.den_map.proofs.chunk.asks_lease.Given as goal

-- the rest from here tells as all do
abbrev pub invariant-loop-entry : goal.invariant-loop-entry
invariant-loop-entry l = asks_lease (drop l.entry-index l.chunk) ≡ asks_lease l.chunk
