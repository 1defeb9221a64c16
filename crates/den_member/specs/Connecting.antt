-- Connections in memory.
use Rattle.std.specs.Prelude.{◌≡◌, ℕ, ◌+◌, ◌-◌, ◌^◌, ◌==◌, min, Bool, Result, Ok, Err, if◌then◌else◌}
use Rattle.std.specs.List.{list_any}
use Rattle.den_member.specs.declared.connector.ConnectFault.{ConnectFault}
use Rattle.den_member.specs.declared.connector.ListConnector.{ListConnector}

-- the number that follows, up to the last one
abbrev pub following_number : ℕ → ℕ
following_number n = min (n + 1) (2 ^ 64 - 1)

-- whether the next call of a connector fails
abbrev pub fails_next : ListConnector → Bool
fails_next c = list_any (λ k. k == following_number c.calls) c.fails.items

-- A call has the next number, which it answers or fails at.
pub record IsNumberedCall (old : ListConnector) (result : Result ℕ ConnectFault) (new : ListConnector) : Type 0 where
  pub answer : result ≡ (if fails_next old then Err (record {}) else Ok (following_number old.calls))
  pub after : new ≡ record old { calls = following_number old.calls; faults = (if fails_next old then following_number old.faults else old.faults) }
