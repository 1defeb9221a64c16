-- Failures of peers.
use Rattle.std.specs.Prelude.{ℕ, ◌+◌, ◌-◌, ◌^◌, ◌==◌, min, Bool, Option, Some, None, unwrap_or, if◌then◌else◌}
use Rattle.den_member.specs.Numbered.{Numbered, at, set, unset}

-- how many failures make a signal, and the count of each peer that failed since its last success
pub record Health : Type 0 where
  pub threshold : ℕ
  pub failures : Numbered ℕ

-- the count of a peer with one failure more, up to the last number
abbrev pub next_count : Health → ℕ → ℕ
next_count h id = min (unwrap_or (at h.failures id) 0 + 1) (2 ^ 32 - 1)

-- whether that failure makes a signal
abbrev pub is_signal : Health → ℕ → Bool
is_signal h id = next_count h id == h.threshold

abbrev pub signal_of : Health → ℕ → Option ℕ
signal_of h id = if is_signal h id then Some id else None

-- a failure of a peer, whose count begins anew at a signal
abbrev pub failed : Health → ℕ → Health
failed h id = record h { failures = set h.failures id (if is_signal h id then 0 else next_count h id) }

abbrev pub succeeded : Health → ℕ → Health
succeeded h id = record h { failures = unset h.failures id }
