-- Numbers among others.
use Rattle.std.specs.Prelude.{ℕ, List, Option, filter, max, nat_le}
use Rattle.std.specs.List.{reduce}

-- the greatest number that is at most the target
abbrev pub nearest : (target : ℕ) → List ℕ → Option ℕ
nearest target ns = reduce max (filter (λ n. nat_le n target) ns)
