use Rattle.std.proofs.Common.{ℕ, List, length}
use Rattle.den_drive.specs.Report.{EndsWith}
use Rattle.den_drive.proofs.tail.last_body.Given as goal

-- what ends with a frame still does
abbrev pub invariant-loop-rest : goal.invariant-loop-rest
invariant-loop-rest l = (body : List ℕ) → EndsWith l.fn.bytes body → EndsWith l.rest body

abbrev pub decreases-loop-rest : goal.decreases-loop-rest
decreases-loop-rest l = length l.rest
