use Rattle.std.proofs.Common.{◌≡◌}
use Rattle.den_drive.specs.Generator.{number_at, requests_input}
use Rattle.den_drive.proofs.generate.drive_input.Given as goal

-- the frames so far, and the number of the last of them
abbrev pub invariant-loop-number : goal.invariant-loop-number
invariant-loop-number l = record { made : l.out.items ≡ requests_input l.number; at : l.x ≡ number_at l.number }
