use Rattle.std.proofs.Common.{◌≡◌, ◌+◌, drop}
use Rattle.den_model.specs.Image.{gapless_from}
use Rattle.den_core.proofs.recovery.run_behind.Given as goal

-- the rest decides
abbrev pub invariant-loop-entry : goal.invariant-loop-entry
invariant-loop-entry l = gapless_from (l.last + 1) (drop l.entry-index l.entries) ≡ gapless_from (l.index + 1) l.entries
