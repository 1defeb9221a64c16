use Rattle.std.proofs.Common.{◌≡◌, length}
use Rattle.den_map.specs.Cleanup.{cleaned_map}
use Rattle.den_map.specs.Held.{AreExpiriesOf}
use Rattle.den_map.proofs.map.Map.clean.Given as goal

-- what is left makes the cleaned map that all made
abbrev pub invariant-loop-expired : goal.invariant-loop-expired
invariant-loop-expired l = record {
  cleaned : cleaned_map l.moment (record { pairs = l.self-inside.pairs; expiries = l.self-inside.expiries; mark = l.self-inside.mark }) ≡ cleaned_map l.moment l.fn.self;
  held : AreExpiriesOf l.self-inside.pairs l.self-inside.expiries;
}

abbrev pub decreases-loop-expired : goal.decreases-loop-expired
decreases-loop-expired l = length l.self-inside.expiries
