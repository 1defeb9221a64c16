use Rattle.std.proofs.Common.{◌≡◌, length}
use Rattle.den_model.specs.Apply.{kept_expiries}
use Rattle.den_lease.proofs.expiries.Expiries.drop_until.Given as goal

-- what is taken out is none that is to come
abbrev pub invariant-loop : goal.invariant-loop
invariant-loop l = kept_expiries l.moment l.self ≡ kept_expiries l.moment l.fn.self

abbrev pub decreases-loop : goal.decreases-loop
decreases-loop l = length l.self
