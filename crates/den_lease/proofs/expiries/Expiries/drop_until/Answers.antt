use Rattle.std.proofs.Common.{◌∙◌, ap, sym}
use Rattle.den_model.specs.Apply.{kept_expiries}
use Rattle.den_lease.proofs.Kept.{expiries_without, expiries_kept}
use Rattle.den_lease.proofs.expiries.Expiries.drop_until.Goals as goal

pub loop-preserved-in-Some : goal.loop-preserved-in-Some
loop-preserved-in-Some c = ap (kept_expiries c.args.moment) c.in-Some.ensures.taken ∙ expiries_without c.loop.self c.args.moment c.in-Some.field-0.items c.in-Some.ensures.due ∙ c.loop.invariant

pub returns : goal.returns
returns c = c.in_default.ensures.none.0 ∙ sym (expiries_kept c.loop.self c.args.moment c.in_default.ensures.none.1) ∙ c.loop.invariant
