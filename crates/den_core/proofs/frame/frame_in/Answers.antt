use Rattle.std.proofs.Common.{arith, sym, ◌∙◌}
use Rattle.den_core.proofs.Weighing.{read_length}
use Rattle.den_core.proofs.frame.frame_in.Goals as goal

pub returns-in-Some-clause-size : goal.returns-in-Some-clause-size
returns-in-Some-clause-size c = read_length c.args.body.now c.in-Some.request (λ i. let h = c.type_inv.body i in omega (arith, h)) (sym c.in_ok-request.ensures ∙ c.in-Some.is)
