use Rattle.std.proofs.Common.{◌≤◌, arith}
use Rattle.den_disk.proofs.spoil.spoil_range.Goals as goal

pub returns-clause-same : goal.returns-clause-same
returns-clause-same c = λ k spared. c.loop-k.invariant.same k (λ low high.
    let start : c.min-start.result ≤ c.min-end.result = omega arith in
    let end = c.loop-k.auto.k-end start in
    let low' : c.args.at ≤ k = omega arith in
    spared low' (omega arith) (omega arith))
