use Rattle.std.proofs.Common.{◌≡◌, ◌<◌, ◌≤◌, ◌^◌, ◌∙◌, length, drop, sym, ap, subst, arith}
use Rattle.den_model.specs.Reading.{size_at}
use Rattle.den_drive.specs.Report.{EndsWith}
use Rattle.den_drive.proofs.Last.{last_here, last_behind, long_enough}
use Rattle.den_drive.proofs.tail.last_body.Goals as goal

pub returns-then-behind-size : goal.returns-then-behind-size
returns-then-behind-size c = λ body ends.
    let rest = c.loop-rest.rest.now in
    let small : length rest < 2 ^ 64 = omega arith in
    let reaches : length (drop 8 rest) ≤ size_at rest = omega (arith, ap length c.split_at.ensures.back, c.number_at-size.ensures, c.if-behind-size.true) in
    c.split_at.ensures.back ∙ last_here rest body small (c.loop-rest.invariant body ends) reaches

pub loop-rest-preserved : goal.loop-rest-preserved
loop-rest-preserved c = λ body ends.
    let rest = c.loop-rest.rest.now in
    let small : length rest < 2 ^ 64 = omega arith in
    let more : size_at rest < length (drop 8 rest) = omega (arith, ap length c.split_at.ensures.back, c.number_at-size.ensures, c.if-behind-size.false) in
    let is : c.split_at-in-loop-rest.result.1.now ≡ drop (size_at rest) (drop 8 rest) = c.split_at-in-loop-rest.ensures.back ∙ ap (drop c.number_at-size.result) c.split_at.ensures.back ∙ ap (λ n. drop n (drop 8 rest)) c.number_at-size.ensures in
    subst (λ l. EndsWith l body) (sym is) (last_behind rest body small (c.loop-rest.invariant body ends) more)

pub returns : goal.returns
returns c = λ body ends. absurd (omega (arith, long_enough c.loop-rest.rest.now body (c.loop-rest.invariant body ends), c.loop-rest-test.false))
