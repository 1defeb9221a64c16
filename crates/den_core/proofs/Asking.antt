-- What a part of a request comes to, by the request.
use Rattle.std.proofs.Common.{ℕ, ◌≤◌, Result, Ok, Err, IfOk, arith}
use Rattle.den_codec.specs.declared.error.Error.{Error}
use Rattle.den_core.specs.declared.ask.Asked.{Asked}
use Rattle.den_core.specs.Weights.{asked_rise}

-- what rises at most so much rises no more than that
pub rises_within : (r : Result Asked Error) (few most : ℕ) → few ≤ most → IfOk r (λ asked. asked_rise asked ≤ few) → IfOk r (λ asked. asked_rise asked ≤ most)
rises_within (Ok asked) few most le is = omega (arith, le, is)
rises_within (Err e) few most le is = tt
