-- A chain of outcomes, step by step.
use Rattle.std.proofs.Common.{◌≡◌}
use Rattle.std.specs.Prelude.{Result, Ok, Err}
use Rattle.den_codec.specs.declared.config_place.ConfigPlace.{ConfigPlace}
use Rattle.den_config.specs.Refusals.{and_then}

pub and_then_ok : {A B : Type 0} (r : Result A ConfigPlace) (step : A → Result B ConfigPlace) (a : A) → r ≡ Ok a → and_then r step ≡ step a
and_then_ok r step a was = rw was

pub and_then_err : {A B : Type 0} (r : Result A ConfigPlace) (step : A → Result B ConfigPlace) (key : ConfigPlace) → r ≡ Err key → and_then r step ≡ Err key
and_then_err r step key was = rw was
