-- Why a reply may not go before its step.
use Rattle.std.specs.Prelude.{◌≡◌, ℕ, List, [], ◌∷◌, Option, Some}
use Rattle.den_disk.specs.Files.{Files}
use Rattle.den_disk.specs.Goes.{stamped}
use Rattle.den_model.specs.Crash.{Survives}
use Rattle.den_model.specs.Kv.{Durable, Kv}
use Rattle.den_model.specs.Plan.{after}
use Rattle.den_model.specs.Step.{Step}

-- A byte sent at the moment of the call's entry, where the one image stands for the old state and the step moves the
-- durable part: the crash clause does not hold.
abbrev pub EarlyIsRefused : Type 0
EarlyIsRefused = (holds : Files → Option Durable) (from to : ℕ) (byte : ℕ) (piece : List ℕ) (kv : Kv) (step : Step) (files : Files)
    → holds files ≡ Some kv.durable → ((after kv (step ∷ [])).durable ≡ kv.durable → ⊥)
    → Survives holds (λ t other. other ≡ files) from to (stamped (byte ∷ piece) from) kv (step ∷ []) → ⊥
