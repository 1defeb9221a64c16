-- Why a reply may not go before its step.
use Rattle.std.proofs.Common.{◌≡◌, ℕ, zero, suc, ◌≤◌, List, [], ◌∷◌, ◌++◌, take, Option, Some, refl, sym, ◌∙◌, ap, arith}
use Rattle.den_core.specs.Early.{EarlyIsRefused}
use Rattle.den_disk.specs.Files.{Files}
use Rattle.den_disk.specs.Goes.{IsPrefix, stamped}
use Rattle.den_model.specs.Crash.{Survives, sent_by}
use Rattle.den_model.specs.Kv.{Durable, Kv}
use Rattle.den_model.specs.Plan.{after, output}
use Rattle.den_model.specs.Step.{Step}
use Rattle.den_core.proofs.Lists.{sent_by_all, bytes_of-stamped, within-stamped}

too_few : (holds : Files → Option Durable) (kv : Kv) (step : Step) (files : Files) (byte : ℕ) (piece : List ℕ) (count : ℕ) → count ≤ 1 → holds files ≡ Some kv.durable → ((after kv (step ∷ [])).durable ≡ kv.durable → ⊥)
    → holds files ≡ Some (after kv (take count (step ∷ []))).durable → IsPrefix (byte ∷ piece) (output kv (take count (step ∷ []))) → ⊥
too_few holds kv step files byte piece zero le old moved stands prefix = let e : byte ∷ piece ++ prefix.rest ≡ [] = prefix.is in cc
too_few holds kv step files byte piece (suc zero) le old moved stands prefix = moved (let e : Some (after kv (step ∷ [])).durable ≡ Some kv.durable = sym stands ∙ old in cc)
too_few holds kv step files byte piece (suc (suc n)) le old moved stands prefix = absurd (omega arith)

early : (holds : Files → Option Durable) (images : ℕ → Files → Type 0) (from to : ℕ) (byte : ℕ) (piece : List ℕ) (kv : Kv) (step : Step) (files : Files)
    → images from files → holds files ≡ Some kv.durable → ((after kv (step ∷ [])).durable ≡ kv.durable → ⊥)
    → Survives holds images from to (stamped (byte ∷ piece) from) kv (step ∷ []) → ⊥
early holds images from to byte piece kv step files at old moved survives =
    let within : from ≤ to = survives.moments.1 in
    let is = survives.each from files (omega arith) within at in
    let sent : sent_by (stamped (byte ∷ piece) from) from ≡ byte ∷ piece =
    sent_by_all from from (stamped (byte ∷ piece) from) from (omega arith) (within-stamped from from (byte ∷ piece) (omega arith)) ∙ bytes_of-stamped (byte ∷ piece) from in
    too_few holds kv step files byte piece is.count is.within old moved is.stands
    (record { rest = is.sent.rest; is = ap (λ l. l ++ is.sent.rest) (sym sent) ∙ is.sent.is })

pub early_is_refused : EarlyIsRefused
early_is_refused holds from to byte piece kv step files old moved survives = early holds (λ t other. other ≡ files) from to byte piece kv step files refl old moved survives
