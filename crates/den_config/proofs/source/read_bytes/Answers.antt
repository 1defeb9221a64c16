use Rattle.std.proofs.Common.{◌≡◌, ◌∙◌, ap, sym, subst}
use Rattle.std.specs.Prelude.{IfOk, IfErr, Ok}
use Rattle.std.specs.Str.{IsUtf8}
use Rattle.std.proofs.lemmas.Result.{IfOk-weaker, IfErr-weaker}
use Rattle.den_config.specs.Refusals.{IsRefusal}
use Rattle.den_config.specs.Rows.{values_of, configuration}
use Rattle.den_config.specs.Sources.{configuration_in}
use Rattle.den_config.proofs.Sourced.{as_text, no_text}
use Rattle.den_config.proofs.source.read_bytes.Goals as goal

pub returns-in-Ok-clause-given : goal.returns-in-Ok-clause-given
returns-in-Ok-clause-given c =
    IfOk-weaker c.read.result (λ v. configuration c.in-Ok.text.now ≡ Ok (values_of v)) (λ v. configuration_in c.args.bytes.now ≡ Ok (values_of v))
    (λ v h. as_text c.args.bytes.now c.in-Ok.ensures.cases.1 ∙ ap configuration (sym c.in-Ok.ensures.cases.0) ∙ h) c.read.ensures.given

pub returns-in-Ok-clause-refused : goal.returns-in-Ok-clause-refused
returns-in-Ok-clause-refused c =
    IfErr-weaker c.read.result (IsRefusal (configuration c.in-Ok.text.now)) (IsRefusal (configuration_in c.args.bytes.now))
    (λ e h. subst (λ r. IsRefusal r e) (sym (as_text c.args.bytes.now c.in-Ok.ensures.cases.1 ∙ ap configuration (sym c.in-Ok.ensures.cases.0))) h) c.read.ensures.refused

pub returns-in-Err-clause-refused : goal.returns-in-Err-clause-refused
returns-in-Err-clause-refused c = no_text c.args.bytes.now c.in-Err.ensures.cases.0
