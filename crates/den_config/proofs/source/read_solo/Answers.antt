use Rattle.std.proofs.Common.{◌≡◌, IsTrue, sym, ◌∙◌, ap}
use Rattle.std.specs.Prelude.{Ok}
use Rattle.std.proofs.lemmas.Result.{err_from_is_err_and}
use Rattle.den_disk.specs.Goes.{Rose}
use Rattle.den_config.specs.Rows.{values_of}
use Rattle.den_config.proofs.Sourced.{solo_refusal, solo_given, solo_refused}
use Rattle.den_config.proofs.source.read_solo.Goals as goal

pub returns-in_err-read_source-clause-refused : goal.returns-in_err-read_source-clause-refused
returns-in_err-read_source-clause-refused g c =
    let S = g.S.Source in
    let p = err_from_is_err_and c.from_residual.result c.from_residual.ensures.1 in
    rw (p.1, p.2) (solo_refusal (Rose (S.faults c.args.conf.now) (S.faults c.read_source.new.conf)) (IsTrue (S.tells c.args.conf.now)) (S.left c.args.conf.now) c.in_err-read_source.field-0.0 c.in_err-read_source.ensures.refused)

pub returns-in-Ok-clause-given : goal.returns-in-Ok-clause-given
returns-in-Ok-clause-given g c = λ told.
    solo_given _ (values_of c.in_ok-read_source.field-0) (c.in_ok-read_source.ensures.given told) (sym c.in-Ok.ensures.ok)
    ∙ ap (λ n. Ok (values_of n)) (sym c.in-Ok.ensures.config)

pub returns-in-Err-clause-refused : goal.returns-in-Err-clause-refused
returns-in-Err-clause-refused g c =
    rw c.in-Err.ensures.refused (λ told. solo_refused _ (values_of c.in_ok-read_source.field-0) (c.in_ok-read_source.ensures.given told) (sym c.in-Err.ensures.ok))
