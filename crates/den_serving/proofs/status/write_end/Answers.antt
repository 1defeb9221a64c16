use Rattle.std.proofs.Common.{IsTrue, ◌≡◌, ◌++◌, ◌<◌, List, ℕ, codes, decimal, length, sym, subst, ap, ◌∙◌}
use Rattle.std.proofs.lemmas.Fmt.{decimal_nonempty}
use Rattle.den_serving.specs.Status.{corruption_end}
use Rattle.den_serving.proofs.Lines.{front_stop, front_then}
use Rattle.den_serving.proofs.status.write_end.Goals as goal

pub write_on-requires-2 : goal.write_on-requires-2
write_on-requires-2 g c =
    let digits : c.as_bytes.result.now ≡ decimal c.args.offset = c.as_bytes.ensures.value ∙ c.format.ensures.text in
    subst (λ (l : List ℕ). 0 < length l) (sym digits) (decimal_nonempty c.args.offset c.ranges.offset.fits)

pub returns-in_err-write_on-clause-front : goal.returns-in_err-write_on-clause-front
unfolding corruption_end
returns-in_err-write_on-clause-front g c = λ told. front_stop (codes " at ") (decimal c.args.offset ++ codes "\n") _ _ (c.write_on.ensures.front told)

pub returns-clause-front : goal.returns-clause-front
unfolding corruption_end
returns-clause-front g c = λ told.
    let E = g.E.Sink in
    let told1 = subst IsTrue (sym c.write_on.ensures.errs.same) told in
    let told2 = subst IsTrue (sym c.write_on-2.ensures.errs.same) told1 in
    let digits : c.as_bytes.result.now ≡ decimal c.args.offset = c.as_bytes.ensures.value ∙ c.format.ensures.text in
    front_then (codes " at ") (decimal c.args.offset ++ codes "\n") (E.written c.args.errs.now) (E.written c.write_on.new.errs) (E.written c.write_on-3.new.errs)
    (c.in_ok-write_on.ensures.all told)
    (front_then (decimal c.args.offset) (codes "\n") (E.written c.write_on.new.errs) (E.written c.write_on-2.new.errs) (E.written c.write_on-3.new.errs)
    (c.in_ok-write_on-2.ensures.all told1 ∙ ap (λ n. E.written c.write_on.new.errs ++ n) digits)
    (c.write_on-3.ensures.front told2))
