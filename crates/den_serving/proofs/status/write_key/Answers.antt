use Rattle.std.proofs.Common.{IsTrue, ◌≡◌, ◌++◌, List, ℕ, codes, sym, subst, ap, ◌∙◌}
use Rattle.std.proofs.lemmas.Result.{on_ok_weaker}
use Rattle.den_codec.specs.ConfigPlaces.{key}
use Rattle.den_serving.specs.Status.{key_line, IsWrittenFront}
use Rattle.den_serving.proofs.Lines.{front_stop, front_then, all_then}
use Rattle.den_serving.proofs.status.write_key.Goals as goal

pub returns-in_err-write_on-clause-front : goal.returns-in_err-write_on-clause-front
unfolding key_line
returns-in_err-write_on-clause-front g c = λ told. front_stop (codes "den_server: bad configuration at ") (key c.args.place ++ codes "\n") _ _ (c.write_on.ensures.front told)

pub returns-clause-front : goal.returns-clause-front
unfolding key_line
returns-clause-front g c = λ told.
    let E = g.E.Sink in
    let told1 = subst IsTrue (sym c.write_on.ensures.errs.same) told in
    let told2 = subst IsTrue (sym c.write_on-2.ensures.errs.same) told1 in
    let word : c.as_bytes.result.now ≡ key c.args.place = c.as_bytes.ensures.value ∙ c.key.ensures in
    front_then (codes "den_server: bad configuration at ") (key c.args.place ++ codes "\n") (E.written c.args.errs.now) (E.written c.write_on.new.errs) (E.written c.write_on-3.new.errs)
    (c.in_ok-write_on.ensures.all told)
    (front_then (key c.args.place) (codes "\n") (E.written c.write_on.new.errs) (E.written c.write_on-2.new.errs) (E.written c.write_on-3.new.errs)
    (c.in_ok-write_on-2.ensures.all told1 ∙ ap (λ n. E.written c.write_on.new.errs ++ n) word)
    (c.write_on-3.ensures.front told2))

pub returns-in_err-write_on-2-clause-front : goal.returns-in_err-write_on-2-clause-front
unfolding key_line
returns-in_err-write_on-2-clause-front g c = λ told.
    let E = g.E.Sink in
    let told1 = subst IsTrue (sym c.write_on.ensures.errs.same) told in
    let word : c.as_bytes.result.now ≡ key c.args.place = c.as_bytes.ensures.value ∙ c.key.ensures in
    front_then (codes "den_server: bad configuration at ") (key c.args.place ++ codes "\n") (E.written c.args.errs.now) (E.written c.write_on.new.errs) (E.written c.write_on-2.new.errs)
    (c.in_ok-write_on.ensures.all told)
    (front_stop (key c.args.place) (codes "\n") (E.written c.write_on.new.errs) (E.written c.write_on-2.new.errs)
    (subst (λ (l : List ℕ). IsWrittenFront l (E.written c.write_on.new.errs) (E.written c.write_on-2.new.errs)) word (c.write_on-2.ensures.front told1)))

pub returns-clause-all : goal.returns-clause-all
unfolding key_line
returns-clause-all g c = on_ok_weaker c.write_on-3.result
    (λ third told.
    let E = g.E.Sink in
    let told1 = subst IsTrue (sym c.write_on.ensures.errs.same) told in
    let told2 = subst IsTrue (sym c.write_on-2.ensures.errs.same) told1 in
    let word : c.as_bytes.result.now ≡ key c.args.place = c.as_bytes.ensures.value ∙ c.key.ensures in
    all_then (codes "den_server: bad configuration at ") (key c.args.place ++ codes "\n") (E.written c.args.errs.now) (E.written c.write_on.new.errs) (E.written c.write_on-3.new.errs)
    (c.in_ok-write_on.ensures.all told)
    (all_then (key c.args.place) (codes "\n") (E.written c.write_on.new.errs) (E.written c.write_on-2.new.errs) (E.written c.write_on-3.new.errs)
    (c.in_ok-write_on-2.ensures.all told1 ∙ ap (λ n. E.written c.write_on.new.errs ++ n) word) (third told2)))
    c.write_on-3.ensures.all
