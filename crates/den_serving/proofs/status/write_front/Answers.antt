use Rattle.std.proofs.Common.{IsTrue, ◌≡◌, ◌++◌, List, ℕ, codes, sym, subst, ap, ◌∙◌}
use Rattle.std.proofs.lemmas.Result.{on_ok_weaker}
use Rattle.den_serving.specs.Status.{file_name, corruption_front, IsWrittenFront}
use Rattle.den_serving.proofs.Lines.{front_stop, front_then, all_then}
use Rattle.den_serving.proofs.status.write_front.Goals as goal

pub returns-in_err-write_on-clause-front : goal.returns-in_err-write_on-clause-front
unfolding corruption_front
returns-in_err-write_on-clause-front g c = λ told. front_stop (codes "den_server: data corruption in ") (file_name c.args.place) _ _ (c.write_on.ensures.front told)

pub returns-clause-all : goal.returns-clause-all
unfolding corruption_front
returns-clause-all g c = on_ok_weaker c.write_on-2.result
    (λ second told.
    let told1 = subst IsTrue (sym c.write_on.ensures.errs.same) told in
    let E = g.E.Sink in
    let name : c.as_bytes.result.now ≡ file_name c.args.place = c.as_bytes.ensures.value ∙ c.file_name.ensures.name in
    all_then (codes "den_server: data corruption in ") (file_name c.args.place) (E.written c.args.errs.now) (E.written c.write_on.new.errs) (E.written c.write_on-2.new.errs)
    (c.in_ok-write_on.ensures.all told) (second told1 ∙ ap (λ n. E.written c.write_on.new.errs ++ n) name))
    c.write_on-2.ensures.all

pub returns-clause-front : goal.returns-clause-front
unfolding corruption_front
returns-clause-front g c = λ told.
    let told1 = subst IsTrue (sym c.write_on.ensures.errs.same) told in
    let E = g.E.Sink in
    let name : c.as_bytes.result.now ≡ file_name c.args.place = c.as_bytes.ensures.value ∙ c.file_name.ensures.name in
    front_then (codes "den_server: data corruption in ") (file_name c.args.place) (E.written c.args.errs.now) (E.written c.write_on.new.errs) (E.written c.write_on-2.new.errs)
    (c.in_ok-write_on.ensures.all told)
    (subst (λ (l : List ℕ). IsWrittenFront l (E.written c.write_on.new.errs) (E.written c.write_on-2.new.errs)) name (c.write_on-2.ensures.front told1))
