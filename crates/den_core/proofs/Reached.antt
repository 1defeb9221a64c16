-- The step of a run that was refused, behind those that were made.
use Rattle.std.proofs.Common.{◌≡◌, ℕ, List, [], ◌∷◌, ◌++◌, sym, ◌∙◌, ap, append_assoc}
use Rattle.den_model.specs.Grown.{IsLogAfter}
use Rattle.den_model.specs.Kv.{Kv}
use Rattle.den_model.specs.Log.{Log}
use Rattle.den_model.specs.Plan.{after, output}
use Rattle.den_model.specs.Step.{Step}
use Rattle.den_model.proofs.Grown.{log_twice}
use Rattle.den_model.proofs.Runs.{after_append, output_append}
use Rattle.den_core.specs.Full.{IsBegun, IsReached}

-- of a call alone
pub begun_reached : (first : Kv) (old : Log) (steps : List Step) (kv : Kv) (log : Log) (next : Step) → IsBegun first old steps kv log next → IsReached first old steps [] kv log next
begun_reached first old steps kv log next begun = record {
  made = begun.made;
  rest = begun.rest;
  parts = begun.parts;
  state = begun.state;
  left_is = (begun.left_is.0, sym begun.left_is.1);
}

-- behind steps that were made, whose output was sent
pub reached_behind : (first now : Kv) (old log_now : Log) (steps more all : List Step) (said sent whole : List ℕ) (kv : Kv) (log : Log) (next : Step)
    → now ≡ after first steps → said ≡ output first steps → IsLogAfter old first steps log_now → steps ++ more ≡ all → whole ≡ said ++ sent
    → IsReached now log_now more sent kv log next → IsReached first old all whole kv log next
reached_behind first now old log_now steps more all said sent whole kv log next state bytes logged is_all is_whole reached = record {
  made = steps ++ reached.made;
  rest = reached.rest;
  parts = append_assoc steps reached.made (next ∷ reached.rest) ∙ ap (λ l. steps ++ l) reached.parts ∙ is_all;
  state = reached.state ∙ ap (λ k. after k reached.made) state ∙ sym (after_append first steps reached.made);
  left_is = (
    log_twice old log_now log first now steps reached.made state logged reached.left_is.0,
    is_whole ∙ ap (λ l. l ++ sent) bytes ∙ ap (λ l. output first steps ++ l) reached.left_is.1
        ∙ ap (λ k. output first steps ++ output k reached.made) state ∙ sym (output_append first steps reached.made),
  );
}
