-- The call of a caller whose history nobody else adds to.
use Rattle.std.proofs.Common.{◌≡◌, ℕ, List, [], ◌∷◌, ◌++◌, Result, refl, sym, ap, ◌∙◌, subst}
use Rattle.std.proofs.lemmas.List.{append-nil}
use Rattle.den_desk.specs.declared.history.Answered.{Answered}
use Rattle.den_desk.specs.declared.history.Call.{Call}
use Rattle.den_desk.specs.declared.history.CallError.{CallError}
use Rattle.den_desk.specs.declared.history.FailKind.{FailKind}
use Rattle.den_desk.specs.declared.history.Finished.{Finished}
use Rattle.den_desk.specs.History.{Adds, Tells, Turned, finished}
use Rattle.den_client.specs.Calling.{Called, HasEntry, IsRead, Readings, View, end_in}

has_entry : (old new : View) (moment : ℕ) (call : Call) (Fails : FailKind → Type 0) (told : Result Answered CallError)
    → Adds old.seen new.seen (end_in old.start old.seen) old.number moment call Fails told → HasEntry old new moment call told
has_entry old new moment call Fails told added = record {
  between = [];
  outcome = added.outcome;
  entry = added.entry ∙ ap (λ (l : List Finished). l ++ finished old.number moment call added.outcome ∷ []) (sym (append-nil old.seen));
  others = refl;
  tells = subst (λ (l : List Finished). Tells l (end_in old.start l) call added.outcome told) (sym (append-nil old.seen)) added.told;
}

pub called_alone : (old new : View) (before after : Readings) (moment : ℕ) (call : Call) (Fails : FailKind → Type 0) (told : Result Answered CallError)
    → IsRead before after moment → new.number ≡ old.number → new.start ≡ old.start
    → Turned old.start old.seen new.seen old.number moment call Fails told → Called old new before after call told
called_alone old new before after moment call Fails told read number start turned = record {
  moment = moment;
  read = read;
  number = number;
  start = start;
  untouched = turned.untouched;
  added = λ is. has_entry old new moment call Fails told (turned.added is);
}
