-- A history at its end: why its failed entries are there, and that it has none.
use Rattle.std.proofs.Common.{◌≡◌, ℕ, suc, ◌+◌, ◌||◌, Bool, true, false, List, [], ◌∷◌, drop, Option, Some, None, is_some, IfSome, IfErr, Result, Ok, Err, refl, sym, ap, ◌∙◌, subst}
use Rattle.std.specs.List.{All}
use Rattle.std.proofs.lemmas.List.Elements.{All-nil, All-cons}
use Rattle.den_disk.specs.declared.disk.Disk.{Ghosts}
use Rattle.den_journal.specs.Writes.{DiskTells}
use Rattle.den_model.specs.Crash.{Stands}
use Rattle.den_model.specs.Kv.{Kv}
use Rattle.den_core.specs.Making.{CanGoOn, Says, Seen}
use Rattle.den_desk.specs.declared.history.Answer.{Answer}
use Rattle.den_desk.specs.declared.history.Call.{Call}
use Rattle.den_desk.specs.declared.history.End.{End}
use Rattle.den_desk.specs.declared.history.FailKind.{FailKind}
use Rattle.den_desk.specs.declared.history.FailKind.TheVariants.{StorageIoError, DiskFull, OutOfMemory, Stopped}
use Rattle.den_desk.specs.declared.history.Finished.{Finished}
use Rattle.den_desk.specs.History.{Standing, answer_at, asked_bytes, end_at, failure_at, has_failure, outcome_at, outcome_by, replay, standing_after, standing_behind, standing_by, standing_of}
use Rattle.den_desk.specs.Keeping.{HasCauseSince, IsHistoryOf, IsKept, first_standing, has_failed}
use Rattle.den_desk.proofs.Replays.{not_failed, stop_ends}

-- an end stays
stays_ended : (p : ℕ) (s : Standing) (xs : List Finished) (end : End) → s.ended ≡ Some end → (standing_of p s xs).ended ≡ Some end
stays_ended p s [] end is = is
stays_ended p s (x ∷ xs) end is =
    stays_ended (suc p) (standing_behind p s x) xs end (ap (λ (e : Option End). (standing_by (end_at p e x.outcome) s (standing_after p s x.moment x.call)).ended) is)

-- a call that comes to an error is behind an end of that kind
ends_so : (e : Option End) (s behind : Standing) (a : Answer) (kind : FailKind) → outcome_by e a ≡ Err kind → (end : End) × ((standing_by e s behind).ended ≡ Some end) × (end.kind ≡ kind)
ends_so None s behind a kind is = absurd (cc)
ends_so (Some end) s behind a kind is = (end, refl, cc)

-- what is said of each error
each_error : (r : Result Answer FailKind) (P : FailKind → Type 0) → ((kind : FailKind) → r ≡ Err kind → P kind) → IfErr r P
each_error (Ok a) P so = tt
each_error (Err kind) P so = so kind refl

-- of each failed entry of a history that replays is said what is said of its end
causes_of : (P : FailKind → Type 0) (p : ℕ) (s : Standing) (xs : List Finished) → xs ≡ replay p s xs
    → ((end : End) → (standing_of p s xs).ended ≡ Some end → P end.kind) → All (λ (f : Finished). IfErr f.outcome P) xs
causes_of P p s [] is so = All-nil (λ (f : Finished). IfErr f.outcome P)
causes_of P p s (x ∷ xs) is so =
    let own : x.outcome ≡ outcome_at p s x = cc in
    let rest : xs ≡ replay (suc p) (standing_behind p s x) xs = ap (drop 1) is in
    All-cons (λ (f : Finished). IfErr f.outcome P) x xs
    (each_error x.outcome P (λ kind bad.
    let at = ends_so (end_at p s.ended x.outcome) s (standing_after p s x.moment x.call) (answer_at p s x.moment x.call) kind (sym own ∙ bad) in
    subst P at.2 (so at.0 (stays_ended (suc p) (standing_behind p s x) xs at.0 at.1))))
    (causes_of P (suc p) (standing_behind p s x) xs rest so)

-- a call that did not fail leaves a history that did not
goes_on : (p : ℕ) (e : Option End) (s : Standing) (outcome : Result Answer FailKind) (moment : ℕ) (call : Call) → s.ended ≡ e → has_failed e ≡ false → is_some (failure_at 0 outcome) ≡ false
    → has_failed (standing_by (end_at p e outcome) s (standing_after p s moment call)).ended ≡ false
goes_on p (Some end) s outcome moment call is fine none = fine
goes_on p None s (Ok a) moment call is fine none = ap has_failed (stop_ends p s moment call is) ∙ not_failed p call
goes_on p None s (Err Stopped) moment call is fine none = ap has_failed (stop_ends p s moment call is) ∙ not_failed p call
goes_on p None s (Err StorageIoError) moment call is fine none = cc
goes_on p None s (Err (DiskFull needed limit)) moment call is fine none = cc
goes_on p None s (Err OutOfMemory) moment call is fine none = cc

none_of : (a b : Bool) → (a || b) ≡ false → (a ≡ false) × (b ≡ false)
none_of false b is = (refl, is)
none_of true b is = cc

none_failed : (p : ℕ) (s : Standing) (xs : List Finished) → has_failed s.ended ≡ false → has_failure xs ≡ false → has_failed (standing_of p s xs).ended ≡ false
none_failed p s [] fine none = fine
none_failed p s (x ∷ xs) fine none =
    let both = none_of (is_some (failure_at 0 x.outcome)) (has_failure xs) none in
    none_failed (suc p) (standing_behind p s x) xs (goes_on p s.ended s x.outcome x.moment x.call refl fine both.0) both.1

-- what is said where a history ended
of_end : (ended : Option End) (P : FailKind → Type 0) → IfSome ended (λ end. P end.kind) → (end : End) → ended ≡ Some end → P end.kind
of_end None P is end at = absurd (cc)
of_end (Some e) P is end at = subst (λ (e : Option End). IfSome e (λ end. P end.kind)) at is

module _ {D : Type 0} (disk : Ghosts D) where
  at_end_of : (says : Says) (first now : Seen) (disk_first at : D) (ended : Option End) (history : List Finished) → IsKept disk first now disk_first at ended history
      → (CanGoOn disk now at → DiskTells disk at → says.told → Stands says.holds (disk.images at) (disk.moment at) now.kv.durable)
      → IsHistoryOf disk says first disk_first at history
  at_end_of says first now disk_first at ended history k stands = record {
    replays = k.replays;
    since = k.since;
    stands = λ tells told none.
        let fine : has_failed ended ≡ false = ap has_failed k.ended_is ∙ none_failed 0 (first_standing first) history refl none in
        let here = k.goes_on fine in
        subst (λ (v : Kv). Stands says.holds (disk.images at) (disk.moment at) v.durable) here.kv (stands here.stands tells told);
    causes = causes_of (HasCauseSince disk disk_first at (first.weight + asked_bytes history)) 0 (first_standing first) history k.replays
        (λ end is. of_end ended (HasCauseSince disk disk_first at (first.weight + asked_bytes history)) k.cause end (k.ended_is ∙ is));
  }

  -- what is kept between two calls tells of the history at its end
  pub told_at_end : (says : Says) (first now : Seen) (disk_first at : D) (ended : Option End) (history given : List Finished) → given ≡ history → IsKept disk first now disk_first at ended history
      → (CanGoOn disk now at → DiskTells disk at → says.told → Stands says.holds (disk.images at) (disk.moment at) now.kv.durable)
      → IsHistoryOf disk says first disk_first at given
  told_at_end says first now disk_first at ended history given same k stands =
      subst (λ (l : List Finished). IsHistoryOf disk says first disk_first at l) (sym same) (at_end_of says first now disk_first at ended history k stands)
