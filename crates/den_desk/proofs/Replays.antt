-- A history that is one entry longer.
use Rattle.std.proofs.Common.{◌≡◌, ℕ, suc, ◌+◌, ◌*◌, ◌≤◌, false, List, [], ◌∷◌, ◌++◌, length, Option, Some, None, IfSome, Result, Ok, Err, true, refl, sym, ap, ◌∙◌, subst, arith}
use Rattle.den_disk.specs.declared.disk.Disk.{Ghosts}
use Rattle.den_journal.specs.Writes.{GoesOn}
use Rattle.den_model.specs.declared.request.Frame.TheVariants.{Good, Bad}
use Rattle.den_core.specs.Making.{Seen}
use Rattle.den_core.proofs.GoesOn.{disk_same, disk_twice}
use Rattle.den_desk.specs.declared.history.Answer.{Answer}
use Rattle.den_desk.specs.declared.history.Answered.{Answered}
use Rattle.den_desk.specs.declared.history.Call.{Call}
use Rattle.den_desk.specs.declared.history.Call.TheVariants.{Serve, Take, Unregister, Look, Stop}
use Rattle.den_desk.specs.declared.history.CallError.{CallError}
use Rattle.den_desk.specs.declared.history.End.{End}
use Rattle.den_desk.specs.declared.history.FailKind.{FailKind}
use Rattle.den_desk.specs.declared.history.FailKind.TheVariants.{StorageIoError, DiskFull, OutOfMemory, Stopped}
use Rattle.den_desk.specs.declared.history.Finished.{Finished}
use Rattle.den_desk.specs.History.{Adds, Standing, Turned, answer_at, asked_bytes, failure_at, finished, has_no_entry, outcome_at, outcome_by, replay, served_size, standing_after, standing_behind, standing_by, standing_of, stop_at}
use Rattle.den_desk.specs.Keeping.{Fails, HasCauseSince, IsKept, StandsAt, call_rise, first_standing, has_failed}

replay-snoc : (p : ℕ) (s : Standing) (xs : List Finished) (f : Finished) (n : ℕ) → n ≡ p + length xs
    → replay p s (xs ++ f ∷ []) ≡ replay p s xs ++ finished f.caller f.moment f.call (outcome_at n (standing_of p s xs) f) ∷ []
replay-snoc p s [] f n is = ap (λ (k : ℕ). finished f.caller f.moment f.call (outcome_at k s f) ∷ []) (let x : p ≡ n = omega arith in x)
replay-snoc p s (x ∷ xs) f n is = ap (λ (l : List Finished). finished x.caller x.moment x.call (outcome_at p s x) ∷ l) (replay-snoc (suc p) (standing_behind p s x) xs f n (omega arith))

standing-snoc : (p : ℕ) (s : Standing) (xs : List Finished) (f : Finished) (n : ℕ) → n ≡ p + length xs
    → standing_of p s (xs ++ f ∷ []) ≡ standing_behind n (standing_of p s xs) f
standing-snoc p s [] f n is = ap (λ (k : ℕ). standing_behind k s f) (let x : p ≡ n = omega arith in x)
standing-snoc p s (x ∷ xs) f n is = standing-snoc (suc p) (standing_behind p s x) xs f n (omega arith)

-- where a call that is answered ends the history
pub stop_ends : (place : ℕ) (s : Standing) (moment : ℕ) (call : Call) → s.ended ≡ None → (standing_after place s moment call).ended ≡ stop_at place call
stop_ends place s moment (Serve frame) none_yet = none_yet
stop_ends place s moment (Take watcher) none_yet = none_yet
stop_ends place s moment (Unregister watcher) none_yet = none_yet
stop_ends place s moment (Look from most) none_yet = none_yet
stop_ends place s moment Stop none_yet = refl

-- one entry more asks for its own
asked-snoc : (xs : List Finished) (f : Finished) → asked_bytes (xs ++ f ∷ []) ≡ asked_bytes xs + (1024 + served_size f.call)
asked-snoc [] f = omega arith
asked-snoc (x ∷ xs) f = omega (arith, asked-snoc xs f)

-- no call makes an engine heavier than eight times what it asks for
rise_least : (call : Call) → call_rise call ≤ 8 * (1024 + served_size call)
rise_least (Serve Bad) = omega arith
rise_least (Serve (Good request)) = omega arith
rise_least (Take watcher) = omega arith
rise_least (Unregister watcher) = omega arith
rise_least (Look from most) = omega arith
rise_least Stop = omega arith

-- where a history ended, one thing gives another
at_end : (ended : Option End) (P Q : FailKind → Type 0) → ((kind : FailKind) → P kind → Q kind) → IfSome ended (λ end. P end.kind) → IfSome ended (λ end. Q end.kind)
at_end None P Q so is = tt
at_end (Some end) P Q so is = so end.kind is

-- a stop is no failure
pub not_failed : (place : ℕ) (call : Call) → has_failed (stop_at place call) ≡ false
not_failed place (Serve frame) = refl
not_failed place (Take watcher) = refl
not_failed place (Unregister watcher) = refl
not_failed place (Look from most) = refl
not_failed place Stop = refl

module _ {D : Type 0} (disk : Ghosts D) where
  -- a call that failed ends the history by it
  fails_here : (told : Type 0) (was : Seen) (old new : D) (moment place : ℕ) (call : Call) (kind : FailKind) → Fails disk told was old new moment call kind
      → failure_at place (Err kind) ≡ Some (record { place = place; kind = kind })
  fails_here told was old new moment place call StorageIoError cause = refl
  fails_here told was old new moment place call (DiskFull needed limit) cause = refl
  fails_here told was old new moment place call OutOfMemory cause = refl
  fails_here told was old new moment place call Stopped cause = absurd cause

  -- and it has failed then
  has_failed_so : (told : Type 0) (was : Seen) (old new : D) (moment place : ℕ) (call : Call) (kind : FailKind) → Fails disk told was old new moment call kind
      → has_failed (Some (record { place = place; kind = kind })) ≡ true
  has_failed_so told was old new moment place call StorageIoError cause = refl
  has_failed_so told was old new moment place call (DiskFull needed limit) cause = refl
  has_failed_so told was old new moment place call OutOfMemory cause = refl
  has_failed_so told was old new moment place call Stopped cause = absurd cause

  -- a cause stays one
  cause_later : (first old new : D) (weight more : ℕ) (kind : FailKind) → GoesOn disk old new → weight ≤ more → HasCauseSince disk first old weight kind → HasCauseSince disk first new more kind
  cause_later first old new weight more StorageIoError went le cause = omega (arith, cause, went.counts)
  cause_later first old new weight more (DiskFull needed limit) went le cause = (cause.0, omega (arith, cause.1, le))
  cause_later first old new weight more OutOfMemory went le cause = tt
  cause_later first old new weight more Stopped went le cause = tt

  -- a call's own cause is one since the first
  cause_since : (told : Type 0) (was : Seen) (first old new : D) (moment weight asked : ℕ) (call : Call) (kind : FailKind) → GoesOn disk first old → was.weight ≤ weight + 8 * asked
      → Fails disk told was old new moment call kind → HasCauseSince disk first new (weight + (asked + (1024 + served_size call))) kind
  cause_since told was first old new moment weight asked call StorageIoError since light cause = omega (arith, cause, since.counts)
  cause_since told was first old new moment weight asked (Serve frame) (DiskFull needed limit) since light cause =
      let same : (disk.kind old).limit ≡ (disk.kind first).limit = ap (λ k. k.limit) since.same in
      (cause.1 ∙ same, omega (arith, cause.2.0, light, rise_least (Serve frame), same))
  cause_since told was first old new moment weight asked (Take watcher) (DiskFull needed limit) since light cause = absurd cause.2
  cause_since told was first old new moment weight asked (Unregister watcher) (DiskFull needed limit) since light cause = absurd cause.2
  cause_since told was first old new moment weight asked (Look from most) (DiskFull needed limit) since light cause = absurd cause.2
  cause_since told was first old new moment weight asked Stop (DiskFull needed limit) since light cause = absurd cause.2
  cause_since told was first old new moment weight asked call OutOfMemory since light cause = tt
  cause_since told was first old new moment weight asked call Stopped since light cause = tt

  -- nobody is told of a stop for want of a cause
  stop_has_cause : (first at : D) (weight place : ℕ) (call : Call) → IfSome (stop_at place call) (λ end. HasCauseSince disk first at weight end.kind)
  stop_has_cause first at weight place (Serve frame) = tt
  stop_has_cause first at weight place (Take watcher) = tt
  stop_has_cause first at weight place (Unregister watcher) = tt
  stop_has_cause first at weight place (Look from most) = tt
  stop_has_cause first at weight place Stop = tt

  -- one entry more, with the replay's outcome there, over the standing to which the history had come
  kept_on : (first now later : Seen) (disk_first old new : D) (ended after : Option End) (h items : List Finished) (s : Standing) (place caller moment : ℕ) (call : Call) (outcome : Result Answer FailKind)
      → IsKept disk first now disk_first old ended h → GoesOn disk old new → place ≡ length h → standing_of 0 (first_standing first) h ≡ s
      → items ≡ h ++ finished caller moment call outcome ∷ []
      → outcome ≡ outcome_at place s (finished caller moment call outcome)
      → after ≡ (standing_behind place s (finished caller moment call outcome)).ended
      → (has_failed after ≡ false → StandsAt disk (standing_behind place s (finished caller moment call outcome)) later new)
      → (has_failed after ≡ false → later.weight ≤ first.weight + 8 * (asked_bytes h + (1024 + served_size call)))
      → IfSome after (λ end. HasCauseSince disk disk_first new (first.weight + (asked_bytes h + (1024 + served_size call))) end.kind)
      → IsKept disk first later disk_first new after items
  kept_on first now later disk_first old new ended after h items s place caller moment call outcome k went at is l given ends stands light cause =
      let start = first_standing first in
      let f = finished caller moment call outcome in
      let here : standing_of 0 start items ≡ standing_behind place s f =
      ap (standing_of 0 start) l ∙ standing-snoc 0 start h f place (omega (arith, at)) ∙ ap (λ (x : Standing). standing_behind place x f) is in
      let asked : asked_bytes items ≡ asked_bytes h + (1024 + served_size call) = ap asked_bytes l ∙ asked-snoc h f in
      record {
        replays = l
            ∙ ap (λ (e : Result Answer FailKind). h ++ finished caller moment call e ∷ []) (given ∙ ap (λ (x : Standing). outcome_at place x f) (sym is))
            ∙ ap (λ (xs : List Finished). xs ++ finished caller moment call (outcome_at place (standing_of 0 start h) f) ∷ []) k.replays
            ∙ sym (replay-snoc 0 start h f place (omega (arith, at)))
            ∙ ap (replay 0 start) (sym l);
        ended_is = ends ∙ ap (λ (x : Standing). x.ended) (sym here);
        since = disk_twice disk.kind disk.moment disk.images disk.faults disk_first old new k.since went;
        goes_on = λ fine. subst (λ (x : Standing). StandsAt disk x later new) (sym here) (stands fine);
        weighs = λ fine. let le = light fine in omega (arith, le, asked);
        cause = subst (λ (n : ℕ). IfSome after (λ end. HasCauseSince disk disk_first new (first.weight + n) end.kind)) (sym asked) cause;
      }

  -- a call behind the end
  pub kept_ended : (first now : Seen) (disk_first at : D) (ended : Option End) (h items : List Finished) (end : End) (place caller moment : ℕ) (call : Call)
      → IsKept disk first now disk_first at ended h → place ≡ length h → ended ≡ Some end → items ≡ h ++ finished caller moment call (Err end.kind) ∷ []
      → IsKept disk first now disk_first at ended items
  kept_ended first now disk_first at ended h items end place caller moment call k here is l =
      let s = standing_of 0 (first_standing first) h in
      let stopped : Standing = record s { ended = Some end } in
      let same = disk_same disk.kind disk.moment disk.images disk.faults at in
      let more : first.weight + asked_bytes h ≤ first.weight + (asked_bytes h + (1024 + served_size call)) = omega arith in
      kept_on first now now disk_first at at ended ended h items stopped place caller moment call (Err end.kind) k
      same here
      (λ i. record { kv = s.kv; waits = s.waits; ended = (sym k.ended_is ∙ is) i }) l refl is
      (λ fine. record { stands = (k.goes_on fine).stands; kv = (k.goes_on fine).kv; waits = (k.goes_on fine).waits })
      (λ fine. let le = k.weighs fine in omega (arith, le))
      (at_end ended (HasCauseSince disk disk_first at (first.weight + asked_bytes h)) (HasCauseSince disk disk_first at (first.weight + (asked_bytes h + (1024 + served_size call))))
      (λ kind. cause_later disk_first at at (first.weight + asked_bytes h) (first.weight + (asked_bytes h + (1024 + served_size call))) kind same more) k.cause)

  -- where it has not ended the history has come to what is seen of the engine
  open_standing : (first now : Seen) (disk_first at : D) (ended : Option End) (h : List Finished) → IsKept disk first now disk_first at ended h → ended ≡ None
      → standing_of 0 (first_standing first) h ≡ first_standing now
  open_standing first now disk_first at ended h k is =
      let goes = k.goes_on (ap has_failed is) in
      λ i. record { kv = (sym goes.kv) i; waits = (sym goes.waits) i; ended = (sym k.ended_is ∙ is) i }

  -- a call that is answered
  pub kept_answered : (first now later : Seen) (disk_first old new : D) (ended after : Option End) (h items : List Finished) (place caller moment : ℕ) (call kept : Call) (given : Answer)
      → IsKept disk first now disk_first old ended h → GoesOn disk old new → place ≡ length h → ended ≡ None → kept ≡ call
      → given ≡ answer_at place (first_standing now) moment call → after ≡ stop_at place kept
      → StandsAt disk (standing_after place (first_standing now) moment call) later new
      → later.weight ≤ now.weight + call_rise call
      → items ≡ h ++ finished caller moment kept (Ok given) ∷ []
      → IsKept disk first later disk_first new after items
  kept_answered first now later disk_first old new ended after h items place caller moment call kept given k went here is same answered stops stands light l =
      kept_on first now later disk_first old new ended after h items (first_standing now) place caller moment kept (Ok given) k went here
      (open_standing first now disk_first old ended h k is) l
      (ap (λ (a : Answer). let r : Result Answer FailKind = Ok a in r) (answered ∙ ap (answer_at place (first_standing now) moment) (sym same)))
      (stops ∙ sym (stop_ends place (first_standing now) moment kept refl))
      (λ fine. subst (λ (c : Call). StandsAt disk (standing_after place (first_standing now) moment c) later new) (sym same) stands)
      (λ fine. let was = k.weighs (ap has_failed is) in let most : later.weight ≤ now.weight + call_rise kept = subst (λ (c : Call). later.weight ≤ now.weight + call_rise c) (sym same) light in
      omega (arith, was, most, rise_least kept))
      (subst (λ (e : Option End). IfSome e (λ end. HasCauseSince disk disk_first new (first.weight + (asked_bytes h + (1024 + served_size kept))) end.kind)) (sym stops)
      (stop_has_cause disk_first new (first.weight + (asked_bytes h + (1024 + served_size kept))) place kept))

  -- a call that fails
  pub kept_failed : (told : Type 0) (first now later : Seen) (disk_first old new : D) (ended : Option End) (h items : List Finished) (place caller moment : ℕ) (call kept : Call) (kind : FailKind)
      → IsKept disk first now disk_first old ended h → GoesOn disk old new → place ≡ length h → ended ≡ None → kept ≡ call → Fails disk told now old new moment call kind
      → items ≡ h ++ finished caller moment kept (Err kind) ∷ []
      → IsKept disk first later disk_first new (Some (record { place = place; kind = kind })) items
  kept_failed told first now later disk_first old new ended h items place caller moment call kept kind k went here is same cause l =
      let s = first_standing now in
      let fails = fails_here told now old new moment place call kind cause in
      kept_on first now later disk_first old new ended (Some (record { place = place; kind = kind })) h items s place caller moment kept (Err kind) k went here
      (open_standing first now disk_first old ended h k is) l
      (sym (ap (λ (e : Option End). outcome_by e (answer_at place s moment kept)) fails))
      (sym (ap (λ (e : Option End). (standing_by e s (standing_after place s moment kept)).ended) fails))
      (λ fine. let bad : true ≡ false = sym (has_failed_so told now old new moment place call kind cause) ∙ fine in cc)
      (λ fine. let bad : true ≡ false = sym (has_failed_so told now old new moment place call kind cause) ∙ fine in cc)
      (subst (λ (c : Call). HasCauseSince disk disk_first new (first.weight + (asked_bytes h + (1024 + served_size c))) kind) (sym same)
      (cause_since told now disk_first old new moment first.weight (asked_bytes h) call kind k.since (k.weighs (ap has_failed is)) cause))

  -- what a turn leaves of the history, as the replay has where that ended
  pub turned_is : (first now : Seen) (disk_first at : D) (ended : Option End) (h items : List Finished) (caller moment : ℕ) (call : Call) (Why : FailKind → Type 0) (result : Result Answered CallError)
      → IsKept disk first now disk_first at ended h → (has_no_entry result ≡ true → items ≡ h) → (has_no_entry result ≡ false → Adds h items ended caller moment call Why result)
      → Turned (first_standing first) h items caller moment call Why result
  turned_is first now disk_first at ended h items caller moment call Why result k untouched added = record {
    untouched = untouched;
    added = λ entry. subst (λ (e : Option End). Adds h items e caller moment call Why result) k.ended_is (added entry);
  }
