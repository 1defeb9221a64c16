-- Where a history ended, and that it stays so.
use Rattle.std.proofs.Common.{◌≡◌, ◌≢◌, ◌⊎◌, inl, inr, ⊎_elim, ℕ, suc, ◌+◌, Bool, true, false, List, [], ◌∷◌, ◌++◌, length, Option, Some, None, IsSome, OnOk, Result, Ok, Err, refl, sym, ap, ◌∙◌, subst, arith}
use Rattle.den_proto.specs.declared.client_error.ClientApiError.{ClientApiError}
use Rattle.den_proto.specs.declared.client_error.ClientApiError.TheVariants as api
use Rattle.den_desk.specs.declared.history.Answer.{Answer}
use Rattle.den_desk.specs.declared.history.Answered.{Answered}
use Rattle.den_desk.specs.declared.history.Call.{Call}
use Rattle.den_desk.specs.declared.history.Call.TheVariants.{Stop}
use Rattle.den_desk.specs.declared.history.CallError.{CallError}
use Rattle.den_desk.specs.declared.history.CallError.TheVariants.{Failed, OutOfMemory as no_memory}
use Rattle.den_desk.specs.declared.history.End.{End}
use Rattle.den_desk.specs.declared.history.FailKind.{FailKind}
use Rattle.den_desk.specs.declared.history.FailKind.TheVariants.{Stopped}
use Rattle.den_desk.specs.declared.history.Finished.{Finished}
use Rattle.den_desk.specs.History.{Replays, Standing, Tells, answer_at, end_at, finished, has_no_entry, outcome_at, outcome_by, replay, standing_after, standing_behind, standing_by, standing_of, told_error}
use Rattle.den_client.specs.Asking.{Asks, Client, Makes}
use Rattle.den_client.specs.Calling.{Called, HasEntry, Readings, View, end_in}
use Rattle.den_client.specs.Mapped.{result_of}
use Rattle.den_node.specs.declared.error.NodeError.{NodeError}
use Rattle.den_embed.specs.Stopping.{EndsForGood, HasEnded, end_of, stopped_by}

-- ---- a history that is longer

standing-behind : (p : ℕ) (s : Standing) (xs ys : List Finished) → standing_of p s (xs ++ ys) ≡ standing_of (p + length xs) (standing_of p s xs) ys
standing-behind p s [] ys = ap (λ (n : ℕ). standing_of n s ys) (let x : p ≡ p + 0 = omega arith in x)
standing-behind p s (x ∷ xs) ys = standing-behind (suc p) (standing_behind p s x) xs ys
    ∙ ap (λ (n : ℕ). standing_of n (standing_of (suc p) (standing_behind p s x) xs) ys) (let x : suc p + length xs ≡ p + suc (length xs) = omega arith in x)

-- the first outcome of a list
outcome-of : List Finished → Result Answer FailKind
outcome-of [] = Err Stopped
outcome-of (f ∷ fs) = f.outcome

tail-of : List Finished → List Finished
tail-of [] = []
tail-of (f ∷ fs) = fs

-- the last entry has the outcome of the replay there
last-outcome : (p : ℕ) (s : Standing) (xs : List Finished) (f : Finished) → xs ++ f ∷ [] ≡ replay p s (xs ++ f ∷ []) → f.outcome ≡ outcome_at (p + length xs) (standing_of p s xs) f
unfolding outcome-of tail-of
last-outcome p s [] f is = ap outcome-of is ∙ ap (λ (n : ℕ). outcome_at n s f) (let x : p ≡ p + 0 = omega arith in x)
last-outcome p s (x ∷ xs) f is = last-outcome (suc p) (standing_behind p s x) xs f (ap tail-of is)
    ∙ ap (λ (n : ℕ). outcome_at n (standing_of (suc p) (standing_behind p s x) xs) f) (let x : suc p + length xs ≡ p + suc (length xs) = omega arith in x)

-- ---- an end stays

end-behind : (p : ℕ) (s : Standing) (f : Finished) (end : End) → s.ended ≡ Some end → (standing_behind p s f).ended ≡ Some end
end-behind p s f end is = ap (λ (e : Option End). (standing_by (end_at p e f.outcome) s (standing_after p s f.moment f.call)).ended) is

end-stays : (p : ℕ) (s : Standing) (xs : List Finished) (end : End) → s.ended ≡ Some end → (standing_of p s xs).ended ≡ Some end
end-stays p s [] end is = is
end-stays p s (x ∷ xs) end is = end-stays (suc p) (standing_behind p s x) xs end (end-behind p s x end is)

-- a history that has ended has ended there behind more calls
end-later : (start : Standing) (xs ys : List Finished) (end : End) → end_in start xs ≡ Some end → end_in start (xs ++ ys) ≡ Some end
end-later start xs ys end is = ap (λ (s : Standing). s.ended) (standing-behind 0 start xs ys) ∙ end-stays (0 + length xs) (standing_of 0 start xs) ys end is

-- ---- a call behind an end

-- a call that failed for an end is told of it
told-of : (before : List Finished) (end : End) (call : Call) (told : Result Answered CallError) → Tells before (Some end) call (Err end.kind) told → told ≡ Err (Failed end.place end.kind)
told-of before end call (Ok a) is = absurd is
told-of before end call (Err e) is = ap (λ (x : CallError). let r : Result Answered CallError = Err x in r) is

fails-behind : (old new : View) (moment : ℕ) (call : Call) (told : Result Answered CallError) (end : End) → new.start ≡ old.start → HasEntry old new moment call told → Replays new.start new.seen
    → end_of old ≡ Some end → (end_of new ≡ Some end) × (told ≡ Err (Failed end.place end.kind))
fails-behind old new moment call told end start h replays is =
    let L = old.seen ++ h.between in
    let f = finished old.number moment call h.outcome in
    let here : end_in old.start L ≡ Some end = end-later old.start old.seen h.between end is in
    let whole : L ++ f ∷ [] ≡ replay 0 old.start (L ++ f ∷ []) = sym h.entry ∙ replays ∙ ap (λ (s : Standing). replay 0 s new.seen) start ∙ ap (replay 0 old.start) h.entry in
    let outcome : h.outcome ≡ Err end.kind = last-outcome 0 old.start L f whole
    ∙ ap (λ (e : Option End). outcome_by (end_at (0 + length L) e h.outcome) (answer_at (0 + length L) (standing_of 0 old.start L) moment call)) here in
    let behind : end_of new ≡ Some end = ap (λ (s : Standing). end_in s new.seen) start ∙ ap (end_in old.start) h.entry ∙ end-later old.start L (f ∷ []) end here in
    (behind, told-of L end call told (subst (λ (r : Result Answer FailKind). Tells L (Some end) call r told) outcome (subst (λ (e : Option End). Tells L e call h.outcome told) here h.tells)))

by-entry : (b : Bool) (old new : View) (before after : Readings) (call : Call) (told : Result Answered CallError) (end : End) → has_no_entry told ≡ b
    → Called old new before after call told → Replays new.start new.seen → end_of old ≡ Some end
    → (end_of new ≡ Some end) × ((has_no_entry told ≡ true) ⊎ (told ≡ Err (Failed end.place end.kind)))
by-entry true old new before after call told end none called replays is =
    (ap (λ (s : Standing). end_in s new.seen) called.start ∙ ap (end_in old.start) (called.untouched none) ∙ is, inl none)
by-entry false old new before after call told end none called replays is =
    let got = fails-behind old new called.moment call told end called.start (called.added none) replays is in
    (got.0, inr got.1)

pub ends_for_good : EndsForGood
ends_for_good old new before after call told end called replays is = by-entry (has_no_entry told) old new before after call told end refl called replays is

-- ---- a stop

-- a stop that has an entry ends the history, if it has not ended
stop-by : (end : Option End) (p : ℕ) (s : Standing) (moment : ℕ) → IsSome (standing_by end s (standing_after p s moment Stop)).ended
stop-by (Some e) p s moment = refl
stop-by None p s moment = refl

stopped-entry : (old new : View) (moment : ℕ) (told : Result Answered CallError) → new.start ≡ old.start → HasEntry old new moment Stop told → HasEnded new
stopped-entry old new moment told start h =
    let L = old.seen ++ h.between in
    let f = finished old.number moment Stop h.outcome in
    let same : end_of new ≡ (standing_behind (0 + length L) (standing_of 0 old.start L) f).ended =
    ap (λ (s : Standing). end_in s new.seen) start ∙ ap (end_in old.start) h.entry ∙ ap (λ (s : Standing). s.ended) (standing-behind 0 old.start L (f ∷ [])) in
    subst (λ (e : Option End). IsSome e) (sym same) (stop-by (end_at (0 + length L) (standing_of 0 old.start L).ended h.outcome) (0 + length L) (standing_of 0 old.start L) moment)

-- a stop that was told something has an entry
told-ended : (old new : Client) (answered : Result Answer ClientApiError) (m : Makes old new Stop Ok answered) → answered ≢ Err api.OutOfMemory
    → (told : Result Answered CallError) → m.told ≡ told → HasEnded new.caller
told-ended old new answered m not (Ok a) is = stopped-entry old.caller new.caller m.called.moment m.told m.called.start (m.called.added (ap has_no_entry is))
told-ended old new answered m not (Err (Failed place kind)) is = stopped-entry old.caller new.caller m.called.moment m.told m.called.start (m.called.added (ap has_no_entry is))
told-ended old new answered m not (Err (no_memory place)) is =
    let memory : result_of {X = Answer} Ok m.told ≡ Err api.OutOfMemory = ap (result_of {X = Answer} Ok) is in
    absurd (not (m.mapped not ∙ memory))

pub stop_ends : (old new : Client) (answered : Result Answer ClientApiError) → Asks old new Stop Ok answered → answered ≢ Err api.OutOfMemory → HasEnded new.caller
stop_ends old new answered asks not = ⊎_elim (λ none. absurd (not none.0)) (λ m. told-ended old new answered m not m.told refl) asks.made

-- what a stop answers, where the history has ended
pub stop_told : (old new : Client) (answered : Result Answer ClientApiError) → Asks old new Stop Ok answered → OnOk (stopped_by answered) (HasEnded new.caller)
stop_told old new (Ok answer) asks = stop_ends old new (Ok answer) asks (λ is. cc is)
stop_told old new (Err api.OutOfMemory) asks = record {}
stop_told old new (Err (api.Network code message retry hint)) asks = stop_ends old new (Err (api.Network code message retry hint)) asks (λ is. cc is)
stop_told old new (Err (api.Protocol code message versions)) asks = stop_ends old new (Err (api.Protocol code message versions)) asks (λ is. cc is)
stop_told old new (Err (api.Business code message action)) asks = stop_ends old new (Err (api.Business code message action)) asks (λ is. cc is)

pub stop_ended : (old new : Client) (answered : Result Answer ClientApiError) (result : Result (Unit {0}) NodeError) → result ≡ stopped_by answered → Asks old new Stop Ok answered → OnOk result (HasEnded new.caller)
stop_ended old new answered result is asks = subst (λ (r : Result (Unit {0}) NodeError). OnOk r (HasEnded new.caller)) (sym is) (stop_told old new answered asks)
