-- An answer is of the kind that was asked for.
use Rattle.std.proofs.Common.{◌≡◌, ℕ, suc, ◌+◌, Bool, true, false, List, [], ◌∷◌, ◌++◌, Option, Some, None, Result, Ok, Err, if◌then◌else◌, refl, ap, ◌∙◌, subst}
use Rattle.den_model.specs.declared.command.Command.{Command}
use Rattle.den_model.specs.declared.command.WriteOperation.{WriteOperation}
use Rattle.den_model.specs.declared.reply.ErrorCode.TheVariants as code
use Rattle.den_model.specs.declared.reply.KvEntry.{KvEntry}
use Rattle.den_model.specs.declared.reply.ClientResponsePayload.TheVariants as payload
use Rattle.den_model.specs.declared.reply.Refusal.TheVariants as refusal
use Rattle.den_model.specs.declared.reply.Reply.TheVariants as reply
use Rattle.den_model.specs.declared.reply.ScanResult.{ScanResult}
use Rattle.den_model.specs.declared.reply.WatchEvent.{WatchEvent}
use Rattle.den_model.specs.declared.request.ClientReadRequest.{ClientReadRequest}
use Rattle.den_model.specs.declared.request.ClientWriteRequest.{ClientWriteRequest}
use Rattle.den_model.specs.declared.request.Frame.{Frame}
use Rattle.den_model.specs.declared.request.Frame.TheVariants.{Good, Bad}
use Rattle.den_model.specs.declared.request.Request.{Request}
use Rattle.den_model.specs.declared.request.Request.TheVariants as request
use Rattle.den_model.specs.Kv.{Kv}
use Rattle.den_model.specs.Step.{Outcome, answer, answer_to, answered, are_full, command_of, committed, failed, invalid, not_leader, says, with_watcher, write}
use Rattle.den_watch.specs.declared.error.WatchError.{WatchError}
use Rattle.den_watch.specs.declared.error.WatchError.TheVariants as watch_error
use Rattle.den_watch.specs.declared.handle.WatcherHandle.{WatcherHandle}
use Rattle.den_watch.specs.Registry.{taken_from}
use Rattle.den_desk.specs.declared.history.Answer.{Answer}
use Rattle.den_desk.specs.declared.history.Answer.TheVariants as answer_of
use Rattle.den_desk.specs.declared.history.Answered.{Answered}
use Rattle.den_desk.specs.declared.history.Call.{Call}
use Rattle.den_desk.specs.declared.history.Call.TheVariants.{Serve, Take, Unregister, Look, Stop}
use Rattle.den_desk.specs.declared.history.End.{End}
use Rattle.den_desk.specs.declared.history.FailKind.{FailKind}
use Rattle.den_desk.specs.declared.history.Finished.{Finished}
use Rattle.den_desk.specs.History.{Replays, Standing, Tells, answer_at, end_at, finished, outcome_at, outcome_by, replay, reply_in, standing_behind, told_of_take}
use Rattle.den_client.specs.Answers.{fits, fits_request}
use Rattle.den_client.specs.Calling.{Called, HasEntry, Readings, View, end_in}

-- ---- what the model answers

-- a write is refused in one of three ways, or committed
write_fits : (w : ClientWriteRequest) (s : Kv) (m : ℕ) (c : Command) (follows no_lease full : Bool)
    → fits_request (request.Write w) (reply_in (if follows then not_leader s else if no_lease then says s (reply.Refused refusal.FeatureNotEnabled) else if full then says s (failed code.ProposeFailed None) else committed s m c).reply) ≡ true
write_fits w s m c true no_lease full = refl
write_fits w s m c false true full = refl
write_fits w s m c false false true = refl
write_fits w s m c false false false = refl

command_fits : (w : ClientWriteRequest) (s : Kv) (m : ℕ) (command : Option WriteOperation)
    → fits_request (request.Write w) (reply_in (elim command as (λ _. Outcome) [ None ↦ invalid s | Some o ↦ write s m (command_of o) ]).reply) ≡ true
command_fits w s m None = refl
command_fits w s m (Some o) = write_fits w s m (command_of o) _ _ _

read_fits : (r : ClientReadRequest) (s : Kv) (found : List KvEntry) (may : Bool)
    → fits_request (request.Read r) (reply_in (if may then says s (answered (payload.Read found)) else not_leader s).reply) ≡ true
read_fits r s found true = refl
read_fits r s found false = refl

scan_fits : (client_id : ℕ) (prefix : List ℕ) (s : Kv) (found : ScanResult) (may : Bool)
    → fits_request (request.Scan client_id prefix) (reply_in (if may then says s (reply.Scan found) else not_leader s).reply) ≡ true
scan_fits client_id prefix s found true = refl
scan_fits client_id prefix s found false = refl

watch_fits : (client_id : ℕ) (prefix prev_kv : Bool) (key : List ℕ) (s s' : Kv) (number : ℕ) (bad full : Bool)
    → fits_request (request.Watch client_id prefix prev_kv key) (reply_in (if bad then says s (reply.Refused refusal.InvalidPrefix) else if full then says s (reply.Refused refusal.LimitExceeded)
    else record { after = s'; reply = Some (reply.Watching number); events = []; logged = [] }).reply) ≡ true
watch_fits client_id prefix prev_kv key s s' number true full = refl
watch_fits client_id prefix prev_kv key s s' number false true = refl
watch_fits client_id prefix prev_kv key s s' number false false = refl

request_fits : (s : Kv) (m : ℕ) (asked : Request) → fits_request asked (reply_in (answer_to s m asked).reply) ≡ true
request_fits s m (request.Write w) = command_fits w s m w.command
request_fits s m (request.Read r) = read_fits r s _ _
request_fits s m (request.Scan client_id prefix) = scan_fits client_id prefix s _ _
request_fits s m (request.Watch client_id prefix prev_kv key) = watch_fits client_id prefix prev_kv key s (record s { running = with_watcher s.running key prefix prev_kv }) (s.running.registered + 1) _ (are_full s.running.setting.maximum s.running.registered s.running.watchers)
request_fits s m (request.Members client_id) = refl

frame_fits : (s : Kv) (m : ℕ) (frame : Frame) → fits (Serve frame) (answer_of.Reply (reply_in (answer s m frame).reply)) ≡ true
frame_fits s m (Good asked) = request_fits s m asked
frame_fits s m Bad = refl

take_fits : (watcher : WatcherHandle) (taken : Result (List WatchEvent) WatchError) → fits (Take watcher) (told_of_take taken) ≡ true
take_fits watcher (Ok events) = refl
take_fits watcher (Err watch_error.OutOfMemory) = refl
take_fits watcher (Err watch_error.InvalidPrefix) = refl
take_fits watcher (Err watch_error.LimitExceeded) = refl
take_fits watcher (Err watch_error.NotRegistered) = refl
take_fits watcher (Err watch_error.WatchBufferOverflow) = refl

answer_fits : (place : ℕ) (s : Standing) (m : ℕ) (call : Call) → fits call (answer_at place s m call) ≡ true
answer_fits place s m (Serve frame) = frame_fits _ _ frame
answer_fits place s m (Take watcher) = take_fits watcher (taken_from s.waits watcher.id)
answer_fits place s m (Unregister watcher) = refl
answer_fits place s m (Look from most) = refl
answer_fits place s m Stop = refl

-- ---- the last call of a history

-- what the first call came to
abbrev first_outcome : Result Answer FailKind → List Finished → Result Answer FailKind
first_outcome otherwise [] = otherwise
first_outcome otherwise (f ∷ fs) = f.outcome

abbrev behind_first : List Finished → List Finished
behind_first [] = []
behind_first (f ∷ fs) = fs

-- an outcome that the replay gives a call at some place
record IsReplayed (f : Finished) : Type 0 where
  place : ℕ
  standing : Standing
  is : f.outcome ≡ outcome_at place standing f

last_replayed : (place : ℕ) (s : Standing) (xs : List Finished) (f : Finished) → xs ++ f ∷ [] ≡ replay place s (xs ++ f ∷ []) → IsReplayed f
last_replayed place s [] f same = record { place = place; standing = s; is = ap (first_outcome f.outcome) same }
last_replayed place s (x ∷ xs) f same = last_replayed (suc place) (standing_behind place s x) xs f (ap behind_first same)

given_is : (end : Option End) (given by : Answer) → (let r : Result Answer FailKind = Ok given in r) ≡ outcome_by end by → given ≡ by
given_is None given by same = cc
given_is (Some end) given by same = cc

given_fits : (caller moment : ℕ) (call : Call) (given : Answer) → IsReplayed (finished caller moment call (Ok given)) → fits call given ≡ true
given_fits caller moment call given r =
    ap (fits call) (given_is (end_at r.place r.standing.ended (Ok given)) given (answer_at r.place r.standing moment call) r.is) ∙ answer_fits r.place r.standing moment call

-- what is told of an entry is its answer
told_fits : (before : List Finished) (ended : Option End) (caller moment : ℕ) (call : Call) (outcome : Result Answer FailKind) (a : Answered)
    → Tells before ended call outcome (Ok a) → IsReplayed (finished caller moment call outcome) → fits call a.answer ≡ true
told_fits before ended caller moment call (Ok given) a tells r = ap (fits call) tells.0 ∙ given_fits caller moment call given r
told_fits before ended caller moment call (Err kind) a tells r = absurd tells

entry_fits : (old new : View) (moment : ℕ) (call : Call) (a : Answered) → Replays new.start new.seen → HasEntry old new moment call (Ok a) → fits call a.answer ≡ true
entry_fits old new moment call a replays e =
    told_fits (old.seen ++ e.between) (end_in old.start (old.seen ++ e.between)) old.number moment call e.outcome a e.tells
    (last_replayed 0 new.start (old.seen ++ e.between) (finished old.number moment call e.outcome)
    (subst (λ (l : List Finished). l ≡ replay 0 new.start l) e.entry replays))

pub called_fits : (old new : View) (before after : Readings) (call : Call) (a : Answered) → Replays new.start new.seen → Called old new before after call (Ok a) → fits call a.answer ≡ true
called_fits old new before after call a replays called = entry_fits old new called.moment call a replays (called.added refl)
