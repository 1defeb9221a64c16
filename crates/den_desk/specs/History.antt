-- What a list of finished calls comes to, from a state on: what each call was answered, and the state behind all.
use Rattle.std.specs.Prelude.{◌≡◌, ℕ, suc, ◌+◌, ◌-◌, ◌||◌, min, Bool, true, false, List, [], ◌∷◌, ◌++◌, length, take, drop, Option, Some, None, is_some, Result, Ok, Err}
use Rattle.den_model.specs.declared.reply.ErrorCode.TheVariants as code
use Rattle.den_model.specs.declared.reply.Reply.{Reply}
use Rattle.den_model.specs.declared.reply.WatchEvent.{WatchEvent}
use Rattle.den_model.specs.Kv.{Kv}
use Rattle.den_model.specs.Plan.{after, turn}
use Rattle.den_model.specs.Sizes.{frame_size}
use Rattle.den_model.specs.Step.{failed, moment_of}
use Rattle.den_watch.specs.declared.error.WatchError.{WatchError}
use Rattle.den_watch.specs.declared.error.WatchError.TheVariants.{WatchBufferOverflow}
use Rattle.den_watch.specs.Registry.{Registry, emptied, is_registered, taken_from, watchers, without}
use Rattle.den_core.specs.Kept.{asked_of, registry_behind}
use Rattle.den_desk.specs.declared.history.Answer.{Answer}
use Rattle.den_desk.specs.declared.history.Answer.TheVariants as answer
use Rattle.den_desk.specs.declared.history.Answered.{Answered}
use Rattle.den_desk.specs.declared.history.Call.{Call}
use Rattle.den_desk.specs.declared.history.Call.TheVariants.{Serve, Take, Unregister, Look, Stop}
use Rattle.den_desk.specs.declared.history.CallError.{CallError}
use Rattle.den_desk.specs.declared.history.CallError.TheVariants.{Failed, OutOfMemory as no_memory}
use Rattle.den_desk.specs.declared.history.End.{End}
use Rattle.den_desk.specs.declared.history.FailKind.{FailKind}
use Rattle.den_desk.specs.declared.history.FailKind.TheVariants.{StorageIoError, DiskFull, OutOfMemory, Stopped}
use Rattle.den_desk.specs.declared.history.Finished.{Finished}

-- What a history has come to: the state, who watches with what waits for each, and where the history ended, if it did.
pub record Standing : Type 0 where
  pub kv : Kv
  pub waits : Registry
  pub ended : Option End

-- a history that is yet empty
abbrev pub beginning : Kv → Registry → Standing
beginning kv waits = record { kv = kv; waits = waits; ended = None }

-- others watch, or something else waits for them
abbrev pub over_watchers : Standing → Registry → Standing
over_watchers s waits = record s { kv = record s.kv { running = record s.kv.running { watchers = watchers waits } }; waits = waits }

-- ---- one call that is answered

-- a frame always has a reply
abbrev pub reply_in : Option Reply → Reply
reply_in (Some reply) = reply
reply_in None = failed code.InvalidRequest None

-- what a take tells: a watcher is refused where it overflowed or is not registered
abbrev pub told_of_take : Result (List WatchEvent) WatchError → Answer
told_of_take (Ok events) = answer.Events events
told_of_take (Err WatchBufferOverflow) = answer.Overflow
told_of_take (Err _) = answer.NotRegistered

-- what a call at this place is answered
abbrev pub answer_at : ℕ → Standing → ℕ → Call → Answer
answer_at place s moment (Serve frame) = answer.Reply (reply_in (asked_of s.kv frame (moment_of moment)).reply)
answer_at place s moment (Take watcher) = told_of_take (taken_from s.waits watcher.id)
answer_at place s moment (Unregister watcher) = answer.Unregistered (is_registered s.waits watcher.id)
answer_at place s moment (Look from most) = answer.Looked from (min most (place - from))
answer_at place s moment Stop = answer.Stopped

-- what it leaves
abbrev pub standing_after : ℕ → Standing → ℕ → Call → Standing
standing_after place s moment (Serve frame) = record s {
  kv = after s.kv (turn s.kv frame (moment_of moment));
  waits = registry_behind s.waits (asked_of s.kv frame (moment_of moment));
}
standing_after place s moment (Take watcher) = over_watchers s (emptied s.waits watcher.id)
standing_after place s moment (Unregister watcher) = over_watchers s (without s.waits watcher.id)
standing_after place s moment (Look from most) = s
standing_after place s moment Stop = record s { ended = Some (record { place = place; kind = Stopped }) }

-- where a call that is answered ends the history: a stop does
abbrev pub stop_at : ℕ → Call → Option End
stop_at place Stop = Some (record { place = place; kind = Stopped })
stop_at place (Serve frame) = None
stop_at place (Take watcher) = None
stop_at place (Unregister watcher) = None
stop_at place (Look from most) = None

-- ---- a list of finished calls

abbrev pub finished : ℕ → ℕ → Call → Result Answer FailKind → Finished
finished caller moment call outcome = record { caller = caller; call = call; moment = moment; outcome = outcome }

-- where a call ended the history by its own failure; no call is stopped by itself
abbrev pub failure_at : ℕ → Result Answer FailKind → Option End
failure_at place (Ok answer) = None
failure_at place (Err Stopped) = None
failure_at place (Err StorageIoError) = Some (record { place = place; kind = StorageIoError })
failure_at place (Err (DiskFull needed limit)) = Some (record { place = place; kind = DiskFull needed limit })
failure_at place (Err OutOfMemory) = Some (record { place = place; kind = OutOfMemory })

-- where the history ended for a call: before it, or by its own failure
abbrev pub end_at : ℕ → Option End → Result Answer FailKind → Option End
end_at place (Some end) outcome = Some end
end_at place None outcome = failure_at place outcome

-- what the call comes to, with an end or without one
abbrev pub outcome_by : Option End → Answer → Result Answer FailKind
outcome_by (Some end) answered = Err end.kind
outcome_by None answered = Ok answered

-- a call that fails changes nothing more
abbrev pub standing_by : Option End → (before behind : Standing) → Standing
standing_by (Some end) before behind = record before { ended = Some end }
standing_by None before behind = behind

-- what a finished call's outcome is there
abbrev pub outcome_at : ℕ → Standing → Finished → Result Answer FailKind
outcome_at place s f = outcome_by (end_at place s.ended f.outcome) (answer_at place s f.moment f.call)

-- what it leaves
abbrev pub standing_behind : ℕ → Standing → Finished → Standing
standing_behind place s f = standing_by (end_at place s.ended f.outcome) s (standing_after place s f.moment f.call)

-- the same calls, each with the outcome that it has there
abbrev pub replay : ℕ → Standing → List Finished → List Finished
replay place s [] = []
replay place s (f ∷ fs) = finished f.caller f.moment f.call (outcome_at place s f) ∷ replay (suc place) (standing_behind place s f) fs

-- what the calls leave
abbrev pub standing_of : ℕ → Standing → List Finished → Standing
standing_of place s [] = s
standing_of place s (f ∷ fs) = standing_of (suc place) (standing_behind place s f) fs

-- each call of the list has the outcome of the replay
abbrev pub Replays : Standing → List Finished → Type 0
Replays start history = history ≡ replay 0 start history

-- ---- one call more

-- the entries that a look names
abbrev pub looked_at : Call → List Finished → List Finished
looked_at (Look from most) before = take most (drop from before)
looked_at (Serve frame) before = []
looked_at (Take watcher) before = []
looked_at (Unregister watcher) before = []
looked_at Stop before = []

-- What a call that failed is told: where the history ended before it, or at its own place. Want of memory of its own has an
-- error of its own.
abbrev pub told_error : Option End → (place : ℕ) → FailKind → CallError
told_error (Some end) place kind = Failed end.place end.kind
told_error None place OutOfMemory = no_memory (Some place)
told_error None place StorageIoError = Failed place StorageIoError
told_error None place (DiskFull needed limit) = Failed place (DiskFull needed limit)
told_error None place Stopped = Failed place Stopped

-- the call is not in the history
abbrev pub has_no_entry : Result Answered CallError → Bool
has_no_entry (Ok a) = false
has_no_entry (Err (Failed place kind)) = false
has_no_entry (Err (no_memory (Some place))) = false
has_no_entry (Err (no_memory None)) = true

-- what a caller is told of its entry, which stands behind these
abbrev pub Tells : List Finished → Option End → Call → Result Answer FailKind → Result Answered CallError → Type 0
Tells before ended call (Ok given) (Ok a) = (a.answer ≡ given) × (a.place ≡ length before) × (a.looked ≡ looked_at call before)
Tells before ended call (Err kind) (Err e) = e ≡ told_error ended (length before) kind
Tells before ended call (Ok given) (Err e) = ⊥
Tells before ended call (Err kind) (Ok a) = ⊥

-- One entry more, of this call, and what its caller is told of it. Where the history had not ended and the call failed, it is for
-- a cause.
pub record Adds (before after : List Finished) (ended : Option End) (caller moment : ℕ) (call : Call) (Fails : FailKind → Type 0) (result : Result Answered CallError) : Type 0 where
  pub outcome : Result Answer FailKind
  pub entry : after ≡ before ++ finished caller moment call outcome ∷ []
  pub told : Tells before ended call outcome result
  pub cause : (kind : FailKind) → ended ≡ None → outcome ≡ Err kind → Fails kind

-- What a call leaves of a history that began at this standing: one entry more; or, for want of memory, what it was.
pub record Turned (start : Standing) (before after : List Finished) (caller moment : ℕ) (call : Call) (Fails : FailKind → Type 0) (result : Result Answered CallError) : Type 0 where
  pub untouched : has_no_entry result ≡ true → after ≡ before
  pub added : has_no_entry result ≡ false → Adds before after (standing_of 0 start before).ended caller moment call Fails result

-- ---- what finished calls asked of the files, and whether one failed

-- the size of the request that a call serves
abbrev pub served_size : Call → ℕ
served_size (Serve frame) = frame_size frame
served_size (Take watcher) = 0
served_size (Unregister watcher) = 0
served_size (Look from most) = 0
served_size Stop = 0

-- 1,024 bytes for each entry, and the sizes of the requests
abbrev pub asked_bytes : List Finished → ℕ
asked_bytes [] = 0
asked_bytes (f ∷ fs) = 1024 + served_size f.call + asked_bytes fs

-- an entry failed, other than behind a stop
abbrev pub has_failure : List Finished → Bool
has_failure [] = false
has_failure (f ∷ fs) = is_some (failure_at 0 f.outcome) || has_failure fs
