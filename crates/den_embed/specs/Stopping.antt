-- What a stop makes of an engine's history, and that it stays ended.
use Rattle.std.specs.Prelude.{◌≡◌, ◌⊎◌, true, Option, Some, Result, Ok, Err, IsSome}
use Rattle.den_codec.specs.declared.error.Error.TheVariants as error
use Rattle.den_proto.specs.declared.client_error.ClientApiError.{ClientApiError}
use Rattle.den_proto.specs.declared.client_error.ClientApiError.TheVariants.{OutOfMemory, Network, Protocol, Business}
use Rattle.den_desk.specs.declared.history.Answer.{Answer}
use Rattle.den_desk.specs.declared.history.Answered.{Answered}
use Rattle.den_desk.specs.declared.history.Call.{Call}
use Rattle.den_desk.specs.declared.history.Call.TheVariants.{Stop}
use Rattle.den_desk.specs.declared.history.CallError.{CallError}
use Rattle.den_desk.specs.declared.history.CallError.TheVariants.{Failed}
use Rattle.den_desk.specs.declared.history.End.{End}
use Rattle.den_desk.specs.History.{Replays, has_no_entry}
use Rattle.den_client.specs.Asking.{Asks, Client}
use Rattle.den_client.specs.Calling.{Called, Readings, View, end_in}
use Rattle.den_node.specs.declared.error.NodeError.{NodeError}
use Rattle.den_node.specs.declared.error.NodeError.TheVariants.{Engine}

-- where what was seen ended, if it did
abbrev pub end_of : View → Option End
end_of v = end_in v.start v.seen

-- what was seen has ended, by a stop or a failed call
abbrev pub HasEnded : View → Type 0
HasEnded v = IsSome (end_of v)

-- what a stop answers: memory alone is wanting, and where the history had ended before, that is as good
abbrev pub stopped_by : Result Answer ClientApiError → Result (Unit {0}) NodeError
stopped_by (Ok answer) = Ok tt
stopped_by (Err OutOfMemory) = Err (Engine error.OutOfMemory)
stopped_by (Err (Network code message retry hint)) = Ok tt
stopped_by (Err (Protocol code message versions)) = Ok tt
stopped_by (Err (Business code message action)) = Ok tt

-- A stop: the client makes that call.
pub record Stops (old new : Client) (result : Result (Unit {0}) NodeError) : Type 0 where
  pub answered : Result Answer ClientApiError
  pub asks : Asks old new Stop Ok answered
  pub result_is : result ≡ stopped_by answered

-- Where a history has ended, a call fails for that end, or has no entry; and the history has ended there behind it.
abbrev pub EndsForGood : Type 0
EndsForGood = (old new : View) (before after : Readings) (call : Call) (told : Result Answered CallError) (end : End)
    → Called old new before after call told → Replays new.start new.seen → end_of old ≡ Some end
    → (end_of new ≡ Some end) × ((has_no_entry told ≡ true) ⊎ (told ≡ Err (Failed end.place end.kind)))
