-- What a call of a client comes to: one call of its caller, and what is made of its answer.
use Rattle.std.specs.Prelude.{◌≡◌, ◌≢◌, ◌⊎◌, ℕ, Bool, true, List, Result, Err, IfOk}
use Rattle.den_proto.specs.declared.client_error.ClientApiError.{ClientApiError}
use Rattle.den_proto.specs.declared.client_error.ClientApiError.TheVariants.{OutOfMemory}
use Rattle.den_desk.specs.declared.history.Answer.{Answer}
use Rattle.den_desk.specs.declared.history.Answered.{Answered}
use Rattle.den_desk.specs.declared.history.Call.{Call}
use Rattle.den_desk.specs.declared.history.CallError.{CallError}
use Rattle.den_client.specs.Answers.{fits}
use Rattle.den_client.specs.Calling.{Called, Readings, View, readings_of}
use Rattle.den_client.specs.Mapped.{result_of}
use Rattle.den_client.specs.declared.embedded.EmbeddedClient.{EmbeddedClient}

-- A client: its node's id, the milliseconds that it is told to wait, what its caller has seen, and its clock.
pub record Client : Type 0 where
  pub id : ℕ
  pub timeout : ℕ
  pub caller : View
  pub clock : Readings

-- as wanted, or want of memory
abbrev pub IsMapped : {X : Type 0} → (wanted result : Result X ClientApiError) → Type 0
IsMapped wanted result = result ≢ Err OutOfMemory → result ≡ wanted

-- One call of the caller is made, whose answer is of the kind that was asked for, and the result is made of it.
pub record Makes {X : Type 0} (old new : Client) (call : Call) (make : Answer → Result X ClientApiError) (result : Result X ClientApiError) : Type 0 where
  pub told : Result Answered CallError
  pub called : Called old.caller new.caller old.clock new.clock call told
  pub fit : IfOk told (λ a. fits call a.answer ≡ true)
  pub mapped : IsMapped (result_of make told) result

-- A client makes this call, or none where memory for the request is wanting.
pub record Asks {X : Type 0} (old new : Client) (call : Call) (make : Answer → Result X ClientApiError) (result : Result X ClientApiError) : Type 0 where
  pub id : new.id ≡ old.id
  pub timeout : new.timeout ≡ old.timeout
  pub made : ((result ≡ Err OutOfMemory) × (new ≡ old)) ⊎ Makes old new call make result

module _ {N C : Type 0} (view : N → View) (tells : C → Bool) (readings : C → List ℕ) where
  -- a client of its parts
  abbrev pub client_of : EmbeddedClient N C → Client
  client_of c = record { id = c.id; timeout = c.timeout; caller = view c.caller; clock = readings_of tells readings c.clock }
