-- The calls that a client makes.
use Rattle.std.specs.Prelude.{ℕ, Bool, List, Option, Some, unwrap_or}
use Rattle.den_model.specs.declared.command.WriteOperation.{WriteOperation}
use Rattle.den_model.specs.declared.command.WriteOperation.TheVariants as operation
use Rattle.den_model.specs.declared.request.Frame.TheVariants.{Good}
use Rattle.den_model.specs.declared.request.ReadConsistencyPolicy.{ReadConsistencyPolicy}
use Rattle.den_model.specs.declared.request.ReadConsistencyPolicy.TheVariants.{LinearizableRead}
use Rattle.den_model.specs.declared.request.Request.{Request}
use Rattle.den_model.specs.declared.request.Request.TheVariants as request
use Rattle.den_desk.specs.declared.history.Call.{Call}
use Rattle.den_desk.specs.declared.history.Call.TheVariants.{Serve}

abbrev pub request_call : Request → Call
request_call asked = Serve (Good asked)

abbrev pub write_call : (id : ℕ) → WriteOperation → Call
write_call id asked = request_call (request.Write (record { client_id = id; command = Some asked }))

-- a put, with the seconds that the key has to live where they are given
abbrev pub put_call : (id : ℕ) → (key value : List ℕ) → (ttl_secs : Option ℕ) → Call
put_call id key value ttl_secs = write_call id (operation.Insert key value ttl_secs)

abbrev pub delete_call : (id : ℕ) → (key : List ℕ) → Call
delete_call id key = write_call id (operation.Delete key)

abbrev pub swap_call : (id : ℕ) → (key : List ℕ) → (expected : Option (List ℕ)) → (new_value : List ℕ) → Call
swap_call id key expected new_value = write_call id (operation.CompareAndSwap key expected new_value)

abbrev pub read_call : (id : ℕ) → (keys : List (List ℕ)) → ReadConsistencyPolicy → Call
read_call id keys policy = request_call (request.Read (record { client_id = id; keys = keys; consistency_policy = Some policy }))

-- a read without a policy is linearizable
abbrev pub policy_or_linearizable : Option ReadConsistencyPolicy → ReadConsistencyPolicy
policy_or_linearizable policy = unwrap_or policy LinearizableRead

abbrev pub scan_call : (id : ℕ) → (prefix : List ℕ) → Call
scan_call id prefix = request_call (request.Scan id prefix)

abbrev pub watch_call : (id : ℕ) → (key : List ℕ) → (prefix prev_kv : Bool) → Call
watch_call id key prefix prev_kv = request_call (request.Watch id prefix prev_kv key)

abbrev pub members_call : (id : ℕ) → Call
members_call id = request_call (request.Members id)
