-- What messages ask for.
use Rattle.std.specs.Prelude.{ℕ, ℤ, pos, Option, Some, None, ◌==◌, if◌then◌else◌}
use Rattle.std.specs.Ordering.{int_eq}
use Rattle.den_model.specs.declared.command.WriteOperation.{WriteOperation}
use Rattle.den_model.specs.declared.command.WriteOperation.TheVariants as operation
use Rattle.den_model.specs.declared.request.ClientReadRequest.{ClientReadRequest}
use Rattle.den_model.specs.declared.request.ClientWriteRequest.{ClientWriteRequest}
use Rattle.den_model.specs.declared.request.ReadConsistencyPolicy.{ReadConsistencyPolicy}
use Rattle.den_model.specs.declared.request.ReadConsistencyPolicy.TheVariants.{LinearizableRead, LeaseRead, EventualConsistency}
use Rattle.den_proto.specs.declared.proto.Operation.{Operation}
use Rattle.den_proto.specs.declared.proto.Operation.TheVariants as message
use Rattle.den_proto.specs.declared.proto.ReadRequest.{ReadRequest}
use Rattle.den_proto.specs.declared.proto.WriteCommand.{WriteCommand}
use Rattle.den_proto.specs.declared.proto.WriteRequest.{WriteRequest}

-- a time to live in seconds, 0 for none
abbrev pub ttl_of : ℕ → Option ℕ
ttl_of secs = if secs == 0 then None else Some secs

abbrev pub asked_operation : Operation → WriteOperation
asked_operation (message.Insert key value ttl_secs) = operation.Insert key value (ttl_of ttl_secs)
asked_operation (message.Delete key) = operation.Delete key
asked_operation (message.CompareAndSwap key expected_value new_value) =
    operation.CompareAndSwap key expected_value new_value

-- the operation of a command that has one
abbrev pub operation_of : WriteCommand → Option WriteOperation
operation_of wc = elim wc.operation [ None ↦ None | Some asked ↦ Some (asked_operation asked) ]

abbrev pub asked_command : Option WriteCommand → Option WriteOperation
asked_command None = None
asked_command (Some wc) = operation_of wc

abbrev pub core_write : WriteRequest → ClientWriteRequest
core_write req = record { client_id = req.client_id; command = asked_command req.command }

-- the policy of a number
abbrev pub policy_of : ℤ → Option ReadConsistencyPolicy
policy_of n = if int_eq n (pos 1) then Some LinearizableRead
    else if int_eq n (pos 2) then Some LeaseRead
    else if int_eq n (pos 3) then Some EventualConsistency
    else None

abbrev pub asked_policy : Option ℤ → Option ReadConsistencyPolicy
asked_policy None = None
asked_policy (Some n) = policy_of n

abbrev pub core_read : ReadRequest → ClientReadRequest
core_read req = record {
  client_id = req.client_id;
  keys = req.keys;
  consistency_policy = asked_policy req.consistency_policy;
}
