-- What a client is told where it does not get what it asked for.
use Rattle.std.specs.Prelude.{◌≡◌, ◌≢◌, ℕ, List, [], ◌++◌, Option, Some, None, unwrap_or, Result, Ok, Err, codes}
use Rattle.den_model.specs.declared.reply.ClientResponsePayload.{ClientResponsePayload}
use Rattle.den_model.specs.declared.reply.ClientResponsePayload.TheVariants as payload
use Rattle.den_model.specs.declared.reply.ErrorCode.{ErrorCode}
use Rattle.den_model.specs.declared.reply.ErrorCode.TheVariants as code
use Rattle.den_model.specs.declared.reply.KvEntry.{KvEntry}
use Rattle.den_model.specs.declared.reply.LeaderHint.{LeaderHint}
use Rattle.den_proto.specs.Codes.{error_name}
use Rattle.den_proto.specs.Hints.{address_text, hint_in, id_text}
use Rattle.den_proto.specs.declared.client_error.ClientApiError.{ClientApiError}
use Rattle.den_proto.specs.declared.client_error.ClientApiError.TheVariants.{Business, Network, OutOfMemory, Protocol}

abbrev pub code_of : ClientApiError → ErrorCode
code_of (Network error message retry_after_ms leader_hint) = error
code_of (Protocol error message supported_versions) = error
code_of (Business error message required_action) = error
code_of OutOfMemory = code.General

abbrev pub message_of : ClientApiError → List ℕ
message_of (Network error message retry_after_ms leader_hint) = message
message_of (Protocol error message supported_versions) = message
message_of (Business error message required_action) = message
message_of OutOfMemory = []

-- what is said of a leader: its address, else its id
abbrev pub leader_message : Option (List ℕ) → Option (List ℕ) → List ℕ
leader_message id (Some address) = codes "Not leader, try leader at: " ++ address
leader_message (Some id) None = codes "Not leader, leader_id: " ++ id
leader_message None None = codes "Not leader"

-- another node leads: a wait of 100 milliseconds where none is named
abbrev pub not_leader : Option (List ℕ) → Option (List ℕ) → Option ℕ → ClientApiError
not_leader id address retry_after_ms =
    Network code.NotLeader (leader_message id address) (Some (unwrap_or retry_after_ms 100)) (hint_in id address)

abbrev pub refused_with : ErrorCode → ClientApiError
refused_with error = Business code.Uncategorized (codes "Error code: " ++ error_name error) None

-- what a code that is no success is told as
abbrev pub mapped_error : ErrorCode → Option LeaderHint → Option ℕ → ClientApiError
mapped_error code.NotLeader leader_hint retry_after_ms =
    not_leader (id_text leader_hint) (address_text leader_hint) retry_after_ms
mapped_error error _ _ = refused_with error

abbrev pub no_read : List ℕ → ClientApiError
no_read found = Protocol code.InvalidResponse (codes "expected ReadData payload, got " ++ found) None

-- the pairs that a read brought
abbrev pub read_payload : Option ClientResponsePayload → Result (List KvEntry) ClientApiError
read_payload (Some (payload.Read entries)) = Ok entries
read_payload (Some (payload.Write succeeded)) = Err (no_read (codes "WriteResult"))
read_payload None = Err (no_read (codes "None"))

-- an error is this one, unless memory is wanting
abbrev pub IsTold : ClientApiError → ClientApiError → Type 0
IsTold wanted told = told ≢ OutOfMemory → told ≡ wanted

-- A call is answered as wanted, or refused for want of memory where it is to be refused.
pub record Extracts {X : Type 0} (wanted result : Result X ClientApiError) : Type 0 where
  pub ok : (x : X) → wanted ≡ Ok x → result ≡ Ok x
  pub err : (error : ClientApiError) → wanted ≡ Err error → result ≢ Err OutOfMemory → result ≡ Err error
