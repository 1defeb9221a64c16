-- Worked rows of messages, codes, ids and what a client is told, by computing.
use Rattle.std.specs.Prelude.{◌≡◌, ℕ, List, Option, pos, negsuc, true, [], ◌∷◌, map, Some, None, Ok, Err, codes, refl}
use Rattle.std.specs.Fmt.{digits}
use Rattle.den_model.specs.declared.command.WriteOperation.TheVariants as operation
use Rattle.den_model.specs.declared.reply.ClientResponsePayload.TheVariants as payload
use Rattle.den_model.specs.declared.reply.ErrorCode.TheVariants as code
use Rattle.den_model.specs.declared.reply.LeaderHint.{LeaderHint}
use Rattle.den_model.specs.declared.request.ReadConsistencyPolicy.TheVariants.{LinearizableRead, LeaseRead, EventualConsistency}
use Rattle.den_proto.specs.ClientErrors.{code_of, mapped_error, message_of, not_leader, read_payload}
use Rattle.den_proto.specs.Codes.{error_of}
use Rattle.den_proto.specs.Hints.{hint_of, id_of, metadata_of}
use Rattle.den_proto.specs.Requests.{core_read, core_write, operation_of, policy_of}
use Rattle.den_proto.specs.Responses.{core_response, proto_response}
use Rattle.den_proto.specs.declared.client_error.ClientApiError.TheVariants.{Business, Network, OutOfMemory, Protocol}
use Rattle.den_proto.specs.declared.proto.ErrorMetadata.{ErrorMetadata}
use Rattle.den_proto.specs.declared.proto.Operation.TheVariants as message

-- ---- requests

pub a_ttl_of_0_is_none : operation_of (record { operation = Some (message.Insert (codes "a") (codes "b") 0) })
    ≡ Some (operation.Insert (codes "a") (codes "b") None)
a_ttl_of_0_is_none = refl

pub a_ttl_stays : operation_of (record { operation = Some (message.Insert (codes "a") (codes "b") 60) })
    ≡ Some (operation.Insert (codes "a") (codes "b") (Some 60))
a_ttl_stays = refl

pub a_swap_of_an_absent_key :
    core_write (record {
      client_id = 7;
      command = Some (record { operation = Some (message.CompareAndSwap (codes "a") None (codes "b")) });
    })
    ≡ record { client_id = 7; command = Some (operation.CompareAndSwap (codes "a") None (codes "b")) }
a_swap_of_an_absent_key = refl

pub no_operation : core_write (record { client_id = 7; command = Some (record { operation = None }) })
    ≡ record { client_id = 7; command = None }
no_operation = refl

pub policies : map policy_of (negsuc 0 ∷ pos 0 ∷ pos 1 ∷ pos 2 ∷ pos 3 ∷ pos 4 ∷ [])
    ≡ None ∷ None ∷ Some LinearizableRead ∷ Some LeaseRead ∷ Some EventualConsistency ∷ None ∷ []
policies = refl

pub a_read_keeps_its_keys :
    core_read (record { client_id = 7; keys = codes "b" ∷ codes "a" ∷ []; consistency_policy = Some (pos 9) })
    ≡ record { client_id = 7; keys = codes "b" ∷ codes "a" ∷ []; consistency_policy = None }
a_read_keeps_its_keys = refl

-- ---- ids and hints

pub no_ids : map id_of (codes "" ∷ codes "+" ∷ codes "++7" ∷ codes "4294967296" ∷ []) ≡ None ∷ None ∷ None ∷ None ∷ []
unfolding id_of
no_ids = refl

pub no_ids_either : map id_of (codes "-7" ∷ codes "7 " ∷ codes "7+" ∷ codes "0x7" ∷ []) ≡ None ∷ None ∷ None ∷ None ∷ []
unfolding id_of
no_ids_either = refl

pub ids : map id_of (codes "7" ∷ codes "+7" ∷ codes "007" ∷ codes "+0" ∷ codes "4294967295" ∷ [])
    ≡ Some 7 ∷ Some 7 ∷ Some 7 ∷ Some 0 ∷ Some 4294967295 ∷ []
unfolding id_of
ids = refl

-- what a message tells of a leader
abbrev names : Option (List ℕ) → Option (List ℕ) → Option (List ℕ) → ErrorMetadata
names id address text = record { retry_after_ms = None; leader_id = id; leader_address = address; debug_message = text }

pub a_leader_is_told : metadata_of (Some (record { leader_id = 4294967295; address = codes "h:1" })) None
    ≡ Some (names (Some (codes "4294967295")) (Some (codes "h:1")) None)
unfolding digits
a_leader_is_told = refl

pub a_wait_is_told : metadata_of None (Some 0)
    ≡ Some (record { retry_after_ms = Some 0; leader_id = None; leader_address = None; debug_message = None })
a_wait_is_told = refl

pub nothing_is_told : metadata_of None None ≡ None
nothing_is_told = refl

-- an address alone and an id alone are no hint, and a text for whoever looks is none
pub an_address_alone : hint_of (names None (Some (codes "h:1")) (Some (codes "2")))
    ≡ None
an_address_alone = refl

pub an_id_alone : hint_of (names (Some (codes "2")) None (Some (codes "h:1")))
    ≡ None
an_id_alone = refl

pub an_id_and_an_address : hint_of (names (Some (codes "+2")) (Some (codes "")) None)
    ≡ Some (record { leader_id = 2; address = [] })
unfolding id_of
an_id_and_an_address = refl

-- ---- answers

-- node 2 leads
abbrev leader_at : List ℕ → LeaderHint
leader_at address = record { leader_id = 2; address = address }

pub unknown_code : core_response (record { error = pos 99; metadata = None; success_result = None })
    ≡ record { error = code.Uncategorized; leader_hint = None; retry_after_ms = None; result = None }
unknown_code = refl

pub codes_of_numbers : map error_of (negsuc 0 ∷ pos 0 ∷ pos 12 ∷ pos 22 ∷ pos 23 ∷ [])
    ≡ None ∷ Some code.Success ∷ Some code.NotLeader ∷ Some code.Uncategorized ∷ None ∷ []
codes_of_numbers = refl

pub an_answer_is_a_message :
    proto_response (record {
      error = code.NotLeader;
      leader_hint = Some (leader_at (codes "h:2"));
      retry_after_ms = Some 250;
      result = Some (payload.Write true);
    })
    ≡ record {
      error = pos 12;
      metadata = Some (record {
        retry_after_ms = Some 250;
        leader_id = Some (codes "2");
        leader_address = Some (codes "h:2");
        debug_message = None;
      });
      success_result = Some (payload.Write true);
    }
unfolding digits
an_answer_is_a_message = refl

-- ---- what a client is told

pub no_leader_is_known : not_leader None None None ≡ Network code.NotLeader (codes "Not leader") (Some 100) None
no_leader_is_known = refl

pub a_wait_of_0_stays : not_leader None None (Some 0) ≡ Network code.NotLeader (codes "Not leader") (Some 0) None
a_wait_of_0_stays = refl

pub a_leader_by_its_id : not_leader (Some (codes "2")) None None
    ≡ Network code.NotLeader (codes "Not leader, leader_id: 2") (Some 100) None
a_leader_by_its_id = refl

-- the address is named, and no hint is given, where the id is none
pub a_leader_by_its_address : not_leader (Some (codes "x")) (Some (codes "h:2")) None
    ≡ Network code.NotLeader (codes "Not leader, try leader at: h:2") (Some 100) None
unfolding id_of
a_leader_by_its_address = refl

pub another_leads :
    let leader = Some (leader_at (codes "10.0.0.2:5002")) in
    mapped_error code.NotLeader leader (Some 250)
    ≡ Network code.NotLeader (codes "Not leader, try leader at: 10.0.0.2:5002") (Some 250) leader
unfolding id_of digits
another_leads = refl

pub a_full_disk : mapped_error code.DiskFull (Some (leader_at (codes "h:2"))) (Some 250)
    ≡ Business code.Uncategorized (codes "Error code: DiskFull") None
a_full_disk = refl

pub no_payload : read_payload None
    ≡ Err (Protocol code.InvalidResponse (codes "expected ReadData payload, got None") None)
no_payload = refl

pub a_write_in_place_of_a_read : read_payload (Some (payload.Write true))
    ≡ Err (Protocol code.InvalidResponse (codes "expected ReadData payload, got WriteResult") None)
a_write_in_place_of_a_read = refl

pub what_was_read : read_payload (Some (payload.Read (record { key = codes "a"; value = codes "b" } ∷ [])))
    ≡ Ok (record { key = codes "a"; value = codes "b" } ∷ [])
what_was_read = refl

pub want_of_memory : code_of OutOfMemory ≡ code.General
want_of_memory = refl

pub want_of_memory_says_nothing : message_of OutOfMemory ≡ []
want_of_memory_says_nothing = refl
