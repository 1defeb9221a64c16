-- What a client makes of an answer.
use Rattle.std.specs.Prelude.{ℕ, Bool, List, map, nat_eq, Option, Some, None, option_map, Result, Ok, Err, codes}
use Rattle.std.specs.Cmp.Lexicographic.{pointwise}
use Rattle.std.specs.List.{find}
use Rattle.den_model.specs.declared.reply.ClientResponse.{ClientResponse}
use Rattle.den_model.specs.declared.reply.ClientResponsePayload.{ClientResponsePayload}
use Rattle.den_model.specs.declared.reply.ClientResponsePayload.TheVariants as payload
use Rattle.den_model.specs.declared.reply.ClusterMembership.{ClusterMembership}
use Rattle.den_model.specs.declared.reply.ErrorCode.{ErrorCode}
use Rattle.den_model.specs.declared.reply.ErrorCode.TheVariants as code
use Rattle.den_model.specs.declared.reply.KvEntry.{KvEntry}
use Rattle.den_model.specs.declared.reply.NodeMeta.{NodeMeta}
use Rattle.den_model.specs.declared.reply.Refusal.{Refusal}
use Rattle.den_model.specs.declared.reply.Refusal.TheVariants as refusal
use Rattle.den_model.specs.declared.reply.Reply.{Reply}
use Rattle.den_model.specs.declared.reply.Reply.TheVariants as reply
use Rattle.den_model.specs.declared.reply.ScanResult.{ScanResult}
use Rattle.den_model.specs.declared.reply.WatchEvent.{WatchEvent}
use Rattle.den_watch.specs.declared.handle.WatcherHandle.{WatcherHandle}
use Rattle.den_proto.specs.ClientErrors.{mapped_error, read_payload}
use Rattle.den_proto.specs.declared.client_error.ClientApiError.{ClientApiError}
use Rattle.den_proto.specs.declared.client_error.ClientApiError.TheVariants.{Business, Network, OutOfMemory, Protocol}
use Rattle.den_desk.specs.declared.history.Answer.{Answer}
use Rattle.den_desk.specs.declared.history.Answer.TheVariants as answer
use Rattle.den_desk.specs.declared.history.Answered.{Answered}
use Rattle.den_desk.specs.declared.history.CallError.{CallError}
use Rattle.den_desk.specs.declared.history.CallError.TheVariants.{Failed, OutOfMemory as no_memory}

-- ---- errors

-- the history has ended: the call failed, or one before it
abbrev pub closed : ClientApiError
closed = Network code.ConnectionTimeout (codes "Channel closed, node may be shutting down") None None

-- an answer of another kind than was asked for; none comes: `fits` in specs/Answers.antt
abbrev pub unasked : ClientApiError
unasked = Protocol code.InvalidResponse (codes "unexpected answer") None

abbrev pub refusal_error : Refusal → ClientApiError
refusal_error refusal.InvalidPrefix = Business code.Uncategorized (codes "prefix must start and end with '/'") None
refusal_error refusal.LimitExceeded = Business code.Uncategorized (codes "watcher limit exceeded") None
refusal_error refusal.FeatureNotEnabled = Business code.Uncategorized (codes "Error code: FeatureNotEnabled") None

abbrev pub code_error : ClientResponse → ClientApiError
code_error r = mapped_error r.error r.leader_hint r.retry_after_ms

-- ---- replies

-- an answer that is a reply
abbrev pub reply_of : Answer → Result Reply ClientApiError
reply_of (answer.Reply r) = Ok r
reply_of _ = Err unasked

-- what is made of a value, where there is one
abbrev pub and_then : {X Y : Type 0} → Result X ClientApiError → (X → Result Y ClientApiError) → Result Y ClientApiError
and_then (Ok x) next = next x
and_then (Err e) next = Err e

-- what a success brings; another code is told
abbrev pub success_of : ErrorCode → ClientResponse → Result (Option ClientResponsePayload) ClientApiError
success_of code.Success r = Ok r.result
success_of _ r = Err (code_error r)

-- what the reply to a write or a read brings
abbrev pub brought : Reply → Result (Option ClientResponsePayload) ClientApiError
brought (reply.Response r) = success_of r.error r
brought (reply.Refused why) = Err (refusal_error why)
brought (reply.Scan found) = Err unasked
brought (reply.Watching number) = Err unasked
brought (reply.Members members) = Err unasked

abbrev pub scanned : Reply → Result ScanResult ClientApiError
scanned (reply.Scan found) = Ok found
scanned (reply.Response r) = Err (code_error r)
scanned (reply.Refused why) = Err (refusal_error why)
scanned (reply.Watching number) = Err unasked
scanned (reply.Members members) = Err unasked

abbrev pub watching : Reply → Result WatcherHandle ClientApiError
watching (reply.Watching number) = Ok (record { id = number })
watching (reply.Response r) = Err (code_error r)
watching (reply.Refused why) = Err (refusal_error why)
watching (reply.Scan found) = Err unasked
watching (reply.Members members) = Err unasked

abbrev pub membership : Reply → Result ClusterMembership ClientApiError
membership (reply.Members members) = Ok members
membership (reply.Response r) = Err (code_error r)
membership (reply.Refused why) = Err (refusal_error why)
membership (reply.Scan found) = Err unasked
membership (reply.Watching number) = Err unasked

-- ---- values

-- whether a write succeeded, which a swap may not
abbrev pub succeeded_in : Option ClientResponsePayload → Result Bool ClientApiError
succeeded_in (Some (payload.Write succeeded)) = Ok succeeded
succeeded_in (Some (payload.Read entries)) = Err unasked
succeeded_in None = Err unasked

-- the first pair with this key
abbrev pub pair_at : List KvEntry → (key : List ℕ) → Option KvEntry
pair_at entries key = find (λ (e : KvEntry). pointwise nat_eq e.key key) entries

-- the value that was found at a key
abbrev pub value_in : List KvEntry → (key : List ℕ) → Option (List ℕ)
value_in entries key = option_map (λ e. e.value) (pair_at entries key)

-- a place for each key, with its value where one was found
abbrev pub values_in : (keys : List (List ℕ)) → List KvEntry → List (Option (List ℕ))
values_in keys entries = map (value_in entries) keys

-- ---- answers

-- what the answer to a write or a read brings
abbrev pub brought_by : Answer → Result (Option ClientResponsePayload) ClientApiError
brought_by a = and_then (reply_of a) brought

-- a put or a delete is done
abbrev pub done_by : Answer → Result (Unit {0}) ClientApiError
done_by a = and_then (brought_by a) (λ _. Ok tt)

-- a swap succeeded or not
abbrev pub swapped_by : Answer → Result Bool ClientApiError
swapped_by a = and_then (brought_by a) succeeded_in

-- the pairs that a read found
abbrev pub found_by : Answer → Result (List KvEntry) ClientApiError
found_by a = and_then (brought_by a) read_payload

-- the value at one key
abbrev pub value_by : (key : List ℕ) → Answer → Result (Option (List ℕ)) ClientApiError
value_by key a = and_then (found_by a) (λ entries. Ok (value_in entries key))

-- the values at several
abbrev pub values_by : (keys : List (List ℕ)) → Answer → Result (List (Option (List ℕ))) ClientApiError
values_by keys a = and_then (found_by a) (λ entries. Ok (values_in keys entries))

abbrev pub scan_by : Answer → Result ScanResult ClientApiError
scan_by a = and_then (reply_of a) scanned

abbrev pub watcher_by : Answer → Result WatcherHandle ClientApiError
watcher_by a = and_then (reply_of a) watching

abbrev pub membership_by : Answer → Result ClusterMembership ClientApiError
membership_by a = and_then (reply_of a) membership

abbrev pub nodes_by : Answer → Result (List NodeMeta) ClientApiError
nodes_by a = and_then (membership_by a) (λ members. Ok members.nodes)

abbrev pub leader_by : Answer → Result (Option ℕ) ClientApiError
leader_by a = and_then (membership_by a) (λ members. Ok members.current_leader_id)

-- what waited for a watcher
abbrev pub events_by : Answer → Result (List WatchEvent) ClientApiError
events_by (answer.Events events) = Ok events
events_by answer.Overflow = Err (Business code.WatchBufferOverflow (codes "watch buffer overflow") None)
events_by answer.NotRegistered = Err (Business code.General (codes "watcher not registered") None)
events_by (answer.Reply r) = Err unasked
events_by (answer.Unregistered stood) = Err unasked
events_by (answer.Looked from count) = Err unasked
events_by answer.Stopped = Err unasked

-- whether a watch stood
abbrev pub stood_by : Answer → Result Bool ClientApiError
stood_by (answer.Unregistered stood) = Ok stood
stood_by _ = Err unasked

-- ---- what a caller is told

-- what is made of an answer, or why there is none
abbrev pub result_of : {X : Type 0} → (Answer → Result X ClientApiError) → Result Answered CallError → Result X ClientApiError
result_of make (Ok a) = make a.answer
result_of make (Err (Failed place kind)) = Err closed
result_of make (Err (no_memory place)) = Err OutOfMemory
