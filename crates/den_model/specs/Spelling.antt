-- The word of each value, as bytes. Numbers are big-endian.
use Rattle.std.specs.Prelude.{ℕ, ℤ, Bool, true, false, List, [], ◌∷◌, ◌++◌, length, Option, Some, None, unwrap_or}
use Rattle.std.specs.List.{flat_map}
use Rattle.std.specs.Int.{w32, w64, to_be_bytes, cast_unsigned}
use Rattle.den_model.specs.declared.command.Command.{Command}
use Rattle.den_model.specs.declared.command.Command.TheVariants as command
use Rattle.den_model.specs.declared.command.WriteOperation.{WriteOperation}
use Rattle.den_model.specs.declared.command.WriteOperation.TheVariants as operation
use Rattle.den_model.specs.declared.log_id.HardState.{HardState}
use Rattle.den_model.specs.declared.log_id.VotedFor.{VotedFor}
use Rattle.den_model.specs.declared.journal.JournalRecord.{JournalRecord}
use Rattle.den_model.specs.declared.journal.JournalRecord.TheVariants as record'
use Rattle.den_model.specs.declared.region.LogRegion.{LogRegion}
use Rattle.den_model.specs.declared.region.LogRegion.TheVariants as log
use Rattle.den_model.specs.declared.region.StateRegion.{StateRegion}
use Rattle.den_model.specs.declared.region.StateRegion.TheVariants as state
use Rattle.den_model.specs.declared.region.StoredPair.{StoredPair}
use Rattle.den_model.specs.declared.request.Request.{Request}
use Rattle.den_model.specs.declared.request.Request.TheVariants as request
use Rattle.den_model.specs.declared.request.ReadConsistencyPolicy.{ReadConsistencyPolicy}
use Rattle.den_model.specs.declared.request.ReadConsistencyPolicy.TheVariants.{LinearizableRead, LeaseRead, EventualConsistency}
use Rattle.den_model.specs.declared.reply.Reply.{Reply}
use Rattle.den_model.specs.declared.reply.Reply.TheVariants as reply
use Rattle.den_model.specs.declared.reply.ErrorCode.{ErrorCode}
use Rattle.den_model.specs.declared.reply.ErrorCode.TheVariants as code
use Rattle.den_model.specs.declared.reply.Refusal.{Refusal}
use Rattle.den_model.specs.declared.reply.Refusal.TheVariants as refusal
use Rattle.den_model.specs.declared.reply.LeaderHint.{LeaderHint}
use Rattle.den_model.specs.declared.reply.NodeMeta.{NodeMeta}
use Rattle.den_model.specs.declared.reply.KvEntry.{KvEntry}
use Rattle.den_model.specs.declared.reply.ClientResponsePayload.{ClientResponsePayload}
use Rattle.den_model.specs.declared.reply.ClientResponsePayload.TheVariants as payload
use Rattle.den_model.specs.declared.reply.WatchEvent.{WatchEvent}
use Rattle.den_model.specs.declared.reply.WatchEventType.{WatchEventType}
use Rattle.den_model.specs.declared.reply.WatchEventType.TheVariants as event
use Rattle.den_model.specs.Entries.{LogEntry}

-- ---- numbers, blobs, options, truth values, lists

unfoldable pub u32_word : ℕ → List ℕ
u32_word n = to_be_bytes w32 n

unfoldable pub u64_word : ℕ → List ℕ
u64_word n = to_be_bytes w64 n

-- two's complement
unfoldable pub i32_word : ℤ → List ℕ
i32_word z = u32_word (cast_unsigned w32 z)

-- the length, and so many bytes
abbrev pub blob_word : List ℕ → List ℕ
blob_word bytes = u64_word (length bytes) ++ bytes

abbrev pub option_word : {A : Type 0} → (A → List ℕ) → Option A → List ℕ
option_word word None = 0 ∷ []
option_word word (Some x) = 1 ∷ word x

abbrev pub truth_word : Bool → List ℕ
truth_word false = 0 ∷ []
truth_word true = 1 ∷ []

-- the count, and the items
abbrev pub list_word : {A : Type 0} → (A → List ℕ) → List A → List ℕ
list_word word xs = u64_word (length xs) ++ flat_map word xs

-- ---- the log

abbrev pub command_word : Command → List ℕ
command_word command.Noop = 0 ∷ []
command_word (command.Insert key value ttl_secs) = 1 ∷ blob_word key ++ blob_word value ++ option_word u64_word ttl_secs
command_word (command.Delete key) = 2 ∷ blob_word key
command_word (command.CompareAndSwap key expected value) = 3 ∷ blob_word key ++ option_word blob_word expected ++ blob_word value

abbrev pub entry_word : LogEntry → List ℕ
entry_word e = u64_word e.index ++ u64_word e.term ++ u64_word e.moment ++ command_word e.command

abbrev pub log_region_word : LogRegion → List ℕ
log_region_word (log.Append entries) = 1 ∷ list_word entry_word entries
log_region_word (log.Truncate from) = 2 ∷ u64_word from
log_region_word (log.Purge index term) = 3 ∷ u64_word index ++ u64_word term
log_region_word (log.Replace r) = 4 ∷ u64_word r.from ++ list_word entry_word r.entries
log_region_word log.Reset = 5 ∷ []

abbrev pub vote_word : VotedFor → List ℕ
vote_word v = u32_word v.id ++ u64_word v.term

abbrev pub hard_state_word : HardState → List ℕ
hard_state_word h = u64_word h.current_term ++ option_word vote_word h.voted_for

-- ---- the map

-- index, term, opcode, key, value, expiry
abbrev pub record_fields : ℕ → ℕ → ℕ → List ℕ → List ℕ → ℕ → List ℕ
record_fields index term opcode key value expiry =
    u64_word index ++ u64_word term ++ opcode ∷ [] ++ blob_word key ++ blob_word value ++ u64_word expiry

abbrev pub record_word : JournalRecord → List ℕ
record_word (record'.Noop index term) = record_fields index term 0 [] [] 0
record_word (record'.Insert index term key value expiry) = record_fields index term 1 key value expiry
record_word (record'.Delete index term key) = record_fields index term 2 key [] 0
record_word (record'.CasFailed index term) = record_fields index term 5 [] [] 0
record_word (record'.Cleanup moment) = record_fields 0 0 6 [] [] moment

abbrev pub pair_word : StoredPair → List ℕ
pair_word p = blob_word p.key ++ blob_word p.value ++ u64_word p.term ++ u64_word p.expiry

abbrev pub state_region_word : StateRegion → List ℕ
state_region_word (state.Begin index term) = 1 ∷ u64_word index ++ u64_word term
state_region_word (state.Pairs pairs) = 2 ∷ list_word pair_word pairs
state_region_word (state.Records records) = 3 ∷ list_word record_word records
state_region_word (state.Mark index term) = 4 ∷ u64_word index ++ u64_word term

-- ---- requests

-- a policy's number, and 0 for none
abbrev pub policy_number : Option ReadConsistencyPolicy → ℕ
policy_number None = 0
policy_number (Some LinearizableRead) = 1
policy_number (Some LeaseRead) = 2
policy_number (Some EventualConsistency) = 3

-- no time to live is 0, as is one of 0 seconds
abbrev pub ttl_word : Option ℕ → List ℕ
ttl_word ttl_secs = u64_word (unwrap_or ttl_secs 0)

abbrev pub operation_word : Option WriteOperation → List ℕ
operation_word None = 0 ∷ []
operation_word (Some (operation.Insert key value ttl_secs)) = 1 ∷ blob_word key ++ blob_word value ++ ttl_word ttl_secs
operation_word (Some (operation.Delete key)) = 2 ∷ blob_word key
operation_word (Some (operation.CompareAndSwap key expected new_value)) = 3 ∷ blob_word key ++ option_word blob_word expected ++ blob_word new_value

-- the word that is written
abbrev pub request_word : Request → List ℕ
request_word (request.Write w) = 1 ∷ u32_word w.client_id ++ operation_word w.command
request_word (request.Read r) = 2 ∷ u32_word r.client_id ++ policy_number r.consistency_policy ∷ [] ++ list_word blob_word r.keys
request_word (request.Scan client_id prefix) = 3 ∷ u32_word client_id ++ blob_word prefix
request_word (request.Watch client_id prefix prev_kv key) = 4 ∷ u32_word client_id ++ truth_word prefix ++ truth_word prev_kv ++ blob_word key
request_word (request.Members client_id) = 5 ∷ u32_word client_id

-- ---- replies and events

abbrev pub code_number : ErrorCode → ℕ
code_number code.Success = 0
code_number code.ConnectionTimeout = 1
code_number code.InvalidAddress = 2
code_number code.LeaderChanged = 3
code_number code.JoinError = 4
code_number code.InvalidResponse = 5
code_number code.VersionMismatch = 6
code_number code.DiskFull = 7
code_number code.DataCorruption = 8
code_number code.StorageIoError = 9
code_number code.StoragePermissionDenied = 10
code_number code.KeyNotExist = 11
code_number code.NotLeader = 12
code_number code.StaleOperation = 13
code_number code.InvalidRequest = 14
code_number code.RateLimited = 15
code_number code.ClusterUnavailable = 16
code_number code.ProposeFailed = 17
code_number code.TermOutdated = 18
code_number code.RetryRequired = 19
code_number code.WatchBufferOverflow = 20
code_number code.General = 21
code_number code.Uncategorized = 22

abbrev pub refusal_number : Refusal → ℕ
refusal_number refusal.InvalidPrefix = 1
refusal_number refusal.LimitExceeded = 2
refusal_number refusal.FeatureNotEnabled = 3

abbrev pub kv_word : KvEntry → List ℕ
kv_word p = blob_word p.key ++ blob_word p.value

abbrev pub hint_word : LeaderHint → List ℕ
hint_word h = u32_word h.leader_id ++ blob_word h.address

abbrev pub payload_word : Option ClientResponsePayload → List ℕ
payload_word None = 0 ∷ []
payload_word (Some (payload.Write succeeded)) = 1 ∷ truth_word succeeded
payload_word (Some (payload.Read entries)) = 2 ∷ list_word kv_word entries

abbrev pub node_word : NodeMeta → List ℕ
node_word n = u32_word n.id ++ blob_word n.address ++ i32_word n.role ++ i32_word n.status

abbrev pub reply_word : Reply → List ℕ
reply_word (reply.Response r) = 1 ∷ code_number r.error ∷ option_word hint_word r.leader_hint ++ option_word u64_word r.retry_after_ms ++ payload_word r.result
reply_word (reply.Scan r) = 2 ∷ u64_word r.revision ++ list_word kv_word r.entries
reply_word (reply.Watching number) = 3 ∷ u64_word number
reply_word (reply.Members m) = 5 ∷ u64_word m.version ++ option_word u32_word m.current_leader_id ++ list_word node_word m.nodes
reply_word (reply.Refused r) = 6 ∷ refusal_number r ∷ []

abbrev pub event_number : WatchEventType → ℕ
event_number event.Put = 1
event_number event.Delete = 2

abbrev pub event_word : WatchEvent → List ℕ
event_word e = 4 ∷ u64_word e.watcher ++ event_number e.kind ∷ u64_word e.revision ++ blob_word e.key ++ blob_word e.value ++ blob_word e.prev_value
