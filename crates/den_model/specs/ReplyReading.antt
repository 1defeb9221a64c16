-- Reading replies and watch events from left to right.
use Rattle.std.specs.Prelude.{ℕ, ℤ, ◌==◌, List, [], ◌∷◌, Option, Some, None, if◌then◌else◌}
use Rattle.std.specs.List.{slice_get}
use Rattle.std.specs.Str.{is_utf8}
use Rattle.std.specs.Int.{w32, w64, cast_signed}
use Rattle.den_model.specs.declared.reply.Reply.{Reply}
use Rattle.den_model.specs.declared.reply.Reply.TheVariants as reply
use Rattle.den_model.specs.declared.reply.ErrorCode.{ErrorCode}
use Rattle.den_model.specs.declared.reply.ErrorCode.TheVariants as code
use Rattle.den_model.specs.declared.reply.Refusal.{Refusal}
use Rattle.den_model.specs.declared.reply.Refusal.TheVariants as refusal
use Rattle.den_model.specs.declared.reply.LeaderHint.{LeaderHint}
use Rattle.den_model.specs.declared.reply.NodeMeta.{NodeMeta}
use Rattle.den_model.specs.declared.reply.KvEntry.{KvEntry}
use Rattle.den_model.specs.declared.reply.ClientResponsePayload.{ClientResponsePayload}
use Rattle.den_model.specs.declared.reply.ClientResponsePayload.TheVariants as payload
use Rattle.den_model.specs.declared.reply.WatchEvent.{WatchEvent}
use Rattle.den_model.specs.declared.reply.WatchEventType.{WatchEventType}
use Rattle.den_model.specs.declared.reply.WatchEventType.TheVariants as event
use Rattle.den_model.specs.Reading.{◌>>=◌, Reader, done, done_if, no_word, whole, byte_at, number_at, blob_at, truth_at, option_at, list_at}

-- a text is valid UTF-8
unfoldable pub text_at : Reader (List ℕ)
text_at = do
  bytes ← blob_at
  done_if (is_utf8 bytes) bytes

-- two's complement
unfoldable pub i32_at : Reader ℤ
i32_at = do
  n ← number_at w32
  done (cast_signed w32 n)

-- the codes in the order of their numbers
abbrev pub all_codes : List ErrorCode
all_codes =
    code.Success ∷ code.ConnectionTimeout ∷ code.InvalidAddress ∷ code.LeaderChanged ∷ code.JoinError ∷ code.InvalidResponse
    ∷ code.VersionMismatch ∷ code.DiskFull ∷ code.DataCorruption ∷ code.StorageIoError ∷ code.StoragePermissionDenied
    ∷ code.KeyNotExist ∷ code.NotLeader ∷ code.StaleOperation ∷ code.InvalidRequest ∷ code.RateLimited
    ∷ code.ClusterUnavailable ∷ code.ProposeFailed ∷ code.TermOutdated ∷ code.RetryRequired ∷ code.WatchBufferOverflow
    ∷ code.General ∷ code.Uncategorized ∷ []

-- reads nothing further, where there is a value
abbrev pub done_some : {A : Type 0} → Option A → Reader A
done_some None bytes = None
done_some (Some x) bytes = Some (x, bytes)

unfoldable pub code_at : Reader ErrorCode
code_at = do
  number ← byte_at
  done_some (slice_get all_codes number)

unfoldable pub refusal_at : Reader Refusal
refusal_at = do
  number ← byte_at
  if number == 1 then done refusal.InvalidPrefix
      else if number == 2 then done refusal.LimitExceeded
      else if number == 3 then done refusal.FeatureNotEnabled
      else no_word

unfoldable pub kv_at : Reader KvEntry
kv_at = do
  key ← blob_at
  value ← blob_at
  done (record { key = key; value = value })

unfoldable pub hint_at : Reader LeaderHint
hint_at = do
  id ← number_at w32
  address ← text_at
  done (record { leader_id = id; address = address })

unfoldable pub node_at : Reader NodeMeta
node_at = do
  id ← number_at w32
  address ← text_at
  role ← i32_at
  status ← i32_at
  done (record { id = id; address = address; role = role; status = status })

unfoldable pub written_at : Reader (Option ClientResponsePayload)
written_at = do
  succeeded ← truth_at
  done (Some (payload.Write succeeded))

unfoldable pub found_at : Reader (Option ClientResponsePayload)
found_at = do
  entries ← list_at kv_at
  done (Some (payload.Read entries))

unfoldable pub payload_at : Reader (Option ClientResponsePayload)
payload_at = do
  tag ← byte_at
  if tag == 0 then done None
      else if tag == 1 then written_at
      else if tag == 2 then found_at
      else no_word

unfoldable pub response_at : Reader Reply
response_at = do
  error ← code_at
  hint ← option_at hint_at
  retry ← option_at (number_at w64)
  result ← payload_at
  done (reply.Response (record { error = error; leader_hint = hint; retry_after_ms = retry; result = result }))

unfoldable pub scanned_at : Reader Reply
scanned_at = do
  revision ← number_at w64
  entries ← list_at kv_at
  done (reply.Scan (record { entries = entries; revision = revision }))

unfoldable pub watching_at : Reader Reply
watching_at = do
  number ← number_at w64
  done (reply.Watching number)

unfoldable pub members_at : Reader Reply
members_at = do
  version ← number_at w64
  leader ← option_at (number_at w32)
  nodes ← list_at node_at
  done (reply.Members (record { version = version; nodes = nodes; current_leader_id = leader }))

unfoldable pub refused_at : Reader Reply
refused_at = do
  refusal ← refusal_at
  done (reply.Refused refusal)

unfoldable pub reply_at : Reader Reply
reply_at = do
  tag ← byte_at
  if tag == 1 then response_at
      else if tag == 2 then scanned_at
      else if tag == 3 then watching_at
      else if tag == 5 then members_at
      else if tag == 6 then refused_at
      else no_word

unfoldable pub kind_at : Reader WatchEventType
kind_at = do
  number ← byte_at
  if number == 1 then done event.Put
      else if number == 2 then done event.Delete
      else no_word

unfoldable pub event_behind : Reader WatchEvent
event_behind = do
  watcher ← number_at w64
  kind ← kind_at
  revision ← number_at w64
  key ← blob_at
  value ← blob_at
  earlier ← blob_at
  done (record { watcher = watcher; revision = revision; kind = kind; key = key; value = value; prev_value = earlier })

unfoldable pub event_at : Reader WatchEvent
event_at = do
  tag ← byte_at
  if tag == 4 then event_behind else no_word

unfoldable pub reply_in : List ℕ → Option Reply
reply_in = whole reply_at

unfoldable pub event_in : List ℕ → Option WatchEvent
event_in = whole event_at
