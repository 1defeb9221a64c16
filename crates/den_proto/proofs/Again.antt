-- What was told as a message is read again.
use Rattle.std.proofs.Common.{◌≡◌, ℕ, Option, Some, None, pos, refl, ap}
use Rattle.den_model.specs.Spelling.{code_number}
use Rattle.den_model.specs.declared.reply.ClientResponse.{ClientResponse}
use Rattle.den_model.specs.declared.reply.ErrorCode.{ErrorCode}
use Rattle.den_model.specs.declared.reply.ErrorCode.TheVariants as code
use Rattle.den_model.specs.declared.reply.LeaderHint.{LeaderHint}
use Rattle.den_proto.specs.Codes.{known_error}
use Rattle.den_proto.specs.Hints.{address_text, hint_in, hint_with, id_text, metadata_of}
use Rattle.den_proto.specs.Laws.{FitsHint}
use Rattle.den_proto.specs.Responses.{core_response, hint_told, proto_response, wait_told}
use Rattle.den_proto.proofs.Ids.{id_read}

pub hint_read : (hint : Option LeaderHint) → FitsHint hint → hint_in (id_text hint) (address_text hint) ≡ hint
hint_read None fits = refl
hint_read (Some h) fits = ap (λ n. hint_with n h.address) (id_read h.leader_id fits)

error_back : (e : ErrorCode) → known_error (pos (code_number e)) ≡ e
error_back code.Success = refl
error_back code.ConnectionTimeout = refl
error_back code.InvalidAddress = refl
error_back code.LeaderChanged = refl
error_back code.JoinError = refl
error_back code.InvalidResponse = refl
error_back code.VersionMismatch = refl
error_back code.DiskFull = refl
error_back code.DataCorruption = refl
error_back code.StorageIoError = refl
error_back code.StoragePermissionDenied = refl
error_back code.KeyNotExist = refl
error_back code.NotLeader = refl
error_back code.StaleOperation = refl
error_back code.InvalidRequest = refl
error_back code.RateLimited = refl
error_back code.ClusterUnavailable = refl
error_back code.ProposeFailed = refl
error_back code.TermOutdated = refl
error_back code.RetryRequired = refl
error_back code.WatchBufferOverflow = refl
error_back code.General = refl
error_back code.Uncategorized = refl

hint_back : (hint : Option LeaderHint) (wait : Option ℕ) → FitsHint hint → hint_told (metadata_of hint wait) ≡ hint
hint_back None None fits = refl
hint_back None (Some wait) fits = refl
hint_back (Some h) wait fits = hint_read (Some h) fits

wait_back : (hint : Option LeaderHint) (wait : Option ℕ) → wait_told (metadata_of hint wait) ≡ wait
wait_back None None = refl
wait_back None (Some wait) = refl
wait_back (Some h) wait = refl

pub response_back : (r : ClientResponse) → FitsHint r.leader_hint → core_response (proto_response r) ≡ r
response_back r fits =
    let hint = hint_back r.leader_hint r.retry_after_ms fits in
    let wait = wait_back r.leader_hint r.retry_after_ms in
    rw (error_back r.error, hint, wait) refl
