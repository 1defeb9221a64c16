-- Which answers come to a call.
use Rattle.std.specs.Prelude.{Bool, true, false, Option, Some, None}
use Rattle.den_model.specs.declared.reply.ClientResponsePayload.{ClientResponsePayload}
use Rattle.den_model.specs.declared.reply.ClientResponsePayload.TheVariants as payload
use Rattle.den_model.specs.declared.reply.ErrorCode.{ErrorCode}
use Rattle.den_model.specs.declared.reply.ErrorCode.TheVariants as code
use Rattle.den_model.specs.declared.reply.Refusal.{Refusal}
use Rattle.den_model.specs.declared.reply.Refusal.TheVariants as refusal
use Rattle.den_model.specs.declared.reply.Reply.{Reply}
use Rattle.den_model.specs.declared.reply.Reply.TheVariants as reply
use Rattle.den_model.specs.declared.request.Frame.TheVariants.{Good, Bad}
use Rattle.den_model.specs.declared.request.Request.{Request}
use Rattle.den_model.specs.declared.request.Request.TheVariants as request
use Rattle.den_desk.specs.declared.history.Answer.{Answer}
use Rattle.den_desk.specs.declared.history.Answer.TheVariants as answer
use Rattle.den_desk.specs.declared.history.Call.{Call}
use Rattle.den_desk.specs.declared.history.Call.TheVariants.{Serve, Take, Unregister, Look, Stop}

abbrev pub is_written : Option ClientResponsePayload → Bool
is_written (Some (payload.Write succeeded)) = true
is_written (Some (payload.Read entries)) = false
is_written None = false

abbrev pub is_found : Option ClientResponsePayload → Bool
is_found (Some (payload.Read entries)) = true
is_found (Some (payload.Write succeeded)) = false
is_found None = false

-- a success brings this
abbrev pub brings : (Option ClientResponsePayload → Bool) → ErrorCode → Option ClientResponsePayload → Bool
brings is code.Success result = is result
brings is _ result = true

-- a code other than success
abbrev pub fails : ErrorCode → Bool
fails code.Success = false
fails _ = true

abbrev pub refuses_lease : Refusal → Bool
refuses_lease refusal.FeatureNotEnabled = true
refuses_lease refusal.InvalidPrefix = false
refuses_lease refusal.LimitExceeded = false

abbrev pub refuses_watch : Refusal → Bool
refuses_watch refusal.InvalidPrefix = true
refuses_watch refusal.LimitExceeded = true
refuses_watch refusal.FeatureNotEnabled = false

-- the replies that a request may have
abbrev pub fits_request : Request → Reply → Bool
fits_request (request.Write w) (reply.Response r) = brings is_written r.error r.result
fits_request (request.Write w) (reply.Refused why) = refuses_lease why
fits_request (request.Read r) (reply.Response found) = brings is_found found.error found.result
fits_request (request.Scan client_id prefix) (reply.Scan found) = true
fits_request (request.Scan client_id prefix) (reply.Response r) = fails r.error
fits_request (request.Watch client_id prefix prev_kv key) (reply.Watching number) = true
fits_request (request.Watch client_id prefix prev_kv key) (reply.Refused why) = refuses_watch why
fits_request (request.Members client_id) (reply.Members members) = true
fits_request _ _ = false

-- the answers that a call may have
abbrev pub fits : Call → Answer → Bool
fits (Serve (Good asked)) (answer.Reply r) = fits_request asked r
fits (Serve Bad) (answer.Reply (reply.Response r)) = fails r.error
fits (Take watcher) (answer.Events events) = true
fits (Take watcher) answer.Overflow = true
fits (Take watcher) answer.NotRegistered = true
fits (Unregister watcher) (answer.Unregistered stood) = true
fits (Look from most) (answer.Looked first count) = true
fits Stop answer.Stopped = true
fits _ _ = false
