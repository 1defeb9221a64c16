-- Answers as messages, and back.
use Rattle.std.specs.Prelude.{ℕ, pos, Option, Some, None}
use Rattle.den_model.specs.Spelling.{code_number}
use Rattle.den_model.specs.declared.reply.ClientResponse.{ClientResponse}
use Rattle.den_model.specs.declared.reply.LeaderHint.{LeaderHint}
use Rattle.den_proto.specs.Codes.{known_error}
use Rattle.den_proto.specs.Hints.{hint_of, metadata_of}
use Rattle.den_proto.specs.declared.proto.ErrorMetadata.{ErrorMetadata}
use Rattle.den_proto.specs.declared.proto.Response.{Response}

abbrev pub proto_response : ClientResponse → Response
proto_response r = record {
  error = pos (code_number r.error);
  metadata = metadata_of r.leader_hint r.retry_after_ms;
  success_result = r.result;
}

abbrev pub hint_told : Option ErrorMetadata → Option LeaderHint
hint_told None = None
hint_told (Some meta) = hint_of meta

abbrev pub wait_told : Option ErrorMetadata → Option ℕ
wait_told None = None
wait_told (Some meta) = meta.retry_after_ms

abbrev pub core_response : Response → ClientResponse
core_response r = record {
  error = known_error r.error;
  leader_hint = hint_told r.metadata;
  retry_after_ms = wait_told r.metadata;
  result = r.success_result;
}
