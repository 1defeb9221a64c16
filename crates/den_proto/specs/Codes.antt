-- Codes: those of messages and those of values, name by name, and their numbers.
use Rattle.std.specs.Prelude.{ℕ, ℤ, pos, negsuc, List, Option, None, unwrap_or, codes}
use Rattle.std.specs.List.{slice_get}
use Rattle.den_model.specs.ReplyReading.{all_codes}
use Rattle.den_model.specs.declared.reply.ErrorCode.{ErrorCode}
use Rattle.den_model.specs.declared.reply.ErrorCode.TheVariants as code
use Rattle.den_proto.specs.declared.proto.ErrorCode.{ErrorCode as ProtoCode}
use Rattle.den_proto.specs.declared.proto.ErrorCode.TheVariants as message

-- the code of the same name
abbrev pub core_code : ProtoCode → ErrorCode
core_code message.Success = code.Success
core_code message.ConnectionTimeout = code.ConnectionTimeout
core_code message.InvalidAddress = code.InvalidAddress
core_code message.LeaderChanged = code.LeaderChanged
core_code message.JoinError = code.JoinError
core_code message.InvalidResponse = code.InvalidResponse
core_code message.VersionMismatch = code.VersionMismatch
core_code message.DiskFull = code.DiskFull
core_code message.DataCorruption = code.DataCorruption
core_code message.StorageIoError = code.StorageIoError
core_code message.StoragePermissionDenied = code.StoragePermissionDenied
core_code message.KeyNotExist = code.KeyNotExist
core_code message.NotLeader = code.NotLeader
core_code message.StaleOperation = code.StaleOperation
core_code message.InvalidRequest = code.InvalidRequest
core_code message.RateLimited = code.RateLimited
core_code message.ClusterUnavailable = code.ClusterUnavailable
core_code message.ProposeFailed = code.ProposeFailed
core_code message.TermOutdated = code.TermOutdated
core_code message.RetryRequired = code.RetryRequired
core_code message.WatchBufferOverflow = code.WatchBufferOverflow
core_code message.General = code.General
core_code message.Uncategorized = code.Uncategorized

abbrev pub proto_code : ErrorCode → ProtoCode
proto_code code.Success = message.Success
proto_code code.ConnectionTimeout = message.ConnectionTimeout
proto_code code.InvalidAddress = message.InvalidAddress
proto_code code.LeaderChanged = message.LeaderChanged
proto_code code.JoinError = message.JoinError
proto_code code.InvalidResponse = message.InvalidResponse
proto_code code.VersionMismatch = message.VersionMismatch
proto_code code.DiskFull = message.DiskFull
proto_code code.DataCorruption = message.DataCorruption
proto_code code.StorageIoError = message.StorageIoError
proto_code code.StoragePermissionDenied = message.StoragePermissionDenied
proto_code code.KeyNotExist = message.KeyNotExist
proto_code code.NotLeader = message.NotLeader
proto_code code.StaleOperation = message.StaleOperation
proto_code code.InvalidRequest = message.InvalidRequest
proto_code code.RateLimited = message.RateLimited
proto_code code.ClusterUnavailable = message.ClusterUnavailable
proto_code code.ProposeFailed = message.ProposeFailed
proto_code code.TermOutdated = message.TermOutdated
proto_code code.RetryRequired = message.RetryRequired
proto_code code.WatchBufferOverflow = message.WatchBufferOverflow
proto_code code.General = message.General
proto_code code.Uncategorized = message.Uncategorized

-- the code of a number
abbrev pub error_of : ℤ → Option ErrorCode
error_of (pos n) = slice_get all_codes n
error_of (negsuc n) = None

-- the code that a message's number is taken for
abbrev pub known_error : ℤ → ErrorCode
known_error n = unwrap_or (error_of n) code.Uncategorized

-- the name of a code
abbrev pub error_name : ErrorCode → List ℕ
error_name code.Success = codes "Success"
error_name code.ConnectionTimeout = codes "ConnectionTimeout"
error_name code.InvalidAddress = codes "InvalidAddress"
error_name code.LeaderChanged = codes "LeaderChanged"
error_name code.JoinError = codes "JoinError"
error_name code.InvalidResponse = codes "InvalidResponse"
error_name code.VersionMismatch = codes "VersionMismatch"
error_name code.DiskFull = codes "DiskFull"
error_name code.DataCorruption = codes "DataCorruption"
error_name code.StorageIoError = codes "StorageIoError"
error_name code.StoragePermissionDenied = codes "StoragePermissionDenied"
error_name code.KeyNotExist = codes "KeyNotExist"
error_name code.NotLeader = codes "NotLeader"
error_name code.StaleOperation = codes "StaleOperation"
error_name code.InvalidRequest = codes "InvalidRequest"
error_name code.RateLimited = codes "RateLimited"
error_name code.ClusterUnavailable = codes "ClusterUnavailable"
error_name code.ProposeFailed = codes "ProposeFailed"
error_name code.TermOutdated = codes "TermOutdated"
error_name code.RetryRequired = codes "RetryRequired"
error_name code.WatchBufferOverflow = codes "WatchBufferOverflow"
error_name code.General = codes "General"
error_name code.Uncategorized = codes "Uncategorized"
