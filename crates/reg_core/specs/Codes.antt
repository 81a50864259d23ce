-- The error codes of refusals and faults.
use Rattle.std.specs.Prelude.{ℕ, ◌/◌, nat_lt, if◌then◌else◌, List, ◌++◌, codes, decimal}
use Rattle.reg_core.specs.declared.code.Code.{Code}
use Rattle.reg_core.specs.declared.code.Code.TheVariants.{MalformedRequest, NotFound, SubjectNotFound, VersionNotFound, SchemaNotFound, SubjectSoftDeleted, SubjectNotSoftDeleted, VersionSoftDeleted, VersionNotSoftDeleted, NoOwnLevel, NoOwnMode, MethodNotAllowed, Incompatible, BodyTooLarge, InvalidSchema, InvalidVersion, InvalidLevel, InvalidMode, NotPermitted, KeyReused, NoNumberLeft, TransferCodingNotSupported, BackendFault}

-- Schema Registry API reference, errors: the number of a code.
-- (This project's choice: 40001, 40404 to 40409, 42290 and 42292.)
abbrev pub number_of : Code → ℕ
number_of MalformedRequest = 40001
number_of NotFound = 404
number_of SubjectNotFound = 40401
number_of VersionNotFound = 40402
number_of SchemaNotFound = 40403
number_of SubjectSoftDeleted = 40404
number_of SubjectNotSoftDeleted = 40405
number_of VersionSoftDeleted = 40406
number_of VersionNotSoftDeleted = 40407
number_of NoOwnLevel = 40408
number_of NoOwnMode = 40409
number_of MethodNotAllowed = 405
number_of Incompatible = 409
number_of BodyTooLarge = 413
number_of InvalidSchema = 42201
number_of InvalidVersion = 42202
number_of InvalidLevel = 42203
number_of InvalidMode = 42204
number_of NotPermitted = 42205
number_of KeyReused = 42290
number_of NoNumberLeft = 42292
number_of TransferCodingNotSupported = 501
number_of BackendFault = 50001

-- RFC 9110, section 15: a status has three digits; here, the first three of a number of three or five digits
abbrev pub first_three_digits : ℕ → ℕ
first_three_digits n = if nat_lt n 1000 then n else n / 100

-- Schema Registry API reference, errors: the HTTP status of a code, with which its number begins
abbrev pub status_of : Code → ℕ
status_of code = first_three_digits (number_of code)

-- this project's choice: the message of a code
abbrev pub message_of : Code → List ℕ
message_of MalformedRequest = codes "Malformed request"
message_of NotFound = codes "Not found"
message_of SubjectNotFound = codes "Subject not found"
message_of VersionNotFound = codes "Version not found"
message_of SchemaNotFound = codes "Schema not found"
message_of SubjectSoftDeleted = codes "Subject is soft-deleted"
message_of SubjectNotSoftDeleted = codes "Subject is not soft-deleted"
message_of VersionSoftDeleted = codes "Version is soft-deleted"
message_of VersionNotSoftDeleted = codes "Version is not soft-deleted"
message_of NoOwnLevel = codes "Subject has no level of its own"
message_of NoOwnMode = codes "Subject has no mode of its own"
message_of MethodNotAllowed = codes "Method not allowed"
message_of Incompatible = codes "Schema is incompatible with an earlier version"
message_of BodyTooLarge = codes "Body too large"
message_of InvalidSchema = codes "Invalid schema"
message_of InvalidVersion = codes "Invalid version"
message_of InvalidLevel = codes "Invalid compatibility level"
message_of InvalidMode = codes "Invalid mode"
message_of NotPermitted = codes "Operation not permitted"
message_of KeyReused = codes "Retry key was used for another request"
message_of NoNumberLeft = codes "No number is left"
message_of TransferCodingNotSupported = codes "Transfer coding not supported"
message_of BackendFault = codes "Error in the backend data store"

-- Schema Registry API reference, errors: {"error_code":n,"message":"M"}
unfoldable pub fault_body : Code → List ℕ
fault_body code = codes "{\"error_code\":" ++ decimal (number_of code) ++ codes ",\"message\":\"" ++ message_of code ++ codes "\"}"
