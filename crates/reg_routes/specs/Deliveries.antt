-- The delivery that a message makes, or why it is rejected.
use Rattle.std.specs.Prelude.{◌≡◌, ◌⊎◌, ℕ, ◌==◌, List, codes, Option, Some, None, Result, Ok, Err, if◌then◌else◌}
use Rattle.reg_core.specs.declared.code.Code.{Code}
use Rattle.reg_core.specs.declared.code.Code.TheVariants.{BackendFault, MalformedRequest, NotFound, MethodNotAllowed}
use Rattle.reg_core.specs.declared.command.Command.{Command}
use Rattle.reg_core.specs.declared.delivery.Delivery.{Delivery}
use Rattle.reg_core.specs.Replies.{ReplyView}
use Rattle.reg_messages.specs.Fields.{HeaderField, values_named}
use Rattle.reg_messages.specs.Messages.{Message, fields_of}
use Rattle.reg_messages.specs.BorrowedRequests.{fields_in}
use Rattle.reg_messages.specs.declared.request.Request.{Request}
use Rattle.reg_routes.specs.declared.resource.Resource.{Resource}
use Rattle.reg_routes.specs.declared.resource.Operation.{Operation}
use Rattle.reg_routes.specs.Routes.{resource_of, methods_of, operation_for, allow_of}
use Rattle.reg_routes.specs.Targets.{path_of, query_of}
use Rattle.reg_routes.specs.Commands.{command_from}
use Rattle.reg_routes.specs.Keys.{retry_key_for}

-- the code of a fault, and the path's methods if the message's method isn't one of them
abbrev pub Rejection : Type 0
Rejection = Code × Option (List ℕ)

-- the delivery of a command with this retry key, or without one; or the code of the key's fault
abbrev pub with_retry_key : Command → Result (Option (List ℕ)) Code → Result Delivery Code
with_retry_key command (Err code) = Err code
with_retry_key command (Ok key) = Ok (record { key = key; command = command })

-- the values of the retry key fields
abbrev pub keys_in : List HeaderField → List (List ℕ)
keys_in fields = values_named (codes "Registry-Retry-Key") fields

-- the delivery of a command with its retry key; MalformedRequest if there is no command, or if a write's retry key is invalid or repeated
abbrev pub delivery_from : Option Command → List HeaderField → Result Delivery Code
delivery_from None fields = Err MalformedRequest
delivery_from (Some command) fields = with_retry_key command (retry_key_for command (keys_in fields))

-- the same delivery, or the fault without methods for an `Allow` field
abbrev pub rejected_without_allow : Result Delivery Code → Result Delivery Rejection
rejected_without_allow (Ok delivery) = Ok delivery
rejected_without_allow (Err code) = Err (code, None)

-- the result of `delivery_from` for an operation on a resource; MethodNotAllowed with the resource's methods if there is no operation
abbrev pub by_method : Resource → Option Operation → List ℕ → List HeaderField → List ℕ → Result Delivery Rejection
by_method resource None target fields body = Err (MethodNotAllowed, Some (allow_of resource))
by_method resource (Some operation) target fields body = rejected_without_allow (delivery_from (command_from operation (path_of target) (query_of target) body) fields)

-- the result of `by_method` for a method on a resource; NotFound if there is no resource
abbrev pub by_resource : Option Resource → List ℕ → List ℕ → List HeaderField → List ℕ → Result Delivery Rejection
by_resource None method target fields body = Err (NotFound, None)
by_resource (Some resource) method target fields body = by_method resource (operation_for method (methods_of resource)) target fields body

-- The delivery that method, target, fields and body make. The path is checked first, then the method, then the rest.
unfoldable pub requested : List ℕ → List ℕ → List HeaderField → List ℕ → Result Delivery Rejection
requested method target fields body = by_resource (resource_of (path_of target)) method target fields body

-- the delivery that a message makes, or why it is rejected
abbrev pub delivery_of : Message → Result Delivery Rejection
delivery_of message = requested message.head.method message.head.target (fields_of message.head) message.body

-- the same for a borrowed message
abbrev pub requested_by : Request → Result Delivery Rejection
requested_by r = requested r.method.now r.target.now (fields_in r) r.body.now

-- how a message is rejected: with the code and methods of the expected result, or with `BackendFault` and no methods (only if an allocation fails)
abbrev pub IsRejected : Result Delivery Rejection → Code → Option (List ℕ) → Type 0
IsRejected expected code allow = ((code ≡ BackendFault) × (allow ≡ None)) ⊎ (expected ≡ Err (code, allow))

-- the `Allow` field of the reply to a message: the path's methods, if the reply is 405 (RFC 9110, section 15.5.6)
abbrev pub allow_field : Result Delivery Rejection → ReplyView → Option (List ℕ)
allow_field (Ok delivery) reply = None
allow_field (Err rejection) reply = if reply.status == 405 then rejection.1 else None
