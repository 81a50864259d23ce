-- The methods in the `Allow` field of a rejection.
use Rattle.std.proofs.Common.{◌≡◌, ℕ, Bool, true, false, List, refl, sym, ap, ◌∙◌, inl, inr}
use Rattle.std.specs.Prelude.{Option, Some, None, Result, Ok, Err, cond, ◌==◌}
use Rattle.reg_core.specs.declared.code.Code.{Code}
use Rattle.reg_core.specs.declared.code.Code.TheVariants.{NotFound, MethodNotAllowed}
use Rattle.reg_core.specs.declared.delivery.Delivery.{Delivery}
use Rattle.reg_core.specs.Replies.{ReplyView, fault}
use Rattle.reg_messages.specs.Fields.{HeaderField}
use Rattle.reg_routes.specs.declared.resource.Resource.{Resource}
use Rattle.reg_routes.specs.declared.resource.Operation.{Operation}
use Rattle.reg_routes.specs.Routes.{resource_of, methods_of, operation_for, allow_of}
use Rattle.reg_routes.specs.Targets.{path_of}
use Rattle.reg_routes.specs.Deliveries.{Rejection, rejected_without_allow, by_method, by_resource, requested, allow_field, IsRejected}

-- the methods of a rejection are those in the `Allow` field of its fault
IsDue : Rejection → Type 0
IsDue rejection = (reply : ReplyView) → reply ≡ fault rejection.0 → rejection.1 ≡ allow_field (Err rejection) reply

-- no other status has methods
none_due : (rejection : Rejection) → rejection.1 ≡ None → IsDue rejection
unfolding IsDue
none_due rejection none reply e = by (reply.status == 405)
  where
    by : (b : Bool) → rejection.1 ≡ cond b rejection.1 None
    by true = refl
    by false = none

plain_due : (what : Result Delivery Code) (rejection : Rejection) → rejected_without_allow what ≡ Err rejection → IsDue rejection
plain_due (Ok delivery) rejection e = absurd (cc)
plain_due (Err code) rejection e =
    let same : (code, None) ≡ rejection = cc in
    none_due rejection (sym (ap (λ (r : Rejection). r.1) same))

method_due : (resource : Resource) (a : Option Operation) (target : List ℕ) (fields : List HeaderField) (body : List ℕ) (rejection : Rejection)
    → by_method resource a target fields body ≡ Err rejection → IsDue rejection
unfolding IsDue
method_due resource None target fields body rejection e = λ reply is.
    let same : (MethodNotAllowed, Some (allow_of resource)) ≡ rejection = cc in
    let status : reply ≡ fault MethodNotAllowed = is ∙ ap (λ (r : Rejection). fault r.0) (sym same) in
    ap (λ (told : ReplyView). cond (told.status == 405) rejection.1 None) (sym status)
method_due resource (Some a) target fields body rejection e = plain_due _ rejection e

resource_due : (resource : Option Resource) (method target : List ℕ) (fields : List HeaderField) (body : List ℕ) (rejection : Rejection)
    → by_resource resource method target fields body ≡ Err rejection → IsDue rejection
resource_due None method target fields body rejection e =
    let same : (NotFound, None) ≡ rejection = cc in
    none_due rejection (sym (ap (λ (r : Rejection). r.1) same))
resource_due (Some resource) method target fields body rejection e = method_due resource (operation_for method (methods_of resource)) target fields body rejection e

requested_due : (method target : List ℕ) (fields : List HeaderField) (body : List ℕ) (rejection : Rejection) → requested method target fields body ≡ Err rejection → IsDue rejection
unfolding requested
requested_due method target fields body rejection e = resource_due (resource_of (path_of target)) method target fields body rejection e

due : (what : Result Delivery Rejection) (code : Code) (allow : Option (List ℕ)) (reply : ReplyView) → ((rejection : Rejection) → what ≡ Err rejection → IsDue rejection)
    → IsRejected what code allow → reply ≡ fault code → allow ≡ allow_field what reply
unfolding IsDue
due (Ok delivery) code allow reply all (inl b) e = b.1
due (Ok delivery) code allow reply all (inr h) e = absurd (cc)
due (Err rejection) code allow reply all (inl b) e = b.1 ∙ sym (ap (λ (told : ReplyView). cond (told.status == 405) rejection.1 None) (e ∙ ap fault b.0))
due (Err rejection) code allow reply all (inr h) e =
    let same : rejection ≡ (code, allow) = cc in
    ap (λ (r : Rejection). r.1) (sym same) ∙ all rejection refl reply (e ∙ ap (λ (r : Rejection). fault r.0) (sym same))

-- the methods with a fault are those of the `Allow` field
pub allow_due : (method target : List ℕ) (fields : List HeaderField) (body : List ℕ) (code : Code) (allow : Option (List ℕ)) (reply : ReplyView)
    → IsRejected (requested method target fields body) code allow → reply ≡ fault code → allow ≡ allow_field (requested method target fields body) reply
allow_due method target fields body code allow reply = due (requested method target fields body) code allow reply (requested_due method target fields body)
