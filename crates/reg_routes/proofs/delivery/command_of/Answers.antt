use Rattle.std.proofs.Common.{◌≡◌, ◌⊎◌, ℕ, List, refl, sym, ap, ◌∙◌, inl, inr}
use Rattle.std.specs.Prelude.{Some, None, Err, Result}
use Rattle.reg_core.specs.declared.code.Code.{Code}
use Rattle.reg_core.specs.declared.code.Code.TheVariants.{BackendFault, NotFound, MethodNotAllowed}
use Rattle.reg_core.specs.declared.delivery.Delivery.{Delivery}
use Rattle.reg_messages.specs.Fields.{HeaderField}
use Rattle.reg_messages.specs.BorrowedRequests.{fields_in}
use Rattle.reg_routes.specs.declared.resource.Resource.{Resource}
use Rattle.reg_routes.specs.declared.resource.Operation.{Operation}
use Rattle.reg_routes.specs.Routes.{resource_of, methods_of, operation_for, allow_of}
use Rattle.reg_routes.specs.Targets.{path_of, query_of}
use Rattle.reg_routes.specs.Commands.{command_from}
use Rattle.reg_routes.specs.Deliveries.{Rejection, IsRejected, requested, by_resource, by_method, rejected_without_allow, delivery_from}
use Rattle.reg_routes.proofs.delivery.command_of.Goals as goal

-- a path without a resource, a resource without the method, and all other requests
nowhere : (method target : List ℕ) (fields : List HeaderField) (body : List ℕ) → None ≡ resource_of (path_of target)
    → requested method target fields body ≡ Err (NotFound, None)
unfolding requested
nowhere method target fields body e = ap (λ resource. by_resource resource method target fields body) (sym e)

another_method : (method target : List ℕ) (fields : List HeaderField) (body : List ℕ) (resource : Resource) → Some resource ≡ resource_of (path_of target)
    → None ≡ operation_for method (methods_of resource) → requested method target fields body ≡ Err (MethodNotAllowed, Some (allow_of resource))
unfolding requested
another_method method target fields body resource e f =
    ap (λ l. by_resource l method target fields body) (sym e) ∙ ap (λ a. by_method resource a target fields body) (sym f)

by_command : (method target : List ℕ) (fields : List HeaderField) (body : List ℕ) (resource : Resource) (a : Operation) → Some resource ≡ resource_of (path_of target)
    → Some a ≡ operation_for method (methods_of resource)
    → requested method target fields body ≡ rejected_without_allow (delivery_from (command_from a (path_of target) (query_of target) body) fields)
unfolding requested
by_command method target fields body resource a e f =
    ap (λ l. by_resource l method target fields body) (sym e) ∙ ap (λ x. by_method resource x target fields body) (sym f)

refused : (what : Result Delivery Rejection) (inner : Result Delivery Code) (code : Code) → what ≡ rejected_without_allow inner
    → (code ≡ BackendFault) ⊎ (inner ≡ Err code) → IsRejected what code None
refused what inner code e (inl b) = inl (b, refl)
refused what inner code e (inr h) = inr (e ∙ ap rejected_without_allow h)

pub returns-in_default : goal.returns-in_default
returns-in_default c =
    let r = c.args.request.now in
    inr (nowhere r.method.now r.target.now (fields_in r) r.body.now (rw c.of-target.ensures.path at c.in_default.ensures))

pub returns-in_default-operation : goal.returns-in_default-operation
returns-in_default-operation c =
    let r = c.args.request.now in
    inr (another_method r.method.now r.target.now (fields_in r) r.body.now c.in-Some.resource (rw c.of-target.ensures.path at c.in-Some.ensures) c.in_default-operation.ensures
    ∙ ap (λ methods. Err (MethodNotAllowed, Some methods)) (sym c.allow.ensures))

pub returns-in-Ok : goal.returns-in-Ok
returns-in-Ok c =
    let r = c.args.request.now in
    by_command r.method.now r.target.now (fields_in r) r.body.now c.in-Some.resource c.in-Some-operation.operation (rw c.of-target.ensures.path at c.in-Some.ensures) c.in-Some-operation.ensures
    ∙ ap rejected_without_allow (rw (c.of-target.ensures.path, c.of-target.ensures.query) at c.in-Ok.ensures)

pub returns-in-Err : goal.returns-in-Err
returns-in-Err c =
    let r = c.args.request.now in
    refused _ _ c.in-Err.code
    (by_command r.method.now r.target.now (fields_in r) r.body.now c.in-Some.resource c.in-Some-operation.operation (rw c.of-target.ensures.path at c.in-Some.ensures) c.in-Some-operation.ensures)
    (rw (c.of-target.ensures.path, c.of-target.ensures.query) at c.in-Err.ensures)
