-- The reply to a message.
use Rattle.std.proofs.Common.{◌≡◌, [], ◌∷◌, sym, ap, ◌∙◌, inl, inr, subst}
use Rattle.std.specs.Prelude.{ℕ, List, Option, Result, Ok, Err}
use Rattle.reg_messages.specs.Messages.{Message}
use Rattle.reg_messages.specs.BorrowedRequests.{Borrows, fields_in}
use Rattle.reg_messages.specs.Closing.{closes, closes_by}
use Rattle.reg_messages.specs.declared.request.Request.{Request}
use Rattle.reg_routes.specs.Deliveries.{Rejection, IsRejected, requested, requested_by, delivery_of}
use Rattle.reg_core.specs.declared.code.Code.{Code}
use Rattle.reg_core.specs.declared.code.Code.TheVariants.{BackendFault}
use Rattle.reg_core.specs.Replies.{ReplyView, fault}
use Rattle.reg_core.specs.declared.delivery.Delivery.{Delivery}
use Rattle.reg_service.specs.Deliveries.{Exchange}
use Rattle.reg_http.specs.Inside.Replying.{IsReplyTo}

-- a message with a delivery
pub IsReplyTo-delivered : (P : List Exchange → Type 0) (what : Result Delivery Rejection) (d : Delivery) (reply : ReplyView) → what ≡ Ok d → P ((d, reply) ∷ []) → IsReplyTo P what reply
IsReplyTo-delivered P what d reply e s =
    let All : Result Delivery Rejection → Type 0 = λ w. IsReplyTo P w reply in
    subst All (sym e) (record { rejected = tt; serves = s })

-- A rejected message isn't executed, so its reply is a fault.
pub IsReplyTo-rejected : (P : List Exchange → Type 0) (what : Result Delivery Rejection) (code : Code) (allow : Option (List ℕ)) (reply : ReplyView)
    → P [] → ((d : Delivery) → reply ≡ fault BackendFault → P ((d, reply) ∷ [])) → IsRejected what code allow → reply ≡ fault code → IsReplyTo P what reply
IsReplyTo-rejected P (Ok d) code allow reply none refused (inl b) e = record { rejected = tt; serves = refused d (e ∙ ap fault b.0) }
IsReplyTo-rejected P (Ok d) code allow reply none refused (inr h) e = absurd (cc)
IsReplyTo-rejected P (Err other) code allow reply none refused (inl b) e = record { rejected = inr (e ∙ ap fault b.0); serves = none }
IsReplyTo-rejected P (Err other) code allow reply none refused (inr h) e =
    let same : (code, allow) ≡ other = cc in
    record { rejected = inl (e ∙ ap (λ (rejection : Rejection). fault rejection.0) same); serves = none }

-- a borrowed request has the message's delivery, and ends the connection exactly if the message does
pub requested_of_borrowed : (r : Request) (m : Message) → Borrows r m → requested_by r ≡ delivery_of m
requested_of_borrowed r m b = λ i. requested (b.method i) (b.target i) (b.fields i) (b.body i)

pub closes_of_borrowed : (r : Request) (m : Message) → Borrows r m → closes_by r.minor (fields_in r) ≡ closes m
closes_of_borrowed r m b = λ i. closes_by (b.minor i) (b.fields i)
