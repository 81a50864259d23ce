-- The reply to one message.
use Rattle.std.specs.Prelude.{List, Result}
use Rattle.reg_core.specs.Replies.{ReplyView}
use Rattle.reg_core.specs.declared.delivery.Delivery.{Delivery}
use Rattle.reg_service.specs.Deliveries.{Exchange}
use Rattle.reg_routes.specs.Deliveries.{Rejection}
use Rattle.reg_http.specs.Output.{IsFaultIfRejected, exchange_of}

-- The reply is a fault if the message has no delivery. `AreServed` is true of the message's exchange, or of no exchange if it has no
-- delivery.
pub record IsReplyTo (AreServed : List Exchange → Type 0) (expected : Result Delivery Rejection) (reply : ReplyView) : Type 0 where
  pub rejected : IsFaultIfRejected expected reply
  pub serves : AreServed (exchange_of expected reply)
