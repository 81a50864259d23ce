-- How memory represents a reply, and what a client sees of it.
use Rattle.std.specs.Prelude.{string_bytes}
use Rattle.reg_core.specs.declared.reply.Content.{Content}
use Rattle.reg_core.specs.declared.reply.Content.TheVariants.{Written, Fault}
use Rattle.reg_core.specs.Replies.{ReplyView, fault, IsReplyStatus}

-- this project's choice: a fault is represented by its code, any other reply by its status and body
abbrev pub reply_of : Content → ReplyView
reply_of (Written status body) = record { status = status; body = string_bytes body }
reply_of (Fault code) = fault code

-- RFC 9110, section 15: the status is one of the nine `reply_statuses`
abbrev pub HasStatus : Content → Type 0
HasStatus content = IsReplyStatus (reply_of content).status
