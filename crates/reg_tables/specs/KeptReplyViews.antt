-- A kept reply of the code, as contracts see it.
use Rattle.std.specs.Prelude.{string_bytes}
use Rattle.reg_tables.specs.declared.kept.KeptReply.{KeptReply}
use Rattle.reg_tables.specs.Contents.{KeptReplyView}

abbrev pub kept_reply_view : KeptReply → KeptReplyView
kept_reply_view reply = record { command = string_bytes reply.command; status = reply.status; body = string_bytes reply.body }
