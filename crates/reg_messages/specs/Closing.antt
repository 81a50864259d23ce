-- Whether the connection ends after the response to a message (RFC 9112, sections 9.3 and 9.6).
use Rattle.std.specs.Prelude.{ℕ, Bool, ◌||◌, ◌==◌, List, codes}
use Rattle.http1.specs.Fields.{has_option, elements_named}
use Rattle.reg_messages.specs.Fields.{HeaderField}
use Rattle.reg_messages.specs.Messages.{Message, fields_of}

-- whether the connection ends: the minor version is 0 (HTTP/1.0), or a Connection field lists the token `close`, regardless of case
unfoldable pub closes_by : ℕ → List HeaderField → Bool
closes_by minor fields = minor == 0 || has_option (codes "close") (elements_named (codes "connection") fields)

-- whether the connection ends after the response to this message
abbrev pub closes : Message → Bool
closes message = closes_by message.head.minor (fields_of message.head)
