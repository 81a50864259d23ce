-- Messages that are borrowed from the input.
use Rattle.std.specs.Prelude.{◌≡◌, List, map}
use Rattle.httparse.specs.Spans.{header_bytes}
use Rattle.reg_messages.specs.declared.request.Request.{Request}
use Rattle.reg_messages.specs.Fields.{HeaderField}
use Rattle.reg_messages.specs.Messages.{Message, fields_of}

-- the names and values of a borrowed request's fields
abbrev pub fields_in : Request → List HeaderField
fields_in r = map (header_bytes r.head.now) r.fields.now

-- the borrowed request has the parts of the message
pub record Borrows (r : Request) (message : Message) : Type 0 where
  pub method : r.method.now ≡ message.head.method
  pub target : r.target.now ≡ message.head.target
  pub minor : r.minor ≡ message.head.minor
  pub fields : fields_in r ≡ fields_of message.head
  pub body : r.body.now ≡ message.body
