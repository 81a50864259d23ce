-- What one parse of the front of the bytes returns.
use Rattle.std.specs.Prelude.{◌≡◌, ℕ, ◌+◌, ◌<◌, ◌≤◌, List, ◌++◌, map, length, take, drop}
use Rattle.httparse.specs.declared.spans.HeaderSpan.{HeaderSpan}
use Rattle.httparse.specs.Spans.{IsRequestWithin, span_bytes, header_bytes}
use Rattle.reg_messages.specs.declared.message.MessageSpans.{MessageSpans}
use Rattle.reg_messages.specs.declared.message.ParseOutcome.{ParseOutcome}
use Rattle.reg_messages.specs.declared.message.ParseOutcome.TheVariants.{Whole as WholeLook, Nothing, Part as PartLook, Faulty as FaultyLook, TooManyFields}
use Rattle.reg_messages.specs.Framing.{max_body}
use Rattle.reg_messages.specs.Messages.{Message, max_head, StartsWithMessage, Follows, End, Part, Faulty, fields_of}

-- the bytes of the head
abbrev pub head_bytes : List ℕ → MessageSpans → List ℕ
head_bytes bytes whole = take whole.head.len bytes

-- The message is at the front of the bytes, and `whole` has the positions of its parts in `headers` and in the bytes.
pub record IsWholeMessage (bytes : List ℕ) (headers : List HeaderSpan) (whole : MessageSpans) (message : Message) : Type 0 where
  pub reads : StartsWithMessage bytes message (drop (whole.head.len + whole.body) bytes)
  pub size : whole.head.len + whole.body ≤ length bytes
  pub some : 0 < whole.head.len
  pub within : IsRequestWithin (head_bytes bytes whole) headers whole.head
  pub method : span_bytes (head_bytes bytes whole) whole.head.method ≡ message.head.method
  pub target : span_bytes (head_bytes bytes whole) whole.head.path ≡ message.head.target
  pub minor : whole.head.version ≡ message.head.minor
  pub fields : map (header_bytes (head_bytes bytes whole)) (take whole.head.headers headers) ≡ fields_of message.head
  pub body : take whole.body (drop whole.head.len bytes) ≡ message.body

-- The bytes are less than a whole message. With any bytes after them they remain so, until there are `needs` bytes in all. These fit into a buffer of
-- the maximum sizes of a head and a body.
pub record IsPartialUntil (bytes : List ℕ) (needs : ℕ) : Type 0 where
  pub short : length bytes < needs
  pub fits : needs ≤ max_head + max_body
  pub part : (more : List ℕ) → length (bytes ++ more) < needs → Follows (bytes ++ more) Part

-- the outcome of a parse with room for `room` fields; `max_head` fields are enough for every head
abbrev pub ParsesAs : ℕ → List ℕ → List HeaderSpan → ParseOutcome → Type 0
ParsesAs room bytes headers (WholeLook whole) = (message : Message) × IsWholeMessage bytes headers whole message
ParsesAs room bytes headers Nothing = Follows bytes End
ParsesAs room bytes headers (PartLook needs) = IsPartialUntil bytes needs
ParsesAs room bytes headers (FaultyLook code) = Follows bytes (Faulty code)
ParsesAs room bytes headers TooManyFields = room < max_head
