-- The messages of a stream of bytes. A message is a request's head and a body. The head follows the grammar of httparse (RFC 9112, sections 2 to 5).
-- The body has the length that the head's fields say.
use Rattle.std.specs.Prelude.{◌≡◌, ℕ, ◌<◌, ◌≤◌, ◌⊎◌, List, [], ◌∷◌, ◌++◌, map, length, Ok, Err}
use Rattle.httparse.specs.Grammar.{RequestHead, print_request, ReadsRequest, HasNoRequest, NeverHasRequest, EndsInTarget, MayBecomeRequest}
use Rattle.httparse.specs.Spans.{name_and_value}
use Rattle.reg_core.specs.declared.code.Code.{Code}
use Rattle.reg_core.specs.declared.code.Code.TheVariants.{MalformedRequest}
use Rattle.reg_messages.specs.Fields.{HeaderField}
use Rattle.reg_messages.specs.Framing.{body_length_from_fields}

-- the maximum size of a head in bytes, including the empty lines before its request line and at its end (this project's choice)
abbrev pub max_head : ℕ
max_head = 16384

pub record Message : Type 0 where
  pub head : RequestHead
  pub body : List ℕ

-- the bytes are a head within the size limit, followed by the rest
pub record HasHead (bytes : List ℕ) (head : RequestHead) (rest : List ℕ) : Type 0 where
  pub reads : ReadsRequest bytes head rest
  pub size : length (print_request head) ≤ max_head

-- the names and values of the head's fields
abbrev pub fields_of : RequestHead → List HeaderField
fields_of head = map name_and_value head.fields

-- The bytes are the message, followed by the rest. The message's head is within the size limit, and its fields give the length of the body.
pub record StartsWithMessage (bytes : List ℕ) (message : Message) (rest : List ℕ) : Type 0 where
  pub head : HasHead bytes message.head (message.body ++ rest)
  pub body : body_length_from_fields (fields_of message.head) ≡ Ok (length message.body)

-- the bytes are these whole messages, in order, followed by the rest, which may begin with another message
abbrev pub StartsWithMessages : List ℕ → List Message → List ℕ → Type 0
StartsWithMessages bytes [] rest = bytes ≡ rest
StartsWithMessages bytes (m ∷ ms) rest = (mid : List ℕ) × StartsWithMessage bytes m mid × StartsWithMessages mid ms rest

-- the bytes don't begin with a head within the size limit
abbrev pub HasNoHead : List ℕ → Type 0
HasNoHead bytes = (head : RequestHead) (rest : List ℕ) → ¬ (HasHead bytes head rest)

-- less than a whole head: more bytes may complete it, or the bytes end inside its target
pub record IsPartOfHead (bytes : List ℕ) : Type 0 where
  pub some : 0 < length bytes
  pub size : length bytes < max_head
  pub none_yet : HasNoRequest bytes
  pub may_become : MayBecomeRequest bytes

-- a whole head, and less than its body
pub record IsPartOfBody (bytes : List ℕ) : Type 0 where
  pub head : RequestHead
  pub rest : List ℕ
  pub size : ℕ
  pub has_head : HasHead bytes head rest
  pub framed : body_length_from_fields (fields_of head) ≡ Ok size
  pub short : length rest < size

-- no further bytes can complete a head, or the bytes reach the size limit without one
abbrev pub NeverHasHead : List ℕ → Type 0
NeverHasHead bytes = NeverHasRequest bytes ⊎ ((max_head ≤ length bytes) × HasNoHead bytes)

-- a whole head whose fields have a fault
pub record HasFaultyHead (bytes : List ℕ) (code : Code) : Type 0 where
  pub head : RequestHead
  pub rest : List ℕ
  pub has_head : HasHead bytes head rest
  pub framed : body_length_from_fields (fields_of head) ≡ Err code

-- what follows the whole messages
pub data Tail : Type 0 where
  End Part : Tail
  Faulty : Code → Tail

-- Nothing follows, or a part of a message, or a fault: that of the head's fields, or `MalformedRequest` if the bytes never have a head. If the bytes
-- end inside a target that no bytes can continue to a head, they are both a part and a fault: the grammar leaves this case open.
abbrev pub Follows : List ℕ → Tail → Type 0
Follows bytes End = bytes ≡ []
Follows bytes Part = IsPartOfHead bytes ⊎ IsPartOfBody bytes
Follows bytes (Faulty code) = ((code ≡ MalformedRequest) × NeverHasHead bytes) ⊎ HasFaultyHead bytes code

-- the bytes end inside a target, and are read as a part and as a fault
abbrev pub IsAmbiguous : List ℕ → Tail → Tail → Type 0
IsAmbiguous bytes t u = EndsInTarget bytes × (t ≡ Part) × (u ≡ Faulty MalformedRequest)

-- two readings of the remainder are equal, unless it is ambiguous (`IsAmbiguous`)
abbrev pub Agree : List ℕ → Tail → Tail → Type 0
Agree bytes t u = (t ≡ u) ⊎ (IsAmbiguous bytes t u ⊎ IsAmbiguous bytes u t)

-- the bytes are these whole messages, followed by this remainder
pub record Messages (bytes : List ℕ) (messages : List Message) (tail : Tail) : Type 0 where
  pub rest : List ℕ
  pub leads : StartsWithMessages bytes messages rest
  pub follows : Follows rest tail
