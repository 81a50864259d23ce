-- The length of a message's body, by the fields of its head (RFC 9112, section 6).
use Rattle.std.specs.Prelude.{ℕ, Bool, ◌&&◌, List, [], ◌∷◌, length, codes, nat_lt, nat_le, Result, Ok, Err, if◌then◌else◌}
use Rattle.std.specs.List.{list_all}
use Rattle.std.specs.Char.{is_ascii_digit}
use Rattle.std.specs.Str.Parse.{digits_value}
use Rattle.reg_core.specs.declared.code.Code.{Code}
use Rattle.reg_core.specs.declared.code.Code.TheVariants.{MalformedRequest, TransferCodingNotSupported, BodyTooLarge}
use Rattle.reg_messages.specs.Fields.{HeaderField, values_named}

-- the maximum size of a body in bytes (this project's choice)
abbrev pub max_body : ℕ
max_body = 1048576

-- whether a Content-Length value is 1 to 19 ASCII digits (the limit of 19 is this project's choice)
abbrev pub is_length : List ℕ → Bool
is_length text = nat_lt 0 (length text) && nat_le (length text) 19 && list_all is_ascii_digit text

-- the body's length, from the text of Content-Length: `BodyTooLarge` above the limit, `MalformedRequest` if the text isn't 1 to 19 digits
abbrev pub parse_length : List ℕ → Result ℕ Code
parse_length text =
    if is_length text
    then (if nat_le (digits_value 10 text) max_body then Ok (digits_value 10 text) else Err BodyTooLarge)
    else Err MalformedRequest

-- The length by the values of the Content-Length fields: none means no body, and more than one is rejected.
abbrev pub length_of : List (List ℕ) → Result ℕ Code
length_of [] = Ok 0
length_of (text ∷ []) = parse_length text
length_of (text ∷ other ∷ more) = Err MalformedRequest

-- A Transfer-Encoding is rejected, before any Content-Length is examined.
abbrev pub length_unless_transfer_coded : List (List ℕ) → List (List ℕ) → Result ℕ Code
length_unless_transfer_coded [] lengths = length_of lengths
length_unless_transfer_coded (coding ∷ more) lengths = Err TransferCodingNotSupported

-- the body's length, or the code of a fault; Transfer-Encoding is checked before Content-Length, also if it comes later in the head
unfoldable pub body_length_from_fields : List HeaderField → Result ℕ Code
body_length_from_fields fields = length_unless_transfer_coded (values_named (codes "Transfer-Encoding") fields) (values_named (codes "Content-Length") fields)
