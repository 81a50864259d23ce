-- The bytes of a response (RFC 9112, sections 2 to 6). Each line ends with CR LF. Two of them may be absent.
use Rattle.std.specs.Prelude.{ℕ, Bool, true, false, List, [], ◌∷◌, ◌++◌, length, Option, Some, None, codes, unwrap_or}
use Rattle.std.specs.Fmt.{decimal}
use Rattle.http.specs.StatusCode.{reason_phrase}
use Rattle.reg_core.specs.declared.code.Code.{Code}
use Rattle.reg_core.specs.Replies.{ReplyView, fault}

-- CR LF
abbrev pub line_end : List ℕ
line_end = 13 ∷ 10 ∷ []

-- a status's reason phrase, from the table of `http`; no bytes if the table has none
unfoldable pub reason_phrase_of : ℕ → List ℕ
reason_phrase_of status = unwrap_or (reason_phrase status) []

-- the status line with its CR LF: the version HTTP/1.1, the status, and its reason phrase, which may be empty (RFC 9112, section 4)
abbrev pub status_line : ℕ → List ℕ
status_line status = codes "HTTP/1.1 " ++ decimal status ++ codes " " ++ reason_phrase_of status ++ line_end

-- the body's media type (Schema Registry API reference, content types)
abbrev pub type_line : List ℕ
type_line = codes "Content-Type: application/vnd.schemaregistry.v1+json" ++ line_end

-- the `Allow` field with these methods; no bytes for `None` (RFC 9110, section 10.2.1)
abbrev pub allow_line : Option (List ℕ) → List ℕ
allow_line None = []
allow_line (Some methods) = codes "Allow: " ++ methods ++ line_end

-- the body's length in bytes (RFC 9110, section 8.6)
abbrev pub content_length_line : ℕ → List ℕ
content_length_line length = codes "Content-Length: " ++ decimal length ++ line_end

-- `Connection: close` if the connection ends after the response, otherwise no bytes (RFC 9112, section 9.6)
abbrev pub connection_line : Bool → List ℕ
connection_line true = codes "Connection: close" ++ line_end
connection_line false = []

-- a response: its lines in this order, an empty line, and the body
unfoldable pub response_bytes : ReplyView → Option (List ℕ) → Bool → List ℕ
response_bytes reply allow close =
    status_line reply.status ++ type_line ++ allow_line allow ++ content_length_line (length reply.body) ++ connection_line close ++ line_end ++ reply.body

-- the response to a fault after the whole messages, which ends the connection
abbrev pub fault_response : Code → List ℕ
fault_response code = response_bytes (fault code) None true
