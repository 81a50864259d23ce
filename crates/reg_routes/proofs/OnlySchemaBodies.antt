-- A body that has only a schema, read token by token.
use Rattle.std.proofs.Common.{◌≡◌, inl, inr, ℕ, true, List, [], ◌∷◌, ◌++◌, codes, refl, ap, ap₂, ◌∙◌, subst, append_assoc}
use Rattle.std.specs.Prelude.{◌≢◌, Option, Some, None, MatchOption, IfSome, cond, option_and_then}
use denote.Ref.{Bor}
use Rattle.std.specs.Str.{IsUtf8}
use Rattle.std.proofs.lemmas.Str.{IsUtf8-append, is_utf8-from_IsUtf8}
use Rattle.json.specs.Token.{Token}
use Rattle.json.specs.Lex.{Lexeme, lex, between, token, colon, string_token, punctuate, fresh}
use Rattle.json.specs.Print.{escape, quoted}
use Rattle.json.proofs.Printed.Strings.{content-escape, lex-escape}
use Rattle.json.proofs.Printed.Utf8.{IsUtf8-are_ascii, IsUtf8-quoted}
use Rattle.json.specs.Json as json
use Rattle.serde_json.specs.Data.{object, member, no_members, string}
use Rattle.serde_json.specs.Read.{read, of_json}
use Rattle.serde_json.proofs.OnLiterals.{serde_json_on_literals}
use Rattle.reg_routes.specs.Bodies.{body_json, body_schema, schema_member}
use Rattle.reg_routes.specs.OnlySchema.{StartsOnly, SpellsOnly}

abbrev end : List ℕ
end = 125 ∷ []

-- the tokens of the text and of the brace after it
text_lexed : (text : List ℕ) → lex between (34 ∷ (escape text ++ 34 ∷ end)) ≡ token (Token.string text) ∷ token Token.end_object ∷ []
unfolding lex
text_lexed text = ap₂ (λ s ls. token (string_token s) ∷ ls) (content-escape text end) (lex-escape text end)

abbrev start : List Lexeme → List Lexeme
start ls = token Token.begin_object ∷ token (Token.string (codes "schema")) ∷ colon ∷ ls

close_start : (rest : List ℕ) → lex between (codes "{\"schema\":" ++ rest) ≡ start (lex between rest)
unfolding serde_json_on_literals
close_start rest = refl

spaced_start : (rest : List ℕ) → lex between (codes "{\"schema\": " ++ rest) ≡ start (lex between rest)
unfolding serde_json_on_literals
spaced_start rest = refl

lexed : (body text front : List ℕ) → StartsOnly front (escape text) → body ≡ front ++ codes "\"}" → lex between body ≡ start (token (Token.string text) ∷ token Token.end_object ∷ [])
lexed body text front (inl e) ends =
    ap (lex between) (ends ∙ ap (λ (xs : List ℕ). xs ++ codes "\"}") e) ∙ close_start (34 ∷ (escape text ++ 34 ∷ end)) ∙ ap start (text_lexed text)
lexed body text front (inr e) ends =
    ap (lex between) (ends ∙ ap (λ (xs : List ℕ). xs ++ codes "\"}") e) ∙ spaced_start (34 ∷ (escape text ++ 34 ∷ end)) ∙ ap start (text_lexed text)

read_lexed : (text : List ℕ) → option_and_then of_json (option_and_then (λ p. json.if_last p.0 p.1) (json.value 127 (punctuate fresh (start (token (Token.string text) ∷ token Token.end_object ∷ []))))) ≡ Some (object (member (codes "schema") (string text) no_members))
unfolding serde_json_on_literals
read_lexed text = refl

quoted_utf8 : (text : List ℕ) → IsUtf8 text → IsUtf8 (34 ∷ (escape text ++ 34 ∷ end))
quoted_utf8 text u =
    subst IsUtf8 (ap (λ (xs : List ℕ). 34 ∷ xs) (append_assoc (escape text) (34 ∷ []) end)) (IsUtf8-append (quoted text) end (IsUtf8-quoted text u) (IsUtf8-are_ascii end refl))

utf8 : (body text front : List ℕ) → IsUtf8 text → StartsOnly front (escape text) → body ≡ front ++ codes "\"}" → IsUtf8 body
utf8 body text front u (inl e) ends = rw (ends, e) (IsUtf8-append (codes "{\"schema\":") (34 ∷ (escape text ++ 34 ∷ end)) (IsUtf8-are_ascii _ refl) (quoted_utf8 text u))
utf8 body text front u (inr e) ends = rw (ends, e) (IsUtf8-append (codes "{\"schema\": ") (34 ∷ (escape text ++ 34 ∷ end)) (IsUtf8-are_ascii _ refl) (quoted_utf8 text u))

pub only_schema_read : (body escaped text : List ℕ) → IsUtf8 text → escape text ≡ escaped → SpellsOnly body escaped → body_schema body ≡ Some (record { text = text; supported = true })
unfolding body_json
only_schema_read body escaped text u spells is =
    let starts : StartsOnly is.front (escape text) = rw spells is.starts in
    let json = ap (λ ls. option_and_then of_json (option_and_then (λ p. json.if_last p.0 p.1) (json.value 127 (punctuate fresh ls)))) (lexed body text is.front starts is.ends) ∙ read_lexed text in
    let sound = is_utf8-from_IsUtf8 body (utf8 body text is.front u starts is.ends) in
    ap (option_and_then schema_member) (ap (λ b. cond b (read body) None) sound ∙ json)

-- ---- finding the parts

pub ends_found : (body tail : List ℕ) (front : Option (Bor (List ℕ))) → tail ≡ codes "\"}" → MatchOption front ((fs : List ℕ) → body ≢ fs ++ tail) (λ x. body ≡ x.now ++ tail) → IfSome front (λ x. body ≡ x.now ++ codes "\"}")
ends_found body tail None e h = tt
ends_found body tail (Some x) e h = h ∙ ap (λ (ys : List ℕ). x.now ++ ys) e

pub space_found : (front head : List ℕ) (rest : Option (Bor (List ℕ))) → head ≡ codes "{\"schema\": \"" → MatchOption rest ((xs : List ℕ) → front ≢ head ++ xs) (λ x. front ≡ head ++ x.now) → IfSome rest (λ x. StartsOnly front x.now)
space_found front head None e h = tt
space_found front head (Some x) e h = inr (h ∙ ap (λ (ys : List ℕ). ys ++ x.now) e)
