-- The value of a rewritten text is tidy.
use Rattle.std.proofs.Common.{◌≡◌, ℕ, List, [], ◌∷◌, ◌++◌, Bool, true, false, Option, Some, None, option_map, option_and_then, refl, subst, append_assoc}
use Rattle.std.specs.Prelude.{IfSome}
use Rattle.json.specs.Token.{Token, begin_object, end_object, begin_array, end_array, key, string, number, boolean, null, bad}
use Rattle.json.specs.Lex.{Lexeme, token, comma, colon, lex, between, Place, fresh, after_value, after_comma, after_key, begins_colon, may_begin, may_close, if_allowed, place_token, punctuate, tokens}
use Rattle.json.specs.Json as json
use Rattle.json.specs.Tree.{json_tokens, items_tokens, members_tokens}
use Rattle.json.proofs.Unique.Spelling.{value-json_tokens_back}
use Rattle.serde_json.specs.Data.{Data, number as a_number, array, object, item, Members, no_members, put}
use Rattle.serde_json.specs.Read.{number_of, of_json, of_items, of_members, max_depth, read}
use Rattle.avro_nodes.specs.Plain.{plain}
use Rattle.avro_nodes.specs.Whole.{is_whole_number}
use Rattle.avro_nodes.proofs.Tidy.{IsTidy, TidyItems, TidyMembers, tidy_put}
use Rattle.avro_nodes.proofs.Respelt.{IsWholeText, good_pieces}
use Rattle.avro_nodes.proofs.Lexed.{FineToken, Fine, fine_lexemes}

-- ---- tokens

-- each number before a bad token is the text of an integer
abbrev FineTokens : List Token → Type 0
FineTokens [] = Unit {0}
FineTokens (t ∷ ts) = FineToken t (FineTokens ts)

-- an accepted token, or a bad one
allowed : (b : Bool) (t : Token) (k : Place → List Token) (next : Place) → FineToken t (FineTokens (k next)) → FineTokens (if_allowed b t k next)
allowed true t k next p = p
allowed false t k next p = tt

-- a token at a position
placed : (p : Place) (t : Token) (b : Bool) (k : Place → List Token) (more : Type 0) → FineToken t more → (more → (n : Place) → FineTokens (k n)) → FineTokens (place_token p t b k)
placed p begin_object b k more q h = allowed (may_begin p) begin_object k fresh (h q fresh)
placed p end_object b k more q h = allowed (may_close p) end_object k after_value (h q after_value)
placed p begin_array b k more q h = allowed (may_begin p) begin_array k fresh (h q fresh)
placed p end_array b k more q h = allowed (may_close p) end_array k after_value (h q after_value)
placed p (key s) b k more q h = tt
placed p (string s) true k more q h = allowed (may_begin p) (key s) k after_key (h q after_key)
placed p (string s) false k more q h = allowed (may_begin p) (string s) k after_value (h q after_value)
placed p (number s) b k more q h = allowed (may_begin p) (number s) k after_value (q.0, h q.1 after_value)
placed p (boolean v) b k more q h = allowed (may_begin p) (boolean v) k after_value (h q after_value)
placed p null b k more q h = allowed (may_begin p) null k after_value (h q after_value)
placed p bad b k more q h = tt

-- the tokens of fine lexemes
fine_tokens : (ls : List Lexeme) (p : Place) → Fine ls → FineTokens (punctuate p ls)
unfolding punctuate
fine_tokens [] fresh h = tt
fine_tokens [] after_value h = tt
fine_tokens [] after_comma h = tt
fine_tokens [] after_key h = tt
fine_tokens (token t ∷ ls) p h = placed p t (begins_colon ls) (λ n. punctuate n ls) (Fine ls) h (λ more n. fine_tokens ls n more)
fine_tokens (comma ∷ ls) fresh h = tt
fine_tokens (comma ∷ ls) after_value h = fine_tokens ls after_comma h
fine_tokens (comma ∷ ls) after_comma h = tt
fine_tokens (comma ∷ ls) after_key h = tt
fine_tokens (colon ∷ ls) fresh h = tt
fine_tokens (colon ∷ ls) after_value h = tt
fine_tokens (colon ∷ ls) after_comma h = tt
fine_tokens (colon ∷ ls) after_key h = fine_tokens ls fresh h

-- ---- values as JSON

-- each number is the text of an integer
abbrev mutual
  WholeJson : json.Json → Type 0
  WholeJson json.null = Unit {0}
  WholeJson (json.boolean b) = Unit {0}
  WholeJson (json.number s) = IsWholeText s
  WholeJson (json.string s) = Unit {0}
  WholeJson (json.array js) = ItemsWhole js
  WholeJson (json.object ms) = MembersWhole ms

  ItemsWhole : json.Items → Type 0
  ItemsWhole json.no_items = Unit {0}
  ItemsWhole (json.item j js) = WholeJson j × ItemsWhole js

  MembersWhole : json.Members → Type 0
  MembersWhole json.no_members = Unit {0}
  MembersWhole (json.member k j ms) = WholeJson j × MembersWhole ms

mutual
  -- a value at the front of the tokens
  json_from : (j : json.Json) (rest : List Token) → FineTokens (json_tokens j ++ rest) → WholeJson j × FineTokens rest
  json_from json.null rest h = (tt, h)
  json_from (json.boolean b) rest h = (tt, h)
  json_from (json.number s) rest h = h
  json_from (json.string s) rest h = (tt, h)
  json_from (json.array js) rest h = items_from js rest h
  json_from (json.object ms) rest h = members_from ms rest h

  items_from : (js : json.Items) (rest : List Token) → FineTokens (items_tokens js ++ rest) → ItemsWhole js × FineTokens rest
  items_from json.no_items rest h = (tt, h)
  items_from (json.item j js) rest h =
      let first = json_from j (items_tokens js ++ rest) (subst FineTokens (append_assoc (json_tokens j) (items_tokens js) rest) h) in
      let more = items_from js rest first.1 in
      ((first.0, more.0), more.1)

  members_from : (ms : json.Members) (rest : List Token) → FineTokens (members_tokens ms ++ rest) → MembersWhole ms × FineTokens rest
  members_from json.no_members rest h = (tt, h)
  members_from (json.member k j ms) rest h =
      let first = json_from j (members_tokens ms ++ rest) (subst FineTokens (append_assoc (json_tokens j) (members_tokens ms) rest) h) in
      let more = members_from ms rest first.1 in
      ((first.0, more.0), more.1)

-- ---- values

-- a property of an optional value after a map
if_map : {A B : Type 0} (P : A → Type 0) (Q : B → Type 0) (f : A → B) → ((a : A) → P a → Q (f a)) → (o : Option A) → IfSome o P → IfSome (option_map f o) Q
if_map P Q f h None x = tt
if_map P Q f h (Some a) x = h a x

-- the same after a step that may fail
if_then : {A B : Type 0} (P : A → Type 0) (Q : B → Type 0) (f : A → Option B) → ((a : A) → P a → IfSome (f a) Q) → (o : Option A) → IfSome o P → IfSome (option_and_then f o) Q
if_then P Q f h None x = tt
if_then P Q f h (Some a) x = h a x

mutual
  -- if JSON with only integers denotes a value, the value is tidy
  tidy_json : (j : json.Json) → WholeJson j → IfSome (of_json j) IsTidy
  tidy_json json.null h = tt
  tidy_json (json.boolean b) h = tt
  tidy_json (json.number s) h = if_map (λ n. is_whole_number n ≡ true) IsTidy a_number (λ n x. x) (number_of s) (rw h.1 h.2)
  tidy_json (json.string s) h = tt
  tidy_json (json.array js) h = if_map TidyItems IsTidy array (λ ds x. x) (of_items js) (tidy_items js h)
  tidy_json (json.object ms) h = if_map TidyMembers IsTidy object (λ ds x. x) (of_members ms no_members) (tidy_members ms no_members h tt)

  tidy_items : (js : json.Items) → ItemsWhole js → IfSome (of_items js) TidyItems
  tidy_items json.no_items h = tt
  tidy_items (json.item j js) h =
      if_then IsTidy TidyItems (λ (d : Data). option_map (item d) (of_items js)) (λ d x. if_map TidyItems TidyItems (item d) (λ ds y. (x, y)) (of_items js) (tidy_items js h.1)) (of_json j) (tidy_json j h.0)

  -- the same with the members found before
  tidy_members : (ms : json.Members) (found : Members) → MembersWhole ms → TidyMembers found → IfSome (of_members ms found) TidyMembers
  tidy_members json.no_members found h t = t
  tidy_members (json.member k j ms) found h t =
      if_then IsTidy TidyMembers (λ (d : Data). of_members ms (put k d found)) (λ d x. tidy_members ms (put k d found) h.1 (tidy_put k d found x t)) (of_json j) (tidy_json j h.0)

-- the value of a text's tokens
tidy_value : (text : List ℕ) (o : Option (json.Json × List Token)) → json.value max_depth (tokens text) ≡ o → FineTokens (tokens text) → IfSome (option_and_then of_json (option_and_then (λ p. json.if_last p.0 p.1) o)) IsTidy
tidy_value text None e h = tt
tidy_value text (Some (j, [])) e h = tidy_json j (json_from j [] (subst FineTokens (value-json_tokens_back max_depth (tokens text) [] j e) h)).0
tidy_value text (Some (j, t ∷ ts)) e h = tt

-- the value of a rewritten text is tidy
pub tidy_read : (text respelt : List ℕ) (d : Data) → plain text ≡ Some respelt → read respelt ≡ Some d → IsTidy d
tidy_read text respelt d p r =
    let fine = fine_tokens (lex between respelt) fresh (fine_lexemes respelt (good_pieces text respelt p)) in
    subst (λ (o : Option Data). IfSome o IsTidy) r (tidy_value respelt (json.value max_depth (tokens respelt)) refl fine)
