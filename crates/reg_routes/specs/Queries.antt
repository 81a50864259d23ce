-- The parameters of a query (WHATWG URL, section 5; Schema Registry API reference, query parameters).
use Rattle.std.specs.Prelude.{ℕ, Bool, false, List, [], ◌∷◌, codes, cond, bytes_eq}
use Rattle.std.specs.Str.Lossy.{utf8_lossy}
use Rattle.form_urlencoded.specs.Form.{raw_pairs, decode}

-- a decoded name or value of a form, with U+FFFD for bytes that aren't UTF-8
abbrev pub form_text : List ℕ → List ℕ
form_text bytes = utf8_lossy (decode bytes)

-- Whether the first pair with this name has the value `true`; false without such a pair. The pairs are still encoded, and are decoded here.
abbrev pub first_is_true : List (List ℕ × List ℕ) → List ℕ → Bool
first_is_true [] name = false
first_is_true (pair ∷ pairs) name = cond (bytes_eq (form_text pair.0) name) (bytes_eq (form_text pair.1) (codes "true")) (first_is_true pairs name)

-- whether the first parameter of this name is `true`; false if the query has none of this name
abbrev pub query_flag : List ℕ → List ℕ → Bool
query_flag query name = first_is_true (raw_pairs query) name
