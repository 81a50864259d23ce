-- The fields of a request's head, by name.
use Rattle.std.specs.Prelude.{◌≡◌, ℕ, ◌<◌, List, [], ◌∷◌, map, filter, length}
use Rattle.std.specs.Str.{str_eq_ignore_ascii_case}
use Rattle.reg_messages.specs.declared.fields.FieldLookup.{FieldLookup}
use Rattle.reg_messages.specs.declared.fields.FieldLookup.TheVariants.{Missing, Once, Repeated}

-- a field's name, and its value without surrounding whitespace
abbrev pub HeaderField : Type 0
HeaderField = List ℕ × List ℕ

-- the values of the fields with this name, regardless of case (RFC 9110, section 5.1)
unfoldable pub values_named : List ℕ → List HeaderField → List (List ℕ)
values_named name fields = map (λ p. p.1) (filter (λ p. str_eq_ignore_ascii_case p.0 name) fields)

-- the result of a lookup of a name that has these values
abbrev pub FindsField : List (List ℕ) → FieldLookup → Type 0
FindsField values Missing = values ≡ []
FindsField values (Once value) = values ≡ value.now ∷ []
FindsField values Repeated = 1 < length values
