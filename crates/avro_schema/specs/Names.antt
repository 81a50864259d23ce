-- Names and namespaces, as bytes (Avro 1.11 specification, Names; Aliases). The null namespace is the empty text.
use Rattle.std.specs.Prelude.{ℕ, List, [], ◌∷◌, ◌++◌, Bool, true, false, ◌&&◌, ◌||◌, ◌==◌, if◌then◌else◌, Option, Some, None, codes}
use Rattle.std.specs.Char.{is_ascii_alphabetic, is_ascii_digit}
use Rattle.std.specs.List.{list_all, list_any, slice_split}
use Rattle.std.specs.Map.{update}
use Rattle.std.specs.Str.{bytes_eq}
use Rattle.avro_nodes.specs.Names.{is_dot, has_dot}

-- an ASCII letter or `_`
abbrev pub is_name_start : ℕ → Bool
is_name_start c = is_ascii_alphabetic c || list_any (λ mark. c == mark) (codes "_")

-- an ASCII letter, a digit or `_`
abbrev pub is_name_part : ℕ → Bool
is_name_part c = is_name_start c || is_ascii_digit c

-- a simple name: `[A-Za-z_][A-Za-z0-9_]*`
unfoldable pub is_simple : List ℕ → Bool
is_simple [] = false
is_simple (c ∷ cs) = is_name_start c && list_all is_name_part cs

-- one or more simple names, separated by dots
unfoldable pub is_name_sequence : List ℕ → Bool
is_name_sequence text = list_all is_simple (slice_split is_dot text)

-- a namespace: empty, or simple names separated by dots
abbrev pub is_namespace : List ℕ → Bool
is_namespace [] = true
is_namespace (c ∷ cs) = is_name_sequence (c ∷ cs)

-- the full name of a simple name in a namespace
unfoldable pub qualified : List ℕ → List ℕ → List ℕ
qualified [] name = name
qualified (c ∷ space) name = c ∷ (space ++ (codes "." ++ name))

-- the names defined so far: a function from full names to places
abbrev pub Known : Type 0
Known = List ℕ → Option ℕ

abbrev pub none_known : Known
none_known name = None

-- the known names, and the name `full` for the definition at the place
abbrev pub defined : Known → List ℕ → ℕ → Known
defined known full place = update bytes_eq known full (Some place)

abbrev pub or_else : {A : Type 0} → Option A → Option A → Option A
or_else (Some x) o = Some x
or_else None o = o

-- The place of the type that a reference names. A name with a dot is a full name. A name without one is looked up in the enclosing
-- namespace, then in the null namespace (this project's choice).
unfoldable pub resolved : Known → List ℕ → List ℕ → Option ℕ
resolved known space name = if has_dot name then known name else or_else (known (qualified space name)) (known name)

-- the text, if it passes the test
abbrev pub allowed : (List ℕ → Bool) → List ℕ → Option (List ℕ)
allowed test text = if test text then Some text else None

-- the full name of a simple name in its `namespace` attribute (`None` if malformed), or without it in the enclosing namespace
abbrev pub name_in : Option (List ℕ) → List ℕ → List ℕ → Option (List ℕ)
name_in (Some space) enclosing name = if is_namespace space then Some (qualified space name) else None
name_in None enclosing name = Some (qualified enclosing name)

-- The full name of a definition, from its `name` and `namespace` attributes and the enclosing namespace. A name with a dot is a full name,
-- and `namespace` is then ignored. `None` if the name is malformed, or if it has no dot and `namespace` is malformed.
unfoldable pub full_name : List ℕ → Option (List ℕ) → List ℕ → Option (List ℕ)
full_name name attribute enclosing = if is_name_sequence name then (if has_dot name then Some name else name_in attribute enclosing name) else None

-- the full name of an alias of a type in this namespace, or `None` if the alias is malformed; one with a dot is a full name already
unfoldable pub alias_in : List ℕ → List ℕ → Option (List ℕ)
alias_in space alias = if is_name_sequence alias then (if has_dot alias then Some alias else Some (qualified space alias)) else None
