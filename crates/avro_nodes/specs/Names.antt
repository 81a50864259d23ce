-- Full names and namespaces, as bytes (Avro 1.11 specification, Names). The null namespace is the empty text.
use Rattle.std.specs.Prelude.{ℕ, List, [], ◌∷◌, Bool, ◌==◌, if◌then◌else◌}
use Rattle.std.specs.List.{list_any, after_last}

abbrev pub is_dot : ℕ → Bool
is_dot c = c == 46

unfoldable pub has_dot : List ℕ → Bool
has_dot name = list_any is_dot name

-- all before the last dot, or nothing without a dot
unfoldable pub namespace_of : List ℕ → List ℕ
namespace_of [] = []
namespace_of (c ∷ cs) = if list_any is_dot cs then c ∷ namespace_of cs else []

-- all after the last dot, or the whole name without a dot
unfoldable pub last_part : List ℕ → List ℕ
last_part name = after_last is_dot name
