-- The text that rewriting the numbers gives.
use Rattle.std.specs.Prelude.{ℕ, List, Option, Some, None, string_bytes}
use Rattle.avro_nodes.specs.declared.respelling.Respelling.{Respelling}
use Rattle.avro_nodes.specs.declared.respelling.Respelling.TheVariants.{Unchanged, Changed, Invalid}

-- the rewritten text, if each number follows the rule
abbrev pub respelt_text : List ℕ → Respelling → Option (List ℕ)
respelt_text text Unchanged = Some text
respelt_text text (Changed respelt) = Some (string_bytes respelt)
respelt_text text Invalid = None
