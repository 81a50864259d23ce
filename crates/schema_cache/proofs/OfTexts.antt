-- The cached entry of a text.
use Rattle.std.proofs.Common.{◌≡◌, ℕ, List, Option, Some, None, subst}
use Rattle.schema_cache.specs.Entries.{EntryView}
use Rattle.schema_cache.specs.Answers.{IsSchemaOf}

-- the entry that is cached for a text has this text
pub of_text : (text : List ℕ) (o : Option EntryView) (entry : EntryView) → o ≡ Some entry → IsSchemaOf text None o → entry.text ≡ text
of_text text o entry e is = subst (IsSchemaOf text None) e is
