-- The definitions of registering and lookup, computed on a few versions.
use Rattle.std.proofs.Common.{◌≡◌, ℕ, ◌∷◌, [], List, Bool, true, false, codes, refl}
use Rattle.std.specs.Prelude.{None, Some, Ok, Err}
use Rattle.serde_json.specs.Data.{no_members}
use Rattle.serde_json.proofs.OnLiterals.{serde_json_on_literals}
use Rattle.avro_nodes.specs.declared.node.PrimitiveKind.TheVariants.{Int, Double}
use Rattle.avro_nodes.specs.Nodes.{NodeView, primitive}
use Rattle.avro_nodes.specs.Identity.{identity_at}
use Rattle.reg_core.specs.declared.code.Code.TheVariants.{SubjectNotFound, VersionNotFound, SchemaNotFound, InvalidVersion}
use Rattle.reg_core.specs.declared.number.VersionChoice.TheVariants.{Latest, Numbered}
use Rattle.reg_core.specs.Registry.{Row, Schemas}
use Rattle.reg_core.specs.Rows.{visible_rows, live_rows, chosen_row, next_number, id_of, text_at, schemas_of}
use Rattle.reg_core.specs.ReadCommands.{found_row, lookup_row}
use Rattle.reg_core.specs.RegisterCommands.{is_among, id_for}

-- a version of one subject
abbrev row : ℕ → ℕ → Bool → Row
row number id deleted = ((codes "s", number), record { id = id; deleted = deleted })

-- three versions with a gap between their numbers; the last one is soft-deleted
abbrev rows : List Row
rows = row 1 4 false ∷ row 3 2 false ∷ row 7 4 true ∷ []

first_number : next_number [] ≡ 1
first_number = refl

deleted_versions_number_is_not_used_again : next_number rows ≡ 8
deleted_versions_number_is_not_used_again = refl

deleted_versions_are_not_shown : visible_rows false rows ≡ row 1 4 false ∷ row 3 2 false ∷ []
deleted_versions_are_not_shown = refl

deleted_versions_are_shown_where_asked_for : visible_rows true rows ≡ rows
deleted_versions_are_shown_where_asked_for = refl

latest_is_the_last_that_is_shown : chosen_row Latest (live_rows rows) ≡ Some (row 3 2 false)
latest_is_the_last_that_is_shown = refl

number_is_no_position : found_row (Some (Numbered 3)) rows ≡ Ok (row 3 2 false)
number_is_no_position = refl

no_version_has_the_number : found_row (Some (Numbered 2)) rows ≡ Err VersionNotFound
no_version_has_the_number = refl

deleted_version_is_not_found : found_row (Some (Numbered 7)) (live_rows rows) ≡ Err VersionNotFound
deleted_version_is_not_found = refl

no_version_of_the_subject : found_row (Some Latest) [] ≡ Err SubjectNotFound
no_version_of_the_subject = refl

no_number_comes_first : found_row None [] ≡ Err InvalidVersion
no_number_comes_first = refl

last_with_the_id_is_looked_up : lookup_row (Some 4) rows ≡ Ok (row 7 4 true)
last_with_the_id_is_looked_up = refl

live_one_with_the_id_is_looked_up : lookup_row (Some 4) (live_rows rows) ≡ Ok (row 1 4 false)
live_one_with_the_id_is_looked_up = refl

unknown_schema_is_not_looked_up : lookup_row None rows ≡ Err SchemaNotFound
unknown_schema_is_not_looked_up = refl

id_is_among_its_versions : is_among (Some 2) rows ≡ true
id_is_among_its_versions = refl

deleted_version_is_not_among : is_among (Some 4) (live_rows (row 7 4 true ∷ [])) ≡ false
deleted_version_is_not_among = refl

no_id_is_among_none : is_among None rows ≡ false
no_id_is_among_none = refl

int : List NodeView
int = primitive Int no_members ∷ []

double : List NodeView
double = primitive Double no_members ∷ []

-- two schemas, whose ids are 1 and 2
abbrev schemas : Schemas
schemas = int ∷ double ∷ []

second_schema_has_id_2 : id_of schemas (codes "\"double\"") ≡ Some 2
unfolding int double serde_json_on_literals identity_at
second_schema_has_id_2 = refl

no_id_for_another_text : id_of schemas (codes "\"long\"") ≡ None
unfolding int double serde_json_on_literals identity_at
no_id_for_another_text = refl

first_id_has_its_text : text_at schemas 1 ≡ Some (codes "\"int\"")
unfolding int serde_json_on_literals identity_at
first_id_has_its_text = refl

no_schema_has_id_0 : text_at schemas 0 ≡ None
no_schema_has_id_0 = refl

no_schema_has_id_3 : text_at schemas 3 ≡ None
no_schema_has_id_3 = refl

known_schema_keeps_its_id : id_for schemas double ≡ 2
unfolding int double serde_json_on_literals identity_at
known_schema_keeps_its_id = refl

versions_have_their_schemas : schemas_of schemas (row 1 2 false ∷ row 2 1 true ∷ row 3 2 false ∷ []) ≡ double ∷ int ∷ double ∷ []
versions_have_their_schemas = refl
