-- The table of a record's fields by name. It says which fields to check for every default value of the record, and which only if the value
-- has a member of that name (this project's choice).
use Rattle.std.specs.Prelude.{◌≡◌, ◌==◌, ◌<◌, ℕ, List, length, Bool, true, ◌&&◌, ◌⊎◌, Option, Some, None, is_some, slice_get}
use Rattle.std.specs.Ordering.{nat_cmp}
use Rattle.std.specs.BTreeMap.{get_by}
use Rattle.std.specs.Cmp.Lexicographic.{slice_cmp}
use Rattle.std.specs.List.{list_any}
use Rattle.serde_json.specs.Data.{Members, no_members, member}
use Rattle.serde_json.specs.Find.{get_member}
use Rattle.avro_nodes.specs.Nodes.{NamedView, FieldView, NodeView, rec}
use Rattle.avro_schema.specs.declared.tables.FieldTable.{FieldTable}
use Rattle.avro_schema.specs.Inside.Fitting.{Fitting, field_fits_by}

-- the index that the table has for a name
abbrev pub index_by_name : FieldTable → List ℕ → Option ℕ
index_by_name t name = get_by (λ k. slice_cmp nat_cmp name k.now) t.by_name

-- whether the list of required fields has the index
abbrev pub is_required : List ℕ → ℕ → Bool
is_required required i = list_any (λ j. j == i) required

-- the field at the index is required, or it has a default and the table finds it by name
abbrev pub IsCovered : List ℕ → (List ℕ → Option ℕ) → ℕ → FieldView → Type 0
IsCovered required index_of i f = (is_required required i ≡ true) ⊎ ((is_some f.value ≡ true) × (index_of f.name ≡ Some i))

-- A table covers each of the first n fields. It is given as its required indices and its function from names to indices. A field is covered if its
-- index is required. A field with a default is also covered if the function maps its name to its index.
unfoldable pub CoversFirstFields : ℕ → List ℕ → (List ℕ → Option ℕ) → List FieldView → Type 0
CoversFirstFields n required index_of fields = (i : ℕ) (f : FieldView) → i < n → slice_get fields i ≡ Some f → IsCovered required index_of i f

-- the table covers all fields
abbrev pub IsFieldTable : FieldTable → List FieldView → Type 0
IsFieldTable t fields = CoversFirstFields (length fields) t.required.items (index_by_name t) fields

-- if the node is a record, the table is that of its fields
unfoldable pub IsFieldTableOf : FieldTable → NodeView → Type 0
IsFieldTableOf t node = (named : NamedView) (fields : List FieldView) (extra : Members) → node ≡ rec named fields extra → IsFieldTable t fields

-- each table is that of the node at its place
unfoldable pub AreFieldTables : List NodeView → List (Option FieldTable) → Type 0
AreFieldTables nodes tables = (place : ℕ) (t : FieldTable) (node : NodeView) → slice_get tables place ≡ Some (Some t) → slice_get nodes place ≡ Some node → IsFieldTableOf t node

-- whether the member with the field's name fits the field, as in `field_fits_by`; `true` without a field
abbrev pub fits_if_any : Fitting → Members → Option FieldView → Bool
fits_if_any one ms None = true
fits_if_any one ms (Some f) = field_fits_by one f (get_member f.name ms)

-- the same for the field at the index; `true` without an index, or if it is out of range
abbrev pub index_fits : Fitting → Members → List FieldView → Option ℕ → Bool
index_fits one ms fields None = true
index_fits one ms fields (Some i) = fits_if_any one ms (slice_get fields i)

-- whether each field fits that the table finds by a name of the last argument; names without a field are ignored
abbrev pub named_fit : Fitting → Members → List FieldView → FieldTable → Members → Bool
named_fit one ms fields t no_members = true
named_fit one ms fields t (member k d more) = index_fits one ms fields (index_by_name t k) && named_fit one ms fields t more
