-- What writes need of the schemas of layout 2.
use Rattle.std.proofs.Common.{◌≡◌, ◌≢◌, ◌≤◌, ◌==◌, ℕ, inl, inr, length, List, [], ◌∷◌, Bool, true, false, not, ◌&&◌, cond, lit≤, refl, sym, ap, subst, arith}
use Rattle.reg_tables.proofs.Kit.{AllByRecursion, flat_map, filter_map, and_parts, both_ways, not-true, eq-eqb, ne_eqb, Row, IsAscending, Table, Schema, edit_of, taken_by, Given, Enforced, Index, agree, parent_key, references_fit, Work, works, work_by, deed_of, pairs, ids_of, no_works}
use Rattle.sqlite_schema.specs.Names.{same_name}
use Rattle.sqlite_value.specs.Keys.{joined}
use Rattle.reg_tables.specs.Layout.{five_tables_then, versions, added_tables, layout_two, layout_two_indexed_last, IsIndexedLayoutTwo}
use Rattle.reg_tables.specs.Contents.{TableName, Texts, Versions, Levels, Kept, Meta, Modes, Evidence, Against, ordinal_of, table_in, KeyOf, form_of}
use Rattle.reg_tables.specs.Inside.KeyedLaws.{HaveOwnTrees, HasNoForeignKeyAction, HasNoUpdateAction, IsTableAt, HasKeys, InsertKeepsReferences, IsKeyed, IndexesGuardOnly}
use Rattle.reg_tables.proofs.Keys.{key_columns, one_key}

unfoldable pub is_apart_from : ℕ → List Table → Bool
is_apart_from tree [] = true
is_apart_from tree (t ∷ tables) = not (t.tree == tree) && is_apart_from tree tables

unfoldable pub are_apart : List Table → Bool
are_apart [] = true
are_apart (t ∷ tables) = is_apart_from t.tree tables && are_apart tables

pub apart_if : (tables : List Table) → are_apart tables ≡ true → IsAscending (λ (a : Table) (b : Table). a.tree ≡ b.tree → ⊥) tables
unfolding are_apart is_apart_from
apart_if [] h = tt
apart_if (t ∷ tables) h = let parts = and_parts (is_apart_from t.tree tables) (are_apart tables) h in (each tables parts.0, apart_if tables parts.1)
  where
    each : (later : List Table) → is_apart_from t.tree later ≡ true → AllByRecursion (λ (b : Table). t.tree ≡ b.tree → ⊥) later
    each [] h = tt
    each (b ∷ later) h = let parts = and_parts (not (b.tree == t.tree)) (is_apart_from t.tree later) h in (λ e. both_ways _ (not-true _ parts.0) (eq-eqb b.tree t.tree (sym e)), each later parts.1)

pub all_keys : (schema : Schema) (table : Table) → references_fit schema table true true ≡ true → references_fit schema table true false ≡ true → references_fit schema table false true ≡ true → references_fit schema table false false ≡ true → HasKeys schema table
all_keys schema table a b c d true true = a
all_keys schema table a b c d true false = b
all_keys schema table a b c d false true = c
all_keys schema table a b c d false false = d

-- the columns of each table's only unique index: its key's, or the text
abbrev pub index_columns : TableName → List ℕ
index_columns Texts = 2 ∷ []
index_columns name = key_columns name

-- no two tables have the same tree, their references fit, and each unique index of a table is on its `index_columns`
pub record IsWellDeclared (schema : Schema) : Type 0 where
  pub apart : HaveOwnTrees schema
  pub at : (name : TableName) → IsTableAt schema (ordinal_of name) (table_in schema name)
  pub on : (name : TableName) → IndexesGuardOnly (index_columns name) (table_in schema name) schema.indexes

two_at : (name : TableName) → IsTableAt layout_two (ordinal_of name) (table_in layout_two name)
unfolding same_name joined
two_at Texts = record { there = refl; keys = all_keys layout_two (table_in layout_two Texts) refl refl refl refl }
two_at Versions = record { there = refl; keys = all_keys layout_two (table_in layout_two Versions) refl refl refl refl }
two_at Levels = record { there = refl; keys = all_keys layout_two (table_in layout_two Levels) refl refl refl refl }
two_at Kept = record { there = refl; keys = all_keys layout_two (table_in layout_two Kept) refl refl refl refl }
two_at Meta = record { there = refl; keys = all_keys layout_two (table_in layout_two Meta) refl refl refl refl }
two_at Modes = record { there = refl; keys = all_keys layout_two (table_in layout_two Modes) refl refl refl refl }
two_at Evidence = record { there = refl; keys = all_keys layout_two (table_in layout_two Evidence) refl refl refl refl }
two_at Against = record { there = refl; keys = all_keys layout_two (table_in layout_two Against) refl refl refl refl }

two_on : (name : TableName) → IndexesGuardOnly (index_columns name) (table_in layout_two name) layout_two.indexes
two_on Texts = refl
two_on Versions = refl
two_on Levels = refl
two_on Kept = refl
two_on Meta = refl
two_on Modes = refl
two_on Evidence = refl
two_on Against = refl

two_settled : IsWellDeclared layout_two
unfolding are_apart is_apart_from
two_settled = record { apart = apart_if layout_two.tables refl; at = two_at; on = two_on }

last_at : (name : TableName) → IsTableAt layout_two_indexed_last (ordinal_of name) (table_in layout_two_indexed_last name)
unfolding same_name joined
last_at Texts = record { there = refl; keys = all_keys layout_two_indexed_last (table_in layout_two_indexed_last Texts) refl refl refl refl }
last_at Versions = record { there = refl; keys = all_keys layout_two_indexed_last (table_in layout_two_indexed_last Versions) refl refl refl refl }
last_at Levels = record { there = refl; keys = all_keys layout_two_indexed_last (table_in layout_two_indexed_last Levels) refl refl refl refl }
last_at Kept = record { there = refl; keys = all_keys layout_two_indexed_last (table_in layout_two_indexed_last Kept) refl refl refl refl }
last_at Meta = record { there = refl; keys = all_keys layout_two_indexed_last (table_in layout_two_indexed_last Meta) refl refl refl refl }
last_at Modes = record { there = refl; keys = all_keys layout_two_indexed_last (table_in layout_two_indexed_last Modes) refl refl refl refl }
last_at Evidence = record { there = refl; keys = all_keys layout_two_indexed_last (table_in layout_two_indexed_last Evidence) refl refl refl refl }
last_at Against = record { there = refl; keys = all_keys layout_two_indexed_last (table_in layout_two_indexed_last Against) refl refl refl refl }

last_on : (name : TableName) → IndexesGuardOnly (index_columns name) (table_in layout_two_indexed_last name) layout_two_indexed_last.indexes
last_on Texts = refl
last_on Versions = refl
last_on Levels = refl
last_on Kept = refl
last_on Meta = refl
last_on Modes = refl
last_on Evidence = refl
last_on Against = refl

last_settled : IsWellDeclared layout_two_indexed_last
unfolding are_apart is_apart_from
last_settled = record { apart = apart_if layout_two_indexed_last.tables refl; at = last_at; on = last_on }

-- what is true of both schemas of layout 2, by the first of the new trees
pub in_layout_two : (P : Schema → Type 0) → ((first : ℕ) (indexes : List Index) → 10 ≤ first → IsWellDeclared (five_tables_then (added_tables first) indexes) → P (five_tables_then (added_tables first) indexes)) → (schema : Schema) → IsIndexedLayoutTwo schema → P schema
in_layout_two P each schema (inl is) = subst P (sym is) (each 11 layout_two.indexes (lit≤ tt) two_settled)
in_layout_two P each schema (inr is) = subst P (sym is) (each 10 layout_two_indexed_last.indexes (lit≤ tt) last_settled)

-- the same with the trees given as numbers
pub at_layout_two : (P : Schema → Type 0) → P layout_two → P layout_two_indexed_last → (schema : Schema) → IsIndexedLayoutTwo schema → P schema
at_layout_two P here there schema (inl is) = subst P (sym is) here
at_layout_two P here there schema (inr is) = subst P (sym is) there

-- rows that agree on these columns have the same key
abbrev AgreesBy : TableName → List ℕ → Type 0
AgreesBy name columns = (a b : Row) (q k : KeyOf name) → (form_of name).key_of a ≡ (form_of name).key_cells q → (form_of name).key_of b ≡ (form_of name).key_cells k → agree (record { digits = 0 }) columns a columns b ≡ true → q ≡ k

-- a table whose only unique index is on its key takes rows
pub keyed_if : (schema : Schema) → IsWellDeclared schema → (name : TableName) → (table_in schema name).is_counted ≡ false → index_columns name ≡ key_columns name → (table_in schema name).primary ≡ key_columns name → InsertKeepsReferences schema name → IsKeyed schema name
keyed_if schema s name uncounted indexed primary refers = record {
  apart = s.apart;
  is_at = s.at name;
  uncounted = uncounted;
  guarded = subst (λ columns. IndexesGuardOnly columns (table_in schema name) schema.indexes) (sym primary) (subst (λ columns. IndexesGuardOnly columns (table_in schema name) schema.indexes) indexed (s.on name));
  agrees = subst (AgreesBy name) (sym primary) (one_key name);
  put_refers = refers;
}

-- ---- actions

-- the actions of foreign keys on a table after a delete or else an update
abbrev pub works_if : Schema → ℕ → ℕ → List (Row × Row) → Bool → List Work
works_if schema depth tree moves deletes = flat_map (λ child. filter_map (λ ref. work_by depth tree moves child ref (deed_of Enforced deletes (cond deletes ref.on_delete ref.on_update)) (parent_key schema.tables ref)) child.references) schema.tables

-- only deleting versions deletes other rows
pub two_quiet : (first : ℕ) (indexes : List Index) (depth tree : ℕ) → versions.tree ≢ tree → (olds news : List Row) → works (five_tables_then (added_tables first) indexes) Enforced depth tree olds news ≡ []
unfolding same_name joined
two_quiet first indexes depth tree other olds news = go (pairs olds news) (length news == 0)
  where
    go : (moves : List (Row × Row)) (deletes : Bool) → works_if (five_tables_then (added_tables first) indexes) depth tree moves deletes ≡ []
    go moves true = rw (ne_eqb versions.tree tree other) refl
    go moves false = refl

pub two_no_action : (first : ℕ) (indexes : List Index) (tree : ℕ) → versions.tree ≢ tree → HasNoForeignKeyAction (five_tables_then (added_tables first) indexes) tree
two_no_action first indexes tree other olds news = two_quiet first indexes 0 tree other olds news

-- an update triggers no action
module _ (first : ℕ) (indexes : List Index) where
  abbrev here : Schema
  here = five_tables_then (added_tables first) indexes

  replaced : (olds news : List Row) → (length news == 0) ≡ false → works here Enforced 0 versions.tree olds news ≡ []
  unfolding same_name joined
  replaced olds news some = ap (works_if here 0 versions.tree (pairs olds news)) some

  pub steady : HasNoUpdateAction here versions
  steady db [] = no_works here Enforced 0 versions.tree []
  steady db (x ∷ found) =
      let edit = edit_of db versions (ids_of (x ∷ found)) Given 1 (x ∷ found) in
      replaced (taken_by db edit) edit.news (ne_eqb _ 0 (λ e. omega (arith, e)))
