-- What each SQL text means in a schema.
use Rattle.std.proofs.Common.{◌≡◌, inl, inr, sym, subst, pos, ℕ, List, [], ◌∷◌, codes, Bool, true, false, Ok, lit≤, refl}
use Rattle.reg_tables.proofs.Kit.{Null, Int, Text, Key, Term, lit, col, op2, Binary, Values, Insert, CreateTable, Update, table_defined_by, created, lacks_sequence, Table, Row, Schema, Database, statement_of, Compare, Eq, Gt, Ge, Le, Index}
use Rattle.reg_tables.specs.Contents.{flag_cell, Contents, HoldsContents}
use Rattle.sqlite.specs.Listing.{understood}
use Rattle.sqlite_tied.specs.Compute.{everything}
use Rattle.reg_tables.specs.Layout.{empty_schema, partial_layout_one, five_tables_then, layout_one, layout_one_unindexed, HasFiveTables, IsLayoutOne, texts, versions, levels, kept, meta, modes, evidence, against, partial_layout_two}
use Rattle.reg_tables.specs.Inside.Statements.{by_first_column, by_version, IsCommand, TableQuery, IsQuery, Takes, no_limit, plain_query}

-- ---- CREATE TABLE

-- the effect of a CREATE TABLE on a schema
pub record MakesTable (sql : List ℕ) (schema : Schema) (table : Table) (after : Schema) : Type 0 where
  pub command : IsCommand schema sql CreateTable
  pub text : statement_of sql (understood schema sql) ≡ sql
  pub defined : table_defined_by sql ≡ Ok table
  pub is : created schema table ≡ after
  pub whole : lacks_sequence after ≡ false

abbrev pub make_texts : List ℕ
make_texts = codes "CREATE TABLE texts (id INTEGER PRIMARY KEY, text TEXT NOT NULL UNIQUE) STRICT"

pub makes_texts : MakesTable make_texts empty_schema texts (partial_layout_one 1)
unfolding understood everything
makes_texts = record { command = record { is = refl; plain = (refl, refl) }; text = refl; defined = refl; is = refl; whole = refl }

abbrev pub make_versions : List ℕ
make_versions = codes "CREATE TABLE versions (subject TEXT NOT NULL, version INTEGER NOT NULL, id INTEGER NOT NULL REFERENCES texts (id), deleted INTEGER NOT NULL CHECK (deleted = 0 OR deleted = 1), PRIMARY KEY (subject, version)) STRICT"

pub makes_versions : MakesTable make_versions (partial_layout_one 1) (record versions { tree = 0 }) (partial_layout_one 2)
unfolding understood everything
makes_versions = record { command = record { is = refl; plain = (refl, refl) }; text = refl; defined = refl; is = refl; whole = refl }

abbrev pub make_levels : List ℕ
make_levels = codes "CREATE TABLE levels (subject TEXT NOT NULL PRIMARY KEY, level TEXT NOT NULL) STRICT"

pub makes_levels : MakesTable make_levels (partial_layout_one 2) (record levels { tree = 0 }) (partial_layout_one 3)
unfolding understood everything
makes_levels = record { command = record { is = refl; plain = (refl, refl) }; text = refl; defined = refl; is = refl; whole = refl }

abbrev pub make_kept : List ℕ
make_kept = codes "CREATE TABLE kept (key TEXT NOT NULL PRIMARY KEY, command TEXT NOT NULL, status INTEGER NOT NULL, body TEXT NOT NULL) STRICT"

pub makes_kept : MakesTable make_kept (partial_layout_one 3) (record kept { tree = 0 }) (partial_layout_one 4)
unfolding understood everything
makes_kept = record { command = record { is = refl; plain = (refl, refl) }; text = refl; defined = refl; is = refl; whole = refl }

abbrev pub make_meta : List ℕ
make_meta = codes "CREATE TABLE meta (name TEXT NOT NULL PRIMARY KEY, value TEXT NOT NULL) STRICT"

pub makes_meta : MakesTable make_meta (partial_layout_one 4) (record meta { tree = 0 }) (partial_layout_one 5)
unfolding understood everything
makes_meta = record { command = record { is = refl; plain = (refl, refl) }; text = refl; defined = refl; is = refl; whole = refl }

abbrev pub make_modes : List ℕ
make_modes = codes "CREATE TABLE modes (subject TEXT NOT NULL PRIMARY KEY, mode TEXT NOT NULL) STRICT"

pub makes_modes : MakesTable make_modes (partial_layout_two 0) (record (modes 11) { tree = 0 }) (partial_layout_two 1)
unfolding understood everything
makes_modes = record { command = record { is = refl; plain = (refl, refl) }; text = refl; defined = refl; is = refl; whole = refl }

abbrev pub make_evidence : List ℕ
make_evidence = codes "CREATE TABLE evidence (subject TEXT NOT NULL, version INTEGER NOT NULL, level TEXT NOT NULL, PRIMARY KEY (subject, version), FOREIGN KEY (subject, version) REFERENCES versions (subject, version) ON DELETE CASCADE) STRICT"

pub makes_evidence : MakesTable make_evidence (partial_layout_two 1) (record (evidence 13) { tree = 0 }) (partial_layout_two 2)
unfolding understood everything
makes_evidence = record { command = record { is = refl; plain = (refl, refl) }; text = refl; defined = refl; is = refl; whole = refl }

abbrev pub make_against : List ℕ
make_against = codes "CREATE TABLE against (subject TEXT NOT NULL, version INTEGER NOT NULL, position INTEGER NOT NULL, id INTEGER NOT NULL REFERENCES texts (id), PRIMARY KEY (subject, version, position), FOREIGN KEY (subject, version) REFERENCES versions (subject, version) ON DELETE CASCADE) STRICT"

pub makes_against : MakesTable make_against (partial_layout_two 2) (record (against 15) { tree = 0 }) (partial_layout_two 3)
unfolding understood everything
makes_against = record { command = record { is = refl; plain = (refl, refl) }; text = refl; defined = refl; is = refl; whole = refl }

-- ---- INSERT, UPDATE, DELETE

-- SQLite chooses the rowid, and the columns are the parameters
abbrev pub two_terms : List Term
two_terms = lit Null ∷ col 0 0 ∷ col 0 1 ∷ []

abbrev pub three_terms : List Term
three_terms = lit Null ∷ col 0 0 ∷ col 0 1 ∷ col 0 2 ∷ []

abbrev pub four_terms : List Term
four_terms = lit Null ∷ col 0 0 ∷ col 0 1 ∷ col 0 2 ∷ col 0 3 ∷ []

-- the id is the rowid, and its column is NULL
abbrev pub text_terms : List Term
text_terms = col 0 0 ∷ lit Null ∷ col 0 1 ∷ []

abbrev pub put_text : List ℕ
put_text = codes "INSERT INTO texts (id, text) VALUES (?1, ?2)"

pub put_text_is : (tables : List Table) (indexes : List Index) → IsCommand (five_tables_then tables indexes) put_text (Insert 0 (Values text_terms 3))
unfolding understood everything
put_text_is tables indexes = record { is = refl; plain = (refl, refl) }

-- the rowid, then the row with 1 in its last column
abbrev pub with_flag : List Term
with_flag = col 1 0 ∷ col 1 1 ∷ col 1 2 ∷ col 1 3 ∷ lit (Int (pos 1)) ∷ []

abbrev pub mark_version : List ℕ
mark_version = codes "UPDATE versions SET deleted = 1 WHERE subject = ?1 AND version = ?2"

pub mark_version_is : (tables : List Table) (indexes : List Index) → IsCommand (five_tables_then tables indexes) mark_version (Update 1 (record { lets = []; body = plain_query 2 by_version (col 1 0 ∷ with_flag) }))
unfolding understood everything
mark_version_is tables indexes = record { is = refl; plain = (refl, refl) }

abbrev pub put_evidence : List ℕ
put_evidence = codes "INSERT INTO evidence (subject, version, level) VALUES (?1, ?2, ?3)"

abbrev pub put_against : List ℕ
put_against = codes "INSERT INTO against (subject, version, position, id) VALUES (?1, ?2, ?3, ?4)"

abbrev pub drop_version : List ℕ
drop_version = codes "DELETE FROM versions WHERE subject = ?1 AND version = ?2"

-- the text is the parameter
abbrev pub by_text : List Term
by_text = op2 (Compare Eq Binary) (col 1 2) (col 0 0) ∷ []

-- ---- queries

pub laid_out : {schema : Schema} {db : Database} {contents : Contents} → HoldsContents schema db contents → HasFiveTables schema → HasFiveTables db.schema
laid_out holds first = subst HasFiveTables (sym holds.declared) first

pub one_has_five : (schema : Schema) → IsLayoutOne schema → HasFiveTables schema
one_has_five schema (inl is) = record { tables = []; indexes = layout_one.indexes; is = is }
one_has_five schema (inr is) = record { tables = []; indexes = layout_one_unindexed.indexes; is = is }

-- what is true of the five tables followed by any tables and indexes
pub with_any_tables : (P : Schema → Type 0) → ((tables : List Table) (indexes : List Index) → P (five_tables_then tables indexes)) → (schema : Schema) → HasFiveTables schema → P schema
with_any_tables P all schema first = subst P (sym first.is) (all first.tables first.indexes)

-- with any tables after the five, the SQL text is this query and takes these parameters
pub record IsAsked (q : TableQuery) (params : Row) : Type 0 where
  pub is : (schema : Schema) → HasFiveTables schema → IsQuery q schema
  pub takes : (schema : Schema) → HasFiveTables schema → Takes q params schema

asked : {q : TableQuery} {params : Row} → ((tables : List Table) (indexes : List Index) → IsQuery q (five_tables_then tables indexes) × Takes q params (five_tables_then tables indexes)) → IsAsked q params
asked {q} {params} each = record { is = λ schema first. (with_any_tables (λ s. IsQuery q s × Takes q params s) each schema first).0; takes = λ schema first. (with_any_tables (λ s. IsQuery q s × Takes q params s) each schema first).1 }

abbrev pub find_id : TableQuery
find_id = record { sql = codes "SELECT id FROM texts WHERE text = ?1"; tree = 0; tests = by_text; shown = col 1 0 ∷ []; names = codes "id" ∷ []; order = []; limit = no_limit }

pub asks_id : (text : List ℕ) → IsAsked find_id (Text text ∷ [])
unfolding understood everything
asks_id text = asked (λ tables indexes. (record { command = record { is = refl; plain = (refl, refl) }; unlisted = refl }, record { whole = (lit≤ tt, refl); typed = refl }))

abbrev pub first_row : Term
first_row = lit (Int (pos 1))

-- by id, from the greatest
abbrev pub from_last : List (Term × Key)
from_last = (col 1 0, record { collation = Binary; descending = true }) ∷ []

abbrev pub find_last : TableQuery
find_last = record { sql = codes "SELECT id FROM texts ORDER BY id DESC LIMIT 1"; tree = 0; tests = []; shown = col 1 0 ∷ []; names = codes "id" ∷ []; order = from_last; limit = first_row }

pub asks_last : IsAsked find_last []
unfolding understood everything
asks_last = asked (λ tables indexes. (record { command = record { is = refl; plain = (refl, refl) }; unlisted = refl }, record { whole = (lit≤ tt, refl); typed = refl }))

-- by subject and number
abbrev pub in_order : List (Term × Key)
in_order = (col 1 1, record { collation = Binary; descending = false }) ∷ (col 1 2, record { collation = Binary; descending = false }) ∷ []

-- a query of versions without their subjects
abbrev pub numbers_query : List ℕ → List Term → List (Term × Key) → Term → TableQuery
numbers_query sql tests order limit = record { sql = sql; tree = 2; tests = tests; shown = col 1 2 ∷ col 1 3 ∷ col 1 4 ∷ []; names = codes "version" ∷ codes "id" ∷ codes "deleted" ∷ []; order = order; limit = limit }

-- a query of versions with their subjects
abbrev pub versions_query : List ℕ → List Term → List (Term × Key) → Term → TableQuery
versions_query sql tests order limit = record { sql = sql; tree = 2; tests = tests; shown = col 1 1 ∷ col 1 2 ∷ col 1 3 ∷ col 1 4 ∷ []; names = codes "subject" ∷ codes "version" ∷ codes "id" ∷ codes "deleted" ∷ []; order = order; limit = limit }

abbrev pub find_versions : TableQuery
find_versions = numbers_query (codes "SELECT version, id, deleted FROM versions WHERE subject = ?1 ORDER BY subject, version") by_first_column in_order no_limit

pub asks_versions : (subject : List ℕ) → IsAsked find_versions (Text subject ∷ [])
unfolding understood everything
asks_versions subject = asked (λ tables indexes. (record { command = record { is = refl; plain = (refl, refl) }; unlisted = refl }, record { whole = (lit≤ tt, refl); typed = refl }))

-- by subject and number, from the greatest
abbrev pub from_greatest : List (Term × Key)
from_greatest = (col 1 1, record { collation = Binary; descending = true }) ∷ (col 1 2, record { collation = Binary; descending = true }) ∷ []

abbrev pub find_last_version : TableQuery
find_last_version = numbers_query (codes "SELECT version, id, deleted FROM versions WHERE subject = ?1 ORDER BY subject DESC, version DESC LIMIT 1") by_first_column from_greatest first_row

pub asks_last_version : (subject : List ℕ) → IsAsked find_last_version (Text subject ∷ [])
unfolding understood everything
asks_last_version subject = asked (λ tables indexes. (record { command = record { is = refl; plain = (refl, refl) }; unlisted = refl }, record { whole = (lit≤ tt, refl); typed = refl }))

-- the subject is the parameter, and the version isn't deleted
abbrev pub by_live_key : List Term
by_live_key = op2 (Compare Eq Binary) (col 1 1) (col 0 0) ∷ op2 (Compare Eq Binary) (col 1 4) (lit (Int (pos 0))) ∷ []

abbrev pub find_last_live : TableQuery
find_last_live = numbers_query (codes "SELECT version, id, deleted FROM versions WHERE subject = ?1 AND deleted = 0 ORDER BY subject DESC, version DESC LIMIT 1") by_live_key from_greatest first_row

pub asks_last_live : (subject : List ℕ) → IsAsked find_last_live (Text subject ∷ [])
unfolding understood everything
asks_last_live subject = asked (λ tables indexes. (record { command = record { is = refl; plain = (refl, refl) }; unlisted = refl }, record { whole = (lit≤ tt, refl); typed = refl }))

-- the subject comes after the parameter
abbrev pub by_later_subject : List Term
by_later_subject = op2 (Compare Gt Binary) (col 1 1) (col 0 0) ∷ []

abbrev pub find_after : TableQuery
find_after = versions_query (codes "SELECT subject, version, id, deleted FROM versions WHERE subject > ?1 ORDER BY subject, version LIMIT 1") by_later_subject in_order first_row

pub asks_after : (subject : List ℕ) → IsAsked find_after (Text subject ∷ [])
unfolding understood everything
asks_after subject = asked (λ tables indexes. (record { command = record { is = refl; plain = (refl, refl) }; unlisted = refl }, record { whole = (lit≤ tt, refl); typed = refl }))

-- the subject is the first parameter, and the number is above the second
abbrev pub by_later_number : List Term
by_later_number = op2 (Compare Eq Binary) (col 1 1) (col 0 0) ∷ op2 (Compare Gt Binary) (col 1 2) (col 0 1) ∷ []

abbrev pub find_next : TableQuery
find_next = numbers_query (codes "SELECT version, id, deleted FROM versions WHERE subject = ?1 AND version > ?2 ORDER BY subject, version LIMIT 1") by_later_number in_order first_row

pub asks_next : (subject : List ℕ) (number : ℕ) → IsAsked find_next (Text subject ∷ Int (pos number) ∷ [])
unfolding understood everything
asks_next subject number = asked (λ tables indexes. (record { command = record { is = refl; plain = (refl, refl) }; unlisted = refl }, record { whole = (lit≤ tt, refl); typed = refl }))

-- the id of the version is the parameter
abbrev pub by_its_id : List Term
by_its_id = op2 (Compare Eq Binary) (col 1 3) (col 0 0) ∷ []

abbrev pub find_of_id : TableQuery
find_of_id = versions_query (codes "SELECT subject, version, id, deleted FROM versions WHERE id = ?1 ORDER BY subject, version") by_its_id in_order no_limit

pub asks_of_id : (id : ℕ) → IsAsked find_of_id (Int (pos id) ∷ [])
unfolding understood everything
asks_of_id id = asked (λ tables indexes. (record { command = record { is = refl; plain = (refl, refl) }; unlisted = refl }, record { whole = (lit≤ tt, refl); typed = refl }))

abbrev pub find_one_of_id : TableQuery
find_one_of_id = versions_query (codes "SELECT subject, version, id, deleted FROM versions WHERE id = ?1 LIMIT 1") by_its_id [] first_row

pub asks_one_of_id : (id : ℕ) → IsAsked find_one_of_id (Int (pos id) ∷ [])
unfolding understood everything
asks_one_of_id id = asked (λ tables indexes. (record { command = record { is = refl; plain = (refl, refl) }; unlisted = refl }, record { whole = (lit≤ tt, refl); typed = refl }))

abbrev pub first_rows : Term
first_rows = lit (Int (pos 33))

abbrev pub find_some_of_id : TableQuery
find_some_of_id = versions_query (codes "SELECT subject, version, id, deleted FROM versions WHERE id = ?1 LIMIT 33") by_its_id [] first_rows

pub asks_some_of_id : (id : ℕ) → IsAsked find_some_of_id (Int (pos id) ∷ [])
unfolding understood everything
asks_some_of_id id = asked (λ tables indexes. (record { command = record { is = refl; plain = (refl, refl) }; unlisted = refl }, record { whole = (lit≤ tt, refl); typed = refl }))

-- the subject and the id are the first two parameters, and the deleted flag is at most the third
abbrev pub by_shown_id : List Term
by_shown_id = op2 (Compare Eq Binary) (col 1 1) (col 0 0) ∷ op2 (Compare Eq Binary) (col 1 3) (col 0 1) ∷ op2 (Compare Le Binary) (col 1 4) (col 0 2) ∷ []

abbrev pub find_last_with_id : TableQuery
find_last_with_id = numbers_query (codes "SELECT version, id, deleted FROM versions WHERE subject = ?1 AND id = ?2 AND deleted <= ?3 ORDER BY subject DESC, version DESC LIMIT 1") by_shown_id from_greatest first_row

pub asks_last_with_id : (subject : List ℕ) (id : ℕ) (deleted : Bool) → IsAsked find_last_with_id (Text subject ∷ Int (pos id) ∷ flag_cell deleted ∷ [])
unfolding understood everything
asks_last_with_id subject id deleted = asked (λ tables indexes. (record { command = record { is = refl; plain = (refl, refl) }; unlisted = refl }, record { whole = (lit≤ tt, refl); typed = refl }))

abbrev pub list_versions : TableQuery
list_versions = versions_query (codes "SELECT subject, version, id, deleted FROM versions ORDER BY subject, version") [] in_order no_limit

pub asks_list : IsAsked list_versions []
unfolding understood everything
asks_list = asked (λ tables indexes. (record { command = record { is = refl; plain = (refl, refl) }; unlisted = refl }, record { whole = (lit≤ tt, refl); typed = refl }))

abbrev pub all_ids : TableQuery
all_ids = record { sql = codes "SELECT id FROM texts"; tree = 0; tests = []; shown = col 1 0 ∷ []; names = codes "id" ∷ []; order = []; limit = no_limit }

pub asks_all_ids : IsAsked all_ids []
unfolding understood everything
asks_all_ids = asked (λ tables indexes. (record { command = record { is = refl; plain = (refl, refl) }; unlisted = refl }, record { whole = (lit≤ tt, refl); typed = refl }))

-- the rowid is at least the first parameter and at most the second
abbrev pub by_range : List Term
by_range = op2 (Compare Ge Binary) (col 1 0) (col 0 0) ∷ op2 (Compare Le Binary) (col 1 0) (col 0 1) ∷ []

abbrev pub texts_between : TableQuery
texts_between = record {
  sql = codes "SELECT rowid, id, text FROM texts WHERE id >= ?1 AND id <= ?2";
  tree = 0;
  tests = by_range;
  shown = col 1 0 ∷ col 1 0 ∷ col 1 2 ∷ [];
  names = codes "id" ∷ codes "id" ∷ codes "text" ∷ [];
  order = [];
  limit = no_limit;
}

pub asks_between : (low high : ℕ) → IsAsked texts_between (Int (pos low) ∷ Int (pos high) ∷ [])
unfolding understood everything
asks_between low high = asked (λ tables indexes. (record { command = record { is = refl; plain = (refl, refl) }; unlisted = refl }, record { whole = (lit≤ tt, refl); typed = refl }))

abbrev pub all_versions : TableQuery
all_versions = record { sql = codes "SELECT rowid, subject, version, id, deleted FROM versions"; tree = 2; tests = []; shown = col 1 0 ∷ col 1 1 ∷ col 1 2 ∷ col 1 3 ∷ col 1 4 ∷ []; names = codes "rowid" ∷ codes "subject" ∷ codes "version" ∷ codes "id" ∷ codes "deleted" ∷ []; order = []; limit = no_limit }

pub asks_all_versions : IsAsked all_versions []
unfolding understood everything
asks_all_versions = asked (λ tables indexes. (record { command = record { is = refl; plain = (refl, refl) }; unlisted = refl }, record { whole = (lit≤ tt, refl); typed = refl }))

abbrev pub all_levels : TableQuery
all_levels = record { sql = codes "SELECT rowid, subject, level FROM levels"; tree = 4; tests = []; shown = col 1 0 ∷ col 1 1 ∷ col 1 2 ∷ []; names = codes "rowid" ∷ codes "subject" ∷ codes "level" ∷ []; order = []; limit = no_limit }

pub asks_all_levels : IsAsked all_levels []
unfolding understood everything
asks_all_levels = asked (λ tables indexes. (record { command = record { is = refl; plain = (refl, refl) }; unlisted = refl }, record { whole = (lit≤ tt, refl); typed = refl }))

abbrev pub all_kept : TableQuery
all_kept = record { sql = codes "SELECT rowid, key, command, status, body FROM kept"; tree = 6; tests = []; shown = col 1 0 ∷ col 1 1 ∷ col 1 2 ∷ col 1 3 ∷ col 1 4 ∷ []; names = codes "rowid" ∷ codes "key" ∷ codes "command" ∷ codes "status" ∷ codes "body" ∷ []; order = []; limit = no_limit }

pub asks_all_kept : IsAsked all_kept []
unfolding understood everything
asks_all_kept = asked (λ tables indexes. (record { command = record { is = refl; plain = (refl, refl) }; unlisted = refl }, record { whole = (lit≤ tt, refl); typed = refl }))

abbrev pub all_meta : TableQuery
all_meta = record { sql = codes "SELECT rowid, name, value FROM meta"; tree = 8; tests = []; shown = col 1 0 ∷ col 1 1 ∷ col 1 2 ∷ []; names = codes "rowid" ∷ codes "name" ∷ codes "value" ∷ []; order = []; limit = no_limit }

pub asks_all_meta : IsAsked all_meta []
unfolding understood everything
asks_all_meta = asked (λ tables indexes. (record { command = record { is = refl; plain = (refl, refl) }; unlisted = refl }, record { whole = (lit≤ tt, refl); typed = refl }))
