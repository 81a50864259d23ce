-- What an SQL text means in a schema.
use Rattle.std.specs.Prelude.{◌≡◌, ℕ, ◌≤◌, pos, negsuc, true, false, Bool, List, [], ◌∷◌, length, None, Ok, Err, Result}
use Rattle.sqlite_value.specs.declared.keys.Key.{Key}
use Rattle.sqlite.specs.declared.types.Value.TheVariants.{Int}
use Rattle.sqlite.specs.Order.{Row}
use Rattle.sqlite.specs.Term.{Term, lit, col, op2}
use Rattle.sqlite.specs.Collation.TheVariants.{Binary}
use Rattle.sqlite_sql.specs.declared.ops.BinaryOp.TheVariants.{Compare}
use Rattle.sqlite_sql.specs.declared.ops.CompareOp.TheVariants.{Eq}
use Rattle.sqlite.specs.Query.{Query, inner, end}
use Rattle.sqlite.specs.Schema.{Schema}
use Rattle.sqlite.specs.Command.{Command}
use Rattle.sqlite.specs.Command.TheVariants.{Select}
use Rattle.sqlite.specs.Listing.{understood, reads_listing}
use Rattle.sqlite.proofs.Callers.{IsPlain, command_of}
use Rattle.sqlite_resolve.specs.declared.compiled.Compiled.{Compiled}
use Rattle.sqlite_resolve.specs.declared.error.CompileError.{CompileError}
use Rattle.sqlite_typing.specs.Types.{accepts_program}

-- the SQL text is this command; it has no RETURNING and doesn't read the clock
pub record IsCommand (schema : Schema) (sql : List ℕ) (command : Command) : Type 0 where
  pub is : command_of (understood schema sql) ≡ command
  pub plain : IsPlain (understood schema sql)

-- the LIMIT of a SELECT that has none: -1, which returns all rows
abbrev pub no_limit : Term
no_limit = lit (Int (negsuc 0))

-- SELECT of terms from one table, with ORDER BY and LIMIT
abbrev pub ordered_query : ℕ → List Term → List Term → List (Term × Key) → Term → Query
ordered_query tree tests shown order limit = record {
  from = inner tree end;
  filter = tests;
  group = None;
  project = shown;
  distinct = false;
  collations = [];
  order = order;
  limit = limit;
  offset = lit (Int (pos 0));
}

-- the same without ORDER BY and LIMIT
abbrev pub plain_query : ℕ → List Term → List Term → Query
plain_query tree tests shown = ordered_query tree tests shown [] no_limit

-- the SQL text selects these terms of the rows of a table that pass the tests, in this order
pub record TableQuery : Type 0 where
  pub sql : List ℕ
  pub tree : ℕ
  pub tests : List Term
  pub shown : List Term
  pub names : List (List ℕ)
  pub order : List (Term × Key)
  pub limit : Term

abbrev pub body_of : TableQuery → Query
body_of q = ordered_query q.tree q.tests q.shown q.order q.limit

-- the SQL text is one statement with this number of parameters
abbrev pub IsOneStatement : List ℕ → ℕ → Result Compiled CompileError → Type 0
IsOneStatement sql count (Ok c) = (length sql ≤ c.tail) × (length c.names ≡ count)
IsOneStatement sql count (Err e) = ⊥

-- in this schema the SQL text is this query, and doesn't read the list of tables
pub record IsSelect (sql : List ℕ) (names : List (List ℕ)) (body : Query) (schema : Schema) : Type 0 where
  pub command : IsCommand schema sql (Select (record { lets = []; body = body }) names)
  pub unlisted : reads_listing schema sql ≡ false

-- in this schema the query takes these parameters
pub record TakesSelect (sql : List ℕ) (body : Query) (params : Row) (schema : Schema) : Type 0 where
  pub whole : IsOneStatement sql (length params) (understood schema sql)
  pub typed : accepts_program schema [] body params ≡ true

-- the same for a query of one table
abbrev pub IsQuery : TableQuery → Schema → Type 0
IsQuery q = IsSelect q.sql q.names (body_of q)

abbrev pub Takes : TableQuery → Row → Schema → Type 0
Takes q = TakesSelect q.sql (body_of q)

-- ---- rows by their keys

-- the test that the first column of a row equals the first parameter; the key may have more columns
abbrev pub by_first_column : List Term
by_first_column = op2 (Compare Eq Binary) (col 1 1) (col 0 0) ∷ []

-- the test that the first two columns of a row equal the first two parameters
abbrev pub by_version : List Term
by_version = op2 (Compare Eq Binary) (col 1 1) (col 0 0) ∷ op2 (Compare Eq Binary) (col 1 2) (col 0 1) ∷ []

-- the test that the first three columns of a row equal the first three parameters
abbrev pub by_position : List Term
by_position = op2 (Compare Eq Binary) (col 1 1) (col 0 0) ∷ op2 (Compare Eq Binary) (col 1 2) (col 0 1) ∷ op2 (Compare Eq Binary) (col 1 3) (col 0 2) ∷ []

-- the test that the rowid equals the first parameter
abbrev pub by_id : List Term
by_id = op2 (Compare Eq Binary) (col 1 0) (col 0 0) ∷ []
