-- The names of the kit that proofs cite, passed on from one place. Declares nothing.
pub use Rattle.sqlite.proofs.Callers.{IsPlain, command_of, one_step, reads_as, runs_as, statement_of}
pub use Rattle.sqlite.proofs.StateLemmas.{survives_then}
pub use Rattle.sqlite.specs.Cast.{cast, cast_row}
pub use Rattle.sqlite.specs.Change.{KeepsRows, automatics, created, indexed, is_reserved, is_used, next_tree}
pub use Rattle.sqlite.specs.Clock.{timed}
pub use Rattle.sqlite.specs.Collation.TheVariants.{Binary}
pub use Rattle.sqlite.specs.Command.{Command}
pub use Rattle.sqlite.specs.Command.TheVariants.{CreateTable, Delete, Insert, Select, Update}
pub use Rattle.sqlite.specs.Compile.{index_defined_by, table_defined_by}
pub use Rattle.sqlite.specs.Does.{Concludes, Does, MakesSequence, Tally, WritesRows, lacks_sequence}
pub use Rattle.sqlite.specs.Edit.{Applies, Edit, IsRefused, are_fresh, edit_of, have_rowids, id_in, is_taken, left_by, next_rowid, numbered, put_all, row_at, taken_by, without_all}
pub use Rattle.sqlite.specs.Effect.{Answers, Database, IsDatabase, RefusesToRead, edit_error, is_query, value_rows}
pub use Rattle.sqlite.specs.Held.{Held}
pub use Rattle.sqlite.specs.Kind.TheVariants.{Integer}
pub use Rattle.sqlite.specs.Listing.{IsSourceOf, if_select, is_select, listing_schema, reads_listing, understood}
pub use Rattle.sqlite.specs.Order.{Row, value_cmp}
pub use Rattle.sqlite.specs.Program.{overlay}
pub use Rattle.sqlite.specs.Query.{IsAnswer, Output, Query, inner, key_cmp, output_cmp}
pub use Rattle.sqlite.specs.Reading.{IsReadError}
pub use Rattle.sqlite.specs.Rowids.{Rowids}
pub use Rattle.sqlite.specs.Rowids.TheVariants.{Above, Chosen, Given}
pub use Rattle.sqlite.specs.Rows.{Deletes, Edited, Inserts, Queried, Sourced, Task, Then, Updates, Written, count_of, rowids_for, stamped}
pub use Rattle.sqlite.specs.Schema.{Schema}
pub use Rattle.sqlite.specs.Source.{Source}
pub use Rattle.sqlite.specs.Source.TheVariants.{Values}
pub use Rattle.sqlite.specs.State.{Escapes, Executes, ExecutesInside, FailsToShow, HasCause, HasCleanDisk, IsMisplaced, IsNoStatement, IsRolledBack, IsStatement, IsTooLate, IsUnchanged, KeepsCommit, RunsCommand, Shown, ShowsRows, State, Survives, Writes, is_pragma, mode_of, shows_rows, store_error, text_of}
pub use Rattle.sqlite.specs.Table.{Table}
pub use Rattle.sqlite.specs.Term.{Env, Term, col, eval, eval_all, holds, lit, op2}
pub use Rattle.sqlite.specs.Tree.{IsAscending, Trees, has_rowid, put_row, rowid, with_tree, without_rowid}
pub use Rattle.sqlite.specs.Values.{bound, type_of}
pub use Rattle.sqlite.specs.View.{is_int}
pub use Rattle.sqlite.specs.declared.error.Error.{Error}
pub use Rattle.sqlite.specs.declared.error.Error.TheVariants.{IntegralValueOutOfRange, InvalidColumnIndex, InvalidColumnType, SqliteFailure, Utf8Error}
pub use Rattle.sqlite.specs.declared.transaction.Transaction.{Transaction}
pub use Rattle.sqlite.specs.declared.types.Value.{Value}
pub use Rattle.sqlite.specs.declared.types.Value.TheVariants.{Blob, Int, Null, Real, Text}
pub use Rattle.sqlite_ast.specs.declared.Statement.{Statement}
pub use Rattle.sqlite_catalog.specs.Calls.{RefusesIndex, RefusesTable}
pub use Rattle.sqlite_catalog.specs.Listing.{is_fit, is_formed}
pub use Rattle.sqlite_catalog.specs.declared.error.Refusal.TheVariants.{BadKey, BadName, BadText, Invalid, NameTaken, TooBig}
pub use Rattle.sqlite_disk.specs.Disk.{MoreFaults}
pub use Rattle.sqlite_resolve.specs.Compile.{first, small, with_command}
pub use Rattle.sqlite_resolve.specs.Lowering.{Checked, and_then}
pub use Rattle.sqlite_resolve.specs.declared.compiled.Compiled.{Compiled}
pub use Rattle.sqlite_resolve.specs.declared.error.CompileError.TheVariants.{NoSuchTable}
pub use Rattle.sqlite_rules.proofs.ActionLemmas.{no_heir, no_works}
pub use Rattle.sqlite_rules.proofs.KeyLemmas.{agree_back, differ_back}
pub use Rattle.sqlite_rules.proofs.ListLemmas.{all_from, all_has, any_has, contains_had, has_contained, has_either, has_filtered, has_found, has_got, has_kept, has_left, has_right, some_from, some_has, test_from, test_has, test_push}
pub use Rattle.sqlite_rules.proofs.RuleLemmas.{keeps_at, keeps_from, same_table}
pub use Rattle.sqlite_rules.proofs.TableLemmas.{has_put, int_is, put_all_adds, put_all_has, put_all_keeps, put_has, without_all_has}
pub use Rattle.sqlite_rules.specs.Action.{Acts, ActsOn, AreChildren, End, Leads, Settles, Work, action_edit, deed_of, is_child_of, loses, max_depth, pairs, work_by, works}
pub use Rattle.sqlite_rules.specs.Calls.{ids_of}
pub use Rattle.sqlite_rules.specs.Edit.{IsOversized}
pub use Rattle.sqlite_rules.specs.Lists.{Has}
pub use Rattle.sqlite_rules.specs.declared.error.Refusal.{Refusal}
pub use Rattle.sqlite_rules.specs.declared.error.Refusal.TheVariants.{BadReference, Mismatch, NoRowid, TooDeep, Violates}
pub use Rattle.sqlite_schema.specs.Code.{op_term, term_in, term_to, terms_in}
pub use Rattle.sqlite_schema.specs.Program.{lets_of}
pub use Rattle.sqlite_schema.specs.Rules.{Keeps, Obeys, Refers, agree, are_present, are_typed, clashes, differ, guards, has_computed, has_null, has_parent, index_reals, parent_key, passes_checks, references_fit, table_reals}
pub use Rattle.sqlite_schema.specs.declared.code.Op.{Op}
pub use Rattle.sqlite_schema.specs.declared.code.Op.TheVariants.{Case, Column, Literal, Unary}
pub use Rattle.sqlite_schema.specs.declared.command.Command.TheVariants.{Begin, Commit, CreateIndex, CreateView, DropIndex, DropTable, DropView, InsertOr, Nothing, Release, Rollback, RollbackTo, Rows, Savepoint}
pub use Rattle.sqlite_schema.specs.declared.command.Returning.{Returning}
pub use Rattle.sqlite_schema.specs.declared.program.Program.{Program}
pub use Rattle.sqlite_schema.specs.declared.schema.Action.TheVariants.{NoAction}
pub use Rattle.sqlite_schema.specs.declared.schema.Among.TheVariants.{All}
pub use Rattle.sqlite_schema.specs.declared.schema.Constraint.TheVariants.{Check, Datatype, ForeignKey, NotNull, PrimaryKey, Unique}
pub use Rattle.sqlite_schema.specs.declared.schema.Index.{Index}
pub use Rattle.sqlite_schema.specs.declared.schema.Keys.TheVariants.{Enforced}
pub use Rattle.sqlite_sql.specs.Catalog.{entry_of}
pub use Rattle.sqlite_sql.specs.Group.{Aggregate, Grouping, IsSummary, value_over}
pub use Rattle.sqlite_sql.specs.Ops.{fits_i64, from_truth, is_false, is_null, is_true}
pub use Rattle.sqlite_sql.specs.Program.{ProgramOverflows}
pub use Rattle.sqlite_sql.specs.declared.aggregate.AggregateOp.TheVariants.{CountRows}
pub use Rattle.sqlite_sql.specs.declared.ops.BinaryOp.TheVariants.{Compare, Or}
pub use Rattle.sqlite_sql.specs.declared.ops.CompareOp.TheVariants.{Eq, Ge, Gt, Le}
pub use Rattle.sqlite_syntax.specs.declared.statement.Parsed.{Parsed}
pub use Rattle.sqlite_trees.proofs.ListLemmas.{all-filter, all_both, all_of, all_weaker, ascending-filter, ascending-map, ascending_weaker, filter-map, filter_all}
pub use Rattle.sqlite_trees.proofs.TreeLemmas.{all-put_row}
pub use Rattle.sqlite_trees.specs.View.{IsStorable}
pub use Rattle.sqlite_trees.specs.declared.error.StoreError.{StoreError}
pub use Rattle.sqlite_trees.specs.declared.error.StoreError.TheVariants.{Broken, Corrupt, Full, Io, OutOfMemory, Unstorable}
pub use Rattle.sqlite_trees.specs.declared.store.Store.{Ghosts}
pub use Rattle.sqlite_typing.specs.Types.{accepts_program, accepts_terms}
pub use Rattle.sqlite_value.proofs.KeyLemmas.{by_key_total}
pub use Rattle.sqlite_value.proofs.OrderLemmas.{value_cmp-Int, value_cmp-Text, value_cmp_total}
pub use Rattle.sqlite_value.specs.Keys.{plain}
pub use Rattle.sqlite_value.specs.Order.{bytes, number}
pub use Rattle.sqlite_value.specs.declared.keys.Key.{Key}
pub use Rattle.std.proofs.lemmas.Bool.{MatchBool-at_false, and_from, and_parts, both_ways, cases_Bool, cases_eq, cases_lt, eq-eqb, eqb-true, false_from_ne_true, lt-ltb, ne_eqb, not-true, not_from_false, or_cases, or_left, or_parts, or_right}
pub use Rattle.std.proofs.lemmas.Cmp.{int_cmp_total, nat_cmp_total, nat_list_cmp_total, on_total, ranked, then_total, tied_back, tied_itself, upto}
pub use Rattle.std.proofs.lemmas.Int.{ints}
pub use Rattle.std.proofs.lemmas.Iterator.Adapters.{option_map_id}
pub use Rattle.std.proofs.lemmas.List.{length-map}
pub use Rattle.std.proofs.lemmas.List.Sorted.{Contains-permutation, IsPermutation-map, IsPermutation-reverse, IsPermutation-sym, length_permutation}
pub use Rattle.std.proofs.lemmas.List.Sums.{sum_by-cons}
pub use Rattle.std.proofs.lemmas.Map.Keys.{IsDistinct-IsPermutation, le_from_not_gt}
pub use Rattle.std.proofs.lemmas.Option.{slice_get-map}
pub use Rattle.std.proofs.lemmas.Simd.{map-map}
pub use Rattle.std.proofs.lemmas.Slice.Eq.{bytes_eq-Decides}
pub use Rattle.std.specs.Cmp.{IsTotalOrder, int_cmp_is, unsigned_Decides}
pub use Rattle.std.specs.FinMap.{FinMap, IsAntisymmetric, empty, entries, entries_sorted, find, from_entries, get, get-empty, get-entries, get-from_entries, get-insert, get-remove, get-retain_keys, int_cmp-IsAntisymmetric, is_sorted, nat_cmp-IsAntisymmetric, remove, same_map, slice_cmp-IsAntisymmetric}
pub use Rattle.std.specs.FinMap.Entries.{below_all}
pub use Rattle.std.specs.Float.{NotNan}
pub use Rattle.std.specs.List.{AllByRecursion, AllZip, IsDistinct, cons_option, filter_map, flat_map, last_or, list_all, list_any, sum_by}
pub use Rattle.std.specs.List.Sorted.{IsPermutation, IsSorted}
pub use Rattle.std.specs.Ordering.{MatchOrdering, eq_by_cmp, int_cmp, is_eq, is_ge, is_gt, is_le, is_lt, is_ne, match_ordering, nat_cmp, ordering_reverse, ordering_then}
pub use Rattle.std.specs.Prelude.{Any, IfErr, IfOk, IsErrAnd, IsSome, IsTrue, IsUtf8, MatchBool, OnOk, Result, String, Vec, bytes_eq, if◌then◌else◌, is_some, min, nat_lt, option_map, slice_get, string_bytes, true, unwrap_or, ◌<ℤ◌, ◌<◌, ◌^◌, ◌||◌}
pub use Rattle.std.specs.declared.alloc.Global.{Global}
pub use Rattle.std.specs.declared.cmp.Ordering.{Ordering}
pub use Rattle.std.specs.declared.cmp.Ordering.TheVariants.{Less}
