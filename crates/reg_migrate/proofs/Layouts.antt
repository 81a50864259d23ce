-- Layout 1, by whether it has its index.
use Rattle.std.proofs.Common.{◌≡◌, ◌≢◌, ◌⊎◌, ◌∙◌, inl, inr, Ok, Err, Result, IsTrue, sym, subst}
use Rattle.std.specs.Prelude.{IfErr}
use Rattle.sqlite.specs.Tree.{Trees}
use Rattle.sqlite.specs.Schema.{Schema}
use Rattle.sqlite.specs.Effect.{Database}
use Rattle.sqlite.specs.State.{State}
use Rattle.sqlite.specs.declared.error.Error.{Error}
use Rattle.reg_tables.specs.Layout.{layout_one, layout_one_unindexed, layout_two, IsLayoutOne}
use Rattle.reg_tables.specs.Contents.{HoldsContents}
use Rattle.reg_tables.specs.Changes.{marked_layout_two}
use Rattle.reg_tables.specs.FailedCalls.{IsWriteFault, IsInsertFault}
use Rattle.reg_migrate.specs.Inside.{HasLayoutOneIfOpen, HasLayoutOne, HoldsMigrated, MigratesFrom, TreesHoldMigrated}

-- contents under some schema of layout 1 are contents under the database's own schema
pub holds_under : (schema : Schema) (db : Database) → db.schema ≡ schema → (it : HasLayoutOne db) → HoldsContents schema db it.contents
holds_under schema db is it = subst (λ x. HoldsContents x db it.contents) (sym it.holds.declared ∙ is) it.holds

-- a database of layout 1 that doesn't lack the index has it
pub is_indexed : (db : Database) → db.schema ≢ layout_one_unindexed → HasLayoutOne db → db.schema ≡ layout_one
is_indexed db other it = elim it.known [
  | inl has ↦ it.holds.declared ∙ has
  | inr lacks ↦ absurd (other (it.holds.declared ∙ lacks))
]

-- a schema of layout 1 that doesn't lack the index has it
pub one_of_two : (schema : Schema) → IsLayoutOne schema → (schema ≢ layout_one_unindexed) → schema ≡ layout_one
one_of_two schema (inl has) other = has
one_of_two schema (inr lacks) other = absurd (other lacks)

-- a migration from the database's own schema is a migration from each schema of layout 1
pub migrates_both : (schema : Schema) (before now : Database) → ((other : Schema) → IsLayoutOne other → before.schema ≡ other → other ≡ schema) → MigratesFrom schema before now → HoldsMigrated before now
migrates_both schema before now one moves other known contents holds = moves contents (subst (λ x. HoldsContents x before contents) (one other known holds.declared) holds)

-- over a closed connection a write fails with a fault; over an open one, as its contract says
pub fails_either : {X : Type 0} (old new : State) (r : Result X Error) → IfErr r (λ e. IsTrue old.is_open ⊎ IsWriteFault old new e)
    → IfErr r (λ e. HasLayoutOne old.now → IsInsertFault old new e) → IfErr r (λ e. HasLayoutOneIfOpen old → IsInsertFault old new e)
fails_either old new (Ok x) shut fails = tt
fails_either old new (Err e) (inl is_open) fails = λ can. fails (can is_open)
fails_either old new (Err e) (inr fault) fails = λ can. inl (inl fault)

-- the trees of the migrated tables have the migrated contents after a crash
pub taken_if_held : (before now : Database) (db : Trees) → db ≡ now.trees → HoldsMigrated before now → TreesHoldMigrated before db
taken_if_held before now db is moves schema known contents holds =
    let it = moves schema known contents holds in
    subst (λ d. HoldsContents layout_two (record { schema = layout_two; trees = d }) (marked_layout_two contents)) (sym is)
    (subst (λ x. HoldsContents layout_two (record { schema = x; trees = now.trees }) (marked_layout_two contents)) it.declared it)
