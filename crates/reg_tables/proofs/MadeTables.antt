-- The database after CREATE TABLE.
use Rattle.std.proofs.Common.{◌≡◌, ℕ, List, [], slice_get, None, false, Ok, refl, sym, ap, subst, ◌∙◌}
use Rattle.reg_tables.proofs.Kit.{Trees, Table, Schema, created, next_tree, KeepsRows, CreateTable, Tally, lacks_sequence, Database, IsDatabase, State, Executes, Writes, runs_as}
use Rattle.reg_tables.specs.Layout.{empty_schema}
use Rattle.reg_tables.specs.Contents.{TableName, Texts, Versions, Levels, Kept, Meta, Modes, Evidence, Against, ordinal_of, form_of, map_of, Contents, ShowsIn, ShowsAll, HoldsContents}
use Rattle.reg_tables.specs.Changes.{no_contents}
use Rattle.reg_tables.proofs.Statements.{MakesTable}
use Rattle.reg_tables.proofs.Tables.{shows_made}
use Rattle.reg_tables.proofs.Writes.{went, same_value}

-- the schema has one more table, which is empty, and the others keep their rows
pub record MakesMore (before : Schema) (after : Schema) (old new : Database) : Type 0 where
  pub declared : new.schema ≡ after
  pub sound : IsDatabase new
  pub others : KeepsRows before.tables old.trees new.trees
  pub empty : new.trees (next_tree before) ≡ []

pub makes_more : (sql : List ℕ) (before : Schema) (table : Table) (after : Schema) → MakesTable sql before table after → (old new : State) (count : ℕ) → old.now.schema ≡ before → Executes sql [] old new (Ok count) → MakesMore before after old.now new.now
makes_more sql before table after m old new count declared h =
    let w = subst (λ t. Writes old new None CreateTable t [] count) m.text (runs_as sql [] old new before declared CreateTable m.command.is m.command.plain count h) in
    let all = went w.changed in
    let first = went all.1 in
    let made = first.1 in
    let both : Ok made.table ≡ Ok table = sym made.defined ∙ m.defined in
    let same : made.table ≡ table = cc in
    let schema : first.0.schema ≡ created before table = made.is ∙ ap (λ s. created s made.table) declared ∙ ap (created before) same in
    let plain : lacks_sequence first.0.schema ≡ false = ap lacks_sequence (schema ∙ m.is) ∙ m.whole in
    let now : new.now ≡ first.0 = ap (λ (p : Tally × Database). p.1) (same_value all.2) ∙ same_value (rw plain at first.2) in
    let kept = subst (λ (s : Schema). KeepsRows s.tables old.now.trees first.0.trees) declared made.others in
    let last = subst (λ s. first.0.trees (next_tree s) ≡ []) declared made.empty in
    record {
      declared = ap (λ (d : Database). d.schema) now ∙ schema ∙ m.is;
      sound = (runs_as sql [] old new before declared CreateTable m.command.is m.command.plain count h).sound;
      others = subst (λ (d : Database). KeepsRows before.tables old.now.trees d.trees) (sym now) kept;
      empty = subst (λ (d : Database). d.trees (next_tree before) ≡ []) (sym now) last;
    }

-- all other tables keep their contents
pub holds_more : (sql : List ℕ) (before : Schema) (table : Table) (after : Schema) → MakesTable sql before table after → (old new : State) (count : ℕ) (contents : Contents) → ShowsAll before old.now.trees contents → old.now.schema ≡ before
    → Executes sql [] old new (Ok count) → HoldsContents after new.now contents
holds_more sql before table after m old new count contents shows declared ran =
    let made = makes_more sql before table after m old new count declared ran in
    record {
      declared = made.declared;
      sound = made.sound;
      shows = subst (λ s. ShowsAll s new.now.trees contents) m.is
          (λ name. shows_made (form_of name) (map_of name contents) before.tables (record table { tree = next_tree before }) old.now.trees new.now.trees made.others made.empty (ordinal_of name) (shows name));
    }

pub makes : (sql : List ℕ) (before : Schema) (table : Table) (after : Schema) → MakesTable sql before table after → (old new : State) (count : ℕ) (contents : Contents) → HoldsContents before old.now contents → Executes sql [] old new (Ok count) → HoldsContents after new.now contents
makes sql before table after m old new count contents holds ran = holds_more sql before table after m old new count contents holds.shows holds.declared ran

-- a database without tables has empty contents
pub holds_nothing : (trees : Trees) (name : TableName) → ShowsIn (form_of name) trees (slice_get empty_schema.tables (ordinal_of name)) (map_of name no_contents)
holds_nothing trees Texts = refl
holds_nothing trees Versions = refl
holds_nothing trees Levels = refl
holds_nothing trees Kept = refl
holds_nothing trees Meta = refl
holds_nothing trees Modes = refl
holds_nothing trees Evidence = refl
holds_nothing trees Against = refl
