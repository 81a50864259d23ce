-- Why CREATE TABLE fails.
use Rattle.std.proofs.Common.{◌≡◌, inl, inr, ℕ, ◌+◌, ◌*◌, ◌<◌, ◌^◌, List, [], length, lit<, lit≤, codes, true, false, Some, None, Ok, Err, Option, refl, sym, ap, subst, ◌∙◌, arith}
use Rattle.reg_tables.proofs.Kit.{IsUtf8, AllByRecursion, both_ways, MatchBool-at_false, Text, Table, Schema, is_used, is_reserved, automatics, next_tree, created, table_defined_by, CreateTable, Does, MakesSequence, lacks_sequence, Then, State, mode_of, ExecutesInside, Error, Index, table_reals, index_reals, is_formed, is_fit, RefusesTable, Invalid, NameTaken, BadName, TooBig, BadKey, BadText, Has, all_has}
use Rattle.sqlite.specs.Order.{value_cmp}
use Rattle.sqlite.specs.Does.{MakesTable as Makes}
use Rattle.sqlite.specs.Listing.{understood}
use Rattle.sqlite_schema.specs.Names.{same_name}
use Rattle.sqlite_catalog.specs.declared.error.Refusal.{Refusal}
use Rattle.sqlite_catalog.specs.declared.error.Refusal.TheVariants.{Violates}
use Rattle.sqlite_trees.specs.Sound.{same_name as same_word, begins, is_free_name, fits_kind}
use Rattle.sqlite_tied.specs.Compute.{everything}
use Rattle.reg_tables.specs.Layout.{empty_schema, partial_layout_one, texts, versions, levels, kept, meta, modes, evidence, against, partial_layout_two}
use Rattle.reg_tables.specs.FailedCalls.{IsFault}
use Rattle.reg_tables.specs.Inside.Statements.{IsOneStatement}
use Rattle.reg_tables.proofs.Statements.{MakesTable, make_texts, make_versions, make_levels, make_kept, make_meta, make_modes, make_evidence, make_against}
use Rattle.reg_tables.proofs.WriteFaults.{refused_by}

-- SQLite's conditions on a table's name, keys and SQL text
pub record CanBeMade (sql : List ℕ) (schema : Schema) (table : Table) : Type 0 where
  pub whole : IsOneStatement sql 0 (understood schema sql)
  pub text : IsUtf8 sql
  pub named : IsUtf8 table.name
  pub unused : is_used schema table.name ≡ false
  pub indexes : AllByRecursion (λ i. is_used schema i.name ≡ false) (automatics table 0 0 table.uniques)
  pub unreserved : is_reserved table.name ≡ false
  pub room : next_tree schema + length table.uniques < 65536
  pub reals : table_reals table < 2 ^ 64
  pub key_reals : AllByRecursion (λ key. index_reals (table_reals table) key < 2 ^ 64) table.uniques
  pub formed : is_formed table ≡ true
  pub fits : is_fit (Text (codes "table")) (Text table.name) (Text table.name) (Text sql) ≡ true
  pub short : 2 * length table.name + length sql + 200 < 10 ^ 9

-- for our tables each condition computes
made : {sql : List ℕ} {schema : Schema} {table : Table} → IsOneStatement sql 0 (understood schema sql) → IsUtf8 sql → IsUtf8 table.name
    → (is_used schema table.name ≡ false) × AllByRecursion (λ i. is_used schema i.name ≡ false) (automatics table 0 0 table.uniques) × (is_reserved table.name ≡ false)
    → (next_tree schema + length table.uniques < 65536) × (table_reals table < 2 ^ 64) × AllByRecursion (λ key. index_reals (table_reals table) key < 2 ^ 64) table.uniques
    → (is_formed table ≡ true) × (is_fit (Text (codes "table")) (Text table.name) (Text table.name) (Text sql) ≡ true) × (2 * length table.name + length sql + 200 < 10 ^ 9) → CanBeMade sql schema table
made whole text named names room form = record {
  whole = whole;
  text = text;
  named = named;
  unused = names.0;
  indexes = names.1;
  unreserved = names.2;
  room = room.0;
  reals = room.1;
  key_reals = room.2;
  formed = form.0;
  fits = form.1;
  short = form.2;
}

pub texts_can_be : CanBeMade make_texts empty_schema texts
unfolding understood everything same_name same_word begins is_free_name fits_kind value_cmp lib.Utf8.encode lib.Ieee.is_nan lib.Ieee.lt
texts_can_be = made (lit≤ tt, refl) (make_texts, (refl, refl)) (codes "texts", (refl, refl)) (refl, (refl, tt), refl) (lit< tt, lit< tt, (lit< tt, tt)) (refl, refl, lit< tt)

pub versions_can_be : CanBeMade make_versions (partial_layout_one 1) (record versions { tree = 0 })
unfolding understood everything same_name same_word begins is_free_name fits_kind value_cmp lib.Utf8.encode lib.Ieee.is_nan lib.Ieee.lt
versions_can_be = made (lit≤ tt, refl) (make_versions, (refl, refl)) (codes "versions", (refl, refl)) (refl, (refl, tt), refl) (lit< tt, lit< tt, (lit< tt, tt)) (refl, refl, lit< tt)

pub levels_can_be : CanBeMade make_levels (partial_layout_one 2) (record levels { tree = 0 })
unfolding understood everything same_name same_word begins is_free_name fits_kind value_cmp lib.Utf8.encode lib.Ieee.is_nan lib.Ieee.lt
levels_can_be = made (lit≤ tt, refl) (make_levels, (refl, refl)) (codes "levels", (refl, refl)) (refl, (refl, tt), refl) (lit< tt, lit< tt, (lit< tt, tt)) (refl, refl, lit< tt)

pub kept_can_be : CanBeMade make_kept (partial_layout_one 3) (record kept { tree = 0 })
unfolding understood everything same_name same_word begins is_free_name fits_kind value_cmp lib.Utf8.encode lib.Ieee.is_nan lib.Ieee.lt
kept_can_be = made (lit≤ tt, refl) (make_kept, (refl, refl)) (codes "kept", (refl, refl)) (refl, (refl, tt), refl) (lit< tt, lit< tt, (lit< tt, tt)) (refl, refl, lit< tt)

pub meta_can_be : CanBeMade make_meta (partial_layout_one 4) (record meta { tree = 0 })
unfolding understood everything same_name same_word begins is_free_name fits_kind value_cmp lib.Utf8.encode lib.Ieee.is_nan lib.Ieee.lt
meta_can_be = made (lit≤ tt, refl) (make_meta, (refl, refl)) (codes "meta", (refl, refl)) (refl, (refl, tt), refl) (lit< tt, lit< tt, (lit< tt, tt)) (refl, refl, lit< tt)

pub modes_can_be : CanBeMade make_modes (partial_layout_two 0) (record (modes 11) { tree = 0 })
unfolding understood everything same_name same_word begins is_free_name fits_kind value_cmp lib.Utf8.encode lib.Ieee.is_nan lib.Ieee.lt
modes_can_be = made (lit≤ tt, refl) (make_modes, (refl, refl)) (codes "modes", (refl, refl)) (refl, (refl, tt), refl) (lit< tt, lit< tt, (lit< tt, tt)) (refl, refl, lit< tt)

pub evidence_can_be : CanBeMade make_evidence (partial_layout_two 1) (record (evidence 13) { tree = 0 })
unfolding understood everything same_name same_word begins is_free_name fits_kind value_cmp lib.Utf8.encode lib.Ieee.is_nan lib.Ieee.lt
evidence_can_be = made (lit≤ tt, refl) (make_evidence, (refl, refl)) (codes "evidence", (refl, refl)) (refl, (refl, tt), refl) (lit< tt, lit< tt, (lit< tt, tt)) (refl, refl, lit< tt)

pub against_can_be : CanBeMade make_against (partial_layout_two 2) (record (against 15) { tree = 0 })
unfolding understood everything same_name same_word begins is_free_name fits_kind value_cmp lib.Utf8.encode lib.Ieee.is_nan lib.Ieee.lt
against_can_be = made (lit≤ tt, refl) (make_against, (refl, refl)) (codes "against", (refl, refl)) (refl, (refl, tt), refl) (lit< tt, lit< tt, (lit< tt, tt)) (refl, refl, lit< tt)

-- SQLite doesn't reject a table that meets these conditions
module _ (sql : List ℕ) (before : Schema) (table : Table) (after : Schema) (m : MakesTable sql before table after) (can : CanBeMade sql before table) where
  its : (t : Table) → table_defined_by sql ≡ Ok t → t ≡ table
  its t is = let both : ◌≡◌ {A = _} (Ok t) (Ok table) = sym is ∙ m.defined in cc

  unrefused : (why : Refusal) → RefusesTable before sql why → ⊥
  unrefused (Invalid e) h = absurd (let clash = sym h ∙ m.defined in cc)
  unrefused NameTaken h = elim h.2 [
    | inl used ↦ both_ways _ can.unused (ap (λ (t : Table). is_used before t.name) (sym (its h.0 h.1)) ∙ used)
    | inr taken ↦ both_ways _ (all_has (λ (i : Index). is_used before i.name ≡ false) (automatics table 0 0 table.uniques) taken.0 can.indexes (subst (λ (t : Table). Has (automatics t 0 0 t.uniques) taken.0) (its h.0 h.1) taken.1)) taken.2
  ]
  unrefused BadName h = elim h.2 [
    | inl odd ↦ odd (subst (λ (t : Table). IsUtf8 t.name) (sym (its h.0 h.1)) can.named)
    | inr own ↦ both_ways _ can.unreserved (ap (λ (t : Table). is_reserved t.name) (sym (its h.0 h.1)) ∙ own.0)
  ]
  unrefused TooBig h = elim h.2 [
    | inl many ↦ let low = subst (λ (t : Table). next_tree before + length t.uniques < 65536) (sym (its h.0 h.1)) can.room in omega arith
    | inr wide ↦ elim wide [
      | inl table_wide ↦ let low = subst (λ (t : Table). table_reals t < 2 ^ 64) (sym (its h.0 h.1)) can.reals in omega arith
      | inr key_wide ↦
          let low = all_has (λ key. index_reals (table_reals h.0) key < 2 ^ 64) h.0.uniques key_wide.0 (subst (λ (t : Table). AllByRecursion (λ key. index_reals (table_reals t) key < 2 ^ 64) t.uniques) (sym (its h.0 h.1)) can.key_reals) key_wide.1 in
          let high = key_wide.2 in
          omega arith
    ]
  ]
  unrefused BadKey h = both_ways _ (ap is_formed (sym (its h.0 h.1)) ∙ h.2) can.formed
  unrefused BadText h = both_ways _ (ap (λ (t : Table). is_fit (Text (codes "table")) (Text t.name) (Text t.name) (Text sql)) (sym (its h.0 h.1)) ∙ h.2) can.fits
  unrefused (Violates rule) h = h

  module _ (old new : State) (declared : old.now.schema ≡ before) (e : Error) where
    -- it fails only with a fault
    pub make_fails : ExecutesInside 0 sql [] old new (Err e) → IsFault old new e
    make_fails h = elim (refused_by sql [] old new before declared CreateTable m.command can.whole (record { silent = refl; stays = refl }) e h) [
      | inl fault ↦ fault
      | inr rest ↦ absurd (elim rest [
        | inl large ↦ too_large (subst (λ t. Does old.step_limit (mode_of old) [] (record old.now { schema = before }) t None CreateTable (Err None)) m.text large.1)
        | inr does ↦ refused (subst (λ t. Does old.step_limit (mode_of old) [] (record old.now { schema = before }) t None CreateTable (Err (Some e))) m.text does)
      ])
    ]
      where
        not_long : (stop : Option Error) → stop ≡ None → Makes sql (record old.now { schema = before }) (Err stop) → ⊥
        not_long None is h = let low = subst (λ (t : Table). 2 * length t.name + length sql + 200 < 10 ^ 9) (sym (its h.0 h.1)) can.short in let high = h.2 in omega arith
        not_long (Some x) is h = cc

        not_large : (stop : Option Error) → stop ≡ None → Then (Makes sql (record old.now { schema = before })) MakesSequence (Err stop) → ⊥
        not_large stop is (inl first) = not_long first.0 (let same = first.2 in cc) first.1
        not_large stop is (inr next) =
            let it = next.1 in
            let schema : next.0.schema ≡ after = it.is ∙ ap (created before) (its it.table it.defined) ∙ m.is in
            let plain : lacks_sequence next.0.schema ≡ false = ap lacks_sequence schema ∙ m.whole in
            let e = MatchBool-at_false _ _ plain next.2 in
            cc

        too_large : Does old.step_limit (mode_of old) [] (record old.now { schema = before }) sql None CreateTable (Err None) → ⊥
        too_large (inl stopped) = not_large stopped.0 (let same = stopped.2 in cc) stopped.1
        too_large (inr done) = let e = done.2 in cc

        made : (stop : Option Error) → stop ≡ Some e → Then (Makes sql (record old.now { schema = before })) MakesSequence (Err stop) → ⊥
        made stop is (inl first) = go first.0 (let same = first.2 in cc) first.1
          where
            go : (stop : Option Error) → stop ≡ Some e → Makes sql (record old.now { schema = before }) (Err stop) → ⊥
            go None is h = cc
            go (Some x) is (inl odd) = odd.0 can.text
            go (Some x) is (inr why) = unrefused why.0 why.1
        made stop is (inr next) =
            let it = next.1 in
            let schema : next.0.schema ≡ after = it.is ∙ ap (created before) (its it.table it.defined) ∙ m.is in
            let plain : lacks_sequence next.0.schema ≡ false = ap lacks_sequence schema ∙ m.whole in
            let e = MatchBool-at_false _ _ plain next.2 in
            cc

        refused : Does old.step_limit (mode_of old) [] (record old.now { schema = before }) sql None CreateTable (Err (Some e)) → ⊥
        refused (inl stopped) = made stopped.0 (let same = stopped.2 in cc) stopped.1
        refused (inr done) = let e = done.2 in cc
