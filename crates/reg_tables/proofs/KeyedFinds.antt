-- What a lookup by key returns, and why it fails.
use Rattle.std.proofs.Common.{ℕ, ◌≡◌, inl, subst₂, List, [], ◌∷◌, Option, Some, None, MatchOption, slice_get, refl, sym, ap, subst, ◌∙◌}
use Rattle.reg_tables.proofs.Kit.{option_map, get, Row, Schema, State, Shown}
use Rattle.reg_tables.specs.Contents.{TableName, HasTable, table_in, KeyOf, ValueOf, cmp_of, form_of, map_of, Contents, HoldsContents}
use Rattle.reg_tables.specs.Inside.Keyed.{tests_of}
use Rattle.reg_tables.specs.Inside.KeyedLaws.{FindsRow, find_query}
use Rattle.reg_tables.specs.Inside.Statements.{TableQuery, IsQuery, Takes}
use Rattle.reg_tables.proofs.KeyedTables.{FindsValue, finds, none_of}
use Rattle.reg_tables.proofs.Keys.{key_laws}
use Rattle.reg_tables.proofs.Tables.{shown_by}
use Rattle.reg_tables.proofs.Faults.{asks}
use Rattle.reg_tables.proofs.TableLines.{ReadsBy, all_if_each}

module _ (schema : Schema) (name : TableName) (known : HasTable name schema) (sql : List ℕ) (f : FindsRow schema name sql) (key : KeyOf name) (old new : State) (contents : Contents) (h : HoldsContents schema old.now contents) where
  abbrev query : TableQuery
  query = find_query (table_in schema name) (tests_of name) f.shown f.names sql

  query_is : IsQuery query old.now.schema
  query_is = subst (IsQuery query) (sym h.declared) f.is

  value_found : (found : List Row) → Shown sql ((form_of name).key_cells key) old new found → FindsValue (form_of name) (get (map_of name contents) key) found
  value_found found shown =
      finds (form_of name) (cmp_of name) (key_laws name).order query refl ((form_of name).key_cells key) old new query_is (get (map_of name contents)) (shown_by h name known) key found
      (λ row q is. (key_laws name).test row key q is) (λ row. f.whole row key) shown

  module _ {L Cells : Type 0} (shown_as : Row → Cells) (cells : L → Cells) (value_of : L → ValueOf name) (reads : (line : L) (value : ValueOf name) → shown_as ((form_of name).value_cells value) ≡ cells line → value_of line ≡ value) where
    -- the value read from the first returned row is the key's value
    pub line_found : (found : List Row) → Shown sql ((form_of name).key_cells key) old new found
        → (o : Option L) → option_map shown_as (slice_get found 0) ≡ option_map cells o → MatchOption o (get (map_of name contents) key ≡ None) (λ line. get (map_of name contents) key ≡ Some (value_of line))
    line_found found shown o same = go found (value_found found shown) o same
      where
        go : (rows : List Row) → FindsValue (form_of name) (get (map_of name contents) key) rows → (o : Option L) → option_map shown_as (slice_get rows 0) ≡ option_map cells o → MatchOption o (get (map_of name contents) key ≡ None) (λ line. get (map_of name contents) key ≡ Some (value_of line))
        go [] v None same = none_of (get (map_of name contents) key) (λ value there. v.complete value there)
        go [] v (Some line) same = absurd (cc)
        go (row ∷ rows) v None same = absurd (cc)
        go (row ∷ rows) v (Some line) same =
            let its = v.sound row (inl refl) in
            let read : shown_as row ≡ cells line = cc in
            its.1 ∙ ap Some (sym (reads line its.0 (ap shown_as (sym its.2) ∙ read)))

  pub reads_by : (is_readable : Row → Type 0) → ((key : KeyOf name) (value : ValueOf name) → get (map_of name contents) key ≡ Some value → is_readable ((form_of name).value_cells value))
      → (params : Row) → params ≡ (form_of name).key_cells key → ReadsBy sql params is_readable old new
  reads_by is_readable readable params is = (
    asks query params old.now.schema query_is (subst₂ (Takes query) (sym is) (sym h.declared) (f.takes key)),
    λ found shown. all_if_each is_readable found (λ row has.
        let its = (value_found found (subst (λ p. Shown sql p old new found) is shown)).sound row has in
        subst is_readable (sym its.2) (readable key its.0 its.1)),
  )

pub mapped_if : {A B : Type 0} (f : A → B) (o : Option A) (value : Option B) → MatchOption o (value ≡ None) (λ a. value ≡ Some (f a)) → option_map f o ≡ value
mapped_if f None value is = sym is
mapped_if f (Some a) value is = sym is
