-- The keys and the values of each table, and how rows are found by their keys.
use Rattle.std.proofs.Common.{◌≡◌, ◌&&◌, ℕ, pos, List, [], ◌∷◌, Bool, true, false, Some, refl, sym, ◌∙◌, Ordering, Less, Equal, Greater}
use Rattle.reg_tables.proofs.Kit.{is_eq, nat_cmp, ordering_then, IsAntisymmetric, nat_cmp-IsAntisymmetric, nat_cmp_total, on_total, then_total, Int, Text, Row, agree, is_true, from_truth, value_cmp-Int, value_cmp-Text}
use Rattle.sqlite.specs.Order.{column}
use Rattle.sqlite_sql.specs.Ops.{binary}
use Rattle.sqlite_value.specs.Keys.{first_key}
use Rattle.reg_tables.specs.Contents.{text_cmp, version_cmp, PositionKey, position_cmp, position_key_cells, VersionEntryView, KeptReplyView, text_cells, number_cells, version_key_cells, flag_cell, version_cells, kept_cells, against_form, TableName, Texts, Versions, Levels, Kept, Meta, Modes, Evidence, Against, KeyOf, ValueOf, cmp_of, form_of}
use Rattle.reg_tables.specs.Inside.Statements.{by_position}
use Rattle.reg_tables.specs.Inside.Keyed.{tests_of}
use Rattle.reg_tables.specs.Inside.KeyedLaws.{IsKeyOrder}
use Rattle.reg_tables.proofs.MapLemmas.{same_key, tied_key}
use Rattle.reg_tables.proofs.Queries.{passes}
use Rattle.reg_tables.proofs.KeyedTables.{text_order, distinct_texts, by_first_column_test, number_order, distinct_numbers, by_id_test, version_order, distinct_versions, by_version_test, same_pos}

-- ---- positions

same_positions : IsAntisymmetric position_cmp
same_positions a b h = go (version_cmp a.0 b.0) refl h
  where
    go : (o : Ordering) → version_cmp a.0 b.0 ≡ o → ordering_then o (nat_cmp a.1 b.1) ≡ Equal → a ≡ b
    go Less e h = absurd (cc)
    go Equal e h = let version = version_order.antisymmetric a.0 b.0 e in let position = nat_cmp-IsAntisymmetric a.1 b.1 h in λ i. (version i, position i)
    go Greater e h = absurd (cc)

pub position_order : IsKeyOrder position_cmp
position_order = record { total = then_total (on_total (λ (key : PositionKey). key.0) version_order.total) (on_total (λ (key : PositionKey). key.1) nat_cmp_total); antisymmetric = same_positions }

pub distinct_positions : (a b : PositionKey) → position_key_cells a ≡ position_key_cells b → a ≡ b
distinct_positions a b h =
    let subject : a.0.0 ≡ b.0.0 = cc in
    let number : a.0.1 ≡ b.0.1 = cc in
    let position : a.1 ≡ b.1 = cc in
    λ i. ((subject i, number i), position i)

-- a row passes if it has the subject, the number and the position
by_position_test : (row : Row) (k q : PositionKey) → against_form.key_of row ≡ position_key_cells q → passes by_position (position_key_cells k) row ≡ is_eq (position_cmp q k)
unfolding binary
by_position_test row k q is =
    let subject : column row 1 ≡ Text q.0.0 = cc in
    let number : column row 2 ≡ Int (pos q.0.1) = cc in
    let position : column row 3 ≡ Int (pos q.1) = cc in
    rw (subject, number, position, value_cmp-Text q.0.0 k.0.0, value_cmp-Int (pos q.0.1) (pos k.0.1), value_cmp-Int (pos q.1) (pos k.1), same_pos q.0.1 k.0.1, same_pos q.1 k.1) (truth (text_cmp q.0.0 k.0.0) (nat_cmp q.0.1 k.0.1) (is_eq (nat_cmp q.1 k.1)) (nat_cmp q.1 k.1) refl)
  where
    last : (a : Bool) → (is_true (from_truth (Some a)) && true) ≡ a
    last true = refl
    last false = refl

    truth : (a b : Ordering) (c : Bool) (o : Ordering) → is_eq o ≡ c → (is_true (from_truth (Some (is_eq a))) && (is_true (from_truth (Some (is_eq b))) && (is_true (from_truth (Some c)) && true))) ≡ is_eq (ordering_then (ordering_then a b) o)
    truth Less b c o same = refl
    truth Greater b c o same = refl
    truth Equal Less c o same = refl
    truth Equal Greater c o same = refl
    truth Equal Equal c o same = last c ∙ sym same

-- ---- values

distinct_flags : (a b : Bool) → flag_cell a ≡ flag_cell b → a ≡ b
distinct_flags true true h = refl
distinct_flags true false h = absurd (cc)
distinct_flags false true h = absurd (cc)
distinct_flags false false h = refl

pub distinct_version_rows : (a b : VersionEntryView) → version_cells a ≡ version_cells b → a ≡ b
distinct_version_rows a b h =
    let id : a.id ≡ b.id = cc in
    let deleted : flag_cell a.deleted ≡ flag_cell b.deleted = cc in
    let same = distinct_flags a.deleted b.deleted deleted in
    λ i. record { id = id i; deleted = same i }

pub distinct_kept_rows : (a b : KeptReplyView) → kept_cells a ≡ kept_cells b → a ≡ b
distinct_kept_rows a b h =
    let command : a.command ≡ b.command = cc in
    let status : a.status ≡ b.status = cc in
    let body : a.body ≡ b.body = cc in
    λ i. record { command = command i; status = status i; body = body i }

-- ---- rows that agree in the columns of their keys

texts_tied : (a b : Row) (q k : List ℕ) → column a 1 ∷ [] ≡ text_cells q → column b 1 ∷ [] ≡ text_cells k → agree (record { digits = 0 }) (1 ∷ []) a (1 ∷ []) b ≡ is_eq (text_cmp q k)
unfolding first_key
texts_tied a b q k of_a of_b = let its : column b 1 ≡ Text k = cc in rw its (by_first_column_test a k q of_a)

ids_tied : (a b : Row) (q k : ℕ) → column a 0 ∷ [] ≡ number_cells q → column b 0 ∷ [] ≡ number_cells k → agree (record { digits = 0 }) (0 ∷ []) a (0 ∷ []) b ≡ is_eq (nat_cmp q k)
unfolding first_key
ids_tied a b q k of_a of_b = let its : column b 0 ≡ Int (pos k) = cc in rw its (by_id_test a k q of_a)

pub versions_tied : (a b : Row) (q k : List ℕ × ℕ) → column a 1 ∷ column a 2 ∷ [] ≡ version_key_cells q → column b 1 ∷ column b 2 ∷ [] ≡ version_key_cells k → agree (record { digits = 0 }) (1 ∷ 2 ∷ []) a (1 ∷ 2 ∷ []) b ≡ is_eq (version_cmp q k)
unfolding first_key
versions_tied a b q k of_a of_b =
    let subject : column b 1 ≡ Text k.0 = cc in
    let number : column b 2 ≡ Int (pos k.1) = cc in
    rw (subject, number) (by_version_test a k q of_a)

positions_tied : (a b : Row) (q k : PositionKey) → against_form.key_of a ≡ position_key_cells q → against_form.key_of b ≡ position_key_cells k → agree (record { digits = 0 }) (1 ∷ 2 ∷ 3 ∷ []) a (1 ∷ 2 ∷ 3 ∷ []) b ≡ is_eq (position_cmp q k)
unfolding first_key
positions_tied a b q k of_a of_b =
    let subject : column b 1 ≡ Text k.0.0 = cc in
    let number : column b 2 ≡ Int (pos k.0.1) = cc in
    let position : column b 3 ≡ Int (pos k.1) = cc in
    rw (subject, number, position) (by_position_test a k q of_a)

-- ---- by name

-- the columns of the key
abbrev pub key_columns : TableName → List ℕ
key_columns Texts = 0 ∷ []
key_columns Versions = 1 ∷ 2 ∷ []
key_columns Levels = 1 ∷ []
key_columns Kept = 1 ∷ []
key_columns Meta = 1 ∷ []
key_columns Modes = 1 ∷ []
key_columns Evidence = 1 ∷ 2 ∷ []
key_columns Against = 1 ∷ 2 ∷ 3 ∷ []

-- keys are ordered, cells determine keys and values, and the tests and the key columns compare keys
pub record HasKey (name : TableName) : Type 0 where
  pub order : IsKeyOrder (cmp_of name)
  pub distinct : (a b : KeyOf name) → (form_of name).key_cells a ≡ (form_of name).key_cells b → a ≡ b
  pub distinct_values : (v w : ValueOf name) → (form_of name).value_cells v ≡ (form_of name).value_cells w → v ≡ w
  pub test : (row : Row) (k q : KeyOf name) → (form_of name).key_of row ≡ (form_of name).key_cells q → passes (tests_of name) ((form_of name).key_cells k) row ≡ is_eq (cmp_of name q k)
  pub tied : (a b : Row) (q k : KeyOf name) → (form_of name).key_of a ≡ (form_of name).key_cells q → (form_of name).key_of b ≡ (form_of name).key_cells k → agree (record { digits = 0 }) (key_columns name) a (key_columns name) b ≡ is_eq (cmp_of name q k)

pub key_laws : (name : TableName) → HasKey name
key_laws Texts = record { order = number_order; distinct = distinct_numbers; distinct_values = distinct_texts; test = λ row k q is. by_id_test row k q is; tied = λ a b q k x y. ids_tied a b q k x y }
key_laws Versions = record { order = version_order; distinct = distinct_versions; distinct_values = distinct_version_rows; test = λ row k q is. by_version_test row k q is; tied = λ a b q k x y. versions_tied a b q k x y }
key_laws Levels = record { order = text_order; distinct = distinct_texts; distinct_values = distinct_texts; test = λ row k q is. by_first_column_test row k q is; tied = λ a b q k x y. texts_tied a b q k x y }
key_laws Kept = record { order = text_order; distinct = distinct_texts; distinct_values = distinct_kept_rows; test = λ row k q is. by_first_column_test row k q is; tied = λ a b q k x y. texts_tied a b q k x y }
key_laws Meta = record { order = text_order; distinct = distinct_texts; distinct_values = distinct_texts; test = λ row k q is. by_first_column_test row k q is; tied = λ a b q k x y. texts_tied a b q k x y }
key_laws Modes = record { order = text_order; distinct = distinct_texts; distinct_values = distinct_texts; test = λ row k q is. by_first_column_test row k q is; tied = λ a b q k x y. texts_tied a b q k x y }
key_laws Evidence = record { order = version_order; distinct = distinct_versions; distinct_values = distinct_texts; test = λ row k q is. by_version_test row k q is; tied = λ a b q k x y. versions_tied a b q k x y }
key_laws Against = record { order = position_order; distinct = distinct_positions; distinct_values = distinct_numbers; test = λ row k q is. by_position_test row k q is; tied = λ a b q k x y. positions_tied a b q k x y }

-- rows that agree on their key columns have the same key
pub one_key : (name : TableName) (a b : Row) (q k : KeyOf name) → (form_of name).key_of a ≡ (form_of name).key_cells q → (form_of name).key_of b ≡ (form_of name).key_cells k → agree (record { digits = 0 }) (key_columns name) a (key_columns name) b ≡ true → q ≡ k
one_key name a b q k of_a of_b same = same_key (cmp_of name) (key_laws name).order q k (sym ((key_laws name).tied a b q k of_a of_b) ∙ same)

-- rows with the same key agree on their key columns
pub keys_agree : (name : TableName) (a b : Row) (q : KeyOf name) → (form_of name).key_of a ≡ (form_of name).key_cells q → (form_of name).key_of b ≡ (form_of name).key_cells q → agree (record { digits = 0 }) (key_columns name) a (key_columns name) b ≡ true
keys_agree name a b q of_a of_b = (key_laws name).tied a b q q of_a of_b ∙ tied_key (cmp_of name) (key_laws name).order q q refl
