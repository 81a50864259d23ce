-- The verdict on the versions that a level compares with is the same by the texts of a view and by their schemas.
use Rattle.std.proofs.Common.{◌≡◌, ℕ, List, [], ◌∷◌, Bool, false, Option, Some, refl, sym, ◌∙◌, ap, subst, map}
use Rattle.std.specs.Prelude.{All, bytes_eq, unwrap_or, option_map}
use Rattle.std.specs.List.{list_all}
use Rattle.std.specs.Option.{option_map_or}
use Rattle.std.specs.FinMap.{entries}
use Rattle.std.proofs.lemmas.List.Folds.{list_all-map}
use Rattle.std.proofs.lemmas.List.Elements.{All-nil, All-head, All-tail, All-filter}
use Rattle.avro_nodes.specs.Nodes.{NodeView}
use Rattle.avro_nodes.specs.Identity.{identity}
use Rattle.avro_schema.specs.Texts.{IsSchema}
use Rattle.avro_schema.specs.DenotedNodes.{denoted_nodes}
use Rattle.reg_core.specs.declared.level.Level.{Level}
use Rattle.reg_core.specs.declared.level.Level.TheVariants.{Backward, BackwardTransitive, Forward, ForwardTransitive, Full, FullTransitive, Off}
use Rattle.reg_core.specs.declared.decision.View.{View}
use Rattle.reg_core.specs.Compatibility.{named_versions}
use Rattle.reg_core.specs.Inside.Comparisons.{view_schema, is_compatible_in_view, is_admitted_in_view}
use Rattle.reg_core.specs.RegisterCommands.{is_admitted_after}
use Rattle.reg_core.specs.Registry.{Registry, IsRegistry, Row, Schemas, schema_at}
use Rattle.reg_core.specs.Rows.{rows_of, live_rows, text_at, schemas_of}
use Rattle.reg_core.specs.Verdicts.{is_compatible, is_admitted}
use Rattle.reg_core.specs.Views.{level_of_view, view_text}
use Rattle.reg_core.proofs.ChosenRows.{All-latest}
use Rattle.reg_core.proofs.RegistryLemmas.{schema_at-denoted}
use Rattle.reg_core.proofs.RowLemmas.{each-schema, All-live_rows}
use Rattle.reg_core.proofs.Versions.{named-map}

-- the verdict on a version whose text the view has
read_compatible : (view : View) (level : Level) (new : List NodeView) (row : Row) (text : List ℕ) (earlier : List NodeView) → view_text view row.1.id ≡ Some text → denoted_nodes text ≡ Some earlier
    → is_compatible_in_view view level new row ≡ is_compatible level earlier new
read_compatible view level new row text earlier there is = rw (there, is) refl

-- the verdict on a version, by the schema that the view has of it, if any
pub verdict_found : (view : View) (level : Level) (new : List NodeView) (row : Row) (found : Option (List NodeView)) → view_schema view row ≡ found
    → is_compatible_in_view view level new row ≡ option_map_or (λ earlier. is_compatible level earlier new) found false
verdict_found view level new row found is = ap (λ (schema : Option (List NodeView)). option_map_or (λ earlier. is_compatible level earlier new) schema false) is

-- the verdict on versions that are given as images of other values
pub admitted_named : {X : Type 0} (f : X → Row) (view : View) (level : Level) (xs : List X) (new : List NodeView) → is_admitted_in_view view level (map f xs) new ≡ list_all (λ x. is_compatible_in_view view level new (f x)) (named_versions level xs)
admitted_named f view level xs new = ap (list_all (is_compatible_in_view view level new)) (named-map f level xs) ∙ list_all-map (is_compatible_in_view view level new) f (named_versions level xs)

ids_mapped : {X : Type 0} (f : X → Row) (xs : List X) → map (λ x. (f x).1.id) xs ≡ map (λ (row : Row). row.1.id) (map f xs)
ids_mapped f [] = refl
ids_mapped f (x ∷ xs) = ap (λ (ids : List ℕ). (f x).1.id ∷ ids) (ids_mapped f xs)

-- the ids of the versions that a level names
pub named_ids : {X : Type 0} (f : X → Row) (level other : Level) (xs named : List X) (rows : List Row) → level ≡ other → map f xs ≡ rows → named ≡ named_versions level xs → map (λ x. (f x).1.id) named ≡ map (λ (row : Row). row.1.id) (named_versions other rows)
named_ids f level other xs named rows l r n =
    let same : map f (named_versions level xs) ≡ named_versions other rows =
    sym (named-map f level xs) ∙ (ap (named_versions level) r ∙ ap (λ (x : Level). named_versions x rows) l) in
    ap (map (λ x. (f x).1.id)) n ∙ (ids_mapped f (named_versions level xs) ∙ ap (map (λ (row : Row). row.1.id)) same)

-- a version's id has a schema
abbrev pub HasSchema : Schemas → Row → Type 0
HasSchema schemas row = (nodes : List NodeView) × (schema_at schemas row.1.id ≡ Some nodes)

-- the view has the text of a version's schema
abbrev pub ShowsText : View → Schemas → Row → Type 0
ShowsText view schemas row = view_text view row.1.id ≡ text_at schemas row.1.id

-- if `P` is true of each version, it is true of those that a level compares with
pub All-named : {X : Type 0} (P : X → Type 0) (level : Level) (xs : List X) → All P xs → All P (named_versions level xs)
All-named P Backward xs h = All-latest P xs h
All-named P BackwardTransitive xs h = h
All-named P Forward xs h = All-latest P xs h
All-named P ForwardTransitive xs h = h
All-named P Full xs h = All-latest P xs h
All-named P FullTransitive xs h = h
All-named P Off xs h = All-nil P

pub schema_or : Schemas → Row → List NodeView
schema_or schemas row = unwrap_or (schema_at schemas row.1.id) []

pub schema_or-is : (schemas : Schemas) (row : Row) (nodes : List NodeView) → schema_at schemas row.1.id ≡ Some nodes → schema_or schemas row ≡ nodes
unfolding schema_or
schema_or-is schemas row nodes e = ap (λ (o : Option (List NodeView)). unwrap_or o []) e

pub schemas_mapped : (schemas : Schemas) (rows : List Row) → All (HasSchema schemas) rows → schemas_of schemas rows ≡ map (schema_or schemas) rows
unfolding schema_or
schemas_mapped schemas [] h = refl
schemas_mapped schemas (row ∷ rows) h =
    let here = All-head (HasSchema schemas) row rows h in
    let rest = schemas_mapped schemas rows (All-tail (HasSchema schemas) row rows h) in
    rw here.1 (ap (λ (xs : List (List NodeView)). here.0 ∷ xs) rest)

same_tests : {X : Type 0} (p q : X → Bool) (xs : List X) → All (λ x. p x ≡ q x) xs → list_all p xs ≡ list_all q xs
same_tests p q [] h = refl
same_tests p q (x ∷ xs) h =
    let here : p x ≡ q x = All-head (λ y. p y ≡ q y) x xs h in
    let rest : list_all p xs ≡ list_all q xs = same_tests p q xs (All-tail (λ y. p y ≡ q y) x xs h) in
    rw (here, rest) refl

row_compatible : (view : View) (schemas : Schemas) → All IsSchema schemas → (level : Level) (new : List NodeView) (row : Row) → HasSchema schemas row → ShowsText view schemas row
    → is_compatible_in_view view level new row ≡ is_compatible level (schema_or schemas row) new
unfolding schema_or
row_compatible view schemas ok level new row (nodes, e) shows =
    let text : view_text view row.1.id ≡ Some (identity nodes) = shows ∙ ap (option_map identity) e in
    let is : nodes ≡ unwrap_or (schema_at schemas row.1.id) [] = sym (ap (λ (o : Option (List NodeView)). unwrap_or o []) e) in
    read_compatible view level new row (identity nodes) nodes text (schema_at-denoted schemas ok row.1.id nodes e) ∙ ap (λ (x : List NodeView). is_compatible level x new) is

-- if the view has the texts of the versions that the level compares with, the verdict by texts is the verdict by schemas
pub admitted_shown : (view : View) (schemas : Schemas) → All IsSchema schemas → (level : Level) (rows : List Row) (new : List NodeView) → All (HasSchema schemas) rows → All (ShowsText view schemas) (named_versions level rows)
    → is_admitted_in_view view level rows new ≡ is_admitted_after schemas level rows new
unfolding is_admitted
admitted_shown view schemas ok level rows new has shows =
    let p = λ (earlier : List NodeView). is_compatible level earlier new in
    let there = All-named (HasSchema schemas) level rows has in
    same_tests (is_compatible_in_view view level new) (λ row. p (schema_or schemas row)) (named_versions level rows)
    (λ k d l. row_compatible view schemas ok level new _ (there k d l) (shows k d l))
    ∙ (sym (list_all-map p (schema_or schemas) (named_versions level rows))
    ∙ (ap (list_all p) (sym (named-map (schema_or schemas) level rows))
    ∙ ap (λ (live : List (List NodeView)). list_all p (named_versions level live)) (sym (schemas_mapped schemas rows has))))

-- the same if the view has only the versions that the level compares with
pub admitted_as : (view : View) (schemas : Schemas) → All IsSchema schemas → (level : Level) (seen rows : List Row) (new : List NodeView) → named_versions level seen ≡ named_versions level rows → All (HasSchema schemas) rows
    → All (ShowsText view schemas) (named_versions level seen) → is_admitted_in_view view level seen new ≡ is_admitted_after schemas level rows new
admitted_as view schemas ok level seen rows new named has shows =
    ap (list_all (is_compatible_in_view view level new)) named ∙ admitted_shown view schemas ok level rows new has (subst (All (ShowsText view schemas)) named shows)

-- the verdict for an equal level and equal versions is equal
pub verdict_of : (view : View) (new : List NodeView) (level : Level) (rows others : List Row) → level ≡ level_of_view view → rows ≡ others → (b : Bool) → b ≡ is_admitted_in_view view level rows new → b ≡ is_admitted_in_view view (level_of_view view) others new
verdict_of view new level rows others l r b e = e ∙ (rw (l, r) refl)

-- each live version of a subject has a schema
pub live-HasSchema : (g : Registry) → IsRegistry g → (subject : List ℕ) → All (HasSchema g.schemas) (live_rows (rows_of g subject))
live-HasSchema g ok subject =
    All-live_rows (HasSchema g.schemas) (rows_of g subject) (All-filter (λ (row : Row). bytes_eq row.0.0 subject) (HasSchema g.schemas) (entries g.rows) (each-schema g ok))
