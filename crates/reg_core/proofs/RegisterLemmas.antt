-- Commands that register schemas give the same result from a view as from the registry.
use Rattle.std.proofs.Common.{◌≡◌, ℕ, ◌+◌, ◌≤◌, List, [], ◌∷◌, ◌++◌, Bool, true, false, IsTrue, Option, Some, None, refl, sym, ◌∙◌, ap, subst, map, length, length-append, arith}
use Rattle.std.specs.Prelude.{All, unwrap_or, option_to_list, is_some, if◌then◌else◌, nat_le}
use Rattle.std.proofs.lemmas.Bool.{and_parts, leb-true}
use Rattle.std.proofs.lemmas.Option.{none-some, same_Some}
use Rattle.avro_nodes.specs.Nodes.{NodeView}
use Rattle.avro_nodes.specs.Identity.{identity}
use Rattle.avro_schema.specs.Texts.{IsSchema}
use Rattle.avro_schema.specs.DenotedNodes.{denoted_nodes}
use Rattle.reg_core.specs.declared.level.Level.{Level}
use Rattle.reg_core.specs.declared.code.Code.TheVariants.{InvalidSchema, Incompatible, NoNumberLeft}
use Rattle.reg_core.specs.declared.command.Command.TheVariants.{Register}
use Rattle.reg_core.specs.declared.decision.View.{View}
use Rattle.reg_core.specs.Bodies.{id_body}
use Rattle.reg_core.specs.Compatibility.{named_versions}
use Rattle.reg_core.specs.Inside.Comparisons.{is_admitted_in_view}
use Rattle.reg_core.specs.Machine.{permitted_step}
use Rattle.reg_core.specs.Evidence.{Evidence, IsTrueForSchema, next_evidence}
use Rattle.reg_core.specs.Inside.Evidence.{UpdateEvidence}
use Rattle.reg_core.specs.Inside.Registering.{id_among, id_by_view, has_numbers_by_view, row_by_view, evidence_by_view, version_added}
use Rattle.reg_core.specs.RegisterCommands.{supported_schema, register, registered, is_among, is_admitted_after, id_for, has_numbers_left, schemas_with, level_in, with_version}
use Rattle.reg_core.specs.Registry.{Registry, Row, Schemas, max_number}
use Rattle.reg_core.specs.Replies.{success, fault}
use Rattle.reg_core.specs.Rows.{rows_of, live_rows, next_number, id_of, known_id, schemas_of}
use Rattle.reg_core.specs.Views.{IsDecisionInput, IsNewEvidence, ChangesFit, after_changes, level_of_view}
use Rattle.reg_core.proofs.IdLemmas.{id_of-schema, schema_within}
use Rattle.reg_core.proofs.RegistryLemmas.{identity_denoted, supported_schema-denotes}
use Rattle.reg_core.proofs.RowLemmas.{next_number-absent}
use Rattle.reg_core.proofs.VersionVerdicts.{ShowsText, admitted_as, live-HasSchema}
use Rattle.reg_core.proofs.VerdictLemmas.{admits_decided}
use Rattle.reg_core.proofs.EvidenceLemmas.{added_becomes, true-with, admitted-true, new_is}

-- ---- Register

if_some : (b : Bool) (o : Option ℕ) (id : ℕ) → (if b then o else None) ≡ Some id → (b ≡ true) × (o ≡ Some id)
if_some true o id e = (refl, e)
if_some false o id e = absurd (none-some id e)

if_none : (b : Bool) (id : ℕ) → (if b then Some id else None) ≡ None → b ≡ false
if_none true id e = absurd (none-some id (sym e))
if_none false id e = refl

pub not_told : (known : Option ℕ) (rows : List Row) → is_some (id_among known rows) ≡ false → is_among known rows ≡ false
not_told None rows e = refl
not_told (Some id) rows e = by (is_among (Some id) rows) e
  where
    by : (b : Bool) → is_some (if b then Some id else None) ≡ false → b ≡ false
    by true f = f
    by false f = refl

-- no version results only if no number is left
pub no_row : (b : Bool) (row : Row) → None ≡ (if b then Some row else None) → b ≡ false
no_row true row e = absurd (none-some row e)
no_row false row e = refl

pub some_row : (b : Bool) (row made : Row) → Some made ≡ (if b then Some row else None) → (b ≡ true) × (made ≡ row)
some_row true row made e = (refl, same_Some made row e)
some_row false row made e = absurd (none-some made (sym e))

pub not_among : (known : Option ℕ) (rows : List Row) → None ≡ id_among known rows → is_among known rows ≡ false
not_among None rows e = refl
not_among (Some id) rows e = if_none (is_among (Some id) rows) id (sym e)

-- the added version
abbrev next_row : Registry → List ℕ → List NodeView → Row
next_row g subject new = ((subject, next_number (rows_of g subject)), record { id = id_for g.schemas new; deleted = false })

-- the changes that add the version give the machine's registry
changes_are : (g : Registry) (subject : List ℕ) (new : List NodeView) → IsSchema new → (known : Option ℕ) → id_of g.schemas (identity new) ≡ known → (evidence : Evidence)
    → after_changes (version_added known (next_row g subject new) evidence new) g ≡ with_version g subject new
changes_are g subject new s None e evidence = let text = identity_denoted new s in rw (e, text) refl
changes_are g subject new s (Some id) e evidence = rw e refl

-- the changes that add the version can be applied
changes_fit : (g : Registry) (subject : List ℕ) (new : List NodeView) → IsSchema new → (known : Option ℕ) → id_of g.schemas (identity new) ≡ known → next_number (rows_of g subject) ≤ max_number → id_for g.schemas new ≤ max_number
    → (evidence : Evidence) → IsNewEvidence (record g { schemas = schemas_with g.schemas new }) (next_row g subject new) evidence
    → ChangesFit (version_added known (next_row g subject new) evidence new) g
changes_fit g subject new s None e number within evidence fits =
    let id : id_for g.schemas new ≡ length g.schemas + 1 = ap (λ (o : Option ℕ). unwrap_or o (length g.schemas + 1)) e in
    let more : length (g.schemas ++ option_to_list (denoted_nodes (identity new))) ≡ length g.schemas + 1 =
    ap (λ (o : Option (List NodeView)). length (g.schemas ++ option_to_list o)) (identity_denoted new s) ∙ length-append g.schemas (new ∷ []) in
    let same : schemas_with g.schemas new ≡ g.schemas ++ option_to_list (denoted_nodes (identity new)) =
    ap (λ (o : Option ℕ). if is_some o then g.schemas else g.schemas ++ new ∷ []) e ∙ sym (ap (λ (o : Option (List NodeView)). g.schemas ++ option_to_list o) (identity_denoted new s)) in (
      record { nodes = new; schema = s; is = refl; next = id; within = within; unknown = e },
      (
        (
          record { absent = next_number-absent g subject; fits = record { within = (omega arith, number); has_schema = (omega arith, omega arith) } },
          subst (λ (schemas : Schemas). IsNewEvidence (record g { schemas = schemas }) (next_row g subject new) evidence) same fits,
        ),
        tt,
      ),
    )
changes_fit g subject new s (Some id) e number within evidence fits =
    let is : id_for g.schemas new ≡ id = ap (λ (o : Option ℕ). unwrap_or o (length g.schemas + 1)) e in
    let (nodes, there, same) = id_of-schema g.schemas (identity new) id e in
    let known = schema_within g.schemas id nodes there in
    let stay : schemas_with g.schemas new ≡ g.schemas = ap (λ (o : Option ℕ). if is_some o then g.schemas else g.schemas ++ new ∷ []) e in (
      (
        record { absent = next_number-absent g subject; fits = record { within = (omega arith, number); has_schema = (omega arith, omega arith) } },
        subst (λ (schemas : Schemas). IsNewEvidence (record g { schemas = schemas }) (next_row g subject new) evidence) stay fits,
      ),
      tt,
    )

-- if there is a schema, its type is supported
is_supported : (text : List ℕ) (supported : Bool) (new : List NodeView) → supported_schema text supported ≡ Some new → IsTrue supported
unfolding supported_schema
is_supported text true new e = refl
is_supported text false new e = absurd (cc)

module _ (g : Registry) (subject text : List ℕ) (supported : Bool) (view : View) (schema : Option (List NodeView)) (input : IsDecisionInput g (Register subject text supported) schema view) where
  pub register_none : schema ≡ None → permitted_step g (Register subject text supported) ≡ (g, fault InvalidSchema)
  unfolding permitted_step
  register_none e = ap (register g subject) (sym input.sent ∙ e)

  module _ (new : List NodeView) (e : schema ≡ Some new) where
    known_shown : view.known ≡ id_of g.schemas (identity new)
    known_shown = let sent = sym input.sent ∙ e in input.shows.known (is_supported text supported new sent) ∙ ap (known_id g.schemas) sent

    abbrev live : List Row
    live = live_rows view.rows.items

    -- the live versions of the registry
    abbrev all : List Row
    all = live_rows (rows_of g subject)

    among : is_among view.known live ≡ is_among view.known all
    among = input.shows.rows.among

    register_as : permitted_step g (Register subject text supported)
        ≡ registered g subject new (record { is_already_live = is_among view.known live; admitted = is_admitted_after g.schemas (level_of_view view) all new; has_numbers_left = has_numbers_left g subject new })
    unfolding permitted_step
    register_as =
        let levels = input.shows.levels refl in
        let known = known_shown in
        let same = among in
        ap (register g subject) (sym input.sent ∙ e) ∙ (rw (same, known, levels.0, levels.1) refl)

    pub register_known : (id : ℕ) → Some id ≡ id_among view.known live → permitted_step g (Register subject text supported) ≡ (g, success (id_body id))
    register_known id among =
        let parts = if_some (is_among view.known live) view.known id (sym among) in
        let known : id_of g.schemas (identity new) ≡ Some id = sym known_shown ∙ parts.1 in
        register_as ∙ (rw (parts.0, known) refl)

    register_admits : is_among view.known live ≡ false → is_admitted_in_view view (level_of_view view) live new ≡ is_admitted_after g.schemas (level_of_view view) all new
    register_admits unknown =
        admitted_as view g.schemas input.registry.schemas (level_of_view view) live all new
        (input.shows.rows.named (sym among ∙ unknown))
        (live-HasSchema g input.registry subject)
        (subst (λ (b : Bool). All (ShowsText view g.schemas) (if b then [] else named_versions (level_of_view view) live)) unknown input.shows.texts)

    pub register_refused : is_among view.known live ≡ false → false ≡ is_admitted_in_view view (level_of_view view) live new → permitted_step g (Register subject text supported) ≡ (g, fault Incompatible)
    register_refused unknown refused =
        let verdict : is_admitted_after g.schemas (level_of_view view) all new ≡ false = sym (refused ∙ register_admits unknown) in
        register_as ∙ (rw (unknown, verdict) refl)

    module _ (unknown : is_among view.known live ≡ false) (admitted : true ≡ is_admitted_in_view view (level_of_view view) live new) where
      verdict : is_admitted_after g.schemas (level_of_view view) all new ≡ true
      verdict = sym (admitted ∙ register_admits unknown)

      id_is : id_by_view view ≡ id_for g.schemas new
      id_is = let known = known_shown in let count = input.shows.count refl in rw (known, count) refl

      next_is : next_number view.rows.items ≡ next_number (rows_of g subject)
      next_is = input.shows.rows.next (sym among ∙ unknown)

      numbers_are : has_numbers_left g subject new ≡ has_numbers_by_view view
      numbers_are = let next = next_is in let id = id_is in rw (next, id) refl

      pub register_full : has_numbers_by_view view ≡ false → permitted_step g (Register subject text supported) ≡ (g, fault NoNumberLeft)
      register_full full = let left = numbers_are ∙ full in register_as ∙ (rw (unknown, verdict, left) refl)

      pub register_added : has_numbers_by_view view ≡ true → permitted_step g (Register subject text supported) ≡ (with_version g subject new, success (id_body (id_by_view view)))
      register_added shown =
          let left = numbers_are ∙ shown in
          let id = id_is in
          register_as ∙ (rw (unknown, verdict, left, id) refl)

      new_schema : IsSchema new
      new_schema = (text, supported_schema-denotes text supported new (sym input.sent ∙ e))

      row_is : row_by_view view subject ≡ next_row g subject new
      row_is = let id = id_is in let next = next_is in rw (id, next) refl

      -- the version's number and id are within the limit
      numbers_within : has_numbers_by_view view ≡ true → (next_number (rows_of g subject) ≤ max_number) × (id_for g.schemas new ≤ max_number)
      numbers_within left =
          let parts = and_parts (nat_le (next_number view.rows.items) max_number) (nat_le (id_by_view view) max_number) left in (
            subst (λ (n : ℕ). n ≤ max_number) next_is (leb-true (next_number view.rows.items) max_number parts.0),
            subst (λ (id : ℕ). id ≤ max_number) id_is (leb-true (id_by_view view) max_number parts.1),
          )

      level_is : level_of_view view ≡ level_in g subject
      level_is =
          let levels = input.shows.levels refl in
          ap (λ (own : Option Level). unwrap_or own view.global) levels.0 ∙ ap (unwrap_or (g.own subject)) levels.1

      -- the version's evidence is the subject's `next_evidence`
      evidence_is : evidence_by_view view live ≡ next_evidence g subject
      evidence_is =
          ap (evidence_of (level_of_view view)) (input.shows.rows.named (sym among ∙ unknown))
          ∙ ap (λ (level : Level). evidence_of level (named_versions level all)) level_is
        where
          evidence_of : Level → List Row → Evidence
          evidence_of level rows = record { level = level; against = map (λ (row : Row). row.1.id) rows }

      -- the version's evidence is true for the sent schema
      new_evidence : IsNewEvidence (record g { schemas = schemas_with g.schemas new }) (next_row g subject new) (evidence_by_view view live)
      new_evidence =
          let passed = ap (λ (level : Level). is_admitted_after g.schemas level all new) (sym level_is) ∙ verdict in
          let holds = true-with g.schemas new (next_evidence g subject) (admitted-true g input.registry subject new ((admits_decided (level_in g subject) (schemas_of g.schemas all) new).0 passed)) in
          record {
            named = evidence_is;
            holds = λ nodes there.
                subst (λ (x : List NodeView). IsTrueForSchema (schemas_with g.schemas new) x (evidence_by_view view live)) (new_is g subject new nodes input.registry new_schema there)
                (subst (IsTrueForSchema (schemas_with g.schemas new) new) (sym evidence_is) holds);
          }

      pub added_changes : after_changes (version_added view.known (row_by_view view subject) (evidence_by_view view live) new) g ≡ with_version g subject new
      added_changes =
          ap (λ (row : Row). after_changes (version_added view.known row (evidence_by_view view live) new) g) row_is
          ∙ changes_are g subject new new_schema view.known (sym known_shown) (evidence_by_view view live)

      pub added_fit : has_numbers_by_view view ≡ true → ChangesFit (version_added view.known (row_by_view view subject) (evidence_by_view view live) new) g
      added_fit left =
          let within = numbers_within left in
          subst (λ (row : Row). ChangesFit (version_added view.known row (evidence_by_view view live) new) g) (sym row_is)
          (changes_fit g subject new new_schema view.known (sym known_shown) within.0 within.1 (evidence_by_view view live) new_evidence)

      pub added_evidence : UpdateEvidence (version_added view.known (row_by_view view subject) (evidence_by_view view live) new) g
      added_evidence = subst (λ (row : Row). UpdateEvidence (version_added view.known row (evidence_by_view view live) new) g) (sym row_is) (by view.known)
        where
          by : (known : Option ℕ) → UpdateEvidence (version_added known (next_row g subject new) (evidence_by_view view live) new) g
          by None had ok =
              added_becomes (record g { schemas = g.schemas ++ option_to_list (denoted_nodes (identity new)) }) (next_row g subject new) (evidence_by_view view live)
              (next_number-absent g subject) evidence_is had ok
          by (Some id) had ok = added_becomes g (next_row g subject new) (evidence_by_view view live) (next_number-absent g subject) evidence_is had ok
