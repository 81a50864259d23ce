-- CheckAll and Check give the same reply from a view as from the registry.
use Rattle.std.proofs.Common.{◌≡◌, ℕ, Bool, List, [], ◌∷◌, Option, Some, None, refl, sym, ◌∙◌, ap, subst}
use Rattle.std.specs.Prelude.{All, Result, Ok, Err}
use Rattle.std.proofs.lemmas.List.Elements.{All-nil, All-cons}
use Rattle.avro_nodes.specs.Nodes.{NodeView}
use Rattle.reg_core.specs.declared.code.Code.{Code}
use Rattle.reg_core.specs.declared.code.Code.TheVariants.{InvalidSchema, InvalidVersion}
use Rattle.reg_core.specs.declared.command.Command.TheVariants.{Check, CheckAll}
use Rattle.reg_core.specs.declared.decision.View.{View}
use Rattle.reg_core.specs.declared.number.VersionChoice.{VersionChoice}
use Rattle.reg_core.specs.Bodies.{verdict_body}
use Rattle.reg_core.specs.Compatibility.{named_versions}
use Rattle.reg_core.specs.Inside.Comparisons.{is_admitted_in_view}
use Rattle.reg_core.specs.Machine.{permitted_step}
use Rattle.reg_core.specs.Numbers.{parse_choice}
use Rattle.reg_core.specs.ReadCommands.{found_row}
use Rattle.reg_core.specs.RegisterCommands.{supported_schema, is_admitted_after, check_reply, verdict_reply, check_all_reply}
use Rattle.reg_core.specs.Registry.{Registry, Row}
use Rattle.reg_core.specs.Replies.{success, fault}
use Rattle.reg_core.specs.Rows.{rows_of, live_rows}
use Rattle.reg_core.specs.Views.{IsDecisionInput, level_of_view, found_as_list}
use Rattle.reg_core.proofs.ChosenRows.{All-found}
use Rattle.reg_core.proofs.VersionVerdicts.{HasSchema, ShowsText, admitted_shown, admitted_as, live-HasSchema}

-- ---- CheckAll and Check

module _ (g : Registry) (subject text : List ℕ) (supported : Bool) (view : View) (schema : Option (List NodeView)) (input : IsDecisionInput g (CheckAll subject text supported) schema view) where
  pub check_all_none : schema ≡ None → permitted_step g (CheckAll subject text supported) ≡ (g, fault InvalidSchema)
  unfolding permitted_step
  check_all_none e = ap (λ (s : Option (List NodeView)). (g, check_all_reply g subject s)) (sym input.sent ∙ e)

  pub check_all_shown : (new : List NodeView) → schema ≡ Some new
      → permitted_step g (CheckAll subject text supported) ≡ (g, success (verdict_body (is_admitted_in_view view (level_of_view view) (live_rows view.rows.items) new)))
  unfolding permitted_step
  check_all_shown new e =
      let levels = input.shows.levels refl in
      let verdict : is_admitted_in_view view (level_of_view view) (live_rows view.rows.items) new ≡ is_admitted_after g.schemas (level_of_view view) (live_rows (rows_of g subject)) new =
      admitted_as view g.schemas input.registry.schemas (level_of_view view) (live_rows view.rows.items) (live_rows (rows_of g subject)) new input.shows.rows (live-HasSchema g input.registry subject) input.shows.texts in
      ap (λ (s : Option (List NodeView)). (g, check_all_reply g subject s)) (sym input.sent ∙ e)
      ∙ (rw (verdict, levels.0, levels.1) refl)

module _ (g : Registry) (subject version text : List ℕ) (supported : Bool) (view : View) (schema : Option (List NodeView)) (input : IsDecisionInput g (Check subject version text supported) schema view) where
  pub check_no_choice : parse_choice version ≡ None → permitted_step g (Check subject version text supported) ≡ (g, fault InvalidVersion)
  unfolding permitted_step
  check_no_choice none = ap (λ (choice : Option VersionChoice). (g, check_reply g subject choice (supported_schema text supported))) none

  module _ (choice : VersionChoice) (chosen : parse_choice version ≡ Some choice) where
    check_chosen : (s : Option (List NodeView)) → schema ≡ s → permitted_step g (Check subject version text supported) ≡ (g, check_reply g subject (Some choice) s)
    unfolding permitted_step
    check_chosen s e =
        ap (λ (c : Option VersionChoice). (g, check_reply g subject c (supported_schema text supported))) chosen
        ∙ ap (λ (x : Option (List NodeView)). (g, check_reply g subject (Some choice) x)) (sym input.sent ∙ e)

    pub check_none : schema ≡ None → permitted_step g (Check subject version text supported) ≡ (g, fault InvalidSchema)
    check_none e = check_chosen None e

    module _ (new : List NodeView) (e : schema ≡ Some new) where
      found_is : (found : Result Row Code) → found ≡ found_row (Some choice) (live_rows view.rows.items) → found_row (Some choice) (live_rows (rows_of g subject)) ≡ found
      found_is found is =
          sym (subst (λ (c : Option VersionChoice). found_row c (live_rows view.rows.items) ≡ found_row c (live_rows (rows_of g subject))) chosen input.shows.rows) ∙ sym is

      pub check_fault : (code : Code) → Err code ≡ found_row (Some choice) (live_rows view.rows.items) → permitted_step g (Check subject version text supported) ≡ (g, fault code)
      check_fault code is =
          check_chosen (Some new) e ∙ ap (λ (found : Result Row Code). (g, verdict_reply g subject new found)) (found_is (Err code) is)

      pub check_shown : (row : Row) → Ok row ≡ found_row (Some choice) (live_rows view.rows.items)
          → permitted_step g (Check subject version text supported) ≡ (g, success (verdict_body (is_admitted_in_view view (level_of_view view) (row ∷ []) new)))
      check_shown row is =
          let levels = input.shows.levels refl in
          let has : HasSchema g.schemas row =
          All-found (HasSchema g.schemas) choice (live_rows (rows_of g subject)) row (live-HasSchema g input.registry subject) (found_is (Ok row) is) in
          let shows : All (ShowsText view g.schemas) (named_versions (level_of_view view) (row ∷ [])) =
          subst (λ (found : Result Row Code). All (ShowsText view g.schemas) (named_versions (level_of_view view) (found_as_list found))) (sym is)
          (subst (λ (c : Option VersionChoice). All (ShowsText view g.schemas) (named_versions (level_of_view view) (found_as_list (found_row c (live_rows view.rows.items))))) chosen input.shows.texts) in
          let verdict : is_admitted_in_view view (level_of_view view) (row ∷ []) new ≡ is_admitted_after g.schemas (level_of_view view) (row ∷ []) new =
          admitted_shown view g.schemas input.registry.schemas (level_of_view view) (row ∷ []) new (All-cons (HasSchema g.schemas) row [] has (All-nil (HasSchema g.schemas))) shows in
          check_chosen (Some new) e
          ∙ (ap (λ (found : Result Row Code). (g, verdict_reply g subject new found)) (found_is (Ok row) is)
          ∙ (rw (verdict, levels.0, levels.1) refl))
