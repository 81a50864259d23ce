-- What adding a version with its evidence does to what the tables spell.
use Rattle.std.proofs.Common.{◌≡◌, ◌∙◌, inl, ℕ, List, [], ◌∷◌, Option, Some, None, refl, sym, ap, subst}
use Rattle.std.specs.Prelude.{IsSome, IsTrue, option_map}
use Rattle.std.specs.FinMap.{get, insert}
use Rattle.sqlite.specs.Effect.{Database}
use Rattle.sqlite.specs.State.{State}
use Rattle.sqlite.specs.declared.error.Error.{Error}
use Rattle.avro_nodes.specs.Nodes.{NodeView}
use Rattle.avro_nodes.specs.Identity.{identity}
use Rattle.reg_core.specs.declared.decision.Change.TheVariants.{AddRow}
use Rattle.reg_core.specs.Evidence.{Evidence, IsCompatibleWith}
use Rattle.reg_core.specs.Levels.{level_text}
use Rattle.reg_core.specs.Registry.{Row, RowKey, schema_at}
use Rattle.reg_core.specs.Stored.{Stored}
use Rattle.reg_core.specs.Subjects.{is_subject}
use Rattle.reg_core.specs.Views.{ChangeFits}
use Rattle.reg_core.proofs.RowLemmas.{row_schema}
use Rattle.reg_tables.specs.Contents.{version_cmp, Contents, HoldsContents}
use Rattle.reg_tables.specs.Changes.{with_evidence, with_version}
use Rattle.std.proofs.lemmas.List.Elements.{All-weaker}
use Rattle.reg_tables.specs.FailedCalls.{IsInsertFault}
use Rattle.reg_tables.specs.Writing.{ChangesIf}
use Rattle.reg_tables.proofs.References.{has_evidence_version}
use Rattle.reg_tables.proofs.Tables.{openable_has_eight}
use Rattle.reg_tables.proofs.MapLemmas.{get-insert-same}
use Rattle.reg_tables.proofs.KeyedTables.{version_order}
use Rattle.reg_store.specs.Spells.{Spells, IsSpelledEvidence, IsSpelledLayoutTwo, stored_version}
use Rattle.reg_store.specs.Changes.{stored_after_changes}
use Rattle.reg_store.specs.Inside.Applying.{HasNoPositions, HasTexts, PutsEvidence, IsFaultOfEvidence, with_ids, with_level_and_ids}
use Rattle.reg_store.proofs.Additions.{number_is_free, spelled_row}
use Rattle.reg_store.proofs.Evidence.{evidence_beside, evidence_more, has_no_position}
use Rattle.reg_store.proofs.Positions.{ids_beside}
use Rattle.reg_store.proofs.Spelling.{spelled_as}

no_level : {db : Database} {was : Stored} (s : Spells db was) (key : RowKey) → get s.contents.versions key ≡ None → get s.contents.evidence key ≡ None
no_level {db} s key none = go (get s.contents.evidence key) refl
  where
    go : (o : Option (List ℕ)) → get s.contents.evidence key ≡ o → o ≡ None
    go None is = refl
    go (Some level) is = absurd (let some = subst IsSome none (has_evidence_version s.schema db s.contents (openable_has_eight s.schema (inl s.known)) s.holds key level is) in cc)

abbrev with_row : Row → Contents → Contents
with_row row = with_version row.0 (stored_version row.1)

module _ (old mid new : State) (row : Row) (own : Evidence) (puts : ChangesIf old mid (λ contents. get contents.versions row.0 ≡ None) (with_version row.0 (stored_version row.1)))
    (was : Stored) (s : Spells old.now was) (fits : ChangeFits (AddRow row own) was.registry) where
  absent : get s.contents.versions row.0 ≡ None
  absent = number_is_free s.contents was.registry was.replies s.spelled.base row fits.0

  held : HoldsContents s.schema mid.now (with_row row s.contents)
  held = puts s.schema s.known s.contents s.holds absent

  bare : get s.contents.evidence row.0 ≡ None
  bare = no_level s row.0 absent

  free : HasNoPositions s.contents row.0
  free = has_no_position s.contents was.evidence s.spelled.evidence row.0 bare

  named : (nodes : List NodeView) → schema_at was.registry.schemas row.1.id ≡ Some nodes → HasTexts (with_row row s.contents) row.0 own.against
  named nodes schema = record {
    version = subst IsSome (sym (get-insert-same version_cmp version_order s.contents.versions row.0 (stored_version row.1))) refl;
    texts = All-weaker (IsCompatibleWith was.registry.schemas own.level nodes) (λ id. IsSome (get s.contents.texts id)) (λ id goes. subst IsSome (sym (s.spelled.base.texts id ∙ ap (option_map identity) goes.1)) refl) own.against (fits.1.holds nodes schema);
  }

  has_texts : HasTexts (with_row row s.contents) row.0 own.against
  has_texts = let its = row_schema was.registry.schemas row.0 row.1 fits.0.fits in named its.0 its.1

  pub spells_row : IsTrue (is_subject row.0.0) → PutsEvidence mid new row.0 own → Spells new.now (stored_after_changes (AddRow row own ∷ []) was)
  spells_row within given =
      let bare_there = with_evidence row.0 (level_text own.level) (with_row row s.contents) in
      let same = ids_beside row.0 1 own.against bare_there in
      let evidence = evidence_more (with_row row s.contents) was.evidence (evidence_beside s.contents was.evidence s.spelled.evidence (with_row row s.contents) refl refl) row.0 own given.few free in
      record {
        schema = s.schema;
        known = s.known;
        contents = with_level_and_ids row.0 own (with_row row s.contents);
        holds = given.puts s.schema s.known (with_row row s.contents) held bare free;
        spelled = subst (λ (c : Contents). IsSpelledLayoutTwo c (stored_after_changes (AddRow row own ∷ []) was)) (sym same) (record {
          base = spelled_as (with_row row s.contents) _ was.replies (spelled_row s.contents was.registry was.replies s.spelled.base row own within fits.0) (record bare_there { against = (with_ids row.0 1 own.against bare_there).against }) (refl, refl, refl, refl);
          meta = s.spelled.meta;
          modes = s.spelled.modes;
          owners = s.spelled.owners;
          evidence = subst (λ (c : Contents). IsSpelledEvidence c (insert was.evidence row.0 own)) same evidence;
        });
      }

  pub row_fails : (e : Error) → IsFaultOfEvidence mid new row.0 own e → IsInsertFault mid new e
  row_fails e fails = fails s.schema s.known (with_row row s.contents) held bare free has_texts
