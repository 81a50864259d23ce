-- Each version with evidence exists, and each id in it has a schema.
use Rattle.std.proofs.Common.{◌≡◌, ◌∙◌, inl, suc, refl, sym, ap, subst, get_or}
use Rattle.std.specs.Prelude.{All, IsSome, Option, None, Some, option_map, option_and_then, is_some}
use Rattle.std.specs.FinMap.{get}
use Rattle.std.proofs.lemmas.Option.{slice_get-get_or}
use Rattle.sqlite.specs.Effect.{Database}
use Rattle.avro_nodes.specs.Identity.{identity}
use Rattle.reg_core.specs.Evidence.{Evidence, HasOnlyVersions}
use Rattle.reg_core.specs.Levels.{level_text}
use Rattle.reg_core.specs.Registry.{RowKey, schema_at}
use Rattle.reg_core.specs.Stored.{Stored}
use Rattle.reg_tables.proofs.References.{has_evidence_version, has_against_text}
use Rattle.reg_tables.proofs.Tables.{openable_has_eight}
use Rattle.reg_store.specs.Spells.{Spells, id_at, stored_version}

is_some-map : {V W : Type 0} (f : V → W) (o : Option V) → is_some (option_map f o) ≡ is_some o
is_some-map f None = refl
is_some-map f (Some v) = refl

module _ (db : Database) (was : Stored) (s : Spells db was) where
  owned : (key : RowKey) (o : Option Evidence) → get was.evidence key ≡ o → get was.registry.rows key ≡ None → o ≡ None
  owned key None is gone = refl
  owned key (Some one) is gone =
      let it = s.spelled in
      let level = it.evidence.levels key ∙ ap (option_map (λ (e : Evidence). level_text e.level)) is in
      let row = has_evidence_version s.schema db s.contents (openable_has_eight s.schema (inl s.known)) s.holds key (level_text one.level) level in
      let none = it.base.versions key ∙ ap (option_map stored_version) gone in
      absurd (let some = subst IsSome none row in cc)

  pub is_of_versions : HasOnlyVersions was.registry was.evidence
  is_of_versions key gone = owned key (get was.evidence key) refl gone

  pub has_schemas : (key : RowKey) (one : Evidence) → get was.evidence key ≡ Some one → All (λ id. IsSome (schema_at was.registry.schemas id)) one.against
  has_schemas key one is k d within =
      let it = s.spelled in
      let id = get_or one.against k d in
      let there = it.evidence.ids (key, suc k) ∙ ap (option_and_then (id_at (suc k))) is ∙ slice_get-get_or one.against k d within in
      let text = has_against_text s.schema db s.contents (openable_has_eight s.schema (inl s.known)) s.holds (key, suc k) id there in
      sym (is_some-map identity (schema_at was.registry.schemas id)) ∙ ap is_some (sym (it.base.texts id)) ∙ text
