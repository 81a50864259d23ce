-- The tables of each layout can be read if they spell a registry.
use Rattle.std.proofs.Common.{◌≡◌, ℕ, List, Some, refl, sym, ap, subst, ◌∙◌, arith}
use Rattle.std.specs.Prelude.{◌<◌, ◌^◌, IsSome, is_some, IsTrue, IsUtf8}
use Rattle.std.specs.FinMap.{FinMap, get, empty, get-empty}
use Rattle.std.specs.declared.cmp.Ordering.{Ordering}
use Rattle.sqlite.specs.Schema.{Schema}
use Rattle.sqlite.specs.Effect.{Database}
use Rattle.reg_core.specs.Levels.{level_of}
use Rattle.reg_core.specs.Modes.{mode_text}
use Rattle.reg_core.specs.Registry.{RowKey}
use Rattle.reg_core.specs.Stored.{Stored}
use Rattle.reg_tables.specs.Layout.{HasEightTables}
use Rattle.reg_tables.specs.Contents.{text_cmp, version_cmp, position_cmp, AreReadable}
use Rattle.reg_tables.proofs.References.{has_evidence_version, has_against_text}
use Rattle.reg_tables.proofs.Opening.{nothing_held}
use Rattle.reg_store.specs.Spells.{IsSpelledLayoutTwo, SpellsLayoutOne, SpellsIn}
use Rattle.reg_store.specs.Inside.Evidence.{IsEvidence}
use Rattle.reg_store.proofs.Bridge.{spelt}
use Rattle.reg_store.proofs.EvidenceMaps.{evidence_if_spelled}
use Rattle.reg_store.proofs.EvidenceRows.{the_value}
use Rattle.reg_store.proofs.Texts.{was_written, utf8_subject, utf8_level, utf8_mode, utf8_first_meta, utf8_second_meta, readable_base, readable_key, readable_id}

none_in : {K V : Type 0} (R : K → K → Ordering) (m : FinMap R V) → m ≡ empty → (key : K) (value : V) → get m key ≡ Some value → ⊥
none_in R m is key value there = let none = sym (ap (λ m. get m key) is ∙ get-empty R key) ∙ there in cc

pub one_readable : (db : Database) (was : Stored) (s : SpellsLayoutOne db was) → AreReadable s.contents
one_readable db was s =
    let none = nothing_held s.schema s.known db.trees s.contents s.holds.shows in
    readable_base s.contents was.registry was.replies s.spelled.base (λ name value there. utf8_first_meta was.registry.global name value (sym (ap (λ m. get m name) s.spelled.meta) ∙ there))
    (λ subject mode there. absurd (none_in text_cmp s.contents.modes none.0 subject mode there)) (λ key level there. absurd (none_in version_cmp s.contents.evidence none.1 key level there))
    (λ position id there. absurd (none_in position_cmp s.contents.against none.2 position id there))

pub all_readable : (db : Database) (was : Stored) → {IsAllowed : Schema → Type 0} → (s : SpellsIn IsAllowed IsSpelledLayoutTwo db was) → HasEightTables s.schema → AreReadable s.contents
all_readable db was s tables =
    readable_base s.contents was.registry was.replies s.spelled.base (λ name value there. utf8_second_meta was.registry.global was.registry.global_mode name value (sym (ap (λ m. get m name) s.spelled.meta) ∙ there))
    (λ subject mode there.
    let it = was_written mode_text (was.registry.own_modes subject) mode (sym (s.spelled.modes subject) ∙ there) in
    (utf8_subject subject (s.spelled.owners subject it.0 it.1), subst IsUtf8 (sym it.2) (utf8_mode it.0)))
    (λ key level there.
    let of_version = version key (has_evidence_version s.schema db s.contents tables s.holds key level there) in
    (of_version.0, of_version.1, utf8_spelt level (rows.levels key level there)))
    (λ position id there.
    let owner = the_value (get s.contents.evidence position.0) (rows.owners position id there) in
    let of_version = version position.0 (has_evidence_version s.schema db s.contents tables s.holds position.0 owner.0 owner.1) in
    let text = the_value (get s.contents.texts id) (has_against_text s.schema db s.contents tables s.holds position id there) in
    let order = rows.positions position.0 in
    let high = ((order.each position.1).0 (subst IsSome (sym there) refl)).1 in
    let few = order.few in
    (of_version.0, of_version.1, omega (arith, high, few), readable_id s.contents was.registry was.replies s.spelled.base id text.0 text.1))
  where
    rows : IsEvidence s.contents
    rows = evidence_if_spelled s.contents was.evidence s.spelled.evidence

    version : (key : RowKey) → IsSome (get s.contents.versions key) → IsUtf8 key.0 × (key.1 < 2 ^ 32)
    version key some = let it = the_value (get s.contents.versions key) some in readable_key s.contents was.registry was.replies s.spelled.base key it.0 it.1

    utf8_spelt : (level : List ℕ) → IsTrue (is_some (level_of level)) → IsUtf8 level
    utf8_spelt level fits = let it = the_value (level_of level) fits in subst IsUtf8 (sym (spelt level it.0 it.1)) (utf8_level it.0)
