-- Migrated tables spell no evidence.
use Rattle.std.proofs.Common.{◌≡◌, ◌∙◌, List, Option, None, Some, refl, sym, ap, subst}
use Rattle.std.specs.FinMap.{get, empty, get-empty, same_map}
use Rattle.sqlite.specs.Order.{Row}
use Rattle.sqlite.specs.Effect.{Database}
use Rattle.reg_core.specs.Registry.{row_cmp}
use Rattle.reg_core.specs.Stored.{Stored}
use Rattle.reg_core.proofs.RowLemmas.{row_keys_apart, row_order}
use Rattle.reg_tables.specs.TableMaps.{RowForm, ShowsMap}
use Rattle.reg_tables.specs.Contents.{version_cmp, evidence_form, TableName, HoldsContents}
use Rattle.reg_tables.proofs.Opening.{nothing_held}
use Rattle.reg_store.specs.Spells.{Spells, SpellsLayoutOne}
use Rattle.reg_store.proofs.Evidence.{has_none}
use Rattle.reg_migrate.specs.Inside.{HoldsMigrated}

-- if an empty map shows some rows, every map that shows them is empty
shows_none : {K V : Type 0} (form : RowForm K V) (rows : List Row) (here there : K → Option V) → ShowsMap form rows here → ShowsMap form rows there
    → ((key : K) → here key ≡ None) → (key : K) → there key ≡ None
shows_none {K} {V} form rows here there a b none key = go (there key) refl
  where
    go : (found : Option V) → there key ≡ found → found ≡ None
    go None is = refl
    go (Some value) is =
        let its = b.complete key value is in
        let entry = a.sound its.0 its.1 in
        absurd (let no = sym (none entry.0) ∙ entry.2 in cc)

-- the table of evidence has no row
pub no_evidence_left : (before now : Database) (was : Stored) → SpellsLayoutOne before was → HoldsMigrated before now → (spelled : Stored) → Spells now spelled → spelled.evidence ≡ empty
no_evidence_left before now was first moves spelled it =
    let made = moves first.schema first.known first.contents first.holds in
    let its = subst (λ x. HoldsContents x now it.contents) (sym it.holds.declared ∙ made.declared) it.holds in
    let none = (nothing_held first.schema first.known before.trees first.contents first.holds.shows).1 in
    let bare = shows_none evidence_form _ _ (get it.contents.evidence) (made.shows TableName.Evidence) (its.shows TableName.Evidence) (λ key. ap (λ m. get m key) none ∙ get-empty version_cmp key) in
    same_map row_order row_keys_apart spelled.evidence empty (λ key. has_none it.contents spelled.evidence it.spelled.evidence key (bare key) ∙ sym (get-empty row_cmp key))
