-- What layout 1 spells, in layout 2.
use Rattle.std.proofs.Common.{◌≡◌, ◌≢◌, ◌∙◌, ℕ, List, sym, ap, refl, subst, option_map, inl, inr, codes}
use Rattle.std.specs.FinMap.{get, insert, empty, get-empty, get-insert, same_map}
use Rattle.sqlite.specs.Tree.{Trees}
use Rattle.sqlite.specs.Effect.{Database}
use Rattle.reg_core.specs.Levels.{level_text}
use Rattle.reg_core.specs.Modes.{mode_text}
use Rattle.reg_core.specs.Stored.{Stored}
use Rattle.reg_tables.specs.Contents.{text_cmp, TextMap, Contents}
use Rattle.reg_tables.specs.Layout.{layout_two}
use Rattle.reg_tables.proofs.Opening.{nothing_held}
use Rattle.reg_tables.specs.Changes.{meta_of_layout, meta_before_level, marked_layout_two}
use Rattle.reg_tables.proofs.MapLemmas.{get-insert-same, get-insert-other, same_or_not}
use Rattle.reg_tables.proofs.KeyedTables.{text_order}
use Rattle.reg_store.specs.Spells.{IsSpelledEvidence, IsSpelledLayoutOne, IsSpelledLayoutTwo, RecoversTo, Spells, SpellsLayoutOne, layout_two_meta}
use Rattle.reg_store.proofs.Evidence.{no_evidence}
use Rattle.reg_migrate.specs.Inside.{HoldsMigrated, TreesHoldMigrated}

-- only the layout number changes
module _ (level : List ℕ) where
  -- no other row depends on the number
  elsewhere : (number q : List ℕ) → q ≢ codes "layout" → q ≢ codes "global" → get (meta_of_layout number level) q ≡ get (insert {R = text_cmp} empty (codes "format") (codes "avroreg")) q
  elsewhere number q other more =
      get-insert-other text_cmp text_order (meta_before_level number) (codes "global") level q more
      ∙ get-insert-other text_cmp text_order (insert empty (codes "format") (codes "avroreg")) (codes "layout") number q other

  renumbered : insert (meta_of_layout (codes "1") level) (codes "layout") (codes "2") ≡ meta_of_layout (codes "2") level
  renumbered = same_map text_order.total text_order.antisymmetric _ _ (λ q. elim (same_or_not text_cmp text_order q (codes "layout")) [
    | inl e ↦
        ap (get (insert (meta_of_layout (codes "1") level) (codes "layout") (codes "2"))) e
        ∙ get-insert-same text_cmp text_order (meta_of_layout (codes "1") level) (codes "layout") (codes "2")
        ∙ sym (ap (get (meta_of_layout (codes "2") level)) e ∙ (get-insert text_order.total (meta_before_level (codes "2")) (codes "global") level (codes "layout")
        ∙ get-insert-same text_cmp text_order (insert empty (codes "format") (codes "avroreg")) (codes "layout") (codes "2")))
    | inr other ↦
        get-insert-other text_cmp text_order (meta_of_layout (codes "1") level) (codes "layout") (codes "2") q other
        ∙ elim (same_or_not text_cmp text_order q (codes "global")) [
          | inl e ↦
              ap (get (meta_of_layout (codes "1") level)) e ∙ get-insert-same text_cmp text_order (meta_before_level (codes "1")) (codes "global") level
              ∙ sym (ap (get (meta_of_layout (codes "2") level)) e ∙ get-insert-same text_cmp text_order (meta_before_level (codes "2")) (codes "global") level)
          | inr more ↦ elsewhere (codes "1") q other more ∙ sym (elsewhere (codes "2") q other more)
        ]
  ])

-- the contents spell in layout 2 what they spelled in layout 1
pub contents_spelled : (contents : Contents) (was : Stored) → (contents.modes ≡ empty) × (contents.evidence ≡ empty) × (contents.against ≡ empty) → IsSpelledLayoutOne contents was → IsSpelledLayoutTwo (marked_layout_two contents) was
contents_spelled contents was none s = record {
  base = record {
    registry = s.base.registry;
    texts = s.base.texts;
    utf8 = s.base.utf8;
    versions = s.base.versions;
    registered = s.base.registered;
    levels = s.base.levels;
    subjects = s.base.subjects;
    kept = s.base.kept;
    keys = s.base.keys;
  };
  meta = ap (λ (m : TextMap (List ℕ)). insert (insert m (codes "layout") (codes "2")) (codes "mode") (codes "READWRITE")) s.meta
      ∙ ap (λ (m : TextMap (List ℕ)). insert m (codes "mode") (codes "READWRITE")) (renumbered (level_text was.registry.global))
      ∙ ap (λ mode. layout_two_meta (level_text was.registry.global) (mode_text mode)) (sym s.modes.global);
  modes = λ subject. ap (λ m. get m subject) none.0 ∙ get-empty text_cmp subject ∙ sym (ap (option_map mode_text) (s.modes.own subject));
  owners = λ subject mode there. absurd (let none = sym (s.modes.own subject) ∙ there in cc);
  evidence = subst (IsSpelledEvidence (marked_layout_two contents)) (sym s.evidence) (no_evidence (marked_layout_two contents) none.1 none.2);
}

-- the migrated database spells what the tables spelled
pub spells_migrated : (before now : Database) (was : Stored) → HoldsMigrated before now → SpellsLayoutOne before was → Spells now was
spells_migrated before now was moves s = record {
  schema = layout_two;
  known = inl refl;
  contents = marked_layout_two s.contents;
  holds = moves s.schema s.known s.contents s.holds;
  spelled = contents_spelled s.contents was (nothing_held s.schema s.known before.trees s.contents s.holds.shows) s.spelled;
}

-- trees with the migrated contents, which a crash leaves, spell it too
pub recovers_migrated : (before : Database) (db : Trees) (was : Stored) → TreesHoldMigrated before db → SpellsLayoutOne before was → RecoversTo db was
recovers_migrated before db was takes s = record { schema = layout_two; spells = spells_migrated before (record { schema = layout_two; trees = db }) was takes s }
