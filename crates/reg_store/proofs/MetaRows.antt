-- The rows of `meta` in each layout, as a list and as a map.
use Rattle.std.proofs.Common.{◌≡◌, ◌≢◌, ◌⊎◌, inl, inr, ℕ, List, [], ◌∷◌, map, Option, Some, None, Bool, true, false, cond, codes, refl, sym, ap, subst, ◌∙◌}
use Rattle.std.specs.Prelude.{IsTrue, ◌&&◌, ◌||◌, bytes_eq, is_some}
use Rattle.std.specs.Ordering.{is_eq}
use Rattle.std.specs.FinMap.{get, empty, find, from_entries, get-empty, get-from_entries, same_map}
use Rattle.std.proofs.lemmas.Bool.{both_ways, and_from, and_parts}
use Rattle.std.proofs.lemmas.Slice.Eq.{bytes_eq-Decides}
use Rattle.sqlite_rules.specs.Lists.{Has}
use Rattle.reg_core.specs.declared.level.Level.{Level}
use Rattle.reg_core.specs.declared.mode.Mode.{Mode}
use Rattle.reg_core.specs.Levels.{level_text, level_of}
use Rattle.reg_core.specs.Modes.{mode_text, mode_of, modes}
use Rattle.reg_tables.specs.declared.meta.RawMeta.{RawMeta}
use Rattle.reg_tables.specs.Contents.{text_cmp, TextMap}
use Rattle.reg_tables.specs.Changes.{meta_of_layout, meta_of_layout_one}
use Rattle.reg_tables.specs.Listings.{HasNoDuplicates, without_rowid, meta_entry}
use Rattle.reg_tables.proofs.ListMembers.{has_mapped, maps_had}
use Rattle.reg_tables.proofs.MapLemmas.{tied_key, other_key, same_or_not, get-insert-same, get-insert-other}
use Rattle.reg_tables.proofs.KeyedTables.{text_order}
use Rattle.reg_tables.proofs.ListingLemmas.{found_first, find_had}
use Rattle.reg_rows.specs.Spelling.{meta_pair}
use Rattle.reg_rows.specs.Meta.{MetaPair, value_of, layout_one_names, layout_two_names, is_name, has_only_known_names, value_equals, has_level, has_mode, has_common, is_layout_one_meta, is_layout_two_meta}
use Rattle.reg_store.specs.Spells.{layout_two_meta}
use Rattle.reg_store.specs.Opening.{meta_columns}
use Rattle.reg_store.proofs.Bridge.{find_passes, spelt}
use Rattle.reg_store.proofs.Maps.{same_bytes, other_bytes}
use Rattle.reg_store.proofs.ReadBack.{level_of-level_text, mode_of-mode_text}

-- ---- texts of levels and modes

-- each mode has one text
pub mode_spelt : (text : List ℕ) (mode : Mode) → mode_of text ≡ Some mode → text ≡ mode_text mode
mode_spelt text mode h = (bytes_eq-Decides text (mode_text mode)).0 (find_passes (λ m. bytes_eq text (mode_text m)) modes mode h)

pub value_is : (text : List ℕ) (o : Option (List ℕ)) → value_equals text o ≡ true → o ≡ Some text
value_is text None h = absurd (cc)
value_is text (Some v) h = ap Some ((bytes_eq-Decides v text).0 h)

level_is : (o : Option (List ℕ)) → has_level o ≡ true → (level : Level) × (o ≡ Some (level_text level))
level_is None h = absurd (cc)
level_is (Some v) h = go (level_of v) refl h
  where
    go : (r : Option Level) → level_of v ≡ r → is_some r ≡ true → (level : Level) × (Some v ≡ Some (level_text level))
    go None e h = absurd (cc)
    go (Some level) e h = (level, ap Some (spelt v level e))

mode_is : (o : Option (List ℕ)) → has_mode o ≡ true → (mode : Mode) × (o ≡ Some (mode_text mode))
mode_is None h = absurd (cc)
mode_is (Some v) h = go (mode_of v) refl h
  where
    go : (r : Option Mode) → mode_of v ≡ r → is_some r ≡ true → (mode : Mode) × (Some v ≡ Some (mode_text mode))
    go None e h = absurd (cc)
    go (Some mode) e h = (mode, ap Some (mode_spelt v mode e))

-- ---- names

named : (known : List (List ℕ)) (q : List ℕ) → Has known q ⊎ (is_name known q ≡ false)
named [] q = inr refl
named (name ∷ known) q = elim (same_or_not text_cmp text_order q name) [
  | inl e ↦ inl (inl e)
  | inr other ↦ elim (named known q) [ inl there ↦ inl (inr there) | inr none ↦ inr (λ i. other_bytes q name (λ e. other (sym e)) i || none i) ]
]

either_named : (b c : Bool) → c ≡ true → (b || c) ≡ true
either_named true c h = refl
either_named false c h = h

is_named : (known : List (List ℕ)) (q : List ℕ) → Has known q → is_name known q ≡ true
is_named [] q there = absurd there
is_named (name ∷ known) q (inl e) = ap (λ b. b || is_name known q) (ap (bytes_eq q) (sym e) ∙ same_bytes q)
is_named (name ∷ known) q (inr later) = either_named (bytes_eq q name) (is_name known q) (is_named known q later)

no_name : (known : List (List ℕ)) (q name : List ℕ) → is_name known q ≡ false → Has known name → q ≢ name
no_name known q name none there e = both_ways _ none (is_named known q (subst (Has known) (sym e) there))

-- ---- rows

same_test : (name q : List ℕ) → bytes_eq name q ≡ is_eq (text_cmp q name)
same_test name q = elim (same_or_not text_cmp text_order q name) [
  | inl e ↦ ap (bytes_eq name) e ∙ same_bytes name ∙ sym (tied_key text_cmp text_order q name e)
  | inr other ↦ other_bytes name q other ∙ sym (other_key text_cmp text_order q name other)
]

value_found : (q : List ℕ) (rows : List MetaPair) → value_of q rows ≡ find text_cmp q rows
value_found q [] = refl
value_found q (row ∷ rows) = ap (λ b. cond b (Some row.1) (value_of q rows)) (same_test row.0 q) ∙ ap (cond (is_eq (text_cmp q row.0)) (Some row.1)) (value_found q rows)

pairs_are : (lines : List RawMeta) → map meta_pair (map meta_columns lines) ≡ map without_rowid (map meta_entry lines)
pairs_are [] = refl
pairs_are (l ∷ ls) = ap (λ r. meta_pair (meta_columns l) ∷ r) (pairs_are ls)

each_known : (known : List (List ℕ)) (rows : List MetaPair) → has_only_known_names known rows ≡ true → (row : MetaPair) → Has rows row → is_name known row.0 ≡ true
each_known known [] h row there = absurd there
each_known known (r ∷ rows) h row (inl e) = ap (λ (p : MetaPair). is_name known p.0) e ∙ (and_parts (is_name known r.0) (has_only_known_names known rows) h).0
each_known known (r ∷ rows) h row (inr later) = each_known known rows (and_parts (is_name known r.0) (has_only_known_names known rows) h).1 row later

known_if_each : (known : List (List ℕ)) (rows : List MetaPair) → ((row : MetaPair) → Has rows row → is_name known row.0 ≡ true) → has_only_known_names known rows ≡ true
known_if_each known [] f = refl
known_if_each known (r ∷ rows) f = and_from (is_name known r.0) (has_only_known_names known rows) (f r (inl refl)) (known_if_each known rows (λ x h. f x (inr h)))

-- ---- the maps

names_apart : (a b : List ℕ) → bytes_eq a b ≡ false → a ≢ b
names_apart a b test e = both_ways _ test ((bytes_eq-Decides a b).1 e)

module _ (number level : List ℕ) where
  has_global : get (meta_of_layout number level) (codes "global") ≡ Some level
  has_global = get-insert-same text_cmp text_order _ (codes "global") level

  has_layout_one : get (meta_of_layout number level) (codes "layout") ≡ Some number
  has_layout_one = get-insert-other text_cmp text_order _ (codes "global") level (codes "layout") (names_apart (codes "layout") (codes "global") refl) ∙ get-insert-same text_cmp text_order _ (codes "layout") number

  has_format : get (meta_of_layout number level) (codes "format") ≡ Some (codes "avroreg")
  has_format =
      get-insert-other text_cmp text_order _ (codes "global") level (codes "format") (names_apart (codes "format") (codes "global") refl) ∙ get-insert-other text_cmp text_order _ (codes "layout") number (codes "format") (names_apart (codes "format") (codes "layout") refl)
      ∙ get-insert-same text_cmp text_order empty (codes "format") (codes "avroreg")

  has_no_other : (q : List ℕ) → is_name layout_one_names q ≡ false → get (meta_of_layout number level) q ≡ None
  has_no_other q none =
      get-insert-other text_cmp text_order _ (codes "global") level q (no_name layout_one_names q (codes "global") none (inr (inr (inl refl))))
      ∙ get-insert-other text_cmp text_order _ (codes "layout") number q (no_name layout_one_names q (codes "layout") none (inr (inl refl)))
      ∙ get-insert-other text_cmp text_order empty (codes "format") (codes "avroreg") q (no_name layout_one_names q (codes "format") none (inl refl)) ∙ get-empty text_cmp q

module _ (level mode : List ℕ) where
  two_mode : get (layout_two_meta level mode) (codes "mode") ≡ Some mode
  two_mode = get-insert-same text_cmp text_order _ (codes "mode") mode

  beside_mode : (q : List ℕ) → q ≢ codes "mode" → get (layout_two_meta level mode) q ≡ get (meta_of_layout (codes "2") level) q
  beside_mode q other = get-insert-other text_cmp text_order _ (codes "mode") mode q other

  no_first_name : (q : List ℕ) → is_name layout_two_names q ≡ false → is_name layout_one_names q ≡ false
  no_first_name q none = elim (named layout_one_names q) [
    | inr it ↦ it
    | inl there ↦ absurd (both_ways _ none (is_named layout_two_names q (more there)))
  ]
    where
      more : Has layout_one_names q → Has layout_two_names q
      more (inl e) = inl e
      more (inr (inl e)) = inr (inl e)
      more (inr (inr (inl e))) = inr (inr (inl e))
      more (inr (inr (inr none))) = absurd none

  two_no_other : (q : List ℕ) → is_name layout_two_names q ≡ false → get (layout_two_meta level mode) q ≡ None
  two_no_other q none = beside_mode q (no_name layout_two_names q (codes "mode") none (inr (inr (inr (inl refl))))) ∙ has_no_other (codes "2") level q (no_first_name q none)

-- ---- lines

module _ (lines : List RawMeta) where
  abbrev pub meta_in : TextMap (List ℕ)
  meta_in = from_entries (map without_rowid (map meta_entry lines))

  abbrev pub pairs_in : List MetaPair
  pairs_in = map meta_pair (map meta_columns lines)

  pub meta_found : (q : List ℕ) → value_of q pairs_in ≡ get meta_in q
  meta_found q =
      ap (value_of q) (pairs_are lines) ∙ value_found q (map without_rowid (map meta_entry lines)) ∙ sym (get-from_entries text_order.total (map without_rowid (map meta_entry lines)) q)

  meta_has_no_other : (known : List (List ℕ)) → has_only_known_names known pairs_in ≡ true → (q : List ℕ) → is_name known q ≡ false → get meta_in q ≡ None
  meta_has_no_other known all q other = go (get meta_in q) refl
    where
      go : (o : Option (List ℕ)) → get meta_in q ≡ o → o ≡ None
      go None e = refl
      go (Some v) e =
          let es = map meta_entry lines in
          let x = find_had text_cmp text_order es q v (sym (get-from_entries text_order.total (map without_rowid es) q) ∙ e) in
          let there : Has pairs_in (without_rowid x.0) = subst (λ l. Has l (without_rowid x.0)) (sym (pairs_are lines)) (maps_had without_rowid es x.0 x.1) in
          absurd (both_ways _ other (ap (is_name known) (sym x.2) ∙ each_known known pairs_in all (without_rowid x.0) there))

  -- rows with only these names have the map with these values
  same_meta : (known : List (List ℕ)) → has_only_known_names known pairs_in ≡ true → (m : TextMap (List ℕ)) → ((q : List ℕ) → Has known q → get meta_in q ≡ get m q) → ((q : List ℕ) → is_name known q ≡ false → get m q ≡ None) → meta_in ≡ m
  same_meta known all m values none = same_map text_order.total text_order.antisymmetric meta_in m (λ q. elim (named known q) [
    | inl there ↦ values q there
    | inr other ↦ meta_has_no_other known all q other ∙ sym (none q other)
  ])

  -- and the converse
  known_lines : HasNoDuplicates text_cmp (map meta_entry lines) → (known : List (List ℕ)) (m : TextMap (List ℕ)) → meta_in ≡ m → ((q : List ℕ) → is_name known q ≡ false → get m q ≡ None) → has_only_known_names known pairs_in ≡ true
  known_lines apart known m is none = known_if_each known pairs_in (λ row there.
      let es = map meta_entry lines in
      let x = has_mapped without_rowid es row (subst (λ l. Has l row) (pairs_are lines) there) in
      let found = get-from_entries text_order.total (map without_rowid es) x.0.1 ∙ found_first text_cmp text_order es x.0 apart.keys x.1 in
      ap (λ (p : MetaPair). is_name known p.0) x.2 ∙ elim (named known x.0.1) [
        | inl there ↦ is_named known x.0.1 there
        | inr other ↦ absurd (let nothing = sym (none x.0.1 other) ∙ sym (ap (λ m. get m x.0.1) is) ∙ found in cc)
      ])

  module _ (number : List ℕ) (common : has_common number pairs_in ≡ true) where
    abbrev format : Bool
    format = value_equals (codes "avroreg") (value_of (codes "format") pairs_in)

    abbrev layout : Bool
    layout = value_equals number (value_of (codes "layout") pairs_in)

    abbrev global : Bool
    global = has_level (value_of (codes "global") pairs_in)

    two : (format && layout ≡ true) × (global ≡ true)
    two = and_parts (format && layout) global common

    format_is : get meta_in (codes "format") ≡ Some (codes "avroreg")
    format_is = sym (meta_found (codes "format")) ∙ value_is (codes "avroreg") (value_of (codes "format") pairs_in) (and_parts format layout two.0).0

    pub layout_is : value_of (codes "layout") pairs_in ≡ Some number
    layout_is = value_is number (value_of (codes "layout") pairs_in) (and_parts format layout two.0).1

    global_is : (level : Level) × (get meta_in (codes "global") ≡ Some (level_text level))
    global_is = let it = level_is (value_of (codes "global") pairs_in) two.1 in (it.0, sym (meta_found (codes "global")) ∙ it.1)

    common_is : (q : List ℕ) → Has layout_one_names q → get meta_in q ≡ get (meta_of_layout number (level_text global_is.0)) q
    common_is q (inl e) = ap (get meta_in) e ∙ format_is ∙ sym (has_format number (level_text global_is.0)) ∙ ap (get (meta_of_layout number (level_text global_is.0))) (sym e)
    common_is q (inr (inl e)) = ap (get meta_in) e ∙ sym (meta_found (codes "layout")) ∙ layout_is ∙ sym (has_layout_one number (level_text global_is.0)) ∙ ap (get (meta_of_layout number (level_text global_is.0))) (sym e)
    common_is q (inr (inr (inl e))) = ap (get meta_in) e ∙ global_is.1 ∙ sym (has_global number (level_text global_is.0)) ∙ ap (get (meta_of_layout number (level_text global_is.0))) (sym e)
    common_is q (inr (inr (inr none))) = absurd none

  common_fits : (number : List ℕ) (level : Level) → get meta_in (codes "format") ≡ Some (codes "avroreg") → get meta_in (codes "layout") ≡ Some number → get meta_in (codes "global") ≡ Some (level_text level) → has_common number pairs_in ≡ true
  common_fits number level format layout global =
      and_from _ _
      (and_from _ _ (ap (value_equals (codes "avroreg")) (meta_found (codes "format") ∙ format) ∙ same_bytes (codes "avroreg")) (ap (value_equals number) (meta_found (codes "layout") ∙ layout) ∙ same_bytes number))
      (ap has_level (meta_found (codes "global") ∙ global) ∙ ap is_some (level_of-level_text level))

  -- valid rows of layout 1 spell a level
  pub meta_is : IsTrue (is_layout_one_meta pairs_in) → (level : Level) × (meta_in ≡ meta_of_layout_one (level_text level))
  meta_is passes =
      let parts = and_parts (has_common (codes "1") pairs_in) (has_only_known_names layout_one_names pairs_in) passes in
      let level = (global_is (codes "1") parts.0).0 in
      (level, same_meta layout_one_names parts.1 (meta_of_layout_one (level_text level)) (common_is (codes "1") parts.0) (has_no_other (codes "1") (level_text level)))

  -- and the rows of a level are valid
  pub meta_fit : HasNoDuplicates text_cmp (map meta_entry lines) → (level : Level) → meta_in ≡ meta_of_layout_one (level_text level) → IsTrue (is_layout_one_meta pairs_in)
  meta_fit apart level is =
      let text = level_text level in
      let look = λ (q : List ℕ). ap (λ m. get m q) is in
      and_from _ _
      (common_fits (codes "1") level (look (codes "format") ∙ has_format (codes "1") text) (look (codes "layout") ∙ has_layout_one (codes "1") text) (look (codes "global") ∙ has_global (codes "1") text))
      (known_lines apart layout_one_names (meta_of_layout_one text) is (has_no_other (codes "1") text))

  -- the same in layout 2, with a mode
  pub layout_two_meta_is : IsTrue (is_layout_two_meta pairs_in) → (level : Level) × (mode : Mode) × (meta_in ≡ layout_two_meta (level_text level) (mode_text mode))
  layout_two_meta_is passes =
      let parts = and_parts (has_common (codes "2") pairs_in && has_mode (value_of (codes "mode") pairs_in)) (has_only_known_names layout_two_names pairs_in) passes in
      let both = and_parts (has_common (codes "2") pairs_in) (has_mode (value_of (codes "mode") pairs_in)) parts.0 in
      let level = (global_is (codes "2") both.0).0 in
      let mode = mode_is (value_of (codes "mode") pairs_in) both.1 in
      (level, mode.0, same_meta layout_two_names parts.1 (layout_two_meta (level_text level) (mode_text mode.0)) (values both.0 mode.0 (sym (meta_found (codes "mode")) ∙ mode.1)) (two_no_other (level_text level) (mode_text mode.0)))
    where
      values : (common : has_common (codes "2") pairs_in ≡ true) (mode : Mode) → get meta_in (codes "mode") ≡ Some (mode_text mode) → (q : List ℕ) → Has layout_two_names q
          → get meta_in q ≡ get (layout_two_meta (level_text (global_is (codes "2") common).0) (mode_text mode)) q
      values common mode there q (inl e) = common_is (codes "2") common q (inl e) ∙ sym (beside_mode _ (mode_text mode) q (λ f. names_apart (codes "format") (codes "mode") refl (sym e ∙ f)))
      values common mode there q (inr (inl e)) = common_is (codes "2") common q (inr (inl e)) ∙ sym (beside_mode _ (mode_text mode) q (λ f. names_apart (codes "layout") (codes "mode") refl (sym e ∙ f)))
      values common mode there q (inr (inr (inl e))) = common_is (codes "2") common q (inr (inr (inl e))) ∙ sym (beside_mode _ (mode_text mode) q (λ f. names_apart (codes "global") (codes "mode") refl (sym e ∙ f)))
      values common mode there q (inr (inr (inr (inl e)))) = ap (get meta_in) e ∙ there ∙ sym (two_mode _ (mode_text mode)) ∙ ap (get (layout_two_meta _ (mode_text mode))) (sym e)
      values common mode there q (inr (inr (inr (inr none)))) = absurd none

  pub layout_two_meta_fit : HasNoDuplicates text_cmp (map meta_entry lines) → (level : Level) (mode : Mode) → meta_in ≡ layout_two_meta (level_text level) (mode_text mode) → IsTrue (is_layout_two_meta pairs_in)
  layout_two_meta_fit apart level mode is =
      let text = level_text level in
      let look = λ (q : List ℕ). ap (λ m. get m q) is in
      and_from _ _
      (and_from _ _
      (common_fits (codes "2") level
      (look (codes "format") ∙ beside_mode text (mode_text mode) (codes "format") (names_apart (codes "format") (codes "mode") refl) ∙ has_format (codes "2") text)
      (look (codes "layout") ∙ beside_mode text (mode_text mode) (codes "layout") (names_apart (codes "layout") (codes "mode") refl) ∙ has_layout_one (codes "2") text)
      (look (codes "global") ∙ beside_mode text (mode_text mode) (codes "global") (names_apart (codes "global") (codes "mode") refl) ∙ has_global (codes "2") text))
      (ap has_mode (meta_found (codes "mode") ∙ look (codes "mode") ∙ two_mode text (mode_text mode)) ∙ ap is_some (mode_of-mode_text mode)))
      (known_lines apart layout_two_names (layout_two_meta text (mode_text mode)) is (two_no_other text (mode_text mode)))
