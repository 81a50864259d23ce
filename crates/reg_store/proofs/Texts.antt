-- What the tables spell can be read: texts are UTF-8, and statuses are below 2^32.
use Rattle.std.proofs.Common.{◌≡◌, inl, inr, ℕ, ◌<◌, ◌^◌, Bool, true, false, List, Option, Some, None, codes, refl, sym, ap, subst, ◌∙◌, arith, get_or}
use Rattle.std.specs.Prelude.{IsUtf8, IsTrue, length, nat_lt, nat_le, ◌&&◌, option_map}
use Rattle.std.specs.FinMap.{get, insert, empty, get-empty}
use Rattle.std.specs.Str.{IsAscii, is_utf8}
use Rattle.std.proofs.lemmas.Bool.{ltb-false, and_parts}
use Rattle.std.proofs.lemmas.Bool.Decides.{nat_tests}
use Rattle.std.proofs.lemmas.List.{get_or_past}
use Rattle.std.proofs.lemmas.Str.{IsUtf8-from_ascii, IsUtf8-from_is_utf8}
use Rattle.reg_core.specs.declared.level.Level.{Level}
use Rattle.reg_core.specs.declared.level.Level.TheVariants.{Backward, BackwardTransitive, Forward, ForwardTransitive, Full, FullTransitive, Off}
use Rattle.reg_core.specs.Keys.{is_key_byte, IsKey}
use Rattle.reg_core.specs.Levels.{level_text}
use Rattle.reg_core.specs.Subjects.{is_subject}
use Rattle.reg_core.specs.Replies.{IsKeptStatus}
use Rattle.avro_nodes.specs.Identity.{identity}
use Rattle.reg_core.specs.declared.mode.Mode.{Mode}
use Rattle.reg_core.specs.declared.mode.Mode.TheVariants.{Readwrite, Readonly}
use Rattle.reg_core.specs.Modes.{mode_text}
use Rattle.reg_core.specs.Registry.{Registry, schema_at}
use Rattle.reg_tables.specs.Contents.{text_cmp, TextMap, PositionKey, VersionEntryView, Contents, AreReadable}
use Rattle.reg_tables.specs.Changes.{meta_of_layout, meta_of_layout_one}
use Rattle.reg_tables.proofs.MapLemmas.{get-insert-same, get-insert-other, same_or_not}
use Rattle.reg_tables.proofs.KeyedTables.{text_order}
use Rattle.reg_core.specs.KeptReplies.{Kept}
use Rattle.reg_store.specs.Spells.{IsSpelled, layout_two_meta, stored_reply, stored_version}
use Rattle.reg_store.proofs.Ids.{schema_within}

key_byte_ascii : (c : ℕ) → is_key_byte c ≡ true → c < 128
key_byte_ascii c e = grind (arith, nat_tests)

below : (i n : ℕ) → nat_lt i n ≡ true → i < n
below i n e = grind (arith, nat_tests)

pub utf8_key : (text : List ℕ) → IsKey text → IsUtf8 text
utf8_key text k = IsUtf8-from_ascii text ascii
  where
    ascii : IsAscii text
    ascii i = by (nat_lt i (length text)) refl
      where
        by : (b : Bool) → nat_lt i (length text) ≡ b → get_or text i 0 < 128
        by true e = key_byte_ascii (get_or text i 0) (k.2 i 0 (below i (length text) e))
        by false e = let past : get_or text i 0 ≡ 0 = get_or_past text i 0 (ltb-false i (length text) e) in omega arith

pub utf8_subject : (text : List ℕ) → IsTrue (is_subject text) → IsUtf8 text
unfolding is_subject
utf8_subject text h = IsUtf8-from_is_utf8 text (and_parts (is_utf8 text) _ (and_parts (is_utf8 text && nat_lt 0 (length text)) _ (and_parts (is_utf8 text && nat_lt 0 (length text) && nat_le (length text) 255) _ h).0).0).0

pub utf8_level : (level : Level) → IsUtf8 (level_text level)
unfolding lib.Utf8.encode
utf8_level Backward = (level_text Backward, (refl, refl))
utf8_level BackwardTransitive = (level_text BackwardTransitive, (refl, refl))
utf8_level Forward = (level_text Forward, (refl, refl))
utf8_level ForwardTransitive = (level_text ForwardTransitive, (refl, refl))
utf8_level Full = (level_text Full, (refl, refl))
utf8_level FullTransitive = (level_text FullTransitive, (refl, refl))
utf8_level Off = (level_text Off, (refl, refl))

pub low_status : (n : ℕ) → IsKeptStatus n → n < 2 ^ 32
low_status n h = grind (arith, nat_tests)

each_inserted : {V : Type 0} (P : List ℕ → V → Type 0) (m : TextMap V) (k : List ℕ) (v : V) → P k v → ((q : List ℕ) (w : V) → get m q ≡ Some w → P q w)
    → (q : List ℕ) (w : V) → get (insert m k v) q ≡ Some w → P q w
each_inserted P m k v here others q w some = elim (same_or_not text_cmp text_order q k) [
  | inl e ↦ let value : v ≡ w = (let both = sym (get-insert-same text_cmp text_order m k v) ∙ ap (get (insert m k v)) (sym e) ∙ some in cc) in
      subst (λ l. P l w) (sym e) (subst (P k) value here)
  | inr other ↦ others q w (sym (get-insert-other text_cmp text_order m k v q other) ∙ some)
]

pub was_written : {V W : Type 0} (write : V → W) (o : Option V) (w : W) → option_map write o ≡ Some w → (v : V) × (o ≡ Some v) × (w ≡ write v)
was_written write None w h = absurd (cc)
was_written write (Some v) w h = (v, refl, let same : write v ≡ w = cc in sym same)

pub utf8_mode : (mode : Mode) → IsUtf8 (mode_text mode)
unfolding lib.Utf8.encode
utf8_mode Readwrite = (mode_text Readwrite, (refl, refl))
utf8_mode Readonly = (mode_text Readonly, (refl, refl))

abbrev pub AreTexts : TextMap (List ℕ) → Type 0
AreTexts meta = (name value : List ℕ) → get meta name ≡ Some value → IsUtf8 name × IsUtf8 value

utf8_meta : (number : List ℕ) → IsUtf8 number → (level : Level) → AreTexts (meta_of_layout number (level_text level))
unfolding lib.Utf8.encode
utf8_meta number utf8 level =
    let P = λ (name value : List ℕ). IsUtf8 name × IsUtf8 value in
    let one = each_inserted P empty (codes "format") (codes "avroreg") ((codes "format", (refl, refl)), (codes "avroreg", (refl, refl))) (λ q w some. absurd (let e = sym (get-empty text_cmp q) ∙ some in cc)) in
    let two = each_inserted P _ (codes "layout") number ((codes "layout", (refl, refl)), utf8) one in
    each_inserted P _ (codes "global") (level_text level) ((codes "global", (refl, refl)), utf8_level level) two

pub utf8_first_meta : (level : Level) → AreTexts (meta_of_layout_one (level_text level))
unfolding lib.Utf8.encode
utf8_first_meta level = utf8_meta (codes "1") (codes "1", (refl, refl)) level

pub utf8_second_meta : (level : Level) (mode : Mode) → AreTexts (layout_two_meta (level_text level) (mode_text mode))
unfolding lib.Utf8.encode
utf8_second_meta level mode = each_inserted (λ (name value : List ℕ). IsUtf8 name × IsUtf8 value) _ (codes "mode") (mode_text mode) ((codes "mode", (refl, refl)), utf8_mode mode) (utf8_meta (codes "2") (codes "2", (refl, refl)) level)

module _ (contents : Contents) (g : Registry) (k : Kept) (s : IsSpelled contents g k) where
  pub readable_id : (id : ℕ) (text : List ℕ) → get contents.texts id ≡ Some text → id < 2 ^ 32
  readable_id id text there =
      let it = was_written identity (schema_at g.schemas id) text (sym (s.texts id) ∙ there) in
      let within = (schema_within g.schemas id it.0 it.1).1 in
      let few = s.registry.few in
      omega (arith, within, few)

  pub readable_key : (key : List ℕ × ℕ) (version : VersionEntryView) → get contents.versions key ≡ Some version → IsUtf8 key.0 × (key.1 < 2 ^ 32)
  readable_key key version there =
      let it = was_written stored_version (get g.rows key) version (sym (s.versions key) ∙ there) in
      let number = (s.registry.rows key it.0 it.1).within.1 in
      (utf8_subject key.0 (s.registered key it.0 it.1), omega (arith, number))

  -- the base tables can be read if the rows of `meta` and of the tables that layout 2 adds can
  pub readable_base : AreTexts contents.meta → AreTexts contents.modes → ((key : List ℕ × ℕ) (level : List ℕ) → get contents.evidence key ≡ Some level → IsUtf8 key.0 × (key.1 < 2 ^ 32) × IsUtf8 level)
      → ((key : PositionKey) (id : ℕ) → get contents.against key ≡ Some id → IsUtf8 key.0.0 × (key.0.1 < 2 ^ 32) × (key.1 < 2 ^ 32) × (id < 2 ^ 32)) → AreReadable contents
  readable_base meta modes evidence against = record {
    texts = λ id text there.
        let it = was_written identity (schema_at g.schemas id) text (sym (s.texts id) ∙ there) in
        (readable_id id text there, subst IsUtf8 (sym it.2) (s.utf8 id it.0 it.1));
    versions = λ key version there.
        let it = was_written stored_version (get g.rows key) version (sym (s.versions key) ∙ there) in
        let of_key = readable_key key version there in
        let id = (s.registry.rows key it.0 it.1).has_schema.1 in
        let few = s.registry.few in
        let same : version.id ≡ it.0.id = ap (λ (r : VersionEntryView). r.id) it.2 in
        (of_key.0, of_key.1, omega (arith, id, few, same));
    levels = λ subject level there.
        let it = was_written level_text (g.own subject) level (sym (s.levels subject) ∙ there) in
        (utf8_subject subject (s.subjects subject it.0 it.1), subst IsUtf8 (sym it.2) (utf8_level it.0));
    kept = λ key reply there.
        let it = was_written stored_reply (k key) reply (sym (s.kept key) ∙ there) in
        let fits = s.keys key it.0 it.1 in
        (utf8_key key fits.is_key, rw it.2 (record { command = fits.text; status = low_status it.0.reply.status fits.status; body = fits.body }));
    meta = meta;
    modes = modes;
    evidence = evidence;
    against = against;
  }
