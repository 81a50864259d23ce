-- What the rows of `meta` say about the contents.
use Rattle.std.proofs.Common.{◌≡◌, inl, inr, ℕ, List, [], ◌∷◌, map, Bool, true, false, refl, sym, ap, ◌∙◌}
use Rattle.reg_tables.proofs.Kit.{bytes_eq, string_bytes, is_eq, get, get-from_entries, false_from_ne_true, bytes_eq-Decides, Schema, Database}
use Rattle.std.specs.FinMap.Entries.{find as find_key}
use Rattle.reg_tables.specs.declared.meta.RawMeta.{RawMeta}
use Rattle.reg_tables.specs.Layout.{meta, HasFiveTables}
use Rattle.reg_tables.specs.Contents.{text_cmp, pair_form, Contents, HoldsContents}
use Rattle.reg_tables.specs.Listings.{without_rowid, meta_entry, meta_value, ListsMeta}
use Rattle.reg_tables.proofs.MapLemmas.{tied_key, other_key, same_or_not}
use Rattle.reg_tables.proofs.KeyedTables.{text_order, distinct_texts}
use Rattle.reg_tables.proofs.Tables.{five}
use Rattle.reg_tables.proofs.ListingLemmas.{listed_if_shown}

value_found : (name : List ℕ) (lines : List RawMeta) → meta_value name lines ≡ find_key text_cmp name (map without_rowid (map meta_entry lines))
value_found name [] = refl
value_found name (line ∷ lines) = elim (same_or_not text_cmp text_order name (string_bytes line.name)) [
  | inl same ↦ go (value_found name lines) true ((bytes_eq-Decides (string_bytes line.name) name).1 (sym same)) (tied_key text_cmp text_order name (string_bytes line.name) same)
  | inr other ↦ go (value_found name lines) false (false_from_ne_true _ (λ h. other (sym ((bytes_eq-Decides (string_bytes line.name) name).0 h)))) (other_key text_cmp text_order name (string_bytes line.name) other)
]
  where
    go : meta_value name lines ≡ find_key text_cmp name (map without_rowid (map meta_entry lines)) → (b : Bool) → bytes_eq (string_bytes line.name) name ≡ b → is_eq (text_cmp name (string_bytes line.name)) ≡ b
        → meta_value name (line ∷ lines) ≡ find_key text_cmp name (map without_rowid (map meta_entry (line ∷ lines)))
    go rest true here there = rw (here, there) refl
    go rest false here there = rw (here, there) rest

-- if the tables hold some contents, this is their value under the name
pub value_read : (schema : Schema) (db : Database) → HasFiveTables schema → (contents : Contents) → HoldsContents schema db contents → (lines : List RawMeta) → ListsMeta db lines → (name : List ℕ) → meta_value name lines ≡ get contents.meta name
value_read schema db first contents holds lines lists name =
    let shown = listed_if_shown pair_form text_cmp text_order distinct_texts (db.trees meta.tree) (map meta_entry lines) lists contents.meta distinct_texts (five holds first).meta in
    value_found name lines ∙ sym (get-from_entries text_order.total (map without_rowid (map meta_entry lines)) name) ∙ ap (λ m. get m name) (sym shown.is)
