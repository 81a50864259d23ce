-- The ids in `texts` are the numbers from 1 to the count of the registry's schemas.
use Rattle.std.proofs.Common.{◌≡◌, ℕ, pos, ◌<◌, ◌≤◌, List, [], ◌∷◌, map, length, false, sym, ap, subst, ◌∙◌, arith}
use Rattle.std.specs.Prelude.{option_map}
use Rattle.std.specs.List.{IsDistinct, AllByRecursion}
use Rattle.std.specs.Ordering.{is_eq, nat_cmp, int_cmp, eq_by_cmp}
use Rattle.std.proofs.lemmas.Map.Keys.{IsDistinct-IsPermutation}
use Rattle.sqlite.specs.declared.types.Value.TheVariants.{Int}
use Rattle.sqlite.specs.Tree.{rowid}
use Rattle.sqlite.specs.Effect.{Database}
use Rattle.sqlite_rules.specs.Lists.{Has}
use Rattle.avro_nodes.specs.Identity.{identity}
use Rattle.reg_core.specs.Registry.{schema_at, max_number}
use Rattle.reg_core.specs.Stored.{Stored}
use Rattle.reg_tables.specs.Layout.{texts}
use Rattle.reg_tables.specs.Listings.{ListsTextIds}
use Rattle.reg_tables.proofs.KeyedTables.{int_order}
use Rattle.reg_tables.proofs.Tables.{five}
use Rattle.reg_tables.proofs.ListingLemmas.{same_id, same_id_swaps, distinct_if_apart, ints_distinct}
use Rattle.reg_tables.proofs.ListMembers.{has_mapped, maps_had, has_permuted}
use Rattle.std.specs.List.Sorted.{IsPermutation}
use Rattle.std.proofs.lemmas.List.Sorted.{IsPermutation-sym, IsPermutation-trans, IsPermutation-map}
use Rattle.std.proofs.lemmas.Simd.{map-map}
use Rattle.reg_rows.specs.Spelling.{AreConsecutive}
use Rattle.reg_store.specs.Inside.Reads.{SpellsBase}
use Rattle.reg_store.proofs.Ids.{schema_within, schema_there}
use Rattle.reg_store.proofs.Numbering.{Rises, numbered, few_numbered}
use Rattle.reg_store.proofs.Texts.{was_written}
use Rattle.reg_store.proofs.TextParts.{int_of}

distinct_numbers : (ns : List ℕ) → IsDistinct (eq_by_cmp int_cmp) (map pos ns) → IsDistinct (eq_by_cmp nat_cmp) ns
unfolding IsDistinct
distinct_numbers [] h = tt
distinct_numbers (n ∷ ns) h = (each ns h.0, distinct_numbers ns h.1)
  where
    each : (ms : List ℕ) → AllByRecursion (λ j. eq_by_cmp int_cmp (pos n) j ≡ false) (map pos ms) → AllByRecursion (λ m. eq_by_cmp nat_cmp n m ≡ false) ms
    each [] all = tt
    each (m ∷ ms) all = (sym (ap is_eq (int_order n m)) ∙ all.0, each ms all.1)

pub ids_sorted : (db : Database) (old new : List ℕ) → IsPermutation old new → ListsTextIds db old → ListsTextIds db new
ids_sorted db old new same lists = IsPermutation-trans _ _ _ lists (IsPermutation-map int_of old new same)

module _ (db : Database) (was : Stored) (s : SpellsBase db was) (ids : List ℕ) (lists : ListsTextIds db ids) where
  ids_apart : IsDistinct (eq_by_cmp nat_cmp) ids
  ids_apart =
      let rows = db.trees texts.tree in
      let moved : IsPermutation (map rowid rows) (map Int (map pos ids)) = subst (IsPermutation (map rowid rows)) (sym (map-map Int pos ids)) lists in
      distinct_numbers ids (ints_distinct (map pos ids) (IsDistinct-IsPermutation same_id same_id_swaps (map rowid rows) (map Int (map pos ids)) moved (distinct_if_apart rows (five s.holds s.first).texts.rowids.0)))

  id_within : (id : ℕ) → Has ids id → (0 < id) × (id ≤ length was.registry.schemas)
  id_within id there =
      let rows = db.trees texts.tree in
      let row = has_mapped rowid rows (int_of id) (has_permuted (map int_of ids) (map rowid rows) (int_of id) (IsPermutation-sym _ _ lists) (maps_had int_of ids id there)) in
      let entry = (five s.holds s.first).texts.sound row.0 row.1 in
      let key : entry.0 ≡ id = (let cells = entry.3.0 in let is = row.2 in cc) in
      let it = was_written identity (schema_at was.registry.schemas entry.0) entry.1 (sym (s.spelled.texts entry.0) ∙ entry.2) in
      let range = schema_within was.registry.schemas entry.0 it.0 it.1 in
      (let low = range.0 in omega (arith, low, key), let high = range.1 in omega (arith, high, key))

  id_there : (id : ℕ) → 0 < id → id ≤ length was.registry.schemas → Has ids id
  id_there id low high =
      let rows = db.trees texts.tree in
      let it = schema_there was.registry.schemas id low high in
      let row = (five s.holds s.first).texts.complete id (identity it.0) (s.spelled.texts id ∙ ap (option_map identity) it.1) in
      let is : rowid row.0 ≡ int_of id = (let cells = row.2.0 in cc) in
      let found = has_mapped int_of ids (rowid row.0) (has_permuted (map rowid rows) (map int_of ids) (rowid row.0) lists (maps_had rowid rows row.0 row.1)) in
      let same : found.0 ≡ id = (let other = sym found.2 ∙ is in cc) in
      subst (Has ids) same found.1

  pub ids_fit : Rises ids → AreConsecutive 1 ids × (length ids ≤ max_number)
  ids_fit rising =
      let in_order = numbered 1 ids rising ids_apart (λ id there. (id_within id there).0) (λ id other there a b. id_there other a (let l = (id_within id there).1 in omega (arith, b, l))) in
      let most = few_numbered 1 (length was.registry.schemas) ids in_order (λ id there. (id_within id there).1) (omega arith) in
      let few = s.spelled.registry.few in
      (in_order, omega (arith, most, few))
