-- The name table after a new namespace and after a definition, and the lookup of references.
use Rattle.std.proofs.Common.{◌≡◌, ◌⊎◌, inl, inr, ℕ, zero, suc, ◌+◌, ◌<◌, List, [], ◌∷◌, ◌++◌, length, set, Option, Some, None, Bool, true, false, cond, String, string_bytes, bytes_eq, Result, Ok, Err, OnOk, length-append, refl, sym, ap, subst, ◌∙◌, true≢false, arith}
use Rattle.std.specs.BTreeMap.{BTreeMap, get_by_text, UpdatesBy}
use Rattle.std.specs.Map.{update}
use Rattle.std.specs.Prelude.{slice_get, OnErr}
use Rattle.std.specs.String.{string_cmp}
use Rattle.std.specs.declared.alloc.Global.{Global}
use Rattle.std.proofs.lemmas.Map.{update_same, update_other}
use Rattle.std.proofs.lemmas.Map.Text.{btree_map_updates_text}
use Rattle.std.proofs.lemmas.Option.{same_Some, slice_get_within}
use Rattle.std.proofs.lemmas.Slice.Eq.{bytes_eq-Decides}
use Rattle.avro_nodes.specs.Names.{has_dot, namespace_of}
use Rattle.avro_schema.specs.declared.name_table.NameTable.{NameTable}
use Rattle.avro_schema.specs.Names.{or_else, qualified, defined, resolved}
use Rattle.avro_schema.specs.Inside.NameTables.{without_namespace, in_table, place_at, namespace_number, place_in, known_in, KeepsNumbers}
use Rattle.avro_schema.proofs.FullNames.{same_full, joined_space, joined_name}

abbrev pub Table : Type 0
Table = BTreeMap (String Global) ℕ

-- ---- namespaces keep their numbers

pub keeps_same : (t : NameTable) → KeepsNumbers t t
unfolding KeepsNumbers
keeps_same t space n h = h

pub all_kept : {X E : Type 0} (r : Result X E) (t : NameTable) → OnOk r (KeepsNumbers t t)
all_kept (Ok x) t = keeps_same t
all_kept (Err e) t = tt

pub keeps_then : (t u v : NameTable) → KeepsNumbers t u → KeepsNumbers u v → KeepsNumbers t v
unfolding KeepsNumbers
keeps_then t u v g h space n e = h space n (g space n e)

pub still_numbered : (t u : NameTable) (space : List ℕ) (n : ℕ) → KeepsNumbers t u → namespace_number t space ≡ Some n → namespace_number u space ≡ Some n
unfolding KeepsNumbers
still_numbered t u space n keeps e = keeps space n e

-- ---- a place in a list of tables

got_pushed : (ts : List Table) (t : Table) (i : ℕ) → i < length ts → slice_get (ts ++ t ∷ []) i ≡ slice_get ts i
got_pushed [] t i h = absurd (omega arith)
got_pushed (x ∷ ts) t zero h = refl
got_pushed (x ∷ ts) t (suc i) h = got_pushed ts t i (omega arith)

got_last : (ts : List Table) (t : Table) → slice_get (ts ++ t ∷ []) (length ts) ≡ Some t
got_last [] t = refl
got_last (x ∷ ts) t = got_last ts t

got_set : (ts : List Table) (i : ℕ) (t : Table) → i < length ts → slice_get (set ts i t) i ≡ Some t
got_set [] i t h = absurd (omega arith)
got_set (x ∷ ts) zero t h = refl
got_set (x ∷ ts) (suc i) t h = got_set ts i t (omega arith)

got_beside : (ts : List Table) (i j : ℕ) (t : Table) → (i ≡ j → ⊥) → slice_get (set ts i t) j ≡ slice_get ts j
got_beside [] i j t apart = refl
got_beside (x ∷ ts) zero zero t apart = absurd (apart refl)
got_beside (x ∷ ts) zero (suc j) t apart = refl
got_beside (x ∷ ts) (suc i) zero t apart = refl
got_beside (x ∷ ts) (suc i) (suc j) t apart = got_beside ts i j t (λ e. apart (ap suc e))

-- ---- a new namespace

module _ (old new : List ℕ → Option ℕ) (tables : List Table) (space : List ℕ) (number : ℕ) (table : Table)
    (below : (q : List ℕ) (n : ℕ) → old q ≡ Some n → n < length tables)
    (differ : (q p : List ℕ) (n : ℕ) → old q ≡ Some n → old p ≡ Some n → q ≡ p)
    (fresh : old space ≡ None) (size : number ≡ length tables) (none : table.entries ≡ []) (more : (q : List ℕ) → new q ≡ update bytes_eq old space (Some number) q) where
  one_of : (q : List ℕ) (b : Bool) → bytes_eq space q ≡ b → ((space ≡ q) × (new q ≡ Some number)) ⊎ (new q ≡ old q)
  one_of q true e = inl ((bytes_eq-Decides space q).0 e, more q ∙ update_same bytes_eq old space (Some number) q e)
  one_of q false e = inr (more q ∙ update_other bytes_eq old space (Some number) q e)

  pub one_kept : (q : List ℕ) (n : ℕ) → old q ≡ Some n → new q ≡ Some n
  one_kept q n h = elim (one_of q (bytes_eq space q) refl) [
    | inl g ↦ (let gone : old q ≡ None = subst (λ (x : List ℕ). old x ≡ None) g.0 fresh in absurd cc)
    | inr g ↦ g ∙ h
  ]

  from : (q : List ℕ) (n : ℕ) → new q ≡ Some n → ((space ≡ q) × (n ≡ number)) ⊎ (old q ≡ Some n)
  from q n h = elim (one_of q (bytes_eq space q) refl) [
    | inl g ↦ inl (g.0, same_Some n number (sym h ∙ g.1))
    | inr g ↦ inr (sym g ∙ h)
  ]

  one_below : (q : List ℕ) (n : ℕ) → new q ≡ Some n → n < length tables + 1
  one_below q n h = elim (from q n h) [
    | inl g ↦ (let is = g.1 in omega arith)
    | inr g ↦ (let l = below q n g in omega arith)
  ]

  apart : (q : List ℕ) (n : ℕ) → n ≡ number → old q ≡ Some n → ⊥
  apart q n e h = let l = below q n h in absurd (omega arith)

  one_differ : (q p : List ℕ) (n : ℕ) → new q ≡ Some n → new p ≡ Some n → q ≡ p
  one_differ q p n g h = elim (from q n g) [
    | inl x ↦ elim (from p n h) [ inl y ↦ sym x.0 ∙ y.0 | inr y ↦ absurd (apart p n x.1 y) ]
    | inr x ↦ elim (from p n h) [ inl y ↦ absurd (apart q n y.1 x) | inr y ↦ differ q p n x y ]
  ]

  at_old : (q name : List ℕ) (o : Option ℕ) → old q ≡ o → place_at (tables ++ table ∷ []) o name ≡ place_at tables o name
  at_old q name None e = refl
  at_old q name (Some n) e = ap (λ (t : Option Table). in_table t name) (got_pushed tables table n (below q n e))

  at_new : (name : List ℕ) → place_at (tables ++ table ∷ []) (Some number) name ≡ None
  at_new name = rw (size, got_last tables table, none) refl

  one_same : (q name : List ℕ) → place_at (tables ++ table ∷ []) (new q) name ≡ place_at tables (old q) name
  one_same q name = elim (one_of q (bytes_eq space q) refl) [
    | inl g ↦ (let gone : old q ≡ None = subst (λ (x : List ℕ). old x ≡ None) g.0 fresh in rw (g.1, gone) (at_new name))
    | inr g ↦ rw g (at_old q name (old q) refl)
  ]

-- the same for the map of the numbers
module _ (old new : BTreeMap (String Global) ℕ) (tables longer : List Table) (space : List ℕ) (name : String Global) (number : ℕ) (table : Table)
    (below : (q : List ℕ) (n : ℕ) → get_by_text old q ≡ Some n → n < length tables)
    (differ : (q p : List ℕ) (n : ℕ) → get_by_text old q ≡ Some n → get_by_text old p ≡ Some n → q ≡ p)
    (fresh : get_by_text old space ≡ None) (size : number ≡ length tables) (none : table.entries ≡ []) (grown : longer ≡ tables ++ table ∷ []) (is : string_bytes name ≡ space) where
  module _ (updates : UpdatesBy string_cmp (string_cmp name) old new (Some number)) where
    more : (q : List ℕ) → get_by_text new q ≡ update bytes_eq (get_by_text old) space (Some number) q
    more q = btree_map_updates_text (string_bytes name) old new (Some number) updates q ∙ ap (λ (s : List ℕ). update bytes_eq (get_by_text old) s (Some number) q) is

    pub new_kept : (q : List ℕ) (n : ℕ) → get_by_text old q ≡ Some n → get_by_text new q ≡ Some n
    new_kept = one_kept (get_by_text old) (get_by_text new) tables space number table below differ fresh size none more

    pub new_same : (q part : List ℕ) → place_at longer (get_by_text new q) part ≡ place_at tables (get_by_text old q) part
    new_same q part = rw grown (one_same (get_by_text old) (get_by_text new) tables space number table below differ fresh size none more q part)

    new_below : (q : List ℕ) (n : ℕ) → get_by_text new q ≡ Some n → n < length longer
    new_below q n h =
        let l = one_below (get_by_text old) (get_by_text new) tables space number table below differ fresh size none more q n h in
        rw grown (omega (arith, l, length-append tables (table ∷ [])))

    new_differ : (q p : List ℕ) (n : ℕ) → get_by_text new q ≡ Some n → get_by_text new p ≡ Some n → q ≡ p
    new_differ = one_differ (get_by_text old) (get_by_text new) tables space number table below differ fresh size none more

  module _ (unchanged : new.entries ≡ old.entries) where
    got : (q : List ℕ) → get_by_text new q ≡ get_by_text old q
    got q = rw unchanged refl

    kept_below : (q : List ℕ) (n : ℕ) → get_by_text new q ≡ Some n → n < length longer
    kept_below q n h =
        let l = below q n (sym (got q) ∙ h) in
        rw grown (omega (arith, l, length-append tables (table ∷ [])))

    kept_differ : (q p : List ℕ) (n : ℕ) → get_by_text new q ≡ Some n → get_by_text new p ≡ Some n → q ≡ p
    kept_differ q p n g h = differ q p n (sym (got q) ∙ g) (sym (got p) ∙ h)

  -- whether the number was inserted or not
  pub still_below : {X E : Type 0} (r : Result X E) → OnOk r (UpdatesBy string_cmp (string_cmp name) old new (Some number)) → OnErr r (new.entries ≡ old.entries)
      → (q : List ℕ) (n : ℕ) → get_by_text new q ≡ Some n → n < length longer
  still_below (Ok x) updates unchanged = new_below updates
  still_below (Err e) updates unchanged = kept_below unchanged

  pub still_differ : {X E : Type 0} (r : Result X E) → OnOk r (UpdatesBy string_cmp (string_cmp name) old new (Some number)) → OnErr r (new.entries ≡ old.entries)
      → (q p : List ℕ) (n : ℕ) → get_by_text new q ≡ Some n → get_by_text new p ≡ Some n → q ≡ p
  still_differ (Ok x) updates unchanged = new_differ updates
  still_differ (Err e) updates unchanged = kept_differ unchanged

-- ---- a new definition

module _ (number : List ℕ → Option ℕ) (tables : List Table) (n : ℕ) (old new : Table) (full : List ℕ) (place : ℕ)
    (differ : (q p : List ℕ) (m : ℕ) → number q ≡ Some m → number p ≡ Some m → q ≡ p)
    (has : number (namespace_of full) ≡ Some n) (was : slice_get tables n ≡ Some old)
    (more : (q : List ℕ) → get_by_text new q ≡ update bytes_eq (get_by_text old) (without_namespace (namespace_of full) full) (Some place) q) where
  abbrev own : List ℕ → List ℕ
  own q = without_namespace (namespace_of q) q

  here : (q : List ℕ) → place_at (set tables n new) (Some n) q ≡ update bytes_eq (place_at tables (Some n)) (own full) (Some place) q
  here q = rw (got_set tables n new (slice_get_within tables n old was), was) (more q)

  elsewhere : (q name : List ℕ) (o : Option ℕ) → number q ≡ o → (namespace_of full ≡ q → ⊥) → place_at (set tables n new) o name ≡ place_at tables o name
  elsewhere q name None e apart = refl
  elsewhere q name (Some m) e apart =
      ap (λ (t : Option Table). in_table t name) (got_beside tables n m new (λ (same : n ≡ m). apart (differ (namespace_of full) q m (has ∙ ap Some same) e)))

  -- another name in the same namespace
  beside : (q : List ℕ) (b : Bool) → bytes_eq (own full) (own q) ≡ b → namespace_of full ≡ namespace_of q → (full ≡ q → ⊥) → place_at (set tables n new) (Some n) (own q) ≡ place_at tables (Some n) (own q)
  beside q true e spaces apart = absurd (apart (same_full full q spaces ((bytes_eq-Decides (own full) (own q)).0 e)))
  beside q false e spaces apart = here (own q) ∙ update_other bytes_eq (place_at tables (Some n)) (own full) (Some place) (own q) e

  another : (q : List ℕ) (b : Bool) → bytes_eq (namespace_of full) (namespace_of q) ≡ b → (full ≡ q → ⊥) → place_at (set tables n new) (number (namespace_of q)) (own q) ≡ place_at tables (number (namespace_of q)) (own q)
  another q true e apart =
      let spaces = (bytes_eq-Decides (namespace_of full) (namespace_of q)).0 e in
      let same : number (namespace_of q) ≡ Some n = ap number (sym spaces) ∙ has in
      rw same (beside q (bytes_eq (own full) (own q)) refl spaces apart)
  another q false e apart = elsewhere (namespace_of q) (own q) (number (namespace_of q)) refl (λ s. true≢false (sym ((bytes_eq-Decides (namespace_of full) (namespace_of q)).1 s) ∙ e))

  itself : place_at (set tables n new) (number (namespace_of full)) (own full) ≡ Some place
  itself = rw has (here (own full) ∙ update_same bytes_eq (place_at tables (Some n)) (own full) (Some place) (own full) ((bytes_eq-Decides (own full) (own full)).1 refl))

  defined_at : (q : List ℕ) (b : Bool) → bytes_eq full q ≡ b → place_at (set tables n new) (number (namespace_of q)) (own q) ≡ cond b (Some place) (place_at tables (number (namespace_of q)) (own q))
  defined_at q true e = subst (λ (x : List ℕ). place_at (set tables n new) (number (namespace_of x)) (own x) ≡ Some place) ((bytes_eq-Decides full q).0 e) itself
  defined_at q false e = another q (bytes_eq (namespace_of full) (namespace_of q)) refl (λ s. true≢false (sym ((bytes_eq-Decides full q).1 s) ∙ e))

  pub one_defined : (q : List ℕ) → place_at (set tables n new) (number (namespace_of q)) (own q) ≡ defined (λ x. place_at tables (number (namespace_of x)) (own x)) full place q
  one_defined q = defined_at q (bytes_eq full q) refl

-- ---- references

-- a name without a dot is in its namespace's table
known_simple : (known : NameTable) (space name : List ℕ) → has_dot name ≡ false → known_in known (qualified space name) ≡ place_in known space name
known_simple known space name plain =
    ap (place_in known (namespace_of (qualified space name))) (joined_name space name plain) ∙ ap (λ (s : List ℕ). place_in known s name) (joined_space space name plain)

module _ (known : NameTable) (space name : List ℕ) (n : ℕ) (plain : has_dot name ≡ false) (is : namespace_number known space ≡ Some n) where
  simple : resolved (known_in known) space name ≡ or_else (in_table (slice_get known.tables.items n) name) (known_in known name)
  unfolding resolved
  simple =
      let there : known_in known (qualified space name) ≡ in_table (slice_get known.tables.items n) name = known_simple known space name plain ∙ ap (λ (o : Option ℕ). place_at known.tables.items o name) is in
      rw (plain, there) refl

  -- the lookup in the namespace succeeds
  pub found_inside : (place : ℕ) → Some place ≡ in_table (slice_get known.tables.items n) name → Some place ≡ resolved (known_in known) space name
  found_inside place e = ap (λ (o : Option ℕ). or_else o (known_in known name)) e ∙ sym simple

  -- the lookup in the namespace fails, so the null namespace is searched
  pub found_outside : None ≡ in_table (slice_get known.tables.items n) name → known_in known name ≡ resolved (known_in known) space name
  found_outside e = ap (λ (o : Option ℕ). or_else o (known_in known name)) e ∙ sym simple
