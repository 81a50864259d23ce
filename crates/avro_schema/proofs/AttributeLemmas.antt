-- Attributes that are removed from a map, compared with the members in the map's view.
use Rattle.std.proofs.Common.{◌≡◌, ℕ, List, [], ◌∷◌, ◌++◌, Bool, true, false, cond, Option, Some, None, option_map, option_and_then, String, Global, string_bytes, nat_cmp, bytes_eq, refl, sym, ap, append_assoc, append-nil, length, arith}
use Rattle.std.proofs.lemmas.Map.Text.{is_eq-slice_cmp}
use Rattle.std.specs.BTreeMap.{is_at}
use Rattle.std.specs.Cmp.Lexicographic.{slice_cmp}
use Rattle.std.specs.Map.{lookup, remove_entry}
use Rattle.serde_json.specs.Data.{Data, Items, no_items, item, Members, member}
use Rattle.serde_json.specs.Find.{as_str}
use Rattle.serde_json.specs.View.{view, members_view}
use Rattle.serde_json.specs.declared.value.Value.{Value}
use Rattle.avro_schema.specs.Attributes.{without, texts_in, fallback_in}
use Rattle.std.specs.List.{list_any}
use Rattle.avro_nodes.specs.Nodes.{texts_view}
use Rattle.avro_schema.proofs.DistinctLemmas.{any-map}

abbrev Entry : Type 0
Entry = String Global × Value

-- the lookup by a key's bytes
abbrev pub is_key : List ℕ → String Global → Bool
is_key key = is_at (λ k. slice_cmp nat_cmp key (string_bytes k))

none_there_at : (same : Bool) (key : List ℕ) (e : Entry) (es : List Entry) → bytes_eq key (string_bytes e.0) ≡ same → cond same (Some e.1) (lookup (is_key key) es) ≡ None
    → (lookup (is_key key) es ≡ None → without key (members_view es) ≡ members_view es)
    → cond same (without key (members_view es)) (member (string_bytes e.0) (view e.1) (without key (members_view es))) ≡ member (string_bytes e.0) (view e.1) (members_view es)
none_there_at true key e es is none later = absurd cc
none_there_at false key e es is none later = ap (λ (ms : Members). member (string_bytes e.0) (view e.1) ms) (later none)

-- removing a missing key changes nothing
none_there : (key : List ℕ) (es : List Entry) → lookup (is_key key) es ≡ None → without key (members_view es) ≡ members_view es
none_there key [] none = refl
none_there key (e ∷ es) none =
    none_there_at (bytes_eq key (string_bytes e.0)) key e es refl (rw (is_eq-slice_cmp key (string_bytes e.0)) at none) (none_there key es)

removed_at : (same : Bool) (key : List ℕ) (e : Entry) (es : List Entry) → bytes_eq key (string_bytes e.0) ≡ same → lookup (is_key key) (cond same es (e ∷ remove_entry (is_key key) es)) ≡ None
    → (lookup (is_key key) (remove_entry (is_key key) es) ≡ None → members_view (remove_entry (is_key key) es) ≡ without key (members_view es))
    → members_view (cond same es (e ∷ remove_entry (is_key key) es)) ≡ cond same (without key (members_view es)) (member (string_bytes e.0) (view e.1) (without key (members_view es)))
removed_at true key e es is none later = sym (none_there key es none)
removed_at false key e es is none later =
    let gone : lookup (is_key key) (remove_entry (is_key key) es) ≡ None = rw (is_eq-slice_cmp key (string_bytes e.0), is) at none in
    ap (λ (ms : Members). member (string_bytes e.0) (view e.1) ms) (later gone)

-- the entries after a key that occurs at most once is removed
pub removed_is : (key : List ℕ) (es : List Entry) → lookup (is_key key) (remove_entry (is_key key) es) ≡ None → members_view (remove_entry (is_key key) es) ≡ without key (members_view es)
removed_is key [] none = refl
removed_is key (e ∷ es) none =
    rw (is_eq-slice_cmp key (string_bytes e.0))
    (removed_at (bytes_eq key (string_bytes e.0)) key e es refl (rw (is_eq-slice_cmp key (string_bytes e.0)) at none) (removed_is key es))

-- ---- a list of names

abbrev pub after_these : List (List ℕ) → Option (List (List ℕ)) → Option (List (List ℕ))
after_these done o = option_map (λ more. done ++ more) o

pub after_none : (o : Option (List (List ℕ))) → o ≡ after_these [] o
after_none None = refl
after_none (Some xs) = refl

after_one : (done : List (List ℕ)) (name : List ℕ) (o : Option (List (List ℕ))) → after_these done (option_and_then (λ more. Some (name ∷ more)) o) ≡ after_these (done ++ name ∷ []) o
after_one done name None = refl
after_one done name (Some xs) = ap (λ (ys : List (List ℕ)). Some ys) (sym (append_assoc done (name ∷ []) xs))

module _ (rule : List ℕ → Option (List ℕ)) where
  pub name_more : (done : List (List ℕ)) (d : Data) (rest : Items) (text name : List ℕ) → as_str d ≡ Some text → rule text ≡ Some name
      → after_these done (texts_in rule (item d rest)) ≡ after_these (done ++ name ∷ []) (texts_in rule rest)
  unfolding texts_in
  name_more done d rest text name e f = rw (e, f) (after_one done name (texts_in rule rest))

  pub no_text : (done : List (List ℕ)) (d : Data) (rest : Items) → as_str d ≡ None → after_these done (texts_in rule (item d rest)) ≡ None
  unfolding texts_in
  no_text done d rest e = rw e refl

  pub no_name : (done : List (List ℕ)) (d : Data) (rest : Items) (text : List ℕ) → as_str d ≡ Some text → rule text ≡ None → after_these done (texts_in rule (item d rest)) ≡ None
  unfolding texts_in
  no_name done d rest text e f = rw (e, f) refl

  pub names_over : (done : List (List ℕ)) → after_these done (texts_in rule no_items) ≡ Some done
  unfolding texts_in
  names_over done = ap (λ (ys : List (List ℕ)). Some ys) (append-nil done)

pub nothing_left : {X : Type 0} (xs : List X) → 0 ≡ length xs → xs ≡ []
nothing_left [] h = refl
nothing_left (x ∷ xs) h = absurd (omega arith)

-- ---- an enum's default

pub symbol_there : (symbols : List (String Global)) (d : Data) (s : List ℕ) (b : Bool) → Some s ≡ as_str d → list_any (λ t. bytes_eq (string_bytes t) s) symbols ≡ b
    → fallback_in (texts_view symbols) (Some d) ≡ cond b (Some (Some s)) None
symbol_there symbols d s true e f = rw (← e, any-map (λ t. bytes_eq t s) (λ (t : String Global). string_bytes t) symbols, f) refl
symbol_there symbols d s false e f = rw (← e, any-map (λ t. bytes_eq t s) (λ (t : String Global). string_bytes t) symbols, f) refl
