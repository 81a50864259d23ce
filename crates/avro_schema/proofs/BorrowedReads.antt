-- The value that is read from a text whose numbers are rewritten.
use Rattle.std.proofs.Common.{◌≡◌, ℕ, ◌≤◌, List, [], ◌∷◌, length, true, false, Option, Some, None, option_and_then, refl, sym, subst, true≢false}
use Rattle.std.specs.Prelude.{nat_le, is_some, MatchOption}
use Rattle.std.proofs.lemmas.Bool.{le-leb}
use Rattle.json.specs.Json as json
use Rattle.json.specs.Lex.{tokens}
use Rattle.json.specs.Token.{Token}
use Rattle.serde_json.specs.Data.{Data}
use Rattle.serde_json.specs.Read.{of_json, converted, max_depth}
use Rattle.avro_nodes.specs.Limits.{max_nesting, max_text}
use Rattle.avro_nodes.specs.Nodes.{NodeView}
use Rattle.avro_nodes.specs.Plain.{plain}
use Rattle.avro_schema.specs.Names.{Known, none_known}
use Rattle.avro_schema.specs.Inside.DeclaredNodes.{value_in, root_in, declared_nodes}
use Rattle.avro_schema.specs.Inside.ReaderResults.{AddsPart, Fails}
use Rattle.avro_schema.specs.Inside.Types.{type_at}
use Rattle.avro_schema.specs.Inside.Weight.{weight}
use Rattle.avro_schema.specs.declared.error.JsonError.{JsonError}
use Rattle.avro_schema.specs.declared.error.JsonError.TheVariants.{Invalid, OutOfMemory as no_memory}
use Rattle.avro_schema.specs.declared.error.SchemaError.{SchemaError}
use Rattle.avro_schema.specs.declared.error.SchemaError.TheVariants.{OutOfMemory, NotJson}
use Rattle.avro_schema.proofs.Conversions.{whole_read, whole_and_more, whole_refused}

-- ---- a text

module _ (text respelt : List ℕ) (p : plain text ≡ Some respelt) where
  abbrev pub all_of_it : Option (json.Json × List Token)
  all_of_it = json.value max_depth (tokens respelt)

  pub value_is : (d : Data) → converted of_json all_of_it ≡ Some (d, []) → value_in text ≡ Some d
  unfolding value_in
  value_is d e = rw p (whole_read all_of_it d e)

  pub more_follows : (d : Data) (t : Token) (ts : List Token) → converted of_json all_of_it ≡ Some (d, t ∷ ts) → value_in text ≡ None
  unfolding value_in
  more_follows d t ts e = rw p (whole_and_more all_of_it d t ts e)

  pub no_json : converted of_json all_of_it ≡ None → value_in text ≡ None
  unfolding value_in
  no_json e = rw p (whole_refused all_of_it e)

pub no_plain : (text : List ℕ) → plain text ≡ None → value_in text ≡ None
unfolding value_in
no_plain text e = rw e refl

-- ---- the nodes of a value

abbrev pub nodes_in : Data → Option (List NodeView)
nodes_in d = option_and_then (λ p. Some p.nodes) (root_in d)

pub too_heavy : (d : Data) → nat_le (weight max_nesting [] d) max_text ≡ false → nodes_in d ≡ None
unfolding root_in
too_heavy d e = rw e refl

pub no_root : (d : Data) → nat_le (weight max_nesting [] d) max_text ≡ true → type_at max_nesting [] d none_known 0 ≡ None → nodes_in d ≡ None
unfolding root_in
no_root d light none = rw (light, none) refl

pub root_is : (d : Data) (p : ℕ) (after : List NodeView) (known2 : Known) → nat_le (weight max_nesting [] d) max_text ≡ true → AddsPart (type_at max_nesting [] d none_known 0) p [] after known2 → nodes_in d ≡ Some after
unfolding root_in
root_is d p after known2 light root = rw (light, root.is, ← root.after_is) refl

pub declared_is : (text : List ℕ) (d : Data) → length text ≤ max_text → value_in text ≡ Some d → declared_nodes text ≡ nodes_in d
unfolding declared_nodes
declared_is text d short e = rw (le-leb (length text) max_text short, e) refl

pub no_value : (text : List ℕ) → length text ≤ max_text → value_in text ≡ None → declared_nodes text ≡ None
unfolding declared_nodes
no_value text short e = rw (le-leb (length text) max_text short, e) refl

-- ---- the token after a value

pub nothing_more : {T : Type 0} (f : T → Token) (o : Option T) (old new : List Token) → MatchOption o ((old ≡ []) × (new ≡ [])) (λ t. old ≡ f t ∷ new) → is_some o ≡ false → old ≡ []
nothing_more f None old new h e = h.0
nothing_more f (Some t) old new h e = absurd (true≢false e)

pub something_more : {T : Type 0} (f : T → Token) (o : Option T) (old new : List Token) → MatchOption o ((old ≡ []) × (new ≡ [])) (λ t. old ≡ f t ∷ new) → is_some o ≡ true → (t : Token) × (old ≡ t ∷ new)
something_more f None old new h e = absurd (true≢false (sym e))
something_more f (Some t) old new h e = (f t, h)

-- ---- errors

pub json_refused : {A : Type 0} (e : JsonError) (x : SchemaError) (o : Option A) → (e ≡ no_memory → x ≡ OutOfMemory) → (e ≡ Invalid → x ≡ NotJson) → (e ≡ Invalid → o ≡ None) → Fails x o
json_refused no_memory x o memory other none = subst (λ (y : SchemaError). Fails y o) (sym (memory refl)) tt
json_refused Invalid x o memory other none = subst (λ (y : SchemaError). Fails y o) (sym (other refl)) (none refl)
