-- Ids of schemas, and how identity texts find them.
use Rattle.std.proofs.Common.{◌≡◌, ◌≢◌, ℕ, zero, suc, ◌+◌, ◌<◌, ◌≤◌, ◌⊎◌, inl, inr, List, [], ◌∷◌, ◌++◌, length, get_or, Bool, true, false, cond, refl, sym, ap, subst, ◌∙◌, arith, add-one, true≢false}
use Rattle.std.specs.Prelude.{Option, Some, None, option_map, slice_get, bytes_eq, position, nat_lt}
use Rattle.std.specs.List.{position_or_len}
use Rattle.std.proofs.lemmas.Bool.Decides.{nat_tests}
use Rattle.std.proofs.lemmas.Option.{none-some, same_Some, slice_get-get_or, slice_get_within, slice_get_past, get_or_from_slice_get}
use Rattle.std.proofs.lemmas.List.Quantifiers.{position-Some}
use Rattle.std.proofs.lemmas.List.Sums.{fails_before_first}
use Rattle.std.proofs.lemmas.Slice.Eq.{bytes_eq-Decides}
use Rattle.avro_nodes.specs.Nodes.{NodeView}
use Rattle.avro_nodes.specs.Identity.{identity}
use Rattle.reg_core.specs.Registry.{Schemas, schema_at}
use Rattle.reg_core.specs.Rows.{id_of, text_at}

option_map_some : {A B : Type 0} (f : A → B) (o : Option A) (y : B) → option_map f o ≡ Some y → (x : A) × (o ≡ Some x) × (f x ≡ y)
option_map_some f None y e = absurd (none-some y e)
option_map_some f (Some x) y e = (x, refl, same_Some (f x) y e)

option_map_none : {A B : Type 0} (f : A → B) (o : Option A) → option_map f o ≡ None → o ≡ None
option_map_none f None e = refl
option_map_none f (Some x) e = absurd (none-some (f x) (sym e))

-- ---- schemas by their ids

-- each id from 1 to the number of schemas has a schema
pub schema_there : (schemas : Schemas) (id : ℕ) → 0 < id → id ≤ length schemas → (nodes : List NodeView) × (schema_at schemas id ≡ Some nodes)
schema_there schemas zero l h = absurd (omega arith)
schema_there schemas (suc n) l h = (get_or schemas n [], slice_get-get_or schemas n [] (omega arith))

-- only an id from 1 to the number of schemas has a schema
pub schema_within : (schemas : Schemas) (id : ℕ) (nodes : List NodeView) → schema_at schemas id ≡ Some nodes → (0 < id) × (id ≤ length schemas)
schema_within schemas zero nodes e = absurd (none-some nodes e)
schema_within schemas (suc n) nodes e = let k = slice_get_within schemas n nodes e in (omega arith, omega arith)

get_more : {X : Type 0} (xs ys : List X) (n : ℕ) (x : X) → slice_get xs n ≡ Some x → slice_get (xs ++ ys) n ≡ Some x
get_more [] ys n x e = absurd (none-some x e)
get_more (y ∷ xs) ys zero x e = e
get_more (y ∷ xs) ys (suc n) x e = get_more xs ys n x e

later : {X : Type 0} (y : X) (xs : List X) (new : X) (n : ℕ) (x : X) → (slice_get xs n ≡ Some x) ⊎ ((n ≡ length xs) × (x ≡ new)) → (slice_get (y ∷ xs) (suc n) ≡ Some x) ⊎ ((suc n ≡ length (y ∷ xs)) × (x ≡ new))
later y xs new n x (inl e) = inl e
later y xs new n x (inr e) = inr (ap suc e.0, e.1)

get_grown : {X : Type 0} (xs : List X) (new : X) (n : ℕ) (x : X) → slice_get (xs ++ new ∷ []) n ≡ Some x → (slice_get xs n ≡ Some x) ⊎ ((n ≡ length xs) × (x ≡ new))
get_grown [] new zero x e = inr (refl, sym (same_Some new x e))
get_grown [] new (suc n) x e = absurd (none-some x e)
get_grown (y ∷ xs) new zero x e = inl e
get_grown (y ∷ xs) new (suc n) x e = later y xs new n x (get_grown xs new n x e)

get_last : {X : Type 0} (xs : List X) (new : X) → slice_get (xs ++ new ∷ []) (length xs) ≡ Some new
get_last [] new = refl
get_last (y ∷ xs) new = get_last xs new

-- an id keeps its schema when more come
pub schema_more : (schemas more : Schemas) (id : ℕ) (nodes : List NodeView) → schema_at schemas id ≡ Some nodes → schema_at (schemas ++ more) id ≡ Some nodes
schema_more schemas more zero nodes e = e
schema_more schemas more (suc n) nodes e = get_more schemas more n nodes e

-- a new schema has the next id
pub schema_last : (schemas : Schemas) (new : List NodeView) → schema_at (schemas ++ new ∷ []) (length schemas + 1) ≡ Some new
schema_last schemas new = rw (add-one) (get_last schemas new)

-- with a new schema, each other id keeps its schema
pub schema_grown : (schemas : Schemas) (new : List NodeView) (id : ℕ) (nodes : List NodeView) → schema_at (schemas ++ new ∷ []) id ≡ Some nodes → (schema_at schemas id ≡ Some nodes) ⊎ ((id ≡ length schemas + 1) × (nodes ≡ new))
schema_grown schemas new zero nodes e = absurd (none-some nodes e)
schema_grown schemas new (suc n) nodes e = next (get_grown schemas new n nodes e)
  where
    next : (slice_get schemas n ≡ Some nodes) ⊎ ((n ≡ length schemas) × (nodes ≡ new)) → (slice_get schemas n ≡ Some nodes) ⊎ ((suc n ≡ length schemas + 1) × (nodes ≡ new))
    next (inl h) = inl h
    next (inr h) = inr (omega (arith, h.0), h.1)

-- ---- ids by identity texts

-- the test that finds an id
abbrev has_text : List ℕ → List NodeView → Bool
has_text text nodes = bytes_eq (identity nodes) text

none_before : {X : Type 0} (p : X → Bool) (xs : List X) (b : Bool) → nat_lt (position_or_len p xs) (length xs) ≡ b → cond b (Some (position_or_len p xs)) None ≡ None → (n : ℕ) (x : X) → slice_get xs n ≡ Some x → p x ≡ false
none_before p xs true e h n x is = absurd (none-some _ (sym h))
none_before p xs false e h n x is =
    let here : n < length xs = slice_get_within xs n x is in
    let past : length xs ≤ position_or_len p xs = grind (arith, nat_tests) in
    let before : n < position_or_len p xs = omega arith in
    subst (λ y. p y ≡ false) (get_or_from_slice_get xs n x x is) (fails_before_first p xs n x before)

-- the schema of a text's id has that text
pub id_of-schema : (schemas : Schemas) (text : List ℕ) (id : ℕ) → id_of schemas text ≡ Some id → (nodes : List NodeView) × (schema_at schemas id ≡ Some nodes) × (identity nodes ≡ text)
id_of-schema schemas text id e =
    let (n, found, next) = option_map_some (λ (n : ℕ). n + 1) (position (has_text text) schemas) id e in
    let parts = position-Some (has_text text) schemas n [] found in
    let nodes : List NodeView = get_or schemas n [] in
    let there : schema_at schemas (suc n) ≡ Some nodes = slice_get-get_or schemas n [] parts.0 in
    let same : suc n ≡ id = omega (arith, next) in
    (nodes, subst (λ (i : ℕ). schema_at schemas i ≡ Some nodes) same there, (bytes_eq-Decides (identity nodes) text).0 parts.1)

-- no schema has a text that has no id
pub id_of-none : (schemas : Schemas) (text : List ℕ) → id_of schemas text ≡ None → (id : ℕ) (nodes : List NodeView) → schema_at schemas id ≡ Some nodes → identity nodes ≢ text
id_of-none schemas text e zero nodes is same = none-some nodes is
id_of-none schemas text e (suc n) nodes is same =
    let not_it = none_before (has_text text) schemas _ refl (option_map_none (λ (n : ℕ). n + 1) (position (has_text text) schemas) e) n nodes is in
    true≢false (sym ((bytes_eq-Decides (identity nodes) text).1 same) ∙ not_it)

-- ---- identity texts by ids

-- an id's text is that of its schema
pub text_at-schema : (schemas : Schemas) (id : ℕ) (text : List ℕ) → text_at schemas id ≡ Some text → (nodes : List NodeView) × (schema_at schemas id ≡ Some nodes) × (identity nodes ≡ text)
text_at-schema schemas id text e = option_map_some identity (schema_at schemas id) text e

-- the text of each schema is that of its id
pub text_at-identity : (schemas : Schemas) (id : ℕ) (nodes : List NodeView) → schema_at schemas id ≡ Some nodes → text_at schemas id ≡ Some (identity nodes)
text_at-identity schemas id nodes e = ap (option_map identity) e

-- each id from 1 to the number of schemas has a text
pub text_there : (schemas : Schemas) (id : ℕ) → 0 < id → id ≤ length schemas → (text : List ℕ) × (text_at schemas id ≡ Some text)
text_there schemas id l h = let (nodes, e) = schema_there schemas id l h in (identity nodes, text_at-identity schemas id nodes e)

-- only an id from 1 to the number of schemas has a text
pub text_within : (schemas : Schemas) (id : ℕ) (text : List ℕ) → text_at schemas id ≡ Some text → (0 < id) × (id ≤ length schemas)
text_within schemas id text e = let (nodes, is, same) = text_at-schema schemas id text e in schema_within schemas id nodes is

-- the id of a text has that text
pub id_of-text_at : (schemas : Schemas) (text : List ℕ) (id : ℕ) → id_of schemas text ≡ Some id → text_at schemas id ≡ Some text
id_of-text_at schemas text id e = let (nodes, is, same) = id_of-schema schemas text id e in text_at-identity schemas id nodes is ∙ ap Some same

-- no id has a text that has no id
pub id_of-no_text : (schemas : Schemas) (text : List ℕ) → id_of schemas text ≡ None → (id : ℕ) → text_at schemas id ≢ Some text
id_of-no_text schemas text none id e = let (nodes, is, same) = text_at-schema schemas id text e in id_of-none schemas text none id nodes is same

-- an id beyond the number of schemas has no text
pub text_past : (schemas : Schemas) (id : ℕ) → length schemas < id → text_at schemas id ≡ None
text_past schemas zero l = refl
text_past schemas (suc n) l = ap (option_map identity) (slice_get_past schemas n (omega arith))
