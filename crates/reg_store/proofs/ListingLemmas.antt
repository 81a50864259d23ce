-- Lines of listings, added one after another.
use Rattle.std.proofs.Common.{◌≡◌, ℕ, zero, suc, ◌+◌, ◌<◌, List, [], ◌∷◌, ◌++◌, Bool, true, false, map, length, take, get_or, Option, None, Some, refl, sym, ap, subst, ◌∙◌, arith, add-one}
use Rattle.std.specs.Prelude.{option_map, slice_get, IsSome, if◌then◌else◌}
use Rattle.std.specs.List.{dedup, dedup_from, enumerate_from}
use Rattle.std.proofs.lemmas.List.{take_more, map-append, length-map}
use Rattle.std.proofs.lemmas.List.FromFn.{length-enumerate_from}
use Rattle.std.proofs.lemmas.Option.{none-some, slice_get_within, get_or_from_slice_get}
use Rattle.avro_nodes.specs.Nodes.{NodeView}
use Rattle.avro_nodes.specs.Identity.{identity}
use Rattle.reg_core.specs.Registry.{Schemas}
use Rattle.reg_core.specs.Rows.{text_at}
use Rattle.reg_core.proofs.IdLemmas.{text_there}
use Rattle.reg_store.specs.Listings.{Fields, schema_line, schema_lines}

-- ---- lines

pub seen_more : {X Y : Type 0} (f : X → Y) (old new : List X) (x : X) → new ≡ old ++ x ∷ [] → map f new ≡ map f old ++ f x ∷ []
seen_more f old new x is = ap (map f) is ∙ map-append f old (x ∷ [])

pub seen_next : {X Y : Type 0} (f : X → Y) (xs : List X) (i : ℕ) (x : X) → i < length xs → x ≡ get_or xs i x → map f (take i xs) ++ f x ∷ [] ≡ map f (take (i + 1) xs)
seen_next f xs i x h is = sym (map-append f (take i xs) (x ∷ [])) ∙ ap (map f) (ap (λ y. take i xs ++ y ∷ []) is ∙ sym (take_more xs i x h))

pub taken_more : {X : Type 0} (xs ys : List X) (i : ℕ) (x : X) → ys ≡ take i xs → slice_get xs i ≡ Some x → ys ++ x ∷ [] ≡ take (i + 1) xs
taken_more xs ys i x is there =
    ap (λ zs. zs ++ x ∷ []) is ∙ ap (λ y. take i xs ++ y ∷ []) (sym (get_or_from_slice_get xs i x x there)) ∙ sym (take_more xs i x (slice_get_within xs i x there))

-- ---- schemas

abbrev entry_line : ℕ × List NodeView → Fields
entry_line entry = schema_line entry.0 (identity entry.1)

both_mapped : {A B C : Type 0} (f : A → B) (h : B → C) (o : Option A) → option_map h (option_map f o) ≡ option_map (λ x. h (f x)) o
both_mapped f h None = refl
both_mapped f h (Some x) = refl

line_from : (n : ℕ) (schemas : Schemas) (i id : ℕ) (line : Fields) → id ≡ n + i → option_map (λ nodes. schema_line id (identity nodes)) (slice_get schemas i) ≡ Some line → slice_get (map entry_line (enumerate_from n schemas)) i ≡ Some line
line_from n [] i id line is h = absurd (none-some line h)
line_from n (nodes ∷ schemas) zero id line is h = let same : n ≡ id = omega arith in ap (λ m. Some (schema_line m (identity nodes))) same ∙ h
line_from n (nodes ∷ schemas) (suc i) id line is h = line_from (n + 1) schemas i id line (omega arith) h

-- the line of an id is at the id's position
pub line_at : (schemas : Schemas) (i : ℕ) (line : Fields) → option_map (schema_line (i + 1)) (text_at schemas (i + 1)) ≡ Some line → slice_get (schema_lines schemas) i ≡ Some line
line_at schemas i line h =
    let here : option_map (schema_line (suc i)) (text_at schemas (suc i)) ≡ Some line = subst (λ id. option_map (schema_line id) (text_at schemas id) ≡ Some line) (add-one i) h in
    line_from 1 schemas i (suc i) line (omega arith) (sym (both_mapped identity (schema_line (suc i)) (slice_get schemas i)) ∙ here)

pub length-schema_lines : (schemas : Schemas) → length (schema_lines schemas) ≡ length schemas
length-schema_lines schemas = length-map (enumerate_from 1 schemas) entry_line ∙ length-enumerate_from 1 schemas

pub has_text : (schemas : Schemas) (i : ℕ) → i < length schemas → IsSome (text_at schemas (i + 1))
has_text schemas i h = let it = text_there schemas (i + 1) (omega arith) (omega arith) in subst IsSome (sym it.1) refl

-- ---- subjects

either-map : {X Y : Type 0} (f : X → Y) (b : Bool) (xs ys : List X) (us vs : List Y) → map f xs ≡ us → map f ys ≡ vs → map f (if b then xs else ys) ≡ if b then us else vs
either-map f true xs ys us vs p q = p
either-map f false xs ys us vs p q = q

dedup_from-map : {X Y : Type 0} (f : X → Y) (same : Y → Y → Bool) (k : X) (xs : List X) → map f (dedup_from (λ x y. same (f x) (f y)) k xs) ≡ dedup_from same (f k) (map f xs)
dedup_from-map f same k [] = refl
dedup_from-map f same k (x ∷ xs) = either-map f (same (f x) (f k)) _ _ _ _ (dedup_from-map f same k xs) (ap (λ ys. f k ∷ ys) (dedup_from-map f same x xs))

-- mapping preserves which neighbours are equal
pub dedup-map : {X Y : Type 0} (f : X → Y) (same : Y → Y → Bool) (xs : List X) → map f (dedup (λ x y. same (f x) (f y)) xs) ≡ dedup same (map f xs)
dedup-map f same [] = refl
dedup-map f same (x ∷ xs) = dedup_from-map f same x xs
