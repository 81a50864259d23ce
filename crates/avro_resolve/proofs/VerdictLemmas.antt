-- The computed verdict agrees with the rules.
use Rattle.std.proofs.Common.{◌≡◌, ℕ, List, [], ◌∷◌, Option, Some, None, Bool, true, false, cond, ◌||◌, length, refl, sym, true≢false, inl, inr}
use Rattle.std.specs.Prelude.{All, Any, Contains, Decides, MatchOption, IsSome, IsTrue, slice_get, filter, is_some, bytes_eq, ◌==◌, ◌↔◌}
use Rattle.std.specs.List.{list_any, list_all}
use Rattle.std.specs.Set.{is_member}
use Rattle.std.proofs.lemmas.Bool.{and_parts, and_from, or_cases, or_left, or_right}
use Rattle.std.proofs.lemmas.Bool.Decides.{Decides-and, Decides-or, Decides-by_and, Decides-eqb}
use Rattle.std.proofs.lemmas.List.Elements.{filter_passes}
use Rattle.std.proofs.lemmas.List.Folds.{Any-from_list_any, list_any-from_Any}
use Rattle.std.proofs.lemmas.List.Sums.{AllPass-from_list_all, list_all-from_AllPass}
use Rattle.std.proofs.lemmas.Map.Made.{is_member-Decides}
use Rattle.std.proofs.lemmas.Slice.Eq.{bytes_eq-Decides}
use Rattle.avro_nodes.specs.declared.node.PrimitiveKind.{PrimitiveKind}
use Rattle.avro_nodes.specs.declared.node.PrimitiveKind.TheVariants.{Null, Boolean, Int, Long, Float, Double, Bytes, Text}
use Rattle.avro_nodes.specs.Nodes.{NamedView, FieldView, NodeView, primitive, array, mapping, union, enumeration, fixed, rec}
use Rattle.avro_nodes.specs.Names.{last_part}
use Rattle.avro_resolve.specs.Resolution.{Pairs, NameMatch, Promotes, source, Readable, Fits, Supports, Resolves}
use Rattle.avro_resolve.specs.Witnesses.{member}
use Rattle.avro_resolve.specs.Verdicts.{is_name_match, may_promote, is_readable_from, nodes_fit, both_fit, is_supported, pairs_below, any_sublist, is_closed_set, does_resolve}
use Rattle.avro_resolve.proofs.Monotone.{Within, supported_in, supports_within}
use Rattle.avro_resolve.proofs.PairLemmas.{those, each_pair, in_those_below}

-- ---- each rule

allowed : Decides true (Unit {0})
allowed = (λ h. tt, λ h. refl)

refused : Decides false ⊥
refused = (λ h. true≢false (sym h), λ h. absurd h)

itself : (b : Bool) → Decides b (IsTrue b)
itself b = (λ h. h, λ h. h)

all_decide : {X : Type 0} (p : X → Bool) (P : X → Type 0) → ((x : X) → Decides (p x) (P x)) → (xs : List X) → Decides (list_all p xs) (All P xs)
all_decide p P each xs = Decides-by_and p P (list_all p) each refl (λ x ys. refl) xs

has_decides : (texts : List (List ℕ)) (text : List ℕ) → Decides (is_member bytes_eq texts text) (Contains texts text)
has_decides texts text = is_member-Decides bytes_eq-Decides texts text

match_decides : (w r : NamedView) → Decides (is_name_match w r) (NameMatch w r)
match_decides w r = Decides-or (bytes_eq (last_part w.name) (last_part r.name)) (is_member bytes_eq r.aliases w.name) (bytes_eq-Decides (last_part w.name) (last_part r.name)) (has_decides r.aliases w.name)

promote_decides : (k l : PrimitiveKind) → Decides (may_promote k l) (Promotes k l)
promote_decides Null Null = allowed
promote_decides Boolean Boolean = allowed
promote_decides Int Int = allowed
promote_decides Int Long = allowed
promote_decides Int Float = allowed
promote_decides Int Double = allowed
promote_decides Long Long = allowed
promote_decides Long Float = allowed
promote_decides Long Double = allowed
promote_decides Float Float = allowed
promote_decides Float Double = allowed
promote_decides Double Double = allowed
promote_decides Bytes Bytes = allowed
promote_decides Bytes Text = allowed
promote_decides Text Text = allowed
promote_decides Text Bytes = allowed
promote_decides _ _ = refused

read_decides : (R : Pairs) (f : FieldView) (o : Option FieldView) → Decides (is_readable_from R f o) (MatchOption o (IsSome f.value) (λ g. IsTrue (R g.place f.place)))
read_decides R f None = itself (is_some f.value)
read_decides R f (Some g) = itself (R g.place f.place)

any_decides : (R : Pairs) (i : ℕ) (places : List ℕ) → Decides (list_any (λ place. R i place) places) (Any (λ place. IsTrue (R i place)) places)
any_decides R i places = (Any-from_list_any (λ place. R i place) places, list_any-from_Any (λ place. R i place) places)

fit_decides : (R : Pairs) (i j : ℕ) (a b : NodeView) → Decides (nodes_fit R i j a b) (Fits R i j a b)
fit_decides R i j (union bs) b = all_decide (λ place. R place j) (λ place. IsTrue (R place j)) (λ place. itself (R place j)) bs
fit_decides R i j (primitive k x) (union bs) = any_decides R i bs
fit_decides R i j (array p x) (union bs) = any_decides R i bs
fit_decides R i j (mapping p x) (union bs) = any_decides R i bs
fit_decides R i j (enumeration n s f x) (union bs) = any_decides R i bs
fit_decides R i j (fixed n s x) (union bs) = any_decides R i bs
fit_decides R i j (rec n fs x) (union bs) = any_decides R i bs
fit_decides R i j (primitive k x) (primitive l y) = promote_decides k l
fit_decides R i j (array p x) (array q y) = itself (R p q)
fit_decides R i j (mapping p x) (mapping q y) = itself (R p q)
fit_decides R i j (enumeration n symbols f x) (enumeration m known fallback y) =
    Decides-and (is_name_match n m) (is_some fallback || list_all (is_member bytes_eq known) symbols) (match_decides n m)
    (Decides-or (is_some fallback) (list_all (is_member bytes_eq known) symbols) (itself (is_some fallback)) (all_decide (is_member bytes_eq known) (Contains known) (has_decides known) symbols))
fit_decides R i j (fixed n size x) (fixed m wanted y) = Decides-and (is_name_match n m) (size == wanted) (match_decides n m) (Decides-eqb size wanted)
fit_decides R i j (rec n fs x) (rec m gs y) =
    Decides-and (is_name_match n m) (list_all (λ f. is_readable_from R f (source fs f)) gs) (match_decides n m)
    (all_decide (λ f. is_readable_from R f (source fs f)) (Readable R fs) (λ f. read_decides R f (source fs f)) gs)
fit_decides R i j _ _ = refused

both_decide : (R : Pairs) (i j : ℕ) (x y : Option NodeView) → Decides (both_fit R i j x y) (MatchOption x ⊥ (λ a. MatchOption y ⊥ (λ b. Fits R i j a b)))
both_decide R i j None y = refused
both_decide R i j (Some a) None = refused
both_decide R i j (Some a) (Some b) = fit_decides R i j a b

pub support_decides : (w r : List NodeView) (R : Pairs) (i j : ℕ) → Decides (is_supported w r R i j) (Supports w r R i j)
unfolding is_supported Supports
support_decides w r R i j = both_decide R i j (slice_get w i) (slice_get r j)

-- ---- sublists

pub part_there : {X : Type 0} (test : List X → Bool) (xs : List X) → any_sublist test xs ≡ true → (ys : List X) × (test ys ≡ true)
unfolding any_sublist
part_there test [] e = ([], e)
part_there test (x ∷ xs) e = elim (or_cases (any_sublist (λ ys. test (x ∷ ys)) xs) (any_sublist test xs) e) [
  | inl h ↦ (let (ys, k) = part_there (λ ys. test (x ∷ ys)) xs h in (x ∷ ys, k))
  | inr h ↦ part_there test xs h
]

pub part_found : {X : Type 0} (p : X → Bool) (test : List X → Bool) (xs : List X) → test (filter p xs) ≡ true → any_sublist test xs ≡ true
unfolding any_sublist
part_found p test [] e = e
part_found p test (x ∷ xs) e = by (p x) (part_found p (λ ys. test (x ∷ ys)) xs) (part_found p test xs) e
  where
    by : (b : Bool) → (test (x ∷ filter p xs) ≡ true → any_sublist (λ ys. test (x ∷ ys)) xs ≡ true) → (test (filter p xs) ≡ true → any_sublist test xs ≡ true)
        → test (cond b (x ∷ filter p xs) (filter p xs)) ≡ true → (any_sublist (λ ys. test (x ∷ ys)) xs || any_sublist test xs) ≡ true
    by true f g h = or_left (any_sublist (λ ys. test (x ∷ ys)) xs) (any_sublist test xs) (f h)
    by false f g h = or_right (any_sublist (λ ys. test (x ∷ ys)) xs) (any_sublist test xs) (g h)

-- ---- the verdict

resolves_if : (w r : List NodeView) → does_resolve w r ≡ true → Resolves w r
unfolding does_resolve is_closed_set Resolves
resolves_if w r e =
    let (ps, closed) = part_there (is_closed_set w r) (pairs_below (length w) (length r)) e in
    let test = is_supported w r (member ps) in
    let both = and_parts (member ps 0 0) (list_all (λ p. test p.0 p.1) ps) closed in
    let each = AllPass-from_list_all (λ p. test p.0 p.1) ps both.1 in
    (member ps, both.0, λ i j h. (support_decides w r (member ps) i j).0 (each_pair test ps each i j h))

is_found : (w r : List NodeView) → Resolves w r → does_resolve w r ≡ true
unfolding does_resolve is_closed_set Resolves
is_found w r (R, roots, closed) =
    let all = pairs_below (length w) (length r) in
    let ps = those R all in
    let test = is_supported w r (member ps) in
    let within : Within R (member ps) = λ i j h. (let here = supported_in w r R i j (closed i j h) in in_those_below R (length w) (length r) i j here.0 here.1 h) in
    let passes : (i j : ℕ) → R i j ≡ true → test i j ≡ true = λ i j h. (support_decides w r (member ps) i j).1 (supports_within R (member ps) within w r i j (closed i j h)) in
    part_found (λ p. R p.0 p.1) (is_closed_set w r) all
    (and_from (member ps 0 0) (list_all (λ p. test p.0 p.1) ps) (within 0 0 roots)
    (list_all-from_AllPass (λ p. test p.0 p.1) ps (λ k d l. passes _ _ (filter_passes (λ p. R p.0 p.1) all k d l))))

pub resolves_decided : (w r : List NodeView) → IsTrue (does_resolve w r) ↔ Resolves w r
resolves_decided w r = (resolves_if w r, is_found w r)
