-- Inversion of definitions: what their results imply.
use Rattle.std.proofs.Common.{◌≡◌, ◌≢◌, ℕ, ◌<◌, List, [], ◌∷◌, Bool, true, false, not, cond, ◌&&◌, Option, Some, None, option_map, bytes_eq, refl, sym, ap, ◌∙◌, true≢false, Ordering, Less, Equal, Greater, nat_cmp, is_eq, arith}
use Rattle.std.specs.Prelude.{nat_lt, ◌==◌}
use Rattle.std.proofs.lemmas.Bool.Decides.{nat_tests}
use Rattle.std.proofs.lemmas.Map.Text.{is_eq-slice_cmp}
use Rattle.std.specs.Cmp.Lexicographic.{slice_cmp}
use Rattle.std.specs.Ordering.{match_ordering}
use Rattle.avro_nodes.specs.Limits.{max_places}
use Rattle.avro_schema.specs.Denotes.{Lacks, AllDiffer}
use Rattle.avro_schema.specs.Inside.Distinct.{all_new, all_distinct}
use Rattle.std.proofs.lemmas.Option.{same_Some}
use Rattle.serde_json.specs.Data.{Data, Members, no_members, member}
use Rattle.serde_json.specs.Find.{get_member}
use Rattle.std.proofs.lemmas.Slice.Eq.{bytes_eq-Decides}
use Rattle.std.proofs.lemmas.Bool.{ltb-true, lt-ltb, and_parts, not-true}
use Rattle.avro_schema.specs.Attributes.{◌>>=◌, without, without_all, text_in, array_in, text_if_any}
use Rattle.avro_schema.specs.Inside.ValueReaders.{next_place}

pub bind_some : {A B : Type 0} (o : Option A) (f : A → Option B) (y : B) → (o >>= f) ≡ Some y → (x : A) × (o ≡ Some x) × (f x ≡ Some y)
bind_some None f y e = absurd cc
bind_some (Some x) f y e = (x, refl, e)

pub guard_some : {A : Type 0} (b : Bool) (o : Option A) (y : A) → cond b o None ≡ Some y → (b ≡ true) × (o ≡ Some y)
guard_some true o y e = (refl, e)
guard_some false o y e = absurd cc

pub guard_none : {A : Type 0} (b : Bool) (o : Option A) (y : A) → cond b None o ≡ Some y → (b ≡ false) × (o ≡ Some y)
guard_none true o y e = absurd cc
guard_none false o y e = (refl, e)

pub map_some : {A B : Type 0} (f : A → B) (o : Option A) (y : B) → option_map f o ≡ Some y → (x : A) × (o ≡ Some x) × (f x ≡ y)
map_some f None y e = absurd cc
map_some f (Some x) y e = (x, refl, same_Some _ _ e)

-- ---- room for a node

pub room_is : (first place : ℕ) → next_place first ≡ Some place → (first < max_places) × (first ≡ place)
unfolding next_place
room_is first place e = let g = guard_some (nat_lt first max_places) (Some first) place e in (ltb-true first max_places g.0, same_Some _ _ g.1)

pub room_there : (first : ℕ) → first < max_places → next_place first ≡ Some first
unfolding next_place
room_there first h = rw (lt-ltb first max_places h) refl

-- ---- an attribute after others were removed

skip_at : (o : Ordering) (a b : Option Data) → is_eq o ≡ false → match_ordering o a b a ≡ a
skip_at Less a b e = refl
skip_at Equal a b e = absurd (true≢false e)
skip_at Greater a b e = refl

differ_at : (b : Bool) (s t : List ℕ) → bytes_eq s t ≡ b → s ≢ t → b ≡ false
differ_at true s t e other = absurd (other ((bytes_eq-Decides s t).0 e))
differ_at false s t e other = refl

pub differ : (s t : List ℕ) → s ≢ t → bytes_eq s t ≡ false
differ s t other = differ_at (bytes_eq s t) s t refl other

pub same_bytes : (s t : List ℕ) → bytes_eq s t ≡ true → s ≡ t
same_bytes s t e = (bytes_eq-Decides s t).0 e

pub not_same : (s t : List ℕ) → bytes_eq s t ≡ false → s ≢ t
not_same s t e is = true≢false (sym ((bytes_eq-Decides s t).1 is) ∙ e)

skips : (q k : List ℕ) (d : Data) (ms : Members) → q ≢ k → get_member q (member k d ms) ≡ get_member q ms
skips q k d ms other = skip_at (slice_cmp nat_cmp q k) (get_member q ms) (Some d) (is_eq-slice_cmp q k ∙ differ q k other)

get-without_at : (same : Bool) (q k l : List ℕ) (d : Data) (ms : Members) → bytes_eq k l ≡ same → bytes_eq k q ≡ false → get_member q (without k ms) ≡ get_member q ms
    → get_member q (cond same (without k ms) (member l d (without k ms))) ≡ get_member q (member l d ms)
get-without_at true q k l d ms is other later =
    let k_is : k ≡ l = same_bytes k l is in
    later ∙ sym (skips q l d ms (λ (e : q ≡ l). not_same k q other (k_is ∙ sym e)))
get-without_at false q k l d ms is other later = ap (λ (r : Option Data). match_ordering (slice_cmp nat_cmp q l) r (Some d) r) later

pub get-without : (q k : List ℕ) (ms : Members) → bytes_eq k q ≡ false → get_member q (without k ms) ≡ get_member q ms
get-without q k no_members other = refl
get-without q k (member l d ms) other = get-without_at (bytes_eq k l) q k l d ms refl other (get-without q k ms other)

-- none of these keys
abbrev pub all_other : List ℕ → List (List ℕ) → Bool
all_other q [] = true
all_other q (k ∷ ks) = not (bytes_eq k q) && all_other q ks

head_other : (a b : Bool) → (not a && b) ≡ true → a ≡ false
head_other true b e = absurd (true≢false (sym e))
head_other false b e = refl

tail_other : (a b : Bool) → (not a && b) ≡ true → b ≡ true
tail_other true b e = absurd (true≢false (sym e))
tail_other false b e = e

pub get_past : (q : List ℕ) (ks : List (List ℕ)) (ms : Members) → all_other q ks ≡ true → get_member q (without_all ks ms) ≡ get_member q ms
get_past q [] ms e = refl
get_past q (k ∷ ks) ms e = get_past q ks (without k ms) (tail_other (bytes_eq k q) (all_other q ks) e) ∙ get-without q k ms (head_other (bytes_eq k q) (all_other q ks) e)

pub text_past : (q : List ℕ) (ks : List (List ℕ)) (ms : Members) → all_other q ks ≡ true → text_in q (without_all ks ms) ≡ text_in q ms
unfolding text_in
text_past q ks ms e = rw (get_past q ks ms e) refl

pub items_past : (q : List ℕ) (ks : List (List ℕ)) (ms : Members) → all_other q ks ≡ true → array_in q (without_all ks ms) ≡ array_in q ms
unfolding array_in
items_past q ks ms e = rw (get_past q ks ms e) refl

pub text_if_any_past : (q : List ℕ) (ks : List (List ℕ)) (ms : Members) → all_other q ks ≡ true → text_if_any q (without_all ks ms) ≡ text_if_any q ms
unfolding text_if_any
text_if_any_past q ks ms e = rw (get_past q ks ms e) refl

-- ---- distinct elements

-- no element of the list was seen
abbrev pub AllUnseen : {X : Type 0} → (X → Bool) → List X → Type 0
AllUnseen seen [] = Unit {0}
AllUnseen seen (x ∷ xs) = (seen x ≡ false) × AllUnseen seen xs

cond_unseen : (same before : Bool) → cond same true before ≡ false → (same ≡ false) × (before ≡ false)
cond_unseen true before e = absurd (true≢false e)
cond_unseen false before e = (refl, e)

module _ {X : Type 0} (same : X → X → Bool) (tells : (x y : X) → same x y ≡ false → x ≢ y) (apart : (x y : X) → x ≢ y → same x y ≡ false) where
  split : (seen : X → Bool) (x : X) (xs : List X) → AllUnseen (λ y. cond (same x y) true (seen y)) xs → Lacks xs x × AllUnseen seen xs
  split seen x [] h = (tt, tt)
  split seen x (y ∷ xs) h =
      let here = cond_unseen (same x y) (seen y) h.0 in
      let rest = split seen x xs h.1 in
      ((tells x y here.0, rest.0), (here.1, rest.1))

  join : (seen : X → Bool) (x : X) (xs : List X) → Lacks xs x → AllUnseen seen xs → AllUnseen (λ y. cond (same x y) true (seen y)) xs
  join seen x [] h k = tt
  join seen x (y ∷ xs) h k = (rw (apart x y h.0) k.0, join seen x xs h.1 k.1)

  new_says : (seen : X → Bool) (xs : List X) → all_new same seen xs ≡ true → AllUnseen seen xs × AllDiffer xs
  unfolding all_new
  new_says seen [] e = (tt, tt)
  new_says seen (x ∷ xs) e =
      let rest = new_says (λ y. cond (same x y) true (seen y)) xs (and_parts (not (seen x)) (all_new same (λ y. cond (same x y) true (seen y)) xs) e).1 in
      let parts = split seen x xs rest.0 in
      ((not-true (seen x) (and_parts (not (seen x)) (all_new same (λ y. cond (same x y) true (seen y)) xs) e).0, parts.1), (parts.0, rest.1))

  new_from : (seen : X → Bool) (xs : List X) → AllUnseen seen xs → AllDiffer xs → all_new same seen xs ≡ true
  unfolding all_new
  new_from seen [] h k = refl
  new_from seen (x ∷ xs) h k = rw (h.0, new_from (λ y. cond (same x y) true (seen y)) xs (join seen x xs k.0 h.1) k.1) refl

  none_seen : (xs : List X) → AllUnseen (λ _. false) xs
  none_seen [] = tt
  none_seen (x ∷ xs) = (refl, none_seen xs)

pub texts_distinct : (xs : List (List ℕ)) → all_distinct bytes_eq xs ≡ true → AllDiffer xs
texts_distinct xs e = (new_says bytes_eq not_same differ (λ _. false) xs e).1

pub texts_apart : (xs : List (List ℕ)) → AllDiffer xs → all_distinct bytes_eq xs ≡ true
texts_apart xs h = new_from bytes_eq not_same differ (λ _. false) xs (none_seen bytes_eq not_same differ xs) h

number_tells : (x y : ℕ) → (x == y) ≡ false → x ≢ y
number_tells x y e = grind (arith, nat_tests)

number_apart : (x y : ℕ) → x ≢ y → (x == y) ≡ false
number_apart x y h = grind (arith, nat_tests)

pub numbers_differ : (xs : List ℕ) → all_distinct (λ a b. a == b) xs ≡ true → AllDiffer xs
numbers_differ xs e = (new_says (λ a b. a == b) number_tells number_apart (λ _. false) xs e).1

pub numbers_apart : (xs : List ℕ) → AllDiffer xs → all_distinct (λ a b. a == b) xs ≡ true
numbers_apart xs h = new_from (λ a b. a == b) number_tells number_apart (λ _. false) xs (none_seen (λ a b. a == b) number_tells number_apart xs) h

-- ---- consecutive steps

module _ {A B Y : Type 0} where
  pub bind2 : (a : Option A) (b : A → Option B) (f : A → B → Option Y) (y : Y) → (a >>= λ x. b x >>= λ z. f x z) ≡ Some y → (x : A) × (z : B) × (a ≡ Some x) × (b x ≡ Some z) × (f x z ≡ Some y)
  bind2 a b f y e =
      let p = bind_some a (λ x. b x >>= λ z. f x z) y e in
      let q = bind_some (b p.0) (λ z. f p.0 z) y p.2 in
      (p.0, q.0, p.1, q.1, q.2)

module _ {A B C Y : Type 0} where
  pub bind3 : (a : Option A) (b : A → Option B) (c : A → B → Option C) (f : A → B → C → Option Y) (y : Y) → (a >>= λ x. b x >>= λ z. c x z >>= λ w. f x z w) ≡ Some y
      → (x : A) × (z : B) × (w : C) × (a ≡ Some x) × (b x ≡ Some z) × (c x z ≡ Some w) × (f x z w ≡ Some y)
  bind3 a b c f y e =
      let p = bind_some a (λ x. b x >>= λ z. c x z >>= λ w. f x z w) y e in
      let q = bind2 (b p.0) (λ z. c p.0 z) (λ z w. f p.0 z w) y p.2 in
      (p.0, q.0, q.1, p.1, q.2, q.3, q.4)

module _ {A B C D Y : Type 0} where
  pub bind4 : (a : Option A) (b : A → Option B) (c : A → B → Option C) (d : A → B → C → Option D) (f : A → B → C → D → Option Y) (y : Y) → (a >>= λ x. b x >>= λ z. c x z >>= λ w. d x z w >>= λ v. f x z w v) ≡ Some y
      → (x : A) × (z : B) × (w : C) × (v : D) × (a ≡ Some x) × (b x ≡ Some z) × (c x z ≡ Some w) × (d x z w ≡ Some v) × (f x z w v ≡ Some y)
  bind4 a b c d f y e =
      let p = bind_some a (λ x. b x >>= λ z. c x z >>= λ w. d x z w >>= λ v. f x z w v) y e in
      let q = bind3 (b p.0) (λ z. c p.0 z) (λ z w. d p.0 z w) (λ z w v. f p.0 z w v) y p.2 in
      (p.0, q.0, q.1, q.2, p.1, q.3, q.4, q.5, q.6)

module _ {A B C D E Y : Type 0} where
  pub bind5 : (a : Option A) (b : A → Option B) (c : A → B → Option C) (d : A → B → C → Option D) (g : A → B → C → D → Option E) (f : A → B → C → D → E → Option Y) (y : Y)
      → (a >>= λ x. b x >>= λ z. c x z >>= λ w. d x z w >>= λ v. g x z w v >>= λ u. f x z w v u) ≡ Some y
      → (x : A) × (z : B) × (w : C) × (v : D) × (u : E) × (a ≡ Some x) × (b x ≡ Some z) × (c x z ≡ Some w) × (d x z w ≡ Some v) × (g x z w v ≡ Some u) × (f x z w v u ≡ Some y)
  bind5 a b c d g f y e =
      let p = bind_some a (λ x. b x >>= λ z. c x z >>= λ w. d x z w >>= λ v. g x z w v >>= λ u. f x z w v u) y e in
      let q = bind4 (b p.0) (λ z. c p.0 z) (λ z w. d p.0 z w) (λ z w v. g p.0 z w v) (λ z w v u. f p.0 z w v u) y p.2 in
      (p.0, q.0, q.1, q.2, q.3, p.1, q.4, q.5, q.6, q.7, q.8)
