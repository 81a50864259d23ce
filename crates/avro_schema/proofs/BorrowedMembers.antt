-- The members of an object of the tree by name: the last member of a name counts, and removing the name removes all of them.
use Rattle.std.proofs.Common.{◌≡◌, ℕ, zero, suc, List, [], ◌∷◌, ◌++◌, map, Bool, true, false, not, cond, Option, Some, None, Bor, bytes_eq, ◌||◌, true≢false, refl, sym, ap, subst, ◌∙◌}
use Rattle.std.specs.Prelude.{slice_get, IsTrue}
use Rattle.std.specs.List.{remove, filter, list_any}
use Rattle.std.proofs.lemmas.Option.{same_Some}
use Rattle.std.proofs.lemmas.Slice.Eq.{bytes_eq-Decides}
use Rattle.serde_json.specs.Data.{Data, Members, put}
use Rattle.serde_json.specs.Find.{get_member}
use Rattle.serde_json.proofs.Views.{get_member-put, get_member-put_other}
use Rattle.avro_nodes.specs.Inside.Objects.{AreOrdered}
use Rattle.avro_nodes.proofs.Written.{ordered_put}
use Rattle.avro_schema.specs.Attributes.{without}
use Rattle.avro_schema.specs.declared.borrowed.Json.{Json}
use Rattle.avro_schema.specs.declared.keywords.Container.{Container}
use Rattle.avro_schema.specs.declared.keywords.Container.TheVariants.{Items as of_items, Values as of_values}
use Rattle.avro_schema.specs.Inside.Types.{member_name}
use Rattle.avro_schema.specs.Inside.Reserved.{is_reserved, is_reserved_name}
use Rattle.avro_schema.specs.Inside.Borrowed.{put_all, value_data}
use Rattle.avro_schema.proofs.PutLemmas.{flip, put_apart, put_aside, nothing_there}
use Rattle.avro_schema.proofs.RoundMembers.{without-put}

abbrev pub Entry : Type 0
Entry = Bor (List ℕ) × Json

abbrev pub Read : Type 0
Read = Bor (List ℕ) × Data

-- a member as data
abbrev pub read_of : List Entry → List Read
read_of xs = map (λ (m : Entry). (m.0, value_data m.1)) xs

-- the members with one more
abbrev pub with_one : Read → Members → Members
with_one m found = cond (is_reserved m.0.now) (put m.0.now m.1 found) found

pub key_reserved : (c : Container) → IsTrue (is_reserved_name (member_name c))
key_reserved of_items = refl
key_reserved of_values = refl

-- ---- lookup

-- if no item passes a test, removing those that pass changes nothing
pub all_kept : {X : Type 0} (p : X → Bool) (xs : List X) → list_any p xs ≡ false → filter (λ x. not (p x)) xs ≡ xs
all_kept p [] none = refl
all_kept {X} p (x ∷ xs) none = split (p x) refl (λ e. all_kept p xs e) where
  split : (b : Bool) → p x ≡ b → (list_any p xs ≡ false → filter (λ y. not (p y)) xs ≡ xs) → filter (λ y. not (p y)) (x ∷ xs) ≡ x ∷ xs
  split true h rest = absurd (true≢false (sym (ap (λ b. b || list_any p xs) h) ∙ none))
  split false h rest = rw h (ap (λ (ys : List X). x ∷ ys) (rest (sym (ap (λ b. b || list_any p xs) h) ∙ none)))

-- the first value, or else the second
abbrev pub later : Option Data → Option Data → Option Data
later None before = before
later (Some d) before = Some d

-- the last value of a name
abbrev pub last_in : List ℕ → List Entry → Option Data
last_in k [] = None
last_in k (m ∷ ms) = later (last_in k ms) (cond (bytes_eq m.0.now k) (Some (value_data m.1)) None)

or_nothing : (o : Option Data) → later o None ≡ o
or_nothing None = refl
or_nothing (Some d) = refl

at_member : (k l : List ℕ) (d : Data) (found : Members) (b : Bool) → bytes_eq l k ≡ b → is_reserved k ≡ true
    → get_member k (cond (is_reserved l) (put l d found) found) ≡ later (cond b (Some d) None) (get_member k found)
at_member k l d found true e r =
    let named : l ≡ k = (bytes_eq-Decides l k).0 e in
    let reserved : is_reserved l ≡ true = ap is_reserved named ∙ r in
    rw reserved (subst (λ (n : List ℕ). get_member k (put n d found) ≡ Some d) (sym named) (get_member-put k d found))
at_member k l d found false e r = other (is_reserved l) where
  other : (c : Bool) → get_member k (cond c (put l d found) found) ≡ get_member k found
  other true = get_member-put_other k l d found (λ (h : k ≡ l). true≢false (sym ((bytes_eq-Decides l k).1 (sym h)) ∙ e))
  other false = refl

later_twice : (a b c : Option Data) → later a (later b c) ≡ later (later a b) c
later_twice None b c = refl
later_twice (Some d) b c = refl

found_at : (k : List ℕ) (ms : List Entry) (found : Members) → is_reserved k ≡ true → get_member k (put_all (read_of ms) found) ≡ later (last_in k ms) (get_member k found)
found_at k [] found r = refl
found_at k (m ∷ ms) found r =
    found_at k ms (with_one (m.0, value_data m.1) found) r ∙ ap (later (last_in k ms)) (at_member k m.0.now (value_data m.1) found (bytes_eq m.0.now k) refl r)
    ∙ later_twice (last_in k ms) (cond (bytes_eq m.0.now k) (Some (value_data m.1)) None) (get_member k found)

pub members_found : (k : List ℕ) (xs : List Entry) (found : Members) → is_reserved k ≡ true → get_member k found ≡ None → get_member k (put_all (read_of xs) found) ≡ last_in k xs
members_found k xs found r none = found_at k xs found r ∙ ap (later (last_in k xs)) none ∙ or_nothing (last_in k xs)

latest : (b : Bool) (d : Data) (o p : Option Data) → later (cond b (Some d) o) p ≡ cond b (Some d) (later o p)
latest true d o p = refl
latest false d o p = refl

pub last_push : (k : List ℕ) (ms : List Entry) (m : Entry) → last_in k (ms ++ m ∷ []) ≡ cond (bytes_eq m.0.now k) (Some (value_data m.1)) (last_in k ms)
last_push k [] m = refl
last_push k (n ∷ ms) m =
    ap (λ (o : Option Data). later o (cond (bytes_eq n.0.now k) (Some (value_data n.1)) None)) (last_push k ms m) ∙ latest (bytes_eq m.0.now k) (value_data m.1) _ _

-- ---- removal

ordered_one : (c : Bool) (l : List ℕ) (d : Data) (found : Members) → AreOrdered found → AreOrdered (cond c (put l d found) found)
ordered_one true l d found o = ordered_put l d found o
ordered_one false l d found o = o

pub ordered_all : (xs : List Entry) (found : Members) → AreOrdered found → AreOrdered (put_all (read_of xs) found)
ordered_all [] found o = o
ordered_all (m ∷ xs) found o = ordered_all xs (with_one (m.0, value_data m.1) found) (ordered_one (is_reserved m.0.now) m.0.now (value_data m.1) found o)

-- the entries with other names
abbrev pub others : List ℕ → List Entry → List Entry
others k xs = filter (λ (m : Entry). not (bytes_eq m.0.now k)) xs

one_left : (c same : Bool) (k l : List ℕ) (d : Data) (found : Members) → bytes_eq l k ≡ same → AreOrdered found
    → without k (cond c (put l d found) found) ≡ cond same (without k found) (cond c (put l d (without k found)) (without k found))
one_left true true k l d found is o = without-put (k ∷ []) l d found (rw (flip l k true is) refl)
one_left false true k l d found is o = refl
one_left true false k l d found is o = put_aside k l d found (flip l k false is) o
one_left false false k l d found is o = refl

left_at : (same : Bool) (k : List ℕ) (m : Entry) (xs : List Entry) (found : Members) → bytes_eq m.0.now k ≡ same → AreOrdered found
    → put_all (read_of (others k xs)) (without k (with_one (m.0, value_data m.1) found)) ≡ without k (put_all (read_of xs) (with_one (m.0, value_data m.1) found))
    → put_all (read_of (cond (not same) (m ∷ others k xs) (others k xs))) (without k found) ≡ without k (put_all (read_of xs) (with_one (m.0, value_data m.1) found))
left_at true k m xs found is o more =
    ap (put_all (read_of (others k xs))) (sym (one_left (is_reserved m.0.now) true k m.0.now (value_data m.1) found is o)) ∙ more
left_at false k m xs found is o more =
    ap (put_all (read_of (others k xs))) (sym (one_left (is_reserved m.0.now) false k m.0.now (value_data m.1) found is o)) ∙ more

pub left : (k : List ℕ) (xs : List Entry) (found : Members) → AreOrdered found → put_all (read_of (others k xs)) (without k found) ≡ without k (put_all (read_of xs) found)
left k [] found o = refl
left k (m ∷ xs) found o =
    left_at (bytes_eq m.0.now k) k m xs found refl o (left k xs (with_one (m.0, value_data m.1) found) (ordered_one (is_reserved m.0.now) m.0.now (value_data m.1) found o))

removed_kept : (test : Entry → Bool) (xs : List Entry) (i : ℕ) (x : Entry) → slice_get xs i ≡ Some x → test x ≡ false → filter test (remove xs i) ≡ filter test xs
removed_kept test [] i x at out = absurd cc
removed_kept test (y ∷ ys) zero x at out =
    let same : y ≡ x = same_Some y x at in
    rw (same, out) refl
removed_kept test (y ∷ ys) (suc i) x at out = ap (λ (zs : List Entry). cond (test y) (y ∷ zs) zs) (removed_kept test ys i x at out)

-- removing one entry of the name first, then all of them
pub taken_out : (k : List ℕ) (xs : List Entry) (i : ℕ) (x : Entry) (found : Members) → slice_get xs i ≡ Some x → x.0.now ≡ k → get_member k found ≡ None → AreOrdered found
    → put_all (read_of (others k (remove xs i))) found ≡ without k (put_all (read_of xs) found)
taken_out k xs i x found at is none o =
    ap (λ (ys : List Entry). put_all (read_of ys) found) (removed_kept (λ (m : Entry). not (bytes_eq m.0.now k)) xs i x at (rw ((bytes_eq-Decides x.0.now k).1 is) refl))
    ∙ ap (put_all (read_of (others k xs))) (sym (nothing_there k found none)) ∙ left k xs found o

-- ---- insertion

pub pushed : (ms : List Entry) (m : Entry) (found : Members) → put_all (read_of (ms ++ m ∷ [])) found ≡ with_one (m.0, value_data m.1) (put_all (read_of ms) found)
pushed [] m found = refl
pushed (n ∷ ms) m found = pushed ms m (with_one (n.0, value_data n.1) found)

one_aside : (c : Bool) (k l : List ℕ) (d e : Data) (found : Members) → is_reserved l ≡ c → is_reserved k ≡ false → cond c (put l e (put k d found)) (put k d found) ≡ put k d (cond c (put l e found) found)
one_aside true k l d e found is r =
    let apart : bytes_eq l k ≡ false = differs (bytes_eq l k) refl in
    put_apart l k e d found apart where
      differs : (b : Bool) → bytes_eq l k ≡ b → b ≡ false
      differs true f = absurd (true≢false (sym is ∙ ap is_reserved ((bytes_eq-Decides l k).0 f) ∙ r))
      differs false f = refl
one_aside false k l d e found is r = refl

-- a name that isn't reserved
pub other_put : (ms : List Entry) (k : List ℕ) (d : Data) (found : Members) → is_reserved k ≡ false → put_all (read_of ms) (put k d found) ≡ put k d (put_all (read_of ms) found)
other_put [] k d found r = refl
other_put (m ∷ ms) k d found r =
    ap (put_all (read_of ms)) (one_aside (is_reserved m.0.now) k m.0.now d (value_data m.1) found refl r) ∙ other_put ms k d (with_one (m.0, value_data m.1) found) r

other_at : (c : Bool) (k l : List ℕ) (d : Data) (found : Members) → is_reserved l ≡ c → is_reserved k ≡ false → (get_member k (cond c (put l d found) found) ≡ get_member k found)
other_at true k l d found is r = get_member-put_other k l d found (λ (e : k ≡ l). true≢false (sym is ∙ ap is_reserved (sym e) ∙ r))
other_at false k l d found is r = refl

pub other_found : (ms : List Entry) (k : List ℕ) (found : Members) → is_reserved k ≡ false → get_member k (put_all (read_of ms) found) ≡ get_member k found
other_found [] k found r = refl
other_found (m ∷ ms) k found r = other_found ms k (with_one (m.0, value_data m.1) found) r ∙ other_at (is_reserved m.0.now) k m.0.now (value_data m.1) found refl r

left_other_at : (c : Bool) (k l : List ℕ) (d : Data) (found : Members) → is_reserved l ≡ c → is_reserved k ≡ false → AreOrdered found → cond c (put l d (without k found)) (without k found) ≡ without k (cond c (put l d found) found)
left_other_at true k l d found is r o = sym (put_aside k l d found (differs (bytes_eq k l) refl) o) where
  differs : (b : Bool) → bytes_eq k l ≡ b → b ≡ false
  differs true f = absurd (true≢false (sym is ∙ ap is_reserved (sym ((bytes_eq-Decides k l).0 f)) ∙ r))
  differs false f = refl
left_other_at false k l d found is r o = refl

pub other_left : (ms : List Entry) (k : List ℕ) (found : Members) → is_reserved k ≡ false → AreOrdered found → put_all (read_of ms) (without k found) ≡ without k (put_all (read_of ms) found)
other_left [] k found r o = refl
other_left (m ∷ ms) k found r o =
    ap (put_all (read_of ms)) (left_other_at (is_reserved m.0.now) k m.0.now (value_data m.1) found refl r o)
    ∙ other_left ms k (with_one (m.0, value_data m.1) found) r (ordered_one (is_reserved m.0.now) m.0.now (value_data m.1) found o)
