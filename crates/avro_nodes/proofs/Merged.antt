-- Inserting attributes in byte order of their names gives the same members as merging them.
use Rattle.std.proofs.Common.{◌≡◌, ℕ, List, [], ◌∷◌, Bool, true, ◌&&◌, Some, None, Ordering, Less, Equal, Greater, is_eq, refl, sym, ap, ◌∙◌}
use Rattle.std.specs.Ordering.{nat_cmp, is_lt}
use Rattle.std.specs.Cmp.Lexicographic.{slice_cmp}
use Rattle.std.proofs.lemmas.Cmp.{nat_list_cmp_total}
use Rattle.std.proofs.lemmas.Bool.{false≢true, and_parts}
use Rattle.std.proofs.lemmas.Map.Text.{is_eq-slice_cmp}
use Rattle.std.proofs.lemmas.Slice.Eq.{bytes_eq-Decides}
use Rattle.serde_json.specs.Data.{Data, Members, no_members, member, put}
use Rattle.avro_nodes.specs.Inside.Objects.{Attribute, put_attributes, members_before_then, rest_after, merged}

abbrev pub order : List ℕ → List ℕ → Ordering
order k l = slice_cmp nat_cmp k l

pub same_name : (k l : List ℕ) → order k l ≡ Equal → k ≡ l
same_name k l e = (bytes_eq-Decides k l).0 (sym (is_eq-slice_cmp k l) ∙ ap is_eq e)

-- ---- one attribute

put-at : (o : Ordering) (k : List ℕ) (d : Data) (l : List ℕ) (e : Data) (ms : Members) → order k l ≡ o → put k d ms ≡ members_before_then k ms (member k d (rest_after k ms))
    → put k d (member l e ms) ≡ members_before_then k (member l e ms) (member k d (rest_after k (member l e ms)))
put-at Less k d l e ms is more = rw is refl
put-at Equal k d l e ms is more = rw is (ap (λ (m : List ℕ). member m d ms) (sym (same_name k l is)))
put-at Greater k d l e ms is more = rw is (ap (member l e) more)

put-members_before_then : (k : List ℕ) (d : Data) (ms : Members) → put k d ms ≡ members_before_then k ms (member k d (rest_after k ms))
put-members_before_then k d no_members = refl
put-members_before_then k d (member l e ms) = put-at (order k l) k d l e ms refl (put-members_before_then k d ms)

-- ---- an attribute before another one

module _ (k l : List ℕ) (d : Data) (below : order k l ≡ Less) where
  -- an insertion after a name changes nothing before it
  abbrev Apart : Members → Type 0
  Apart ms = ((more : Members) → members_before_then k (put l d ms) more ≡ members_before_then k ms more) × (rest_after k (put l d ms) ≡ put l d (rest_after k ms))

  below_all : (m : List ℕ) → order l m ≡ Less → order k m ≡ Less
  below_all m e = nat_list_cmp_total.trans k l m below e

  apart_middle : (o : Ordering) (m : List ℕ) (e : Data) (ms : Members) → order k m ≡ o → order l m ≡ Greater → Apart ms → Apart (member m e ms)
  apart_middle Less m e ms is other h = (λ more. rw (other, is) refl, rw (other, is) (rw other refl))
  apart_middle Equal m e ms is other h = (λ more. rw (other, is) refl, rw (other, is) refl)
  apart_middle Greater m e ms is other h = (λ more. rw (other, is) (ap (member m e) (h.0 more)), rw (other, is) (h.1))

  apart_at : (o : Ordering) (m : List ℕ) (e : Data) (ms : Members) → order l m ≡ o → Apart ms → Apart (member m e ms)
  apart_at Less m e ms is h = let under = below_all m is in (λ more. rw (is, under, below) refl, rw (is, under, below) (rw is refl))
  apart_at Equal m e ms is h =
      let under : order k m ≡ Less = ap (order k) (sym (same_name l m is)) ∙ below in
      (λ more. rw (is, under) refl, rw (is, under) (rw is refl))
  apart_at Greater m e ms is h = apart_middle (order k m) m e ms refl is h

  pub apart : (ms : Members) → Apart ms
  apart no_members = (λ more. rw below refl, rw below refl)
  apart (member m e ms) = apart_at (order l m) m e ms refl (apart ms)

-- ---- attributes in byte order

abbrev pub all_after : List ℕ → List Attribute → Bool
all_after k [] = true
all_after k (p ∷ ps) = is_lt (slice_cmp nat_cmp k p.0) && all_after k ps

abbrev pub ascending : List Attribute → Bool
ascending [] = true
ascending (p ∷ ps) = all_after p.0 ps && ascending ps

is_less : (o : Ordering) → is_lt o ≡ true → o ≡ Less
is_less Less e = refl
is_less Equal e = absurd (false≢true e)
is_less Greater e = absurd (false≢true e)

module _ (k : List ℕ) where
  before_later : (ps : List Attribute) (others more : Members) → all_after k ps ≡ true → members_before_then k (put_attributes ps others) more ≡ members_before_then k others more
  before_later [] others more e = refl
  before_later ((l, None) ∷ ps) others more e = let h = and_parts (is_lt (order k l)) (all_after k ps) e in before_later ps others more h.1
  before_later ((l, Some d) ∷ ps) others more e =
      let h = and_parts (is_lt (order k l)) (all_after k ps) e in
      (apart k l d (is_less (order k l) h.0) (put_attributes ps others)).0 more ∙ before_later ps others more h.1

  rest_later : (ps : List Attribute) (others : Members) → all_after k ps ≡ true → rest_after k (put_attributes ps others) ≡ put_attributes ps (rest_after k others)
  rest_later [] others e = refl
  rest_later ((l, None) ∷ ps) others e = let h = and_parts (is_lt (order k l)) (all_after k ps) e in rest_later ps others h.1
  rest_later ((l, Some d) ∷ ps) others e =
      let h = and_parts (is_lt (order k l)) (all_after k ps) e in
      (apart k l d (is_less (order k l) h.0) (put_attributes ps others)).1 ∙ ap (put l d) (rest_later ps others h.1)

pub merged-put_attributes : (ps : List Attribute) (others : Members) → ascending ps ≡ true → merged ps others ≡ put_attributes ps others
merged-put_attributes [] others e = refl
merged-put_attributes ((k, None) ∷ ps) others e = merged-put_attributes ps others (and_parts (all_after k ps) (ascending ps) e).1
merged-put_attributes ((k, Some d) ∷ ps) others e =
    let h = and_parts (all_after k ps) (ascending ps) e in
    ap (λ (ms : Members). members_before_then k others (member k d ms)) (merged-put_attributes ps (rest_after k others) h.1 ∙ sym (rest_later k ps others h.0))
    ∙ sym (before_later k ps others (member k d (rest_after k (put_attributes ps others))) h.0)
    ∙ sym (put-members_before_then k d (put_attributes ps others))

-- ---- a member before the name

pub rest_next : (k l : List ℕ) (d : Data) (ms : Members) → order k l ≡ Greater → rest_after k (member l d ms) ≡ rest_after k ms
rest_next k l d ms is = rw is refl

pub before_next : (k l : List ℕ) (d : Data) (ms more : Members) → order k l ≡ Greater → members_before_then k (member l d ms) more ≡ member l d (members_before_then k ms more)
before_next k l d ms more is = rw is refl
