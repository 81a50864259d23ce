-- Members inserted among others, in any order.
use Rattle.std.proofs.Common.{◌≡◌, ℕ, List, Bool, true, false, cond, Some, None, Ordering, Less, Equal, Greater, nat_cmp, is_eq, bytes_eq, true≢false, refl, sym, ap, ◌∙◌}
use Rattle.std.specs.Cmp.Lexicographic.{slice_cmp}
use Rattle.std.specs.Ordering.{match_ordering, ordering_reverse}
use Rattle.std.proofs.lemmas.Cmp.{nat_list_cmp_total}
use Rattle.std.proofs.lemmas.Map.Text.{is_eq-slice_cmp}
use Rattle.std.proofs.lemmas.Slice.Eq.{bytes_eq-Decides}
use Rattle.serde_json.specs.Data.{Data, Members, no_members, member, put}
use Rattle.serde_json.specs.Find.{get_member}
use Rattle.avro_nodes.specs.Inside.Objects.{AllAfter, AreOrdered}
use Rattle.avro_nodes.proofs.Merged.{order, same_name}
use Rattle.avro_nodes.proofs.Written.{after_further}
use Rattle.avro_schema.specs.Attributes.{without}
use Rattle.avro_schema.proofs.Passing.{behind_without}

reversed : (k l : List ℕ) (o : Ordering) → order k l ≡ o → order l k ≡ ordering_reverse o
reversed k l o is = nat_list_cmp_total.antisymm l k ∙ ap ordering_reverse is

pub flip : (s t : List ℕ) (b : Bool) → bytes_eq s t ≡ b → bytes_eq t s ≡ b
flip s t true e = (bytes_eq-Decides t s).1 (sym ((bytes_eq-Decides s t).0 e))
flip s t false e = other (bytes_eq t s) refl where
  other : (c : Bool) → bytes_eq t s ≡ c → bytes_eq t s ≡ false
  other true f = absurd (true≢false (sym ((bytes_eq-Decides s t).1 (sym ((bytes_eq-Decides t s).0 f))) ∙ e))
  other false f = f

-- ---- two names

module _ (k l : List ℕ) (d e : Data) (below : order k l ≡ Less) where
  above : order l k ≡ Greater
  above = reversed k l Less below

  abbrev Commute : Members → Type 0
  Commute ms = put k d (put l e ms) ≡ put l e (put k d ms)

  before_at : (o : Ordering) (m : List ℕ) (f : Data) (ms : Members) → order l m ≡ o → order k m ≡ Less → Commute (member m f ms)
  before_at Less m f ms is first = rw (is, first, below, above) (rw is refl)
  before_at Equal m f ms is first = rw (is, first, above) (rw is refl)
  before_at Greater m f ms is first = rw (is, first, above) (rw is refl)

  same_at : (m : List ℕ) (f : Data) (ms : Members) → order l m ≡ Greater → order k m ≡ Equal → Commute (member m f ms)
  same_at m f ms is same = rw (is, same) (rw is refl)

  behind_at : (m : List ℕ) (f : Data) (ms : Members) → order l m ≡ Greater → order k m ≡ Greater → Commute ms → Commute (member m f ms)
  behind_at m f ms is past more = rw (is, past) (rw is (ap (member m f) more))

  -- if k comes after m, so does l
  further : (m : List ℕ) → order k m ≡ Greater → order l m ≡ Greater
  further m past = reversed m l Less (nat_list_cmp_total.trans m k l (reversed k m Greater past) below)

  commute_at : (o : Ordering) (m : List ℕ) (f : Data) (ms : Members) → order k m ≡ o → Commute ms → Commute (member m f ms)
  commute_at Less m f ms is more = before_at (order l m) m f ms refl is
  commute_at Equal m f ms is more = same_at m f ms (ap (order l) (sym (same_name k m is)) ∙ above) is
  commute_at Greater m f ms is more = behind_at m f ms (further m is) is more

  commute : (ms : Members) → Commute ms
  commute no_members = rw (below, above) refl
  commute (member m f ms) = commute_at (order k m) m f ms refl (commute ms)

apart_at : (o : Ordering) (k l : List ℕ) (d e : Data) (ms : Members) → order k l ≡ o → bytes_eq k l ≡ false → put k d (put l e ms) ≡ put l e (put k d ms)
apart_at Less k l d e ms is other = commute k l d e is ms
apart_at Equal k l d e ms is other = absurd (true≢false (sym (sym (is_eq-slice_cmp k l) ∙ ap is_eq is) ∙ other))
apart_at Greater k l d e ms is other = sym (commute l k e d (reversed k l Greater is) ms)

-- insertions of two different names commute
pub put_apart : (k l : List ℕ) (d e : Data) (ms : Members) → bytes_eq k l ≡ false → put k d (put l e ms) ≡ put l e (put k d ms)
put_apart k l d e ms other = apart_at (order k l) k l d e ms refl other

-- ---- a removed name

nothing_at : (same : Bool) (k l : List ℕ) (d : Data) (ms : Members) → bytes_eq k l ≡ same → get_member k (member l d ms) ≡ None → (get_member k ms ≡ None → without k ms ≡ ms)
    → cond same (without k ms) (member l d (without k ms)) ≡ member l d ms
nothing_at true k l d ms is none more = absurd (here (slice_cmp nat_cmp k l) (is_eq-slice_cmp k l ∙ is) none) where
  here : (o : Ordering) → is_eq o ≡ true → match_ordering o (get_member k ms) (Some d) (get_member k ms) ≡ None → ⊥
  here Less e h = true≢false (sym e)
  here Equal e h = absurd cc
  here Greater e h = true≢false (sym e)
nothing_at false k l d ms is none more = ap (member l d) (more (past (slice_cmp nat_cmp k l) none)) where
  past : (o : Ordering) → match_ordering o (get_member k ms) (Some d) (get_member k ms) ≡ None → get_member k ms ≡ None
  past Less h = h
  past Equal h = absurd cc
  past Greater h = h

pub nothing_there : (k : List ℕ) (ms : Members) → get_member k ms ≡ None → without k ms ≡ ms
nothing_there k no_members none = refl
nothing_there k (member l d ms) none = nothing_at (bytes_eq k l) k l d ms refl none (nothing_there k ms)

-- a name before all others is inserted first
put_first : (l : List ℕ) (d : Data) (ms : Members) → AllAfter l ms → put l d ms ≡ member l d ms
put_first l d no_members h = refl
put_first l d (member m e ms) h = rw (h.0) refl

aside_at : (o : Ordering) (same : Bool) (k l m : List ℕ) (d e : Data) (ms : Members) → slice_cmp nat_cmp l m ≡ o → bytes_eq k m ≡ same → bytes_eq k l ≡ false → AllAfter m ms → without k (put l d ms) ≡ put l d (without k ms)
    → without k (match_ordering o (member l d (member m e ms)) (member m d ms) (member m e (put l d ms))) ≡ put l d (cond same (without k ms) (member m e (without k ms)))
aside_at Less true k l m d e ms is here other h more = rw (other, here) (sym (put_first l d (without k ms) (behind_without l k ms (after_further l m ms is h))))
aside_at Less false k l m d e ms is here other h more = rw (other, here, is) refl
aside_at Equal true k l m d e ms is here other h more =
    let same : l ≡ m = (bytes_eq-Decides l m).0 (sym (is_eq-slice_cmp l m) ∙ ap is_eq is) in
    absurd (true≢false (sym here ∙ ap (bytes_eq k) (sym same) ∙ other))
aside_at Equal false k l m d e ms is here other h more = rw (here, is) refl
aside_at Greater true k l m d e ms is here other h more = rw here more
aside_at Greater false k l m d e ms is here other h more = rw (here, is) (ap (member m e) more)

-- insertion of another name commutes with removal of a name
pub put_aside : (k l : List ℕ) (d : Data) (ms : Members) → bytes_eq k l ≡ false → AreOrdered ms → without k (put l d ms) ≡ put l d (without k ms)
put_aside k l d no_members other h = rw other refl
put_aside k l d (member m e ms) other h = aside_at (slice_cmp nat_cmp l m) (bytes_eq k m) k l m d e ms refl refl other h.0 (put_aside k l d ms other h.1)

-- a name before all others isn't among them
none_before : (k : List ℕ) (ms : Members) → AllAfter k ms → without k ms ≡ ms
none_before k no_members h = refl
none_before k (member m e ms) h = rw (sym (is_eq-slice_cmp k m) ∙ ap is_eq h.0) (ap (member m e) (none_before k ms h.1))

again_at : (o : Ordering) (k m : List ℕ) (d e : Data) (ms : Members) → order k m ≡ o → AllAfter m ms → put k d (without k ms) ≡ put k d ms → put k d (without k (member m e ms)) ≡ put k d (member m e ms)
again_at Less k m d e ms is h more =
    rw (sym (is_eq-slice_cmp k m) ∙ ap is_eq is) (ap (λ (xs : Members). put k d (member m e xs)) (none_before k ms (after_further k m ms is h)))
again_at Equal k m d e ms is h more =
    let same : k ≡ m = same_name k m is in
    rw (sym (is_eq-slice_cmp k m) ∙ ap is_eq is, is) (ap (put k d) (ap (λ (n : List ℕ). without n ms) same ∙ none_before m ms h) ∙ ap (λ (n : List ℕ). put n d ms) same ∙ put_first m d ms h)
again_at Greater k m d e ms is h more = rw (sym (is_eq-slice_cmp k m) ∙ ap is_eq is) (rw is (ap (member m e) more))

-- removing the member first that an insertion replaces changes nothing
pub put_again : (k : List ℕ) (d : Data) (ms : Members) → AreOrdered ms → put k d (without k ms) ≡ put k d ms
put_again k d no_members h = refl
put_again k d (member m e ms) h = again_at (order k m) k m d e ms refl h.0 (put_again k d ms h.1)
