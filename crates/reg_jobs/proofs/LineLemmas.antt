-- Lines on standard error, written in parts.
use Rattle.std.proofs.Common.{◌≡◌, ℕ, ◌+◌, ◌<◌, Bool, true, false, not, List, [], ◌∷◌, ◌++◌, take, drop, length, get_or, refl, sym, ap, ◌∙◌, subst, append-nil}
use Rattle.std.specs.Prelude.{IsTrue, Option}
use Rattle.std.specs.List.{flat_map}
use Rattle.std.specs.Io.KnownBytes.{Appends}
use Rattle.std.proofs.KnownBytes.{Appends-nil, Appends-trans}
use Rattle.std.proofs.lemmas.List.{take-append-drop, take_more}
use Rattle.std.proofs.lemmas.List.Concat.{flat_map-append}
use Rattle.reg_output.specs.Prefixes.{AppendsPrefix}
use Rattle.reg_output.proofs.PrefixLemmas.{AppendsPrefix-after, AppendsPrefix-longer, AppendsPrefix-still, AppendsPrefix-whole}
use Rattle.reg_jobs.specs.declared.errors.ErrorWriter.{ErrorWriter}
use Rattle.reg_jobs.specs.Errors.{Puts, WritesUnlessLost}

-- more bytes, but none of them was written
AppendsPrefix-more : (old mid new : Option (List ℕ)) (xs ys : List ℕ) → AppendsPrefix old mid xs → Appends mid new [] → AppendsPrefix old new (xs ++ ys)
AppendsPrefix-more old mid new xs ys b none =
    AppendsPrefix-longer old new xs ys (AppendsPrefix-still old mid new xs b (AppendsPrefix-whole mid new [] none))

-- the bytes that a writer took, if nothing was lost before
pub WritesUnlessLost-taken : (written : Bool) (old new : Option (List ℕ)) (bytes : List ℕ) → AppendsPrefix old new bytes
    → (IsTrue written → Appends old new bytes) → WritesUnlessLost false (not written) old new bytes
WritesUnlessLost-taken true old new bytes front whole = whole refl
WritesUnlessLost-taken false old new bytes front whole = front

WritesUnlessLost-append : (l m n : Bool) (old mid new : Option (List ℕ)) (xs ys : List ℕ)
    → WritesUnlessLost l m old mid xs → WritesUnlessLost m n mid new ys → WritesUnlessLost l n old new (xs ++ ys)
WritesUnlessLost-append false false false old mid new xs ys p q = Appends-trans old mid new xs ys p q
WritesUnlessLost-append false false true old mid new xs ys p q = AppendsPrefix-after old mid new xs ys p q
WritesUnlessLost-append false true false old mid new xs ys p q = absurd q
WritesUnlessLost-append false true true old mid new xs ys p q = AppendsPrefix-more old mid new xs ys p q
WritesUnlessLost-append true false n old mid new xs ys p q = absurd p
WritesUnlessLost-append true true false old mid new xs ys p q = absurd q
WritesUnlessLost-append true true true old mid new xs ys p q = Appends-trans old mid new [] [] p q

WritesUnlessLost-none : (lost : Bool) (old : Option (List ℕ)) → WritesUnlessLost lost lost old old []
WritesUnlessLost-none false old = Appends-nil old
WritesUnlessLost-none true old = Appends-nil old

-- nothing was written yet
pub Puts-none : {E : Type 0} (contents : E → Option (List ℕ)) (a : ErrorWriter E) → Puts contents a a []
Puts-none contents a = WritesUnlessLost-none a.has_lost (contents a.writer)

-- bytes, and then more
pub Puts-append : {E : Type 0} (contents : E → Option (List ℕ)) (a b c : ErrorWriter E) (xs ys : List ℕ)
    → Puts contents a b xs → Puts contents b c ys → Puts contents a c (xs ++ ys)
Puts-append contents a b c xs ys p q =
    WritesUnlessLost-append a.has_lost b.has_lost c.has_lost (contents a.writer) (contents b.writer) (contents c.writer) xs ys p q

-- the text of a list's first items and one more
flat_map-more : {A : Type 0} (text : A → List ℕ) (items : List A) (i : ℕ) (d : A) → i < length items
    → flat_map text (take (i + 1) items) ≡ flat_map text (take i items) ++ text (get_or items i d)
flat_map-more text items i d lt =
    ap (flat_map text) (take_more items i d lt) ∙ (flat_map-append text (take i items) (get_or items i d ∷ []) ∙ ap (λ t. flat_map text (take i items) ++ t) (append-nil (text (get_or items i d))))

-- the items before one were written, and a beginning of this one
pub AppendsPrefix-item : {A : Type 0} (text : A → List ℕ) (old mid new : Option (List ℕ)) (items : List A) (i : ℕ) (d : A) → i < length items
    → Appends old mid (flat_map text (take i items)) → AppendsPrefix mid new (text (get_or items i d)) → AppendsPrefix old new (flat_map text items)
AppendsPrefix-item text old mid new items i d lt before part =
    let up = AppendsPrefix-after old mid new (flat_map text (take i items)) (text (get_or items i d)) before part in
    let longer = AppendsPrefix-longer old new (flat_map text (take i items) ++ text (get_or items i d)) (flat_map text (drop (i + 1) items)) up in
    subst (AppendsPrefix old new) (ap (λ t. t ++ flat_map text (drop (i + 1) items)) (sym (flat_map-more text items i d lt))
    ∙ sym (flat_map-append text (take (i + 1) items) (drop (i + 1) items)) ∙ ap (flat_map text) (take-append-drop (i + 1) items)) longer

-- the items before one were written, and then this one
pub Appends-item : {A : Type 0} (text : A → List ℕ) (old mid new : Option (List ℕ)) (items : List A) (i : ℕ) (d : A) → i < length items
    → Appends old mid (flat_map text (take i items)) → Appends mid new (text (get_or items i d)) → Appends old new (flat_map text (take (i + 1) items))
Appends-item text old mid new items i d lt before one =
    subst (Appends old new) (sym (flat_map-more text items i d lt)) (Appends-trans old mid new (flat_map text (take i items)) (text (get_or items i d)) before one)

-- the items before one, and then this one
pub Puts-item : {A E : Type 0} (contents : E → Option (List ℕ)) (text : A → List ℕ) (a b c : ErrorWriter E) (items : List A) (i : ℕ) (d : A) → i < length items
    → Puts contents a b (flat_map text (take i items)) → Puts contents b c (text (get_or items i d)) → Puts contents a c (flat_map text (take (i + 1) items))
Puts-item contents text a b c items i d lt p q =
    subst (Puts contents a c) (sym (flat_map-more text items i d lt)) (Puts-append contents a b c (flat_map text (take i items)) (text (get_or items i d)) p q)
