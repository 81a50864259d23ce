-- A beginning of bytes, next to other bytes.
use Rattle.std.proofs.Common.{◌≡◌, ◌∙◌, ℕ, List, [], ◌∷◌, ◌++◌, refl, sym, ap, subst, append_assoc, append-nil, take, drop}
use Rattle.std.specs.Prelude.{Option}
use Rattle.std.specs.Io.KnownBytes.{Appends}
use Rattle.std.proofs.KnownBytes.{Appends-trans}
use Rattle.std.proofs.lemmas.List.{take-append-drop}
use Rattle.reg_output.specs.Prefixes.{AppendsPrefix}

-- the first of the bytes were written
pub AppendsPrefix-take : (old new : Option (List ℕ)) (n : ℕ) (all : List ℕ) → Appends old new (take n all) → AppendsPrefix old new all
AppendsPrefix-take old new n all a = (take n all, (drop n all, take-append-drop n all), a)

-- all of the bytes were written
pub AppendsPrefix-whole : (old new : Option (List ℕ)) (all : List ℕ) → Appends old new all → AppendsPrefix old new all
AppendsPrefix-whole old new all a = (all, ([], append-nil all), a)

-- after bytes that were written in full
pub AppendsPrefix-after : (old mid new : Option (List ℕ)) (xs ys : List ℕ) → Appends old mid xs → AppendsPrefix mid new ys → AppendsPrefix old new (xs ++ ys)
AppendsPrefix-after old mid new xs ys a b =
    (xs ++ b.0, (b.1.0, append_assoc xs b.0 b.1.0 ∙ ap (λ t. xs ++ t) b.1.1), Appends-trans old mid new xs b.0 a b.2)

-- a beginning is a beginning of more bytes
pub AppendsPrefix-longer : (old new : Option (List ℕ)) (xs ys : List ℕ) → AppendsPrefix old new xs → AppendsPrefix old new (xs ++ ys)
AppendsPrefix-longer old new xs ys b = (b.0, (b.1.0 ++ ys, sym (append_assoc b.0 b.1.0 ys) ∙ ap (λ t. t ++ ys) b.1.1), b.2)

nil_front : (xs ys : List ℕ) → xs ++ ys ≡ [] → xs ≡ []
nil_front [] ys e = refl
nil_front (x ∷ xs) ys e = cc

-- nothing more was written
pub AppendsPrefix-still : (old mid new : Option (List ℕ)) (all : List ℕ) → AppendsPrefix old mid all → AppendsPrefix mid new [] → AppendsPrefix old new all
AppendsPrefix-still old mid new all b none =
    (b.0, b.1, subst (Appends old new) (ap (λ t. b.0 ++ t) (nil_front none.0 none.1.0 none.1.1) ∙ append-nil b.0) (Appends-trans old mid new b.0 none.0 b.2 none.2))
