-- Simple names separated by dots, one byte at a time.
use Rattle.std.proofs.Common.{◌≡◌, ℕ, List, [], ◌∷◌, Bool, true, false, not, cond, ◌&&◌, refl, sym, ap, ◌∙◌, true≢false, inl, inr}
use Rattle.std.specs.List.{list_all, slice_split, onto_first}
use Rattle.std.proofs.lemmas.Bool.Decides.{eqb_tells}
use Rattle.avro_nodes.specs.Names.{is_dot}
use Rattle.avro_schema.specs.Names.{is_name_start, is_name_part, is_simple, is_name_sequence}

-- the remaining bytes of simple names separated by dots; `true` if a simple name begins here
unfoldable pub is_rest : Bool → List ℕ → Bool
is_rest fresh [] = not fresh
is_rest true (c ∷ cs) = is_name_start c && is_rest false cs
is_rest false (c ∷ cs) = cond (is_dot c) (is_rest true cs) (is_name_part c && is_rest false cs)

pub not_start : (c : ℕ) → is_dot c ≡ true → is_name_start c ≡ false
not_start c e = elim (eqb_tells c 46) [ inl p ↦ rw p.1 refl | inr p ↦ absurd (true≢false (sym e ∙ p.0)) ]

not_part : (c : ℕ) → is_dot c ≡ true → is_name_part c ≡ false
not_part c e = elim (eqb_tells c 46) [ inl p ↦ rw p.1 refl | inr p ↦ absurd (true≢false (sym e ∙ p.0)) ]

and_again : (a b c : Bool) → ((a && b) && c) ≡ (a && (b && c))
and_again true b c = refl
and_again false b c = refl

and_false : (a : Bool) → (a && false) ≡ false
and_false true = refl
and_false false = refl

-- ---- parts between dots; the first may be the end of a name

are_name_parts : Bool → List (List ℕ) → Bool
are_name_parts true ps = list_all is_simple ps
are_name_parts false [] = true
are_name_parts false (p ∷ ps) = list_all is_name_part p && list_all is_simple ps

begun_at : (c : ℕ) (ps : List (List ℕ)) → are_name_parts true (onto_first c ps) ≡ (is_name_start c && are_name_parts false ps)
unfolding are_name_parts is_simple
begun_at c [] = and_again (is_name_start c) true true
begun_at c (p ∷ ps) = and_again (is_name_start c) (list_all is_name_part p) (list_all is_simple ps)

gone_on_at : (c : ℕ) (ps : List (List ℕ)) → are_name_parts false (onto_first c ps) ≡ (is_name_part c && are_name_parts false ps)
unfolding are_name_parts is_simple
gone_on_at c [] = and_again (is_name_part c) true true
gone_on_at c (p ∷ ps) = and_again (is_name_part c) (list_all is_name_part p) (list_all is_simple ps)

begun : (dot : Bool) (c : ℕ) (cs : List ℕ) → is_dot c ≡ dot → is_rest false cs ≡ are_name_parts false (slice_split is_dot cs)
    → (is_name_start c && is_rest false cs) ≡ are_name_parts true (cond dot ([] ∷ slice_split is_dot cs) (onto_first c (slice_split is_dot cs)))
unfolding are_name_parts is_simple
begun true c cs e rest = rw (not_start c e) refl
begun false c cs e rest = ap (λ b. is_name_start c && b) rest ∙ sym (begun_at c (slice_split is_dot cs))

gone_on : (dot : Bool) (c : ℕ) (cs : List ℕ) → ((fresh : Bool) → is_rest fresh cs ≡ are_name_parts fresh (slice_split is_dot cs))
    → cond dot (is_rest true cs) (is_name_part c && is_rest false cs) ≡ are_name_parts false (cond dot ([] ∷ slice_split is_dot cs) (onto_first c (slice_split is_dot cs)))
unfolding are_name_parts
gone_on true c cs rest = rest true
gone_on false c cs rest = ap (λ b. is_name_part c && b) (rest false) ∙ sym (gone_on_at c (slice_split is_dot cs))

rest_is : (fresh : Bool) (cs : List ℕ) → is_rest fresh cs ≡ are_name_parts fresh (slice_split is_dot cs)
unfolding is_rest are_name_parts is_simple
rest_is true [] = refl
rest_is false [] = refl
rest_is true (c ∷ cs) = begun (is_dot c) c cs refl (rest_is false cs)
rest_is false (c ∷ cs) = gone_on (is_dot c) c cs (λ fresh. rest_is fresh cs)

-- one byte at a time
pub dotted_is : (text : List ℕ) → is_name_sequence text ≡ is_rest true text
unfolding is_name_sequence are_name_parts
dotted_is text = sym (rest_is true text)
