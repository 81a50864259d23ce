-- If each run that begins as a number is the text of an integer, so is each number that the lexer finds.
use Rattle.std.proofs.Common.{◌≡◌, ℕ, zero, suc, ◌-◌, ◌<◌, ◌≤◌, ◌==◌, List, [], ◌∷◌, ◌++◌, length, take, drop, Bool, true, false, ◌&&◌, ◌||◌, cond, Option, Some, None, is_some, refl, sym, ap, subst, ◌∙◌, length-append, take_at, arith}
use Rattle.std.specs.Prelude.{nat_eq}
use Rattle.std.specs.List.{list_all, starts_with}
use Rattle.std.proofs.lemmas.Bool.{true≢false, and_parts, eqb-true, ne_eqb}
use Rattle.std.proofs.lemmas.List.{take-append-drop}
use Rattle.std.specs.Cmp.Lexicographic.{same_text}
use Rattle.json.specs.Ascii as ascii
use Rattle.json.specs.Token.{Token, begin_object, end_object, begin_array, end_array, key, string, number, boolean, null, bad}
use Rattle.json.specs.Text.{content, plain}
use Rattle.json.specs.Word.{is_operator, is_space, head, ends_word, after_number, number_before, literal, word}
use Rattle.json.specs.Lex.{Lexeme, token, comma, colon, Class, quote, backslash, operator, space, class, operator_lexeme, string_token, Mode, between, in_word, in_string, in_escape, lex_byte, lex}
use Rattle.json.specs.Lex as lexer
use Rattle.json.proofs.Printed.Numbers.{in_word-ended}
use Rattle.avro_nodes.specs.Plain.{StringState, Outside, Inside, Escaped, next_state, is_number_char, pieces, begins_number}
use Rattle.avro_nodes.proofs.Runs.{no_number_next}
use Rattle.avro_nodes.proofs.Unchanged.{Stops, run_copies}
use Rattle.avro_nodes.proofs.Respelt.{IsWholeText, AllGood}
use Rattle.avro_nodes.proofs.NumberFronts.{Leaves, leaves, first_byte}

-- a number token is the text of an integer, and `more` is true of the tokens after it; nothing is required after a bad token
abbrev pub FineToken : Token → Type 0 → Type 0
FineToken begin_object more = more
FineToken end_object more = more
FineToken begin_array more = more
FineToken end_array more = more
FineToken (key s) more = more
FineToken (string s) more = more
FineToken (number s) more = IsWholeText s × more
FineToken (boolean b) more = more
FineToken null more = more
FineToken bad more = Unit {0}

-- each number before a bad token is the text of an integer
abbrev pub Fine : List Lexeme → Type 0
Fine [] = Unit {0}
Fine (token t ∷ ls) = FineToken t (Fine ls)
Fine (comma ∷ ls) = Fine ls
Fine (colon ∷ ls) = Fine ls

-- ---- bytes

-- a number character is no quote, operator or space
module _ (c : ℕ) (chars : is_number_char c ≡ true) where
  no : (k : ℕ) → is_number_char k ≡ false → (c == k) ≡ false
  no k e = ne_eqb c k (λ is. true≢false (sym chars ∙ ap is_number_char is ∙ e))

  no_operator : is_operator c ≡ false
  no_operator = rw (no 123 refl, no 125 refl, no 91 refl, no 93 refl, no 58 refl, no 44 refl) refl

  no_space : is_space c ≡ false
  no_space = rw (no 32 refl, no 9 refl, no 10 refl, no 13 refl) refl

  its_class : class c ≡ lexer.other
  its_class = rw (no 34 refl, no 92 refl, no_operator, no_space) refl

-- a byte that passes a test that no number character passes is no number character
none_of : (test : ℕ → Bool) → ((c : ℕ) → is_number_char c ≡ true → test c ≡ false) → (c : ℕ) (b : Bool) → is_number_char c ≡ b → test c ≡ true → b ≡ false
none_of test apart c true e h = absurd (true≢false (sym h ∙ apart c e))
none_of test apart c false e h = refl

-- an operator and a space are no number characters
delimits : (c : ℕ) → (is_operator c || is_space c) ≡ true → is_number_char c ≡ false
delimits c h = none_of (λ x. is_operator x || is_space x) (λ x e. rw (no_operator x e, no_space x e) refl) c (is_number_char c) refl h

-- no number character follows the end of a word
stops_word : (rest : List ℕ) → ends_word rest ≡ true → Stops rest
stops_word [] e = tt
stops_word (c ∷ cs) e = delimits c e

-- the lexer skips number characters in a word
in_word_passes : (s rest : List ℕ) → list_all is_number_char s ≡ true → lex in_word (s ++ rest) ≡ lex in_word rest
unfolding lex
in_word_passes [] rest e = refl
in_word_passes (c ∷ cs) rest e =
    let h = and_parts (is_number_char c) (list_all is_number_char cs) e in
    ap (λ k. lex_byte in_word k c (cs ++ rest) (λ m. lex m (cs ++ rest))) (its_class c h.0) ∙ in_word_passes cs rest h.1

-- ---- a word

-- the induction hypothesis for shorter texts
abbrev Onward : List ℕ → Type 0
Onward t = (rest : List ℕ) → length rest < length t → AllGood (pieces Outside rest) → Fine (lex between rest)

-- the token of a word, and the tokens after its first byte
abbrev FineWord : List ℕ → Token → Type 0
FineWord t w = FineToken w (Fine (lex in_word (drop 1 t)))

-- either of two words
fine_pick : (t : List ℕ) (b : Bool) (x y : Token) → (b ≡ true → FineWord t x) → FineWord t y → FineWord t (cond b x y)
fine_pick t true x y p q = p refl
fine_pick t false x y p q = q

-- a word that is a run of number characters is the text of an integer
number_fine : (s rest : List ℕ) → 0 < length s → list_all is_number_char s ≡ true → ends_word rest ≡ true → begins_number (s ++ rest) ≡ true → AllGood (pieces Outside (s ++ rest)) → Onward (s ++ rest)
    → FineWord (s ++ rest) (number s)
number_fine [] rest some chars ended begins good on = absurd (omega arith)
number_fine (c ∷ cs) rest some chars ended begins good on =
    let g = subst AllGood (run_copies c cs rest chars (stops_word rest ended)) good in
    let passed = in_word_passes cs rest (and_parts (is_number_char c) (list_all is_number_char cs) chars).1 ∙ in_word-ended rest ended in
    (g.0 begins, subst Fine (sym passed) (on rest (omega (arith, length-append cs rest)) g.1))

-- a word isn't empty
some_front : (t s rest : List ℕ) → t ≡ s ++ rest → ends_word t ≡ false → ends_word rest ≡ true → 0 < length s
some_front t [] rest e f g = absurd (true≢false (sym g ∙ ap ends_word (sym e) ∙ f))
some_front t (c ∷ cs) rest e f g = omega arith

-- a number, if the word is one
fine_number : (t : List ℕ) (o : Option (List ℕ)) → after_number t ≡ o → (is_some o ≡ true → begins_number t ≡ true) → Leaves t o → ends_word t ≡ false → AllGood (pieces Outside t) → Onward t → FineWord t (number_before t o)
fine_number t None e begins l unended good on = tt
fine_number t (Some rest) e begins l unended good on =
    fine_pick t (ends_word rest) (number (take (length t - length rest) t)) bad (λ ended.
    let s = l.0 in
    let size : length s ≡ length t - length rest = omega (arith, ap length l.1, length-append s rest) in
    let here : FineWord (s ++ rest) (number s) = number_fine s rest (some_front t s rest l.1 unended ended) l.2 ended (ap begins_number (sym l.1) ∙ begins refl) (subst (λ (x : List ℕ). AllGood (pieces Outside x)) l.1 good) (subst Onward l.1 on) in
    let cut : s ≡ take (length t - length rest) t = sym (ap (take (length t - length rest)) l.1 ∙ take_at s rest (length t - length rest) size) in
    subst (λ (x : List ℕ). FineWord t (number x)) cut (subst (λ (x : List ℕ). FineWord x (number s)) (sym l.1) here)) tt

-- a text that begins with a name is the name and the rest
begins_with : (name t : List ℕ) → starts_with nat_eq t name ≡ true → t ≡ name ++ drop (length name) t
begins_with name t h = sym (take-append-drop (length name) t) ∙ ap (λ (x : List ℕ). x ++ drop (length name) t) (sym (same_text name (take (length name) t) (sym h)))

-- the lexer skips a literal, and no run in it begins as a number
abbrev Passed : List ℕ → Type 0
Passed name = (rest : List ℕ) → Stops rest → (lex in_word (drop 1 (name ++ rest)) ≡ lex in_word rest) × (AllGood (pieces Outside (name ++ rest)) → AllGood (pieces Outside rest))

-- after a byte that is no number character
other_good : (c : ℕ) (cs : List ℕ) → is_number_char c ≡ false → next_state Outside c ≡ Outside → AllGood (pieces Outside (c ∷ cs)) → AllGood (pieces Outside cs)
other_good c cs e f g = subst (λ (q : StringState). AllGood (pieces q cs)) f (subst AllGood (no_number_next c cs e) g)

-- after an `e` that ends a literal
e_good : (rest : List ℕ) → Stops rest → AllGood (pieces Outside (101 ∷ rest)) → AllGood (pieces Outside rest)
e_good rest s g = (subst AllGood (run_copies 101 [] rest refl s) g).1

true_passed : Passed ascii.true_text
unfolding lex
true_passed rest s = (refl, λ g. e_good rest s (other_good 117 (101 ∷ rest) refl refl (other_good 114 (117 ∷ 101 ∷ rest) refl refl (other_good 116 (114 ∷ 117 ∷ 101 ∷ rest) refl refl g))))

false_passed : Passed ascii.false_text
unfolding lex
false_passed rest s =
    (refl, λ g. e_good rest s (other_good 115 (101 ∷ rest) refl refl (other_good 108 (115 ∷ 101 ∷ rest) refl refl (other_good 97 (108 ∷ 115 ∷ 101 ∷ rest) refl refl (other_good 102 (97 ∷ 108 ∷ 115 ∷ 101 ∷ rest) refl refl g)))))

null_passed : Passed ascii.null_text
unfolding lex
null_passed rest s = (refl, λ g. other_good 108 rest refl refl (other_good 108 (108 ∷ rest) refl refl (other_good 117 (108 ∷ 108 ∷ rest) refl refl (other_good 110 (117 ∷ 108 ∷ 108 ∷ rest) refl refl g))))

-- the tokens after a literal
literal_fine : (name t : List ℕ) → 0 < length name → Passed name → (starts_with nat_eq t name && ends_word (drop (length name) t)) ≡ true → AllGood (pieces Outside t) → Onward t → Fine (lex in_word (drop 1 t))
literal_fine name t some passed e good on =
    let h = and_parts (starts_with nat_eq t name) (ends_word (drop (length name) t)) e in
    let rest = drop (length name) t in
    let is : t ≡ name ++ rest = begins_with name t h.0 in
    let p = passed rest (stops_word rest h.1) in
    let shorter : length rest < length t = omega (arith, ap length is, length-append name rest) in
    let after = on rest shorter (p.1 (subst (λ (x : List ℕ). AllGood (pieces Outside x)) is good)) in
    subst Fine (sym (ap (λ (x : List ℕ). lex in_word (drop 1 x)) is ∙ p.0 ∙ in_word-ended rest h.1)) after

-- a literal, if the word is one
fine_literal : (name t : List ℕ) (w : Token) → 0 < length name → Passed name → (Fine (lex in_word (drop 1 t)) → FineWord t w) → AllGood (pieces Outside t) → Onward t → FineWord t (literal name w t)
fine_literal name t w some passed use_it good on = fine_pick t (starts_with nat_eq t name && ends_word (drop (length name) t)) w bad (λ e. use_it (literal_fine name t some passed e good on)) tt

-- any word
fine_word : (c : ℕ) (cs : List ℕ) → ends_word (c ∷ cs) ≡ false → AllGood (pieces Outside (c ∷ cs)) → Onward (c ∷ cs) → FineWord (c ∷ cs) (word (c ∷ cs))
unfolding word
fine_word c cs unended good on =
    let t = c ∷ cs in
    let n = number_before t (after_number t) in
    let ln = literal ascii.null_text null t in
    let lf = literal ascii.false_text (boolean false) t in
    let lt = literal ascii.true_text (boolean true) t in
    fine_pick t (head t == 116) lt (cond (head t == 102) lf (cond (head t == 110) ln n)) (λ e. fine_literal ascii.true_text t (boolean true) (omega arith) true_passed (λ x. x) good on)
    (fine_pick t (head t == 102) lf (cond (head t == 110) ln n) (λ e. fine_literal ascii.false_text t (boolean false) (omega arith) false_passed (λ x. x) good on)
    (fine_pick t (head t == 110) ln n (λ e. fine_literal ascii.null_text t null (omega arith) null_passed (λ x. x) good on)
    (fine_number t (after_number t) refl (first_byte c cs) (leaves t) unended good on)))

-- ---- a text

-- a string
fine_text : (o : Option (List ℕ)) (ls : List Lexeme) → Fine ls → Fine (token (string_token o) ∷ ls)
fine_text None ls h = tt
fine_text (Some s) ls h = h

-- either of two lexemes
mark : (b : Bool) (x y : Lexeme) (ls : List Lexeme) → Fine (x ∷ ls) → Fine (y ∷ ls) → Fine (cond b x y ∷ ls)
mark true x y ls p q = p
mark false x y ls p q = q

-- an operator
fine_mark : (c : ℕ) (ls : List Lexeme) → Fine ls → Fine (operator_lexeme c ∷ ls)
fine_mark c ls h =
    mark (c == 123) (token begin_object) _ ls h (mark (c == 125) (token end_object) _ ls h (mark (c == 91) (token begin_array) _ ls h (mark (c == 93) (token end_array) _ ls h (mark (c == 44) comma colon ls h h))))

-- the class of a byte, given the results of the tests
abbrev class_by : Bool → Bool → Bool → Bool → Class
class_by q b o s = cond q quote (cond b backslash (cond o operator (cond s space lexer.other)))

-- a byte outside the strings, before a rest that is fine
module _ (c : ℕ) (cs : List ℕ) (good : AllGood (pieces Outside (c ∷ cs))) (on : Onward (c ∷ cs)) (inside : AllGood (pieces Inside cs) → Fine (lex in_string cs)) where
  step_out : (q : StringState) → is_number_char c ≡ false → next_state Outside c ≡ q → AllGood (pieces q cs)
  step_out q e f = subst (λ (p : StringState). AllGood (pieces p cs)) f (subst AllGood (no_number_next c cs e) good)

  stays : (c == 34) ≡ false → next_state Outside c ≡ Outside
  stays e = rw e refl

  fine_byte : (q b o s : Bool) → (c == 34) ≡ q → (c == 92) ≡ b → is_operator c ≡ o → is_space c ≡ s → Fine (lex_byte between (class_by q b o s) c cs (λ m. lex m cs))
  fine_byte true b o s eq eb eo es = fine_text (content plain cs) (lex in_string cs) (inside (step_out Inside (ap is_number_char (eqb-true c 34 eq)) (rw eq refl)))
  fine_byte false true o s eq eb eo es = tt
  fine_byte false false true s eq eb eo es = fine_mark c (lex between cs) (on cs (omega arith) (step_out Outside (delimits c (rw eo refl)) (stays eq)))
  fine_byte false false false true eq eb eo es = on cs (omega arith) (step_out Outside (delimits c (rw (eo, es) refl)) (stays eq))
  fine_byte false false false false eq eb eo es = fine_word c cs (rw (eo, es) refl) good on

-- a byte inside a string, before a rest that is fine
module _ (c : ℕ) (cs : List ℕ) (good : AllGood (pieces (next_state Inside c) cs)) (outside : AllGood (pieces Outside cs) → Fine (lex between cs)) (inside : AllGood (pieces Inside cs) → Fine (lex in_string cs))
    (escaped : AllGood (pieces Escaped cs) → Fine (lex in_escape cs)) where
  into : (q : StringState) → next_state Inside c ≡ q → AllGood (pieces q cs)
  into q e = subst (λ (p : StringState). AllGood (pieces p cs)) e good

  fine_letter : (q b o s : Bool) → (c == 34) ≡ q → (c == 92) ≡ b → Fine (lex_byte in_string (class_by q b o s) c cs (λ m. lex m cs))
  fine_letter true b o s eq eb = outside (into Outside (rw eq refl))
  fine_letter false true o s eq eb = escaped (into Escaped (rw (eq, eb) refl))
  fine_letter false false true s eq eb = inside (into Inside (rw (eq, eb) refl))
  fine_letter false false false true eq eb = inside (into Inside (rw (eq, eb) refl))
  fine_letter false false false false eq eb = inside (into Inside (rw (eq, eb) refl))

-- The lexer and the pieces agree outside the strings, inside one and after a backslash; n is the induction variable.
mutual
  unfolding lex pieces

  fine_outside : (n : ℕ) (r : List ℕ) → length r ≤ n → AllGood (pieces Outside r) → Fine (lex between r)
  fine_outside n [] h g = tt
  fine_outside zero (c ∷ cs) h g = absurd (omega arith)
  fine_outside (suc n) (c ∷ cs) h g =
      fine_byte c cs g (λ rest shorter a. fine_outside n rest (omega arith) a) (λ a. fine_inside n cs (omega arith) a) (c == 34) (c == 92) (is_operator c) (is_space c) refl refl refl refl

  fine_inside : (n : ℕ) (r : List ℕ) → length r ≤ n → AllGood (pieces Inside r) → Fine (lex in_string r)
  fine_inside n [] h g = tt
  fine_inside zero (c ∷ cs) h g = absurd (omega arith)
  fine_inside (suc n) (c ∷ cs) h g =
      fine_letter c cs g (λ a. fine_outside n cs (omega arith) a) (λ a. fine_inside n cs (omega arith) a) (λ a. fine_escaped n cs (omega arith) a) (c == 34) (c == 92) (is_operator c) (is_space c) refl refl

  fine_escaped : (n : ℕ) (r : List ℕ) → length r ≤ n → AllGood (pieces Escaped r) → Fine (lex in_escape r)
  fine_escaped n [] h g = tt
  fine_escaped zero (c ∷ cs) h g = absurd (omega arith)
  fine_escaped (suc n) (c ∷ cs) h g = fine_inside n cs (omega arith) g

-- if each run is good, so is each lexeme
pub fine_lexemes : (r : List ℕ) → AllGood (pieces Outside r) → Fine (lex between r)
fine_lexemes r g = fine_outside (length r) r (omega arith) g
