-- Full names and their namespaces are well formed.
use Rattle.std.proofs.Common.{◌≡◌, ℕ, List, [], ◌∷◌, ◌++◌, Bool, true, false, cond, ◌&&◌, ◌||◌, Option, Some, None, codes, bytes_eq, refl, sym, ap, subst, ◌∙◌, true≢false}
use Rattle.std.proofs.lemmas.Bool.{and_parts, or_parts, or_right}
use Rattle.std.specs.List.{list_any}
use Rattle.std.proofs.lemmas.List.Folds.{list_any-append}
use Rattle.std.proofs.lemmas.Option.{same_Some}
use Rattle.avro_nodes.specs.declared.node.PrimitiveKind.{PrimitiveKind}
use Rattle.avro_nodes.specs.declared.node.PrimitiveKind.TheVariants.{Null, Boolean, Int, Long, Float, Double, Bytes, Text}
use Rattle.avro_nodes.specs.Identity.{kind_text}
use Rattle.avro_nodes.specs.Names.{is_dot, has_dot, namespace_of}
use Rattle.avro_schema.specs.Names.{Known, is_name_start, is_name_part, is_name_sequence, is_namespace, qualified, name_in, full_name, alias_in, allowed, or_else, resolved}
use Rattle.avro_schema.specs.Keywords.{kind_of}
use Rattle.avro_schema.proofs.Dotted.{is_rest, not_start, dotted_is}
use Rattle.avro_schema.proofs.Inversion.{guard_some, differ}

-- if a disjunction is true and its right side false, its left side is true
left_alone : (a b : Bool) → (a || b) ≡ true → b ≡ false → a ≡ true
left_alone true b e f = refl
left_alone false b e f = absurd (true≢false (sym e ∙ f))

-- ---- a name in a namespace

joined_at : (dot : Bool) (c : ℕ) (cs t : List ℕ) → ((fresh : Bool) → is_rest fresh cs ≡ true → is_rest fresh (cs ++ 46 ∷ t) ≡ true)
    → cond dot (is_rest true cs) (is_name_part c && is_rest false cs) ≡ true → cond dot (is_rest true (cs ++ 46 ∷ t)) (is_name_part c && is_rest false (cs ++ 46 ∷ t)) ≡ true
joined_at true c cs t ih e = ih true e
joined_at false c cs t ih e = rw ((and_parts (is_name_part c) (is_rest false cs) e).0, ih false (and_parts (is_name_part c) (is_rest false cs) e).1) refl

rest_joined : (fresh : Bool) (s t : List ℕ) → is_rest fresh s ≡ true → is_rest true t ≡ true → is_rest fresh (s ++ 46 ∷ t) ≡ true
unfolding is_rest
rest_joined true [] t e f = absurd (true≢false (sym e))
rest_joined false [] t e f = f
rest_joined true (c ∷ cs) t e f = rw ((and_parts (is_name_start c) (is_rest false cs) e).0, rest_joined false cs t (and_parts (is_name_start c) (is_rest false cs) e).1 f) refl
rest_joined false (c ∷ cs) t e f = joined_at (is_dot c) c cs t (λ fresh h. rest_joined fresh cs t h f) e

dotted_joined : (space name : List ℕ) → is_namespace space ≡ true → is_name_sequence name ≡ true → is_name_sequence (qualified space name) ≡ true
unfolding qualified
dotted_joined [] name e f = f
dotted_joined (c ∷ space) name e f =
    dotted_is (c ∷ (space ++ 46 ∷ name)) ∙ rest_joined true (c ∷ space) name (sym (dotted_is (c ∷ space)) ∙ e) (sym (dotted_is name) ∙ f)

joined_dot : (c : ℕ) (space name : List ℕ) → has_dot (qualified (c ∷ space) name) ≡ true
unfolding has_dot qualified
joined_dot c space name = rw (list_any-append is_dot space (46 ∷ name), or_right (list_any is_dot space) true refl, or_right (is_dot c) true refl) refl

no_space : (name : List ℕ) → qualified [] name ≡ name
unfolding qualified
no_space name = refl

-- ---- the namespace of a name

abbrev Cuts : List ℕ → Type 0
Cuts cs = (fresh : Bool) → is_rest fresh cs ≡ true → list_any is_dot cs ≡ true → is_rest fresh (namespace_of cs) ≡ true

cut_at_dot : (dot : Bool) (c : ℕ) (cs : List ℕ) → Cuts cs → list_any is_dot cs ≡ true → cond dot (is_rest true cs) (is_name_part c && is_rest false cs) ≡ true
    → cond dot (is_rest true (namespace_of cs)) (is_name_part c && is_rest false (namespace_of cs)) ≡ true
cut_at_dot true c cs ih a e = ih true e a
cut_at_dot false c cs ih a e = rw ((and_parts (is_name_part c) (is_rest false cs) e).0, ih false (and_parts (is_name_part c) (is_rest false cs) e).1 a) refl

cut_at : (fresh any : Bool) (c : ℕ) (cs : List ℕ) → Cuts cs → list_any is_dot cs ≡ any → is_rest fresh (c ∷ cs) ≡ true → (is_dot c || any) ≡ true → is_rest fresh (cond any (c ∷ namespace_of cs) []) ≡ true
unfolding is_rest
cut_at true true c cs ih a e f = rw ((and_parts (is_name_start c) (is_rest false cs) e).0, ih false (and_parts (is_name_start c) (is_rest false cs) e).1 a) refl
cut_at true false c cs ih a e f = absurd (true≢false (sym (and_parts (is_name_start c) (is_rest false cs) e).0 ∙ not_start c (left_alone (is_dot c) false f refl)))
cut_at false true c cs ih a e f = cut_at_dot (is_dot c) c cs ih a e
cut_at false false c cs ih a e f = refl

cut_rest : (fresh : Bool) (s : List ℕ) → is_rest fresh s ≡ true → list_any is_dot s ≡ true → is_rest fresh (namespace_of s) ≡ true
unfolding namespace_of
cut_rest fresh [] e f = absurd (true≢false (sym f))
cut_rest fresh (c ∷ cs) e f = cut_at fresh (list_any is_dot cs) c cs (λ inner h a. cut_rest inner cs h a) refl e f

pub no_namespace : (s : List ℕ) → list_any is_dot s ≡ false → namespace_of s ≡ []
unfolding namespace_of
no_namespace [] e = refl
no_namespace (c ∷ cs) e = rw ((or_parts (is_dot c) (list_any is_dot cs) e).1) refl

space_from : (s : List ℕ) → is_rest true s ≡ true → is_namespace s ≡ true
space_from [] e = refl
space_from (c ∷ cs) e = dotted_is (c ∷ cs) ∙ e

good_by : (full : List ℕ) (any : Bool) → list_any is_dot full ≡ any → is_name_sequence full ≡ true → is_namespace (namespace_of full) ≡ true
good_by full true a e = space_from (namespace_of full) (cut_rest true full (sym (dotted_is full) ∙ e) a)
good_by full false a e = rw (no_namespace full a) refl

pub good_namespace : (full : List ℕ) → is_name_sequence full ≡ true → is_namespace (namespace_of full) ≡ true
good_namespace full e = good_by full (list_any is_dot full) refl e

-- ---- full names

name_in_good : (attribute : Option (List ℕ)) (space name full : List ℕ) → is_namespace space ≡ true → is_name_sequence name ≡ true → name_in attribute space name ≡ Some full → is_name_sequence full ≡ true
name_in_good (Some a) space name full good d e = let g = guard_some (is_namespace a) (Some (qualified a name)) full e in rw (← same_Some _ _ g.1) (dotted_joined a name g.0 d)
name_in_good None space name full good d e = rw (← same_Some _ _ e) (dotted_joined space name good d)

full_name_at : (dot : Bool) (attribute : Option (List ℕ)) (space name full : List ℕ) → is_namespace space ≡ true → is_name_sequence name ≡ true → cond dot (Some name) (name_in attribute space name) ≡ Some full → is_name_sequence full ≡ true
full_name_at true attribute space name full good d e = rw (← same_Some _ _ e) d
full_name_at false attribute space name full good d e = name_in_good attribute space name full good d e

pub good_name : (name : List ℕ) (attribute : Option (List ℕ)) (space full : List ℕ) → is_namespace space ≡ true → full_name name attribute space ≡ Some full → is_name_sequence full ≡ true
unfolding full_name
good_name name attribute space full good e =
    let g = guard_some (is_name_sequence name) (cond (has_dot name) (Some name) (name_in attribute space name)) full e in
    full_name_at (has_dot name) attribute space name full good g.0 g.1

-- a full name with a dot reads as itself, with any `namespace`
pub full_again_dot : (full : List ℕ) (attribute : Option (List ℕ)) (space : List ℕ) → is_name_sequence full ≡ true → has_dot full ≡ true → full_name full attribute space ≡ Some full
unfolding full_name
full_again_dot full attribute space d dot = rw (d, dot) refl

-- a simple name reads as itself in the null namespace
pub full_again_null : (full : List ℕ) → is_name_sequence full ≡ true → has_dot full ≡ false → full_name full None [] ≡ Some full
unfolding full_name qualified
full_again_null full d none = rw (d, none) refl

pub full_again_said : (full space : List ℕ) → is_name_sequence full ≡ true → has_dot full ≡ false → full_name full (Some []) space ≡ Some full
unfolding full_name qualified
full_again_said full space d none = rw (d, none) refl

-- ---- aliases

alias_there : (space alias : List ℕ) → is_name_sequence alias ≡ true → has_dot alias ≡ true → alias_in space alias ≡ Some alias
unfolding alias_in
alias_there space alias d dot = rw (d, dot) refl

simple_alias : (space alias name : List ℕ) → is_namespace space ≡ true → is_name_sequence alias ≡ true → has_dot alias ≡ false → qualified space alias ≡ name → alias_in space name ≡ Some name
unfolding alias_in qualified
simple_alias [] alias name good d none e = rw (← e, d, none) refl
simple_alias (c ∷ space) alias name good d none e =
    subst (λ (x : List ℕ). alias_in (c ∷ space) x ≡ Some x) e
    (alias_there (c ∷ space) (qualified (c ∷ space) alias) (dotted_joined (c ∷ space) alias good d) (joined_dot c space alias))

alias_at : (dot : Bool) (space alias name : List ℕ) → is_namespace space ≡ true → is_name_sequence alias ≡ true → has_dot alias ≡ dot → cond dot (Some alias) (Some (qualified space alias)) ≡ Some name → alias_in space name ≡ Some name
alias_at true space alias name good d dot e = subst (λ (x : List ℕ). alias_in space x ≡ Some x) (same_Some _ _ e) (alias_there space alias d dot)
alias_at false space alias name good d none e = simple_alias space alias name good d none (same_Some _ _ e)

-- the full name of an alias reads as itself
pub alias_again : (space alias name : List ℕ) → is_namespace space ≡ true → alias_in space alias ≡ Some name → alias_in space name ≡ Some name
unfolding alias_in
alias_again space alias name good e =
    let g = guard_some (is_name_sequence alias) (cond (has_dot alias) (Some alias) (Some (qualified space alias))) name e in
    alias_at (has_dot alias) space alias name good g.0 refl g.1

pub allowed_says : (test : List ℕ → Bool) (text name : List ℕ) → allowed test text ≡ Some name → (test name ≡ true) × (allowed test name ≡ Some name)
allowed_says test text name e =
    let g = guard_some (test text) (Some text) name e in
    let passes : test name ≡ true = rw (← same_Some _ _ g.1) g.0 in
    (passes, rw passes refl)

-- ---- keywords

pub kind_again : (k : PrimitiveKind) → kind_of (kind_text k) ≡ Some k
unfolding kind_of
kind_again Null = refl
kind_again Boolean = refl
kind_again Int = refl
kind_again Long = refl
kind_again Float = refl
kind_again Double = refl
kind_again Bytes = refl
kind_again Text = refl

apart : (f lit : List ℕ) → has_dot f ≡ true → has_dot lit ≡ false → bytes_eq f lit ≡ false
apart f lit dot none = differ f lit (λ (e : f ≡ lit). true≢false (sym dot ∙ ap has_dot e ∙ none))

no_kind : (f : List ℕ) → has_dot f ≡ true → kind_of f ≡ None
unfolding kind_of has_dot
no_kind f dot =
    rw (
      apart f (codes "null") dot refl,
      apart f (codes "boolean") dot refl,
      apart f (codes "int") dot refl,
      apart f (codes "long") dot refl,
      apart f (codes "float") dot refl,
      apart f (codes "double") dot refl,
      apart f (codes "bytes") dot refl,
      apart f (codes "string") dot refl,
    ) refl

-- ---- references

-- a full name that resolves to the place
pub record Refers (known : Known) (space : List ℕ) (place : ℕ) : Type 0 where
  pub full : List ℕ
  pub defined : known full ≡ Some place
  pub again : resolved known space full ≡ Some place
  pub no_kind : kind_of full ≡ None

resolved_dot : (known : Known) (space s : List ℕ) → has_dot s ≡ true → resolved known space s ≡ known s
unfolding resolved
resolved_dot known space s dot = rw dot refl

resolved_simple : (known : Known) (space s : List ℕ) → has_dot s ≡ false → resolved known space s ≡ or_else (known (qualified space s)) (known s)
unfolding resolved
resolved_simple known space s none = rw none refl

in_space : (known : Known) (space s : List ℕ) (q : ℕ) → kind_of s ≡ None → known (qualified space s) ≡ Some q → resolved known space s ≡ Some q → Refers known space q
in_space known [] s q kind found e = record { full = s; defined = ap known (sym (no_space s)) ∙ found; again = e; no_kind = kind }
in_space known (c ∷ space) s q kind found e =
    let dot = joined_dot c space s in
    record { full = qualified (c ∷ space) s; defined = found; again = resolved_dot known (c ∷ space) (qualified (c ∷ space) s) dot ∙ found; no_kind = no_kind (qualified (c ∷ space) s) dot }

simple_refers : (known : Known) (space s : List ℕ) (q : ℕ) (o : Option ℕ) → kind_of s ≡ None → known (qualified space s) ≡ o → or_else o (known s) ≡ Some q → resolved known space s ≡ Some q → Refers known space q
simple_refers known space s q (Some r) kind found chosen e = in_space known space s q kind (found ∙ chosen) e
simple_refers known space s q None kind found chosen e = record { full = s; defined = chosen; again = e; no_kind = kind }

refers_by : (known : Known) (space s : List ℕ) (q : ℕ) (dot : Bool) → has_dot s ≡ dot → kind_of s ≡ None → resolved known space s ≡ Some q → Refers known space q
refers_by known space s q true dot kind e = record { full = s; defined = sym (resolved_dot known space s dot) ∙ e; again = e; no_kind = kind }
refers_by known space s q false none kind e = simple_refers known space s q (known (qualified space s)) kind refl (sym (resolved_simple known space s none) ∙ e) e

-- if a reference resolves to a type, so does the type's full name
pub refers : (known : Known) (space s : List ℕ) (q : ℕ) → kind_of s ≡ None → resolved known space s ≡ Some q → Refers known space q
refers known space s q kind e = refers_by known space s q (has_dot s) refl kind e
