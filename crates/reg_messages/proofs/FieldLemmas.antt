-- The values of a name in a list of fields, built one field at a time.
use Rattle.std.proofs.Common.{◌≡◌, ℕ, ◌+◌, ◌<◌, Bool, true, false, List, [], ◌∷◌, ◌++◌, length, take, map, filter, get_or, refl, ap, ◌∙◌, append-nil}
use Rattle.std.specs.Prelude.{cond}
use Rattle.std.specs.Str.{str_eq_ignore_ascii_case}
use Rattle.std.proofs.lemmas.List.{map-append, take_more}
use Rattle.std.proofs.lemmas.List.Elements.{filter-append}
use Rattle.reg_messages.specs.Fields.{HeaderField, values_named}

-- the field has the name
abbrev pub is_named : List ℕ → HeaderField → Bool
is_named name p = str_eq_ignore_ascii_case p.0 name

one : (name : List ℕ) (ps : List HeaderField) (p : HeaderField) (b : Bool) → is_named name p ≡ b
    → values_named name (ps ++ p ∷ []) ≡ values_named name ps ++ map (λ (q : HeaderField). q.1) (cond b (p ∷ []) [])
unfolding values_named
one name ps p b e =
    ap (map (λ (q : HeaderField). q.1)) (filter-append (is_named name) ps (p ∷ []) ∙ ap (λ t. filter (is_named name) ps ++ cond t (p ∷ []) []) e)
    ∙ map-append (λ (q : HeaderField). q.1) (filter (is_named name) ps) (cond b (p ∷ []) [])

pub values_named-yes : (name : List ℕ) (ps : List HeaderField) (p : HeaderField) → is_named name p ≡ true
    → values_named name (ps ++ p ∷ []) ≡ values_named name ps ++ p.1 ∷ []
values_named-yes name ps p e = one name ps p true e

pub values_named-no : (name : List ℕ) (ps : List HeaderField) (p : HeaderField) → is_named name p ≡ false
    → values_named name (ps ++ p ∷ []) ≡ values_named name ps
values_named-no name ps p e = one name ps p false e ∙ append-nil (values_named name ps)

-- one more field
pub fields_more : {A : Type 0} (view : A → HeaderField) (fields : List A) (i : ℕ) (d : A) → i < length fields
    → map view (take (i + 1) fields) ≡ map view (take i fields) ++ view (get_or fields i d) ∷ []
fields_more view fields i d lt = ap (map view) (take_more fields i d lt) ∙ map-append view (take i fields) (get_or fields i d ∷ [])

pub values_named-none : (name : List ℕ) → values_named name [] ≡ []
unfolding values_named
values_named-none name = refl

pub values_named-append : (name : List ℕ) (ps qs : List HeaderField) → values_named name (ps ++ qs) ≡ values_named name ps ++ values_named name qs
unfolding values_named
values_named-append name ps qs =
    ap (map (λ (q : HeaderField). q.1)) (filter-append (is_named name) ps qs)
    ∙ map-append (λ (q : HeaderField). q.1) (filter (is_named name) ps) (filter (is_named name) qs)
