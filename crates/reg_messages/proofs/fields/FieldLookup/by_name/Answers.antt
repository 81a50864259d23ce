use Rattle.std.proofs.Common.{◌≡◌, ℕ, ◌+◌, ◌<◌, true, false, List, [], ◌∷◌, ◌++◌, length, take, map, get_or, sym, ap, ◌∙◌, subst, append-nil}
use Rattle.std.proofs.lemmas.List.{take_all}
use Rattle.std.specs.Str.{str_eq_ignore_ascii_case}
use Rattle.httparse.specs.declared.spans.HeaderSpan.{HeaderSpan}
use Rattle.httparse.specs.Spans.{header_bytes}
use Rattle.reg_messages.specs.declared.fields.FieldLookup.{FieldLookup}
use Rattle.reg_messages.specs.Fields.{HeaderField, FindsField, values_named}
use Rattle.reg_messages.proofs.FieldLemmas.{is_named, values_named-yes, values_named-no, values_named-none, values_named-append, fields_more}
use Rattle.reg_messages.proofs.fields.FieldLookup.by_name.Goals as goal
use Rattle.reg_messages.proofs.fields.FieldLookup.by_name.Goals.{then-is_name, else-is_name}

abbrev blank : HeaderSpan
blank = record { name = record { start = 0; end = 0 }; value = record { start = 0; end = 0 } }

pub loop-field-init : goal.loop-field-init
loop-field-init c = values_named-none c.args.name.now

-- the lookup continues with the next field
more : (name : List ℕ) (view : HeaderSpan → HeaderField) (fields : List HeaderSpan) (i : ℕ) (found : FieldLookup) → i < length fields
    → FindsField (values_named name (map view (take i fields)) ++ values_named name (view (get_or fields i blank) ∷ [])) found
    → FindsField (values_named name (map view (take (i + 1) fields))) found
more name view fields i found lt h =
    subst (λ (t : List (List ℕ)). FindsField t found)
    (sym (ap (values_named name) (fields_more view fields i blank lt) ∙ values_named-append name (map view (take i fields)) (view (get_or fields i blank) ∷ []))) h

named : (name : List ℕ) (p : HeaderField) → is_named name p ≡ true → values_named name (p ∷ []) ≡ p.1 ∷ []
named name p e = values_named-yes name [] p e ∙ ap (λ t. t ++ p.1 ∷ []) (values_named-none name)

unnamed : (name : List ℕ) (p : HeaderField) → is_named name p ≡ false → values_named name (p ∷ []) ≡ []
unnamed name p e = values_named-no name [] p e ∙ values_named-none name

pub loop-field-preserved : goal.loop-field-preserved
loop-field-preserved c =
    let view = header_bytes c.args.head.now in
    let name = c.args.name.now in
    let i = c.loop-field.field-index in
    let field = get_or c.args.fields.now i blank in
    let before = values_named name (map view (take i c.args.fields.now)) in
    more name view c.args.fields.now i c.if-is_name.found c.loop-field-test.true
    (elim c.if-is_name.branch [
      | then-is_name w ↦
          let yes : is_named name (view field) ≡ true = ap (λ t. str_eq_ignore_ascii_case t name) (sym c.of.ensures) ∙ (sym c.is_name.ensures ∙ w.if-is_name.true) in
          let value = ap (λ t. before ++ t) (ap (λ t. t ∷ []) w.of-then-is_name.ensures ∙ sym (named name (view field) yes)) in
          let P : List (List ℕ) × FieldLookup → Type 0 = λ s. FindsField s.0 s.1 in
          subst P (λ j. (value j, sym w.found-is j)) (w.with_value-found.ensures before c.loop-field.invariant)
      | else-is_name w ↦
          let no : is_named name (view field) ≡ false = ap (λ t. str_eq_ignore_ascii_case t name) (sym c.of.ensures) ∙ (sym c.is_name.ensures ∙ w.if-is_name.false) in
          let value = sym (append-nil before) ∙ ap (λ t. before ++ t) (sym (unnamed name (view field) no)) in
          let P : List (List ℕ) × FieldLookup → Type 0 = λ s. FindsField s.0 s.1 in
          subst P (λ j. (value j, sym w.found-is j)) c.loop-field.invariant
    ])

pub returns : goal.returns
returns c =
    let P : List HeaderSpan → Type 0 = λ fields. FindsField (values_named c.args.name.now (map (header_bytes c.args.head.now) fields)) c.loop-field.found in
    subst P (take_all c.loop-field.field-index c.args.fields.now c.loop-field-test.false) c.loop-field.invariant
