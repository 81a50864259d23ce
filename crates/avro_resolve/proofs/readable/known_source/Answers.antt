use Rattle.std.proofs.Common.{rules, ◌≡◌, ◌<◌, ◌≤◌, ◌-◌, ◌∙◌, ℕ, List, Option, None, Some, ap, get_or, length, sym, subst, arith}
use Rattle.std.specs.Prelude.{MatchOption, slice_get}
use Rattle.std.specs.Option.{IsSomeAnd, SomeIff}
use Rattle.std.proofs.lemmas.Option.{same_Some, slice_get-get_or}
use Rattle.avro_resolve.specs.declared.readable.Aliased.{Aliased}
use Rattle.avro_resolve.specs.declared.readable.ReaderField.{ReaderField}
use Rattle.avro_resolve.specs.Asking.{source_place}
use Rattle.avro_resolve.specs.Inside.Rows.{row_fields}
use Rattle.avro_resolve.specs.Inside.Schemas.{columns, names_of}
use Rattle.avro_resolve.specs.Inside.Sources.{source_entry, Describes, IsSourceEntry, DescribesAliasedField}
use Rattle.avro_resolve.proofs.LinkLemmas.{zip_got}
use Rattle.avro_resolve.proofs.readable.known_source.Goals as goal

got : {X : Type 0} (xs : List X) (n : ℕ) (x : X) → (n < length xs) × ((d : X) → x ≡ get_or xs n d) → slice_get xs n ≡ Some x
got {X} xs n x h = slice_get-get_or xs n x h.0 ∙ ap (λ (y : X). Some y) (sym (h.1 x))

-- a source entry less 1 is the place of the source
place_told : (e : ℕ) (s m o : Option ℕ) → SomeIff s (1 ≤ e) (e - 1) → MatchOption s (m ≡ None) (λ x. IsSomeAnd m (λ y. y ≡ x)) → e ≡ source_entry o → m ≡ o
place_told e None m None lacks h eq = h
place_told e None m (Some p) lacks h eq = absurd (lacks (omega (arith, eq)))
place_told e (Some x) None o has h eq = absurd h
place_told e (Some x) (Some y) None has h eq = absurd (omega (arith, has.0, eq))
place_told e (Some x) (Some y) (Some p) has h eq = ap (λ (z : ℕ). Some z) (omega (arith, has.1, eq, h))

asked_by : {X : Type 0} (P : X → Type 0) (o : Option X) (x : X) → o ≡ Some x → IsSomeAnd o P → P x
asked_by P o x e h = subst (λ q. IsSomeAnd q P) e h

pub returns : goal.returns
returns c = λ schemas f is at.
    let row = c.args.row.now in let P = IsSourceEntry (columns schemas) (row_fields row) in let Q = DescribesAliasedField schemas.reader in let n = c.args.number in
    let same : c.in_ok-get.field-0.now ≡ c.args.field = search rules in
    let field = got row.aliased_fields.aliased.now n c.in_ok-get.field-0.now c.in_ok-get.ensures.lookup.3 ∙ ap (λ (x : Aliased). Some x) same in
    let one = got row.entries.now n c.in_ok-entry.entry.now c.in_ok-entry.ensures.lookup.3 in
    let two = got row.aliased_fields.wanted.now n c.in_ok-wanted.wanted.now c.in_ok-wanted.ensures.lookup.3 in
    let entry = zip_got P row.aliased_fields.aliased.now row.entries.now is.entries n c.args.field field in
    let wanted = zip_got Q row.aliased_fields.aliased.now row.aliased_fields.wanted.now is.wanted n c.args.field field in
    let known = (subst (Q c.args.field) (same_Some wanted.0 c.in_ok-wanted.wanted.now (sym wanted.1 ∙ two)) wanted.2).known f at in
    let source_entry = subst (P c.args.field) (same_Some entry.0 c.in_ok-entry.entry.now (sym entry.1 ∙ one)) entry.2 f at in (
      place_told c.in_ok-entry.entry.now c.checked_sub.result c.map.result (source_place (row_fields row) f) c.checked_sub.ensures c.map.ensures.cases source_entry,
      asked_by (λ (w : ReaderField). Describes (names_of schemas.reader) w f) c.in_ok-wanted.wanted.now c.in_ok-wanted-2.field-0 c.in_ok-wanted-2.was known,
    )
