use Rattle.std.proofs.Common.{◌≡◌, ◌<◌, ℕ, List, get_or, length, map, Some, sym, ap, subst, ◌∙◌}
use Rattle.std.specs.Prelude.{slice_get}
use Rattle.std.proofs.lemmas.Option.{same_Some, slice_get-get_or}
use Rattle.avro_nodes.specs.Nodes.{FieldView, NodeView, field_view}
use Rattle.avro_resolve.specs.Inside.Agreeing.{fields_of}
use Rattle.avro_resolve.specs.Inside.Schemas.{names_of, nodes_of}
use Rattle.avro_resolve.specs.Inside.Sources.{Describes}
use Rattle.avro_resolve.proofs.LinkLemmas.{then_some}
use Rattle.avro_resolve.proofs.Sourcing.{ranked_field}
use Rattle.avro_resolve.proofs.ViewLemmas.{view_got}
use Rattle.avro_resolve.proofs.readable.reader_field_of.Goals as goal

got : {X : Type 0} (xs : List X) (n : ℕ) (x : X) → (n < length xs) × ((d : X) → x ≡ get_or xs n d) → slice_get xs n ≡ Some x
got {X} xs n x h = slice_get-get_or xs n x h.0 ∙ ap (λ (y : X). Some y) (sym (h.1 x))

pub returns : goal.returns
returns c =
    let names = names_of c.args.indexed.now in let nodes = nodes_of c.args.indexed.now in let i = c.args.aliased.index in
    let fields = c.fields-found.result.fields.now in let ranks = c.fields-found.result.ranks.now in
    let x = c.in_ok-field.field.now in let y = c.in_ok-get.field-0.now in
    let at : slice_get (map field_view fields) i ≡ Some (field_view x) = view_got field_view fields i x (got fields i x c.in_ok-field.ensures.lookup.3) in
    let is = c.reader_field.ensures names (ranked_field names (map field_view fields) ranks i (field_view x) y c.fields-found.ensures.ranked at (got ranks i y c.in_ok-get.ensures.lookup.3)) in
    record {
      some = (field_view x, is);
      known = λ f e. (
          let found = then_some (λ (a : NodeView). slice_get (fields_of a) i) (slice_get nodes c.args.aliased.place) f e in
          let same : field_view x ≡ f = same_Some (field_view x) f (sym at ∙ ap (λ fs. slice_get fs i) (c.fields-found.ensures.are found.0 found.1) ∙ found.2) in
          subst (λ (g : FieldView). Describes names c.reader_field.result g) same is);
    }
