use Rattle.std.proofs.Common.{◌≡◌, ℕ, ◌<◌, List, [], length, map, refl, ap, sym, subst, ◌∙◌}
use Rattle.std.specs.Prelude.{All}
use Rattle.std.proofs.lemmas.List.{length-map}
use Rattle.std.proofs.lemmas.Option.{same_Some}
use Rattle.std.proofs.lemmas.Slice.Zip.{AllZip-long}
use Rattle.avro_nodes.specs.declared.node.Node.{Node}
use Rattle.avro_nodes.specs.declared.node.Node.TheVariants.{Primitive, Array, Map, Union, Enum, Fixed, Rec}
use Rattle.avro_nodes.specs.Nodes.{FieldView, field_view, node_view}
use Rattle.avro_schema.specs.declared.index.Ranks.{Ranks}
use Rattle.avro_schema.specs.declared.index.Ranks.TheVariants.{Unnamed, Fixed as FixedRanks, Enum as EnumRanks, Rec as RecRanks}
use Rattle.avro_schema.specs.Index.{IsFieldRanked, IsRanked}
use Rattle.avro_resolve.specs.Inside.Agreeing.{fields_of}
use Rattle.avro_resolve.specs.Inside.Places.{RefersBelow}
use Rattle.avro_resolve.specs.Inside.Schemas.{names_of, nodes_of}
use Rattle.avro_resolve.proofs.Monotone.{at_place}
use Rattle.avro_resolve.proofs.ViewLemmas.{all_of}
use Rattle.avro_resolve.proofs.schemas.IndexedSchema.fields.Goals as goal
use Rattle.avro_resolve.proofs.schemas.IndexedSchema.fields.Goals.{in_default-via-in-Rec+in_default, in_default-via-in_default}

pub returns-in-Rec-Rec-clause-ranked : goal.returns-in-Rec-Rec-clause-ranked
returns-in-Rec-Rec-clause-ranked c =
    let ranked = (rw (c.in-Rec-Rec.is-0, c.in-Rec-Rec.is-1) at (c.ranks.ensures (node_view c.node.result.now) c.node.ensures.node)).1 in
    simp (c.deref.ensures.value, c.deref-in-Rec-Rec.ensures.value) ranked

pub returns-in-Rec-Rec-clause-long : goal.returns-in-Rec-Rec-clause-long
returns-in-Rec-Rec-clause-long c =
    let fields = c.in-Rec-Rec.fields.items in
    let ranked = (rw (c.in-Rec-Rec.is-0, c.in-Rec-Rec.is-1) at (c.ranks.ensures (node_view c.node.result.now) c.node.ensures.node)).1 in
    simp (c.deref.ensures.value, c.deref-in-Rec-Rec.ensures.value) (AllZip-long (IsFieldRanked (names_of c.args.self.now)) (map field_view fields) c.in-Rec-Rec.ranks.items ranked ∙ length-map fields field_view)

pub returns-in-Rec-Rec-clause-in_schema : goal.returns-in-Rec-Rec-clause-in_schema
returns-in-Rec-Rec-clause-in_schema c =
    let s = c.args.self.now.schema.now in let nodes = nodes_of c.args.self.now in let fields = c.in-Rec-Rec.fields.items in
    let long : length nodes ≡ length s = length-map s node_view in
    let named = rw c.in-Rec-Rec.is-0 at (at_place nodes (RefersBelow (length nodes)) c.args.place (node_view c.node.result.now) c.requires.indexed.whole c.node.ensures.node) in
    simp c.deref.ensures.value (all_of (λ (f : FieldView). f.place < length s) field_view fields (subst (λ n. All (λ (f : FieldView). f.place < n) (map field_view fields)) long named))

no_record : (n : Node) → ((x : _) (y : _) (z : _) → n ≡ Rec x y z → ⊥) → fields_of (node_view n) ≡ []
no_record (Rec k fs x) f = absurd (f k fs x refl)
no_record (Primitive k x) f = refl
no_record (Array p x) f = refl
no_record (Map p x) f = refl
no_record (Union ps) f = refl
no_record (Enum k s o x) f = refl
no_record (Fixed k s x) f = refl

no_ranks : (names : List (List ℕ)) (n : Node) (v : Ranks) → IsRanked names (node_view n) v → ((x : _) (y : _) → v ≡ RecRanks x y → ⊥) → fields_of (node_view n) ≡ []
no_ranks names (Rec k fs x) Unnamed h f = absurd h
no_ranks names (Rec k fs x) (FixedRanks y) h f = absurd h
no_ranks names (Rec k fs x) (EnumRanks y z) h f = absurd h
no_ranks names (Rec k fs x) (RecRanks y z) h f = absurd (f y z refl)
no_ranks names (Primitive k x) v h f = refl
no_ranks names (Array p x) v h f = refl
no_ranks names (Map p x) v h f = refl
no_ranks names (Union ps) v h f = refl
no_ranks names (Enum k s o x) v h f = refl
no_ranks names (Fixed k s x) v h f = refl

pub returns-in_default-clause-are : goal.returns-in_default-clause-are
returns-in_default-clause-are c = λ a at.
    let n = c.node.result.now in
    let same : node_view n ≡ a = same_Some (node_view n) a (sym c.node.ensures.node ∙ at) in
    let none : fields_of (node_view n) ≡ [] = elim c.in_default.branch [
      | in_default-via-in-Rec+in_default w ↦ no_ranks (names_of c.args.self.now) n c.ranks.result.now (c.ranks.ensures (node_view n) c.node.ensures.node) w.in_default.not-Rec-1
      | in_default-via-in_default w ↦ no_record n w.in_default.not-Rec-0
    ] in
    sym none ∙ ap fields_of same
