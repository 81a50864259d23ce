use Rattle.std.proofs.Common.{rules, ◌≡◌, ◌<◌, ℕ, List, Bool, length, refl, sym, subst, ◌∙◌}
use Rattle.std.specs.Prelude.{◌↔◌, All, IsTrue, Some, slice_get}
use Rattle.std.proofs.iter.Serving.{serving}
use Rattle.std.proofs.lemmas.List.{length-map}
use Rattle.avro_nodes.specs.Nodes.{NodeView, node_view}
use Rattle.avro_resolve.specs.Resolution.{Fits, Pairs, Supports}
use Rattle.avro_resolve.specs.declared.schemas.IndexedSchema.{IndexedSchema}
use Rattle.avro_resolve.specs.Inside.Agreeing.{Agree}
use Rattle.avro_resolve.specs.Inside.Remaining.{remains}
use Rattle.avro_resolve.specs.Inside.Places.{RefersBelow}
use Rattle.avro_resolve.specs.Inside.Schemas.{columns, nodes_of, rows, IsValidIndexedSchema}
use Rattle.avro_resolve.proofs.Agreement.{agreed_at}
use Rattle.avro_resolve.proofs.Monotone.{at_place, supports_at}
use Rattle.avro_resolve.proofs.support.supports.Goals as goal

-- the places to which a node refers are below the number of places
names_below : (indexed : IndexedSchema) → IsValidIndexedSchema indexed → (n : ℕ) → n ≡ length indexed.schema.now → (i : ℕ) (a : NodeView) → slice_get (nodes_of indexed) i ≡ Some a → RefersBelow n a
names_below indexed is n e i a at = subst (λ (m : ℕ). RefersBelow m a) (length-map indexed.schema.now node_view ∙ sym e) (at_place (nodes_of indexed) (RefersBelow (length (nodes_of indexed))) i a is.whole at)

fits_supports : (w r : List NodeView) (R : Pairs) (i j : ℕ) (a b : NodeView) → slice_get w i ≡ Some a → slice_get r j ≡ Some b → (t : Bool) → IsTrue t ↔ Fits R i j a b → IsTrue t ↔ Supports w r R i j
fits_supports w r R i j a b ea eb t told = let s = supports_at w r R i j a b ea eb in ((λ h. s.1 (told.0 h)), (λ h. told.1 (s.0 h)))

pub all-requires-clause-callable : goal.all-requires-clause-callable
all-requires-clause-callable c =
    let names : RefersBelow c.args.table.now.writers (node_view c.node.result.now) = names_below c.args.schemas.now.writer c.requires.over.both.writer c.args.table.now.writers c.requires.over.writers c.args.row.now.place (node_view c.node.result.now) c.node.ensures.node in
    let within : All (λ p. p < c.args.table.now.writers) c.in-Union-default.branches.items = rw c.in-Union-default.is-0 at names in
    grind serving

pub has-requires-clause-i_in : goal.has-requires-clause-i_in
has-requires-clause-i_in c = rw c.in-Array-Array.is-0 at (names_below c.args.schemas.now.writer c.requires.over.both.writer c.args.table.now.writers c.requires.over.writers c.args.row.now.place (node_view c.node.result.now) c.node.ensures.node)

pub has-requires-clause-j_in : goal.has-requires-clause-j_in
has-requires-clause-j_in c = rw c.in-Array-Array.is-1 at (names_below c.args.schemas.now.reader c.requires.over.both.reader c.args.table.now.readers c.requires.over.readers c.args.j (node_view c.node-2.result.now) c.node-2.ensures.node)

pub has-requires-in-Map-Map-clause-i_in : goal.has-requires-in-Map-Map-clause-i_in
has-requires-in-Map-Map-clause-i_in c = rw c.in-Map-Map.is-0 at (names_below c.args.schemas.now.writer c.requires.over.both.writer c.args.table.now.writers c.requires.over.writers c.args.row.now.place (node_view c.node.result.now) c.node.ensures.node)

pub has-requires-in-Map-Map-clause-j_in : goal.has-requires-in-Map-Map-clause-j_in
has-requires-in-Map-Map-clause-j_in c = rw c.in-Map-Map.is-1 at (names_below c.args.schemas.now.reader c.requires.over.both.reader c.args.table.now.readers c.requires.over.readers c.args.j (node_view c.node-2.result.now) c.node-2.ensures.node)

pub any_remaining-requires-clause-within : goal.any_remaining-requires-clause-within
any_remaining-requires-clause-within c =
    let names : RefersBelow c.args.table.now.readers (node_view c.node-2.result.now) = names_below c.args.schemas.now.reader c.requires.over.both.reader c.args.table.now.readers c.requires.over.readers c.args.j (node_view c.node-2.result.now) c.node-2.ensures.node in
    search rules

pub returns-in-Union-default : goal.returns-in-Union-default
returns-in-Union-default c = fits_supports (rows c.args.schemas.now) (columns c.args.schemas.now) (remains c.args.table.now) c.args.row.now.place c.args.j (node_view c.node.result.now) (node_view c.node-2.result.now) c.node.ensures.node c.node-2.ensures.node c.all.result (search rules)

pub returns-in-Array-Array : goal.returns-in-Array-Array
returns-in-Array-Array c = fits_supports (rows c.args.schemas.now) (columns c.args.schemas.now) (remains c.args.table.now) c.args.row.now.place c.args.j (node_view c.node.result.now) (node_view c.node-2.result.now) c.node.ensures.node c.node-2.ensures.node c.has.result (search rules)

pub returns-in-Map-Map : goal.returns-in-Map-Map
returns-in-Map-Map c = fits_supports (rows c.args.schemas.now) (columns c.args.schemas.now) (remains c.args.table.now) c.args.row.now.place c.args.j (node_view c.node.result.now) (node_view c.node-2.result.now) c.node.ensures.node c.node-2.ensures.node c.has-in-Map-Map.result (search rules)

pub returns-in-Rec-Rec : goal.returns-in-Rec-Rec
returns-in-Rec-Rec c =
    let a = node_view c.node.result.now in let b = node_view c.node-2.result.now in
    let mine = rw c.in-Rec-Rec.is-0 at (c.requires.over.is.are a c.node.ensures.node) in
    let told = rw c.in-Rec-Rec.is-1 at (c.all_readable.ensures b c.node-2.ensures.node) in
    let names = (rw (c.in-Rec-Rec.is-0, c.in-Rec-Rec.is-1) at ((agreed_at (rows c.args.schemas.now) (columns c.args.schemas.now) c.args.row.now.place c.args.j a b c.node.ensures.node c.node-2.ensures.node).0 c.requires.agreed)).0 in
    fits_supports (rows c.args.schemas.now) (columns c.args.schemas.now) (remains c.args.table.now) c.args.row.now.place c.args.j a b c.node.ensures.node c.node-2.ensures.node c.all_readable.result
    (rw (c.in-Rec-Rec.is-0, c.in-Rec-Rec.is-1, ← mine) ((λ h. (names, told.0 h)), (λ h. told.1 h.1)))

pub returns-in_default-Union : goal.returns-in_default-Union
returns-in_default-Union c = fits_supports (rows c.args.schemas.now) (columns c.args.schemas.now) (remains c.args.table.now) c.args.row.now.place c.args.j (node_view c.node.result.now) (node_view c.node-2.result.now) c.node.ensures.node c.node-2.ensures.node c.any_remaining.result (search rules)

pub returns-in_default-4 : goal.returns-in_default-4
returns-in_default-4 c =
    let a = node_view c.node.result.now in let b = node_view c.node-2.result.now in
    let agree : Agree a b = (agreed_at (rows c.args.schemas.now) (columns c.args.schemas.now) c.args.row.now.place c.args.j a b c.node.ensures.node c.node-2.ensures.node).0 c.requires.agreed in
    let fits : Fits (remains c.args.table.now) c.args.row.now.place c.args.j a b = search rules in
    ((λ h. (supports_at (rows c.args.schemas.now) (columns c.args.schemas.now) (remains c.args.table.now) c.args.row.now.place c.args.j a b c.node.ensures.node c.node-2.ensures.node).1 fits), (λ h. refl))
