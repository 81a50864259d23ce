use Rattle.std.proofs.Common.{◌≡◌, ℕ, List, Some, string_bytes, bytes_eq, slice_get, refl, ap, ◌∙◌}
use Rattle.std.proofs.Math.Path.{fun_ext}
use Rattle.std.proofs.lemmas.Map.Text.{btree_map_updates_text}
use Rattle.std.proofs.lemmas.Option.{slice_get_read}
use Rattle.std.specs.BTreeMap.{get_by_text}
use Rattle.std.specs.Map.{update}
use Rattle.avro_nodes.specs.Names.{namespace_of}
use Rattle.avro_schema.specs.Names.{Known, defined}
use Rattle.avro_schema.specs.Inside.NameTables.{without_namespace, namespace_number, known_in, KeepsNumbers}
use Rattle.avro_schema.proofs.NameTableLemmas.{one_defined}
use Rattle.avro_schema.proofs.name_table.NameTable.define.Goals as goal

pub returns-clause-defined : goal.returns-clause-defined
returns-clause-defined c =
    let t = c.number.new.self in
    let full = c.args.full.now in
    let n = c.in_ok-number.number in
    let there : namespace_number t (namespace_of full) ≡ Some n = rw c.namespace_of-space.ensures at c.in_ok-number.ensures.there in
    let was : slice_get t.tables.items n ≡ Some c.index_mut.result.now = slice_get_read t.tables.items _ n c.index_mut.result.now refl (t.below _ n there) c.index_mut.ensures.value in
    let name : string_bytes c.in_ok-name.name ≡ without_namespace (namespace_of full) full = c.in_ok-name.ensures.ok ∙ c.without_namespace.ensures ∙ ap (λ (s : List ℕ). without_namespace s full) c.namespace_of-space.ensures in
    let more : (q : List ℕ) → get_by_text c.insert.new.self q ≡ update bytes_eq (get_by_text c.index_mut.result.now) (without_namespace (namespace_of full) full) (Some c.args.place) q =
    λ q. btree_map_updates_text (string_bytes c.in_ok-name.name) c.index_mut.result.now c.insert.new.self (Some c.args.place) c.in_ok-insert.ensures.updates q
    ∙ ap (λ (s : List ℕ). update bytes_eq (get_by_text c.index_mut.result.now) s (Some c.args.place) q) name in
    let same : known_in t ≡ known_in c.args.self.now = fun_ext (λ x. c.in_ok-number.ensures.same (namespace_of x) (without_namespace (namespace_of x) x)) in
    fun_ext (one_defined (namespace_number t) t.tables.items n c.index_mut.result.now c.insert.new.self full c.args.place t.differ there was more)
    ∙ ap (λ (known : Known). defined known full c.args.place) same

pub returns-clause-kept : goal.returns-clause-kept
unfolding KeepsNumbers
returns-clause-kept c = c.in_ok-number.ensures.kept
