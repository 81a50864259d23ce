use Rattle.std.proofs.Common.{◌≡◌, sym, ◌∙◌}
use Rattle.std.proofs.Math.Path.{fun_ext}
use Rattle.avro_nodes.specs.Names.{namespace_of}
use Rattle.avro_schema.specs.Names.{none_known}
use Rattle.avro_schema.specs.Inside.NameTables.{without_namespace, known_in}
use Rattle.avro_schema.proofs.BorrowedReads.{too_heavy, no_root, root_is}
use Rattle.avro_schema.proofs.ReaderErrors.{fails_from, gives_exit}
use Rattle.avro_schema.proofs.schema.nodes_of_value.Goals as goal

pub returns-then-not-names_fit : goal.returns-then-not-names_fit
returns-then-not-names_fit c = too_heavy _ (sym c.names_fit.ensures ∙ c.if-not-names_fit.true)

pub returns : goal.returns
returns c =
    let known : known_in c.number.new.self ≡ none_known = fun_ext (λ x. c.in_ok-number.ensures.same (namespace_of x) (without_namespace (namespace_of x) x)) ∙ c.none-known.ensures in
    root_is _ _ _ _ (sym c.names_fit.ensures ∙ c.if-not-names_fit.false) (rw (c.new-nodes.ensures.items, known) at c.in_ok-type_at.ensures.read)

pub returns-in_err-type_at : goal.returns-in_err-type_at
returns-in_err-type_at c =
    let known : known_in c.number.new.self ≡ none_known = fun_ext (λ x. c.in_ok-number.ensures.same (namespace_of x) (without_namespace (namespace_of x) x)) ∙ c.none-known.ensures in
    gives_exit _ _ _ _ c.from_residual-in_err-type_at.ensures.1
    (fails_from _ _ _ (no_root _ (sym c.names_fit.ensures ∙ c.if-not-names_fit.false)) (rw (c.new-nodes.ensures.items, known) at c.in_err-type_at.ensures.read))
