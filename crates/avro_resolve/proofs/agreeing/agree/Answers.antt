use Rattle.std.proofs.Common.{true≢false, ℕ, List, sym, subst}
use Rattle.std.specs.List.Sorted.{IsStrictlyIncreasing}
use Rattle.std.proofs.lemmas.Option.{slice_get_within}
use Rattle.avro_nodes.specs.Nodes.{node_view}
use Rattle.avro_schema.specs.Index.{AreSortedRanks}
use Rattle.avro_resolve.specs.Inside.Agreeing.{symbol_ranks, symbols_of}
use Rattle.avro_resolve.specs.Inside.Schemas.{columns, names_of, rows}
use Rattle.avro_resolve.proofs.RankMaps.{none_known, ranks_decide}
use Rattle.avro_resolve.proofs.Matching.{node_ranks, symbols_ranked}
use Rattle.avro_resolve.proofs.agreeing.agree.Goals as goal

pub names_match-requires-clause-i_in : goal.names_match-requires-clause-i_in
names_match-requires-clause-i_in c = slice_get_within (rows c.args.schemas.now) c.args.at.0 (node_view c.args.a.now) c.requires.a_at

pub names_match-requires-clause-j_in : goal.names_match-requires-clause-j_in
names_match-requires-clause-j_in c = slice_get_within (columns c.args.schemas.now) c.args.at.1 (node_view c.args.b.now) c.requires.b_at

pub alike-requires : goal.alike-requires
alike-requires c = c.names_match.ensures (node_view c.args.a.now) (node_view c.args.b.now) c.requires.a_at c.requires.b_at

pub returns-in-Some : goal.returns-in-Some
returns-in-Some c = rw c.in-Some.is at c.alike.ensures

pub mapped_symbols-requires-clause-i_in : goal.mapped_symbols-requires-clause-i_in
mapped_symbols-requires-clause-i_in c = slice_get_within (rows c.args.schemas.now) c.args.at.0 (node_view c.args.a.now) c.requires.a_at

pub ranks-requires-clause-within : goal.ranks-requires-clause-within
ranks-requires-clause-within c = slice_get_within (columns c.args.schemas.now) c.args.at.1 (node_view c.args.b.now) c.requires.b_at

pub has_all-requires : goal.has_all-requires
has_all-requires c =
    let r = names_of c.args.schemas.now.reader in let a = node_view c.args.a.now in let b = node_view c.args.b.now in
    let own = rw c.in-Some-2.is at (c.in_ok-symbols.ensures a c.requires.a_at) in
    record {
      list = (subst (λ (xs : List ℕ). AreSortedRanks r (symbols_of b) xs) (sym c.symbols_of.ensures) (symbols_ranked r b c.ranks.result.now (c.ranks.ensures b c.requires.b_at))).rise;
      numbers = subst IsStrictlyIncreasing (sym c.deref.ensures.value) own.rise;
    }

pub returns-in-Some-2 : goal.returns-in-Some-2
returns-in-Some-2 c =
    let r = names_of c.args.schemas.now.reader in let b = node_view c.args.b.now in let a = node_view c.args.a.now in
    let same = rw c.in_default.is at c.alike.ensures in
    let known = c.symbols_of.result.now in
    let ranked = subst (λ (xs : List ℕ). AreSortedRanks r (symbols_of b) xs) (sym c.symbols_of.ensures) (symbols_ranked r b c.ranks.result.now (c.ranks.ensures b c.requires.b_at)) in
    let own = rw c.in-Some-2.is at (c.in_ok-symbols.ensures a c.requires.a_at) in
    let decided = ranks_decide r (symbols_of a) (symbols_of b) known ranked c.in-Some-2.symbols.items c.requires.schemas.reader.index.names.rise own in
    let has = rw c.deref.ensures.value at c.has_all.ensures in
    ((λ yes. same.1 (decided.0 (has.0 yes))), (λ both. has.1 (decided.1 (same.0 both))))

pub returns-in-None : goal.returns-in-None
returns-in-None c =
    let r = names_of c.args.schemas.now.reader in let b = node_view c.args.b.now in let a = node_view c.args.a.now in
    let same = rw c.in_default.is at c.alike.ensures in
    let v = node_ranks c.args.schemas.now.reader c.requires.schemas.reader c.args.at.1 b c.requires.b_at in
    let missing = rw c.in-None.is at (c.in_ok-symbols.ensures a c.requires.a_at) in
    ((λ no. absurd (true≢false (sym no))), (λ both. absurd (none_known r (symbols_of a) (symbols_of b) (symbol_ranks v.0) (symbols_ranked r b v.0 v.1) missing (same.0 both))))
