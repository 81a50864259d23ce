use Rattle.std.proofs.Common.{true≢false, ℕ, List, length, sym, subst, arith}
use Rattle.std.specs.List.Sorted.{IsStrictlyIncreasing}
use Rattle.std.proofs.lemmas.Option.{slice_get_within}
use Rattle.avro_nodes.specs.Nodes.{node_view}
use Rattle.avro_schema.specs.Index.{AreSortedRanks}
use Rattle.avro_resolve.specs.Inside.Agreeing.{symbol_ranks, symbols_of, AreNumbered}
use Rattle.avro_resolve.specs.Inside.Schemas.{columns, names_of, rows}
use Rattle.avro_resolve.proofs.Agreement.{agreed_at}
use Rattle.avro_resolve.proofs.RankMaps.{none_known, ranks_decide}
use Rattle.avro_resolve.proofs.Matching.{node_ranks, symbols_ranked}
use Rattle.avro_resolve.proofs.Numbering.{rising_below}
use Rattle.avro_resolve.proofs.agreeing.agree_at.Goals as goal

pub names_match-requires-clause-i_in : goal.names_match-requires-clause-i_in
names_match-requires-clause-i_in c = slice_get_within (rows c.args.schemas.now) c.args.i (node_view c.node-a.result.now) c.node-a.ensures.node

pub names_match-requires-clause-j_in : goal.names_match-requires-clause-j_in
names_match-requires-clause-j_in c = slice_get_within (columns c.args.schemas.now) c.args.j (node_view c.node-b.result.now) c.node-b.ensures.node

pub alike-requires : goal.alike-requires
alike-requires c = c.names_match.ensures (node_view c.node-a.result.now) (node_view c.node-b.result.now) c.node-a.ensures.node c.node-b.ensures.node

pub returns-in-Some : goal.returns-in-Some
returns-in-Some c =
    let at = agreed_at (rows c.args.schemas.now) (columns c.args.schemas.now) c.args.i c.args.j (node_view c.node-a.result.now) (node_view c.node-b.result.now) c.node-a.ensures.node c.node-b.ensures.node in
    let decided = rw c.in-Some.is at c.alike.ensures in
    ((λ yes. at.1 (decided.0 yes)), (λ h. decided.1 (at.0 h)))

pub ranks-requires-clause-within : goal.ranks-requires-clause-within
ranks-requires-clause-within c = slice_get_within (columns c.args.schemas.now) c.args.j (node_view c.node-b.result.now) c.node-b.ensures.node

pub has_numbered-requires : goal.has_numbered-requires
has_numbered-requires c =
    let r = names_of c.args.schemas.now.reader in let a = node_view c.node-a.result.now in let b = node_view c.node-b.result.now in
    let own = rw c.in-Some-symbols.is at (c.requires.symbols a c.node-a.ensures.node) in
    let ranked = subst (λ (xs : List ℕ). AreSortedRanks r (symbols_of b) xs) (sym c.symbols_of.ensures) (symbols_ranked r b c.ranks.result.now (c.ranks.ensures b c.node-b.ensures.node)) in
    record {
      list = ranked.rise;
      rise = subst IsStrictlyIncreasing (sym c.deref.ensures.value) own.rise;
      numbered = (let n = rw c.in-Some-symbols.is at c.requires.numbered in subst (λ (xs : List ℕ). AreNumbered c.args.slots.now xs 0 (length xs)) (sym c.deref.ensures.value) n);
      within = λ k d l. (let below = rising_below r (symbols_of b) c.symbols_of.result.now ranked k d l in omega (arith, below, c.requires.room));
    }

pub returns-in-Some-symbols : goal.returns-in-Some-symbols
returns-in-Some-symbols c =
    let r = names_of c.args.schemas.now.reader in let a = node_view c.node-a.result.now in let b = node_view c.node-b.result.now in
    let at = agreed_at (rows c.args.schemas.now) (columns c.args.schemas.now) c.args.i c.args.j a b c.node-a.ensures.node c.node-b.ensures.node in
    let same = rw c.in_default.is at c.alike.ensures in
    let known = c.symbols_of.result.now in
    let ranked = subst (λ (xs : List ℕ). AreSortedRanks r (symbols_of b) xs) (sym c.symbols_of.ensures) (symbols_ranked r b c.ranks.result.now (c.ranks.ensures b c.node-b.ensures.node)) in
    let own = rw c.in-Some-symbols.is at (c.requires.symbols a c.node-a.ensures.node) in
    let decided = ranks_decide r (symbols_of a) (symbols_of b) known ranked c.in-Some-symbols.symbols.items c.requires.schemas.reader.index.names.rise own in
    let has = rw c.deref.ensures.value at c.has_numbered.ensures in
    ((λ yes. at.1 (same.1 (decided.0 (has.0 yes)))), (λ h. has.1 (decided.1 (same.0 (at.0 h)))))

pub returns-in-None : goal.returns-in-None
returns-in-None c =
    let r = names_of c.args.schemas.now.reader in let a = node_view c.node-a.result.now in let b = node_view c.node-b.result.now in
    let at = agreed_at (rows c.args.schemas.now) (columns c.args.schemas.now) c.args.i c.args.j a b c.node-a.ensures.node c.node-b.ensures.node in
    let same = rw c.in_default.is at c.alike.ensures in
    let v = node_ranks c.args.schemas.now.reader c.requires.schemas.reader c.args.j b c.node-b.ensures.node in
    let missing = rw c.in-None.is at (c.requires.symbols a c.node-a.ensures.node) in
    ((λ no. absurd (true≢false (sym no))), (λ h. absurd (none_known r (symbols_of a) (symbols_of b) (symbol_ranks v.0) (symbols_ranked r b v.0 v.1) missing (same.0 (at.0 h)))))
