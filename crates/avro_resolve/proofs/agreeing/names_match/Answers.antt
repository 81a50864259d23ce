use Rattle.std.proofs.Common.{◌≡◌, false, true, true≢false, refl, sym, ap, ◌∙◌, inl}
use Rattle.std.specs.Prelude.{◌↔◌, Contains, IsTrue, None, Some, option_map}
use Rattle.avro_resolve.specs.Inside.Agreeing.{named_ranks}
use Rattle.avro_resolve.specs.Inside.RankMaps.{mapped_rank}
use Rattle.avro_resolve.specs.Inside.Schemas.{names_of}
use Rattle.avro_resolve.proofs.RankMaps.{met_same, same_met, ranks_decide_names}
use Rattle.avro_resolve.proofs.Matching.{match_last, no_alias, by_alias, decides_name_match, unnamed_left, unnamed_right}
use Rattle.avro_resolve.proofs.Merges.{told_by_search}
use Rattle.avro_resolve.proofs.agreeing.names_match.Goals as goal

pub returns-in_default-2 : goal.returns-in_default-2
returns-in_default-2 c = λ a b ea eb.
    let none : named_ranks c.ranks.result.now ≡ None = sym c.named_of.ensures ∙ ap (λ o. option_map (λ n. n.now) o) c.in_default.is-0 in
    unnamed_left (names_of c.args.schemas.now.writer) (names_of c.args.schemas.now.reader) false a b c.ranks.result.now (c.ranks.ensures a ea) none

pub returns-in_default : goal.returns-in_default
returns-in_default c = λ a b ea eb.
    let none : named_ranks c.ranks-2.result.now ≡ None = sym c.named_of-2.ensures ∙ ap (λ o. option_map (λ n. n.now) o) c.in_default.is-1 in
    unnamed_right (names_of c.args.schemas.now.writer) (names_of c.args.schemas.now.reader) false a b c.ranks-2.result.now (c.ranks-2.ensures b eb) none

pub returns-then-eq : goal.returns-then-eq
returns-then-eq c = λ a b ea eb.
    let schemas = c.args.schemas.now in let w = names_of schemas.writer in let r = names_of schemas.reader in let rank_map = schemas.rank_map.ranks.items in
    let x = c.in-Some-Some.named.now in let y = c.in-Some-Some.wanted.now in
    let named : named_ranks c.ranks.result.now ≡ Some x = sym c.named_of.ensures ∙ ap (λ o. option_map (λ n. n.now) o) c.in-Some-Some.is-0 in
    let wanted : named_ranks c.ranks-2.result.now ≡ Some y = sym c.named_of-2.ensures ∙ ap (λ o. option_map (λ n. n.now) o) c.in-Some-Some.is-1 in
    let t = ranks_decide_names w r rank_map c.requires.schemas.rank_map c.requires.schemas.reader.index.names.rise in
    decides_name_match w r true a b c.ranks.result.now c.ranks-2.result.now (c.ranks.ensures a ea) (c.ranks-2.ensures b eb) x y named wanted (λ n m g h.
    ((λ _. inl ((match_last w r rank_map t n m x y g h).0 (sym c.rank.ensures ∙ met_same c.rank.result y.last (sym c.eq.ensures ∙ c.if-eq.true)))), (λ _. refl)))

pub returns-in-Some : goal.returns-in-Some
returns-in-Some c = λ a b ea eb.
    let schemas = c.args.schemas.now in let w = names_of schemas.writer in let r = names_of schemas.reader in let rank_map = schemas.rank_map.ranks.items in
    let x = c.in-Some-Some.named.now in let y = c.in-Some-Some.wanted.now in
    let named : named_ranks c.ranks.result.now ≡ Some x = sym c.named_of.ensures ∙ ap (λ o. option_map (λ n. n.now) o) c.in-Some-Some.is-0 in
    let wanted : named_ranks c.ranks-2.result.now ≡ Some y = sym c.named_of-2.ensures ∙ ap (λ o. option_map (λ n. n.now) o) c.in-Some-Some.is-1 in
    let t = ranks_decide_names w r rank_map c.requires.schemas.rank_map c.requires.schemas.reader.index.names.rise in
    let other = λ (e : mapped_rank rank_map x.last ≡ Some y.last). true≢false (sym (c.eq.ensures ∙ same_met c.rank.result y.last (c.rank.ensures ∙ e)) ∙ c.if-eq.false) in
    decides_name_match w r c.is_ok.result a b c.ranks.result.now c.ranks-2.result.now (c.ranks.ensures a ea) (c.ranks-2.ensures b eb) x y named wanted (λ n m g h.
    let by = by_alias w r rank_map t n m x y g h other c.in-Some.rank (sym c.rank-2.ensures ∙ c.in-Some.is) in
    let found = rw c.deref.ensures.value at c.binary_search.ensures.position in
    let told : IsTrue c.is_ok.result ↔ Contains y.aliases.items c.in-Some.rank = rw c.is_ok.ensures.value (told_by_search y.aliases.items c.in-Some.rank c.binary_search.result h.aliases.rise found) in
    ((λ yes. by.0 (told.0 yes)), (λ match. told.1 (by.1 match))))

pub returns-in-None : goal.returns-in-None
returns-in-None c = λ a b ea eb.
    let schemas = c.args.schemas.now in let w = names_of schemas.writer in let r = names_of schemas.reader in let rank_map = schemas.rank_map.ranks.items in
    let x = c.in-Some-Some.named.now in let y = c.in-Some-Some.wanted.now in
    let named : named_ranks c.ranks.result.now ≡ Some x = sym c.named_of.ensures ∙ ap (λ o. option_map (λ n. n.now) o) c.in-Some-Some.is-0 in
    let wanted : named_ranks c.ranks-2.result.now ≡ Some y = sym c.named_of-2.ensures ∙ ap (λ o. option_map (λ n. n.now) o) c.in-Some-Some.is-1 in
    let t = ranks_decide_names w r rank_map c.requires.schemas.rank_map c.requires.schemas.reader.index.names.rise in
    let other = λ (e : mapped_rank rank_map x.last ≡ Some y.last). true≢false (sym (c.eq.ensures ∙ same_met c.rank.result y.last (c.rank.ensures ∙ e)) ∙ c.if-eq.false) in
    decides_name_match w r false a b c.ranks.result.now c.ranks-2.result.now (c.ranks.ensures a ea) (c.ranks-2.ensures b eb) x y named wanted (λ n m g h.
    ((λ no. absurd (true≢false (sym no))), (λ match. absurd (no_alias w r rank_map t n m x y g h other (sym c.rank-2.ensures ∙ c.in-None.is) match))))
