-- The names and symbols of nodes, compared by rank.
use Rattle.std.proofs.Common.{◌≡◌, ◌<◌, ℕ, List, [], Bool, Some, refl, sym, ◌∙◌, subst, inl, inr, arith}
use Rattle.std.specs.Prelude.{All, Contains, IsTrue, Option, None, MatchOption, slice_get, ◌↔◌}
use Rattle.std.specs.Option.{IsSomeAnd}
use Rattle.std.proofs.lemmas.List.Elements.{All-contains, All-nil}
use Rattle.std.proofs.lemmas.Option.{same_Some}
use Rattle.std.proofs.lemmas.Slice.Zip.{AllZip-left}
use Rattle.avro_nodes.specs.Names.{last_part}
use Rattle.avro_nodes.specs.Nodes.{FieldView, NamedView, NodeView, primitive, array, mapping, union, enumeration, fixed, rec, texts_view}
use Rattle.avro_schema.specs.declared.index.Index.{Index}
use Rattle.avro_schema.specs.declared.index.NamedRanks.{NamedRanks}
use Rattle.avro_schema.specs.declared.index.Ranks.{Ranks}
use Rattle.avro_schema.specs.declared.index.Ranks.TheVariants.{Unnamed, Fixed, Enum, Rec}
use Rattle.avro_schema.specs.Index.{AreSortedRanks, IsIndex, IsDefinitionRanked, IsRank, IsRanked, IsUnnamed}
use Rattle.avro_resolve.specs.declared.schemas.IndexedSchema.{IndexedSchema}
use Rattle.avro_resolve.specs.Resolution.{NameMatch}
use Rattle.avro_resolve.specs.Inside.Agreeing.{fields_of, named_of, named_ranks, symbols_of, symbol_ranks, DecidesNameMatch}
use Rattle.avro_resolve.specs.Inside.RankMaps.{RanksDecideNames, mapped_rank}
use Rattle.avro_resolve.specs.Inside.Places.{RefersBelow}
use Rattle.avro_resolve.specs.Inside.Schemas.{IsValidIndexedSchema, names_of, nodes_of}

-- ---- the ranks at a place

some_and : {A B : Type 0} (R : A → B → Type 0) (o : Option B) (a : A) (b : B) → o ≡ Some b → IsSomeAnd o (R a) → R a b
some_and R None a b e h = absurd h
some_and R (Some x) a b e h = subst (R a) (same_Some x b e) h

pub ranked_at : (nodes : List NodeView) (index : Index) → IsIndex nodes index → (place : ℕ) (a : NodeView) (v : Ranks) → slice_get nodes place ≡ Some a → slice_get index.ranks.items place ≡ Some v → IsRanked (texts_view index.names.items) a v
ranked_at nodes index is place a v ea ev =
    let names = texts_view index.names.items in
    let at : IsSomeAnd (slice_get index.ranks.items place) (IsRanked names a) =
    subst (λ (o : Option NodeView). MatchOption o (Unit {0}) (λ x. IsSomeAnd (slice_get index.ranks.items place) (IsRanked names x))) ea (AllZip-left (IsRanked names) nodes index.ranks.items is.ranked place) in
    some_and (IsRanked names) (slice_get index.ranks.items place) a v ev at

-- the ranks of a schema's node
pub node_ranks : (indexed : IndexedSchema) → IsValidIndexedSchema indexed → (place : ℕ) (a : NodeView) → slice_get (nodes_of indexed) place ≡ Some a → (v : Ranks) × IsRanked (names_of indexed) a v
node_ranks indexed is place a ea =
    let names = names_of indexed in
    let at : IsSomeAnd (slice_get indexed.index.now.ranks.items place) (IsRanked names a) =
    subst (λ (o : Option NodeView). MatchOption o (Unit {0}) (λ x. IsSomeAnd (slice_get indexed.index.now.ranks.items place) (IsRanked names x))) ea (AllZip-left (IsRanked names) (nodes_of indexed) indexed.index.now.ranks.items is.index.ranked place) in
    some_ranks (slice_get indexed.index.now.ranks.items place) (IsRanked names a) at
  where
    some_ranks : (o : Option Ranks) (P : Ranks → Type 0) → IsSomeAnd o P → (v : Ranks) × P v
    some_ranks None P h = absurd h
    some_ranks (Some v) P h = (v, h)

module _ (names : List (List ℕ)) where
  -- a named node has the ranks of its names
  ranked_name : (a : NodeView) (v : Ranks) → IsRanked names a v → MatchOption (named_of a) (Unit {0}) (λ n. IsSomeAnd (named_ranks v) (IsDefinitionRanked names n))
  ranked_name (primitive k x) v h = tt
  ranked_name (array p x) v h = tt
  ranked_name (mapping p x) v h = tt
  ranked_name (union ps) v h = tt
  ranked_name (enumeration n s f x) Unnamed h = absurd h
  ranked_name (enumeration n s f x) (Fixed k) h = absurd h
  ranked_name (enumeration n s f x) (Enum k t) h = h.0
  ranked_name (enumeration n s f x) (Rec k t) h = absurd h
  ranked_name (fixed n s x) Unnamed h = absurd h
  ranked_name (fixed n s x) (Fixed k) h = h
  ranked_name (fixed n s x) (Enum k t) h = absurd h
  ranked_name (fixed n s x) (Rec k t) h = absurd h
  ranked_name (rec n fs x) Unnamed h = absurd h
  ranked_name (rec n fs x) (Fixed k) h = absurd h
  ranked_name (rec n fs x) (Enum k t) h = absurd h
  ranked_name (rec n fs x) (Rec k t) h = h.0

  no_ranks : AreSortedRanks names [] []
  no_ranks = record { rise = λ k l. absurd (omega arith); each = λ k d l. absurd (omega arith); only = λ k d l. absurd (omega arith) }

  unnamed : (v : Ranks) → IsUnnamed v → AreSortedRanks names [] (symbol_ranks v)
  unnamed Unnamed h = no_ranks
  unnamed (Fixed k) h = absurd h
  unnamed (Enum k t) h = absurd h
  unnamed (Rec k t) h = absurd h

  -- the ranks of a node's symbols
  pub symbols_ranked : (a : NodeView) (v : Ranks) → IsRanked names a v → AreSortedRanks names (symbols_of a) (symbol_ranks v)
  symbols_ranked (primitive k x) v h = unnamed v h
  symbols_ranked (array p x) v h = unnamed v h
  symbols_ranked (mapping p x) v h = unnamed v h
  symbols_ranked (union ps) v h = unnamed v h
  symbols_ranked (enumeration n s f x) Unnamed h = absurd h
  symbols_ranked (enumeration n s f x) (Fixed k) h = absurd h
  symbols_ranked (enumeration n s f x) (Enum k t) h = h.1
  symbols_ranked (enumeration n s f x) (Rec k t) h = absurd h
  symbols_ranked (fixed n s x) Unnamed h = absurd h
  symbols_ranked (fixed n s x) (Fixed k) h = no_ranks
  symbols_ranked (fixed n s x) (Enum k t) h = absurd h
  symbols_ranked (fixed n s x) (Rec k t) h = absurd h
  symbols_ranked (rec n fs x) Unnamed h = absurd h
  symbols_ranked (rec n fs x) (Fixed k) h = absurd h
  symbols_ranked (rec n fs x) (Enum k t) h = absurd h
  symbols_ranked (rec n fs x) (Rec k t) h = no_ranks

-- the places of the types of a node's fields are below the number
pub fields_named : (n : ℕ) (a : NodeView) → RefersBelow n a → All (λ f. f.place < n) (fields_of a)
fields_named n (primitive k x) h = All-nil (λ (f : FieldView). f.place < n)
fields_named n (array p x) h = All-nil (λ (f : FieldView). f.place < n)
fields_named n (mapping p x) h = All-nil (λ (f : FieldView). f.place < n)
fields_named n (union ps) h = All-nil (λ (f : FieldView). f.place < n)
fields_named n (enumeration k s f x) h = All-nil (λ (f : FieldView). f.place < n)
fields_named n (fixed k s x) h = All-nil (λ (f : FieldView). f.place < n)
fields_named n (rec k fs x) h = h

-- ---- whether names match

module _ (w r : List (List ℕ)) (matched : Bool) where
  -- a test that decides a match for all names with these ranks
  abbrev pub Matches : NamedRanks → NamedRanks → Type 0
  Matches named wanted = (n m : NamedView) → IsDefinitionRanked w n named → IsDefinitionRanked r m wanted → IsTrue matched ↔ NameMatch n m

  both : (x y : Option NamedView) (k l : Option NamedRanks) (named wanted : NamedRanks) → k ≡ Some named → l ≡ Some wanted → Matches named wanted
      → MatchOption x (Unit {0}) (λ n. IsSomeAnd k (IsDefinitionRanked w n)) → MatchOption y (Unit {0}) (λ m. IsSomeAnd l (IsDefinitionRanked r m)) → MatchOption x (Unit {0}) (λ n. MatchOption y (Unit {0}) (λ m. IsTrue matched ↔ NameMatch n m))
  both None y k l named wanted e f right g h = tt
  both (Some n) None k l named wanted e f right g h = tt
  both (Some n) (Some m) k l named wanted e f right g h = right n m (some_and (IsDefinitionRanked w) k n named e g) (some_and (IsDefinitionRanked r) l m wanted f h)

  pub decides_name_match : (a b : NodeView) (v u : Ranks) → IsRanked w a v → IsRanked r b u → (named wanted : NamedRanks) → named_ranks v ≡ Some named → named_ranks u ≡ Some wanted → Matches named wanted → DecidesNameMatch matched a b
  decides_name_match a b v u g h named wanted e f right = both (named_of a) (named_of b) (named_ranks v) (named_ranks u) named wanted e f right (ranked_name w a v g) (ranked_name r b u h)

  none_left : (x y : Option NamedView) (k : Option NamedRanks) → k ≡ None → MatchOption x (Unit {0}) (λ n. IsSomeAnd k (IsDefinitionRanked w n)) → MatchOption x (Unit {0}) (λ n. MatchOption y (Unit {0}) (λ m. IsTrue matched ↔ NameMatch n m))
  none_left None y k e g = tt
  none_left (Some n) y k e g = absurd (subst (λ (o : Option NamedRanks). IsSomeAnd o (IsDefinitionRanked w n)) e g)

  none_right : (x y : Option NamedView) (l : Option NamedRanks) → l ≡ None → MatchOption y (Unit {0}) (λ m. IsSomeAnd l (IsDefinitionRanked r m)) → MatchOption x (Unit {0}) (λ n. MatchOption y (Unit {0}) (λ m. IsTrue matched ↔ NameMatch n m))
  none_right None y l e h = tt
  none_right (Some n) None l e h = tt
  none_right (Some n) (Some m) l e h = absurd (subst (λ (o : Option NamedRanks). IsSomeAnd o (IsDefinitionRanked r m)) e h)

  pub unnamed_left : (a b : NodeView) (v : Ranks) → IsRanked w a v → named_ranks v ≡ None → DecidesNameMatch matched a b
  unnamed_left a b v g e = none_left (named_of a) (named_of b) (named_ranks v) e (ranked_name w a v g)

  pub unnamed_right : (a b : NodeView) (u : Ranks) → IsRanked r b u → named_ranks u ≡ None → DecidesNameMatch matched a b
  unnamed_right a b u h e = none_right (named_of a) (named_of b) (named_ranks u) e (ranked_name r b u h)

module _ (w r : List (List ℕ)) (rank_map : List (Option ℕ)) (ranks_decide_names : RanksDecideNames w r rank_map) (n m : NamedView) (named wanted : NamedRanks) (g : IsDefinitionRanked w n named) (h : IsDefinitionRanked r m wanted) where
  pub match_last : (mapped_rank rank_map named.last ≡ Some wanted.last) ↔ (last_part n.name ≡ last_part m.name)
  match_last = ranks_decide_names named.last wanted.last (last_part n.name) (last_part m.name) g.last h.last

  from_alias : (rank : ℕ) → mapped_rank rank_map named.full ≡ Some rank → Contains wanted.aliases.items rank → Contains m.aliases n.name
  from_alias rank e own =
      let back = All-contains (λ k. (text : List ℕ) × Contains m.aliases text × IsRank r text k) wanted.aliases.items rank h.aliases.only own in
      subst (λ (x : List ℕ). Contains m.aliases x) (sym ((ranks_decide_names named.full rank n.name back.0 g.full back.2).0 e)) back.1

  to_alias : Contains m.aliases n.name → (rank : ℕ) × Contains wanted.aliases.items rank × (mapped_rank rank_map named.full ≡ Some rank)
  to_alias own =
      let there = All-contains (λ text. (k : ℕ) × Contains wanted.aliases.items k × IsRank r text k) m.aliases n.name h.aliases.each own in
      (there.0, there.1, (ranks_decide_names named.full there.0 n.name n.name g.full there.2).1 refl)

  module _ (other : (mapped_rank rank_map named.last ≡ Some wanted.last) → ⊥) where
    pub no_alias : mapped_rank rank_map named.full ≡ None → NameMatch n m → ⊥
    no_alias none (inl e) = other (match_last.1 e)
    no_alias none (inr own) = let there = to_alias own in absurd cc

    pub by_alias : (rank : ℕ) → mapped_rank rank_map named.full ≡ Some rank → Contains wanted.aliases.items rank ↔ NameMatch n m
    by_alias rank e = (
      (λ own. inr (from_alias rank e own)),
      (λ o. elim o [
        | inl p ↦ absurd (other (match_last.1 p))
        | inr own ↦ (let there = to_alias own in subst (λ (k : ℕ). Contains wanted.aliases.items k) (same_Some there.0 rank (sym there.2 ∙ e)) there.1)
      ]),
    )
