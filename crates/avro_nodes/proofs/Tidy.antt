-- Tidy values, as rewritten texts denote them. Each number is an integer, and each object has its members in byte order of their names, without repeated
-- names.
use Rattle.std.proofs.Common.{◌≡◌, ℕ, List, [], ◌∷◌, true, refl}
use Rattle.std.specs.Prelude.{IsTrue}
use Rattle.std.specs.List.{AllByRecursion}
use Rattle.serde_json.specs.Data.{Data, null, boolean, number, string, array, object, Items, no_items, item, Members, no_members, member, put}
use Rattle.avro_nodes.specs.Limits.{max_nesting}
use Rattle.avro_nodes.specs.Nodes.{NodeView}
use Rattle.avro_nodes.specs.Inside.Objects.{AllAfter, AreOrdered}
use Rattle.avro_nodes.specs.Whole.{is_whole_number, has_whole_numbers, items_have_whole_numbers, members_have_whole_numbers}
use Rattle.avro_nodes.specs.Identity.{texts, identity_value, members_pass, nodes_pass}
use Rattle.avro_nodes.proofs.Carried.{AllMembers, AllItems, OfNode, all_put, spelt_is}
use Rattle.avro_nodes.proofs.Plainness.{nodes_passing}
use Rattle.avro_nodes.proofs.Written.{ordered_put}

abbrev mutual
  pub IsTidy : Data → Type 0
  IsTidy null = Unit {0}
  IsTidy (boolean b) = Unit {0}
  IsTidy (number n) = is_whole_number n ≡ true
  IsTidy (string s) = Unit {0}
  IsTidy (array ds) = TidyItems ds
  IsTidy (object ms) = TidyMembers ms

  pub TidyItems : Items → Type 0
  TidyItems no_items = Unit {0}
  TidyItems (item d ds) = IsTidy d × TidyItems ds

  pub TidyMembers : Members → Type 0
  TidyMembers no_members = Unit {0}
  TidyMembers (member k d ms) = IsTidy d × AllAfter k ms × TidyMembers ms

abbrev pub TidyNodes : List NodeView → Type 0
TidyNodes nodes = AllByRecursion (OfNode IsTidy TidyMembers) nodes

-- ---- members

-- tidy members are in order
pub tidy_ordered : (ms : Members) → TidyMembers ms → AreOrdered ms
tidy_ordered no_members t = tt
tidy_ordered (member k d ms) t = (t.1, tidy_ordered ms t.2)

-- each tidy member has a tidy value
tidy_each : (ms : Members) → TidyMembers ms → AllMembers IsTidy ms
tidy_each no_members t = tt
tidy_each (member k d ms) t = (t.0, tidy_each ms t.2)

-- members in order with tidy values are tidy
tidy_from : (ms : Members) → AllMembers IsTidy ms → AreOrdered ms → TidyMembers ms
tidy_from no_members a o = tt
tidy_from (member k d ms) a o = (a.0, o.0, tidy_from ms a.1 o.1)

-- tidy members stay tidy when a tidy value is inserted
pub tidy_put : (k : List ℕ) (d : Data) (ms : Members) → IsTidy d → TidyMembers ms → TidyMembers (put k d ms)
tidy_put k d ms p t = tidy_from (put k d ms) (all_put IsTidy k d ms p (tidy_each ms t)) (ordered_put k d ms (tidy_ordered ms t))

-- ---- whole numbers

mutual
  -- a tidy value has only integers
  tidy_whole : (d : Data) → IsTidy d → has_whole_numbers d ≡ true
  tidy_whole null t = refl
  tidy_whole (boolean b) t = refl
  tidy_whole (number n) t = t
  tidy_whole (string s) t = refl
  tidy_whole (array ds) t = items_whole ds t
  tidy_whole (object ms) t = members_whole ms t

  items_whole : (ds : Items) → TidyItems ds → items_have_whole_numbers ds ≡ true
  items_whole no_items t = refl
  items_whole (item d ds) t = rw (tidy_whole d t.0, items_whole ds t.1) refl

  members_whole : (ms : Members) → TidyMembers ms → members_have_whole_numbers ms ≡ true
  members_whole no_members t = refl
  members_whole (member k d ms) t = rw (tidy_whole d t.0, members_whole ms t.2) refl

-- tidy members have only integers
members_pass_whole : (ms : Members) → TidyMembers ms → members_pass has_whole_numbers ms ≡ true
members_pass_whole no_members t = refl
members_pass_whole (member k d ms) t = rw (tidy_whole d t.0, members_pass_whole ms t.2) refl

-- tidy nodes have only integers
pub tidy_nodes_whole : (nodes : List NodeView) → TidyNodes nodes → IsTrue (nodes_pass has_whole_numbers nodes)
tidy_nodes_whole nodes t = nodes_passing has_whole_numbers IsTidy TidyMembers tidy_whole members_pass_whole nodes t

-- ---- the identity value

-- texts are tidy
tidy_texts : (ts : List (List ℕ)) → TidyItems (texts ts)
tidy_texts [] = tt
tidy_texts (t ∷ ts) = (tt, tidy_texts ts)

-- items are tidy if each of them is
tidy_items : (ds : Items) → AllItems IsTidy ds → TidyItems ds
tidy_items no_items h = tt
tidy_items (item d ds) h = (h.0, tidy_items ds h.1)

-- the identity value of tidy nodes is tidy
pub identity_is_tidy : (nodes : List NodeView) → TidyNodes nodes → IsTidy (identity_value nodes)
identity_is_tidy nodes t =
    spelt_is IsTidy TidyMembers (λ _ d. IsTidy d) (λ _ ms. TidyMembers ms) (λ n d h. h) (λ n ms h. h) (λ n k d ms h g. tidy_put k d ms h g) (λ n k d h. h) (λ n. tt) (λ n t. tt) (λ n ts. tidy_texts ts)
    (λ n ds h. tidy_items ds h) (λ n ms h. h) max_nesting nodes t [] 0 0
