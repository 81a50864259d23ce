-- A property of a value carries over to the defaults, other attributes and sizes in the nodes that it denotes.
use Rattle.std.proofs.Common.{◌≡◌, ℕ, ◌<◌, ◌≤◌, ◌^◌, List, [], ◌∷◌, ◌++◌, Bool, true, false, cond, Option, Some, None, codes, bytes_eq, Ordering, Less, Equal, Greater, nat_cmp, refl, ap, subst, ◌∙◌, arith}
use Rattle.std.specs.Prelude.{nat_lt, IfSome}
use Rattle.std.specs.List.{AllByRecursion}
use Rattle.std.proofs.lemmas.Bool.{ltb-true, lt-ltb}
use Rattle.std.proofs.lemmas.Option.{same_Some}
use Rattle.std.specs.Cmp.Lexicographic.{slice_cmp}
use Rattle.std.specs.Ordering.{match_ordering}
use Rattle.serde_json.specs.Data.{Data, string, number, unsigned, negative, float, Items, no_items, item, Members, no_members, member, depth, members_depth}
use Rattle.serde_json.specs.Data as json
use Rattle.serde_json.specs.Find.{get_member, as_array, as_number, as_u64}
use Rattle.avro_nodes.specs.Limits.{max_nesting}
use Rattle.avro_nodes.specs.Nodes.{FieldView, NodeView}
use Rattle.avro_nodes.specs.Inside.Objects.{AllAfter}
use Rattle.avro_nodes.proofs.Carried.{AllItems, OfField, OfNode}
use Rattle.avro_nodes.proofs.Shallow.{IsShallow, AreShallow, ShallowNodes}
use Rattle.avro_nodes.proofs.Tidy.{IsTidy, TidyItems, TidyMembers, TidyNodes}
use Rattle.avro_schema.specs.Names.{Known}
use Rattle.avro_schema.specs.Attributes.{◌>>=◌, without, without_all, array_in, size_of}
use Rattle.avro_schema.specs.Kinds.{BranchKind}
use Rattle.avro_schema.specs.Denotes.{IsExtra, IsField, Denotes, a_primitive, a_reference, primitive_type, reference_type, array_type, map_type, fixed_type, enum_type, record_type, union_type}
use Rattle.avro_schema.specs.Denotes.{Branches, no_branch, branch, Fields, no_field, field}
use Rattle.avro_schema.proofs.Inversion.{bind_some, guard_some}

-- a property of all elements of two lists is one of all elements of their concatenation
all_append : {A : Type 0} (P : A → Type 0) (xs ys : List A) → AllByRecursion P xs → AllByRecursion P ys → AllByRecursion P (xs ++ ys)
all_append P [] ys h g = g
all_append P (x ∷ xs) ys h g = (h.0, all_append P xs ys h.1 g)

-- a size is below 2^31
size_below : (o : Option Data) (size : ℕ) → size_of o ≡ Some size → size < 2 ^ 31
unfolding size_of
size_below o size e =
    let n = bind_some (o >>= as_number >>= as_u64) (λ n. cond (nat_lt n (2 ^ 31)) (Some n) None) size e in
    let g = guard_some (nat_lt n.0 (2 ^ 31)) (Some n.0) size n.2 in
    subst (λ (x : ℕ). x < 2 ^ 31) (same_Some _ _ g.1) (ltb-true n.0 (2 ^ 31) g.0)

-- `as_array` returns the items of an array only
as_array_is : (d : Data) (items : Items) → as_array d ≡ Some items → d ≡ json.array items
as_array_is (json.array ds) items e = ap json.array (same_Some _ _ e)
as_array_is json.null items e = absurd cc
as_array_is (json.boolean b) items e = absurd cc
as_array_is (json.number x) items e = absurd cc
as_array_is (string s) items e = absurd cc
as_array_is (json.object ms) items e = absurd cc

-- an attribute that is an array
array_there : (k : List ℕ) (ms : Members) (items : Items) → array_in k ms ≡ Some items → get_member k ms ≡ Some (json.array items)
unfolding array_in
array_there k ms items e = let p = bind_some (get_member k ms) as_array items e in p.1 ∙ ap (λ (d : Data). Some d) (as_array_is p.0 items p.2)

-- P is a property of values, E of defaults and sizes, and F of other attributes
module _ (P : Data → Type 0) (E : Data → Type 0) (F : Members → Type 0) (of_member : (ms : Members) (k : List ℕ) (d : Data) → P (json.object ms) → get_member k ms ≡ Some d → P d) (of_items : (ds : Items) → P (json.array ds) → AllItems P ds)
    (of_others : (keys : List (List ℕ)) (ms extra : Members) → P (json.object ms) → IsExtra keys ms extra → F extra) (of_value : (d : Data) → P d → depth d ≤ max_nesting → E d) (of_size : (n : ℕ) → n < 2 ^ 31 → E (number (unsigned n)))
    (of_nothing : F no_members) where
  -- an optional default
  value_is : (ms : Members) (o : Option Data) → P (json.object ms) → get_member (codes "default") ms ≡ o → ((d : Data) → o ≡ Some d → depth d ≤ max_nesting) → IfSome o E
  value_is ms None p e h = tt
  value_is ms (Some d) p e h = of_value d (of_member ms (codes "default") d p e) (h d refl)

  -- a field
  field_is : (ms : Members) (f : FieldView) → P (json.object ms) → IsField ms f → OfField E F f
  field_is ms f p i = (value_is ms f.value p i.value i.shallow, of_others _ ms f.extra p i.others)

  mutual
    -- so the nodes that the value denotes have these properties
    pub nodes_are : {n : ℕ} {space : List ℕ} {d : Data} {known known2 : Known} {first place : ℕ} {nodes : List NodeView} → Denotes n space d known first place nodes known2 → P d → AllByRecursion (OfNode E F) nodes
    nodes_are (a_primitive e h) p = (of_nothing, tt)
    nodes_are (a_reference e f) p = tt
    nodes_are (primitive_type {ms = ms} {extra = extra} s o h) p = (of_others _ ms extra p o, tt)
    nodes_are (reference_type e w o f) p = tt
    nodes_are (array_type {ms = ms} {extra = extra} {items = items} s i o h inner) p = (of_others _ ms extra p o, nodes_are inner (of_member ms (codes "items") items p i))
    nodes_are (map_type {ms = ms} {extra = extra} {values = values} s i o h inner) p = (of_others _ ms extra p o, nodes_are inner (of_member ms (codes "values") values p i))
    nodes_are (fixed_type {ms = ms} {extra = extra} {size = size} s n z o h) p = ((of_size size (size_below (get_member (codes "size") ms) size z), of_others _ ms extra p o), tt)
    nodes_are (enum_type {ms = ms} {extra = extra} s n e o h) p = (of_others _ ms extra p o, tt)
    nodes_are (record_type {ms = ms} {extra = extra} {items = items} s n i o h fs d) p =
        let inner = fields_are fs (of_items items (of_member ms (codes "fields") (json.array items) p (array_there (codes "fields") ms items i))) in
        ((inner.0, of_others _ ms extra p o), inner.1)
    nodes_are (union_type {items = items} h bs d) p = (tt, branches_are bs (of_items items p))

    branches_are : {n : ℕ} {space : List ℕ} {ds : Items} {known known2 : Known} {first : ℕ} {branches : List (ℕ × BranchKind)} {nodes : List NodeView} → Branches n space ds known first branches nodes known2 → AllItems P ds
        → AllByRecursion (OfNode E F) nodes
    branches_are no_branch p = tt
    branches_are (branch {nodes = nodes} {more = more} d k rest) p = all_append (OfNode E F) nodes more (nodes_are d p.0) (branches_are rest p.1)

    fields_are : {n : ℕ} {space : List ℕ} {ds : Items} {known known2 : Known} {first : ℕ} {fields : List FieldView} {nodes : List NodeView} → Fields n space ds known first fields nodes known2 → AllItems P ds
        → AllByRecursion (OfField E F) fields × AllByRecursion (OfNode E F) nodes
    fields_are no_field p = (tt, tt)
    fields_are (field {ms = ms} {type = type} {f = f} {nodes = nodes} {more = more} i t d rest) p =
        let others = fields_are rest p.1 in
        ((field_is ms f p.0 i, others.0), all_append (OfNode E F) nodes more (nodes_are d (of_member ms (codes "type") type p.0 t)) others.1)

-- ---- nesting

any_items : (ds : Items) → AllItems (λ _. Unit {0}) ds
any_items no_items = tt
any_items (item d ds) = (tt, any_items ds)

-- defaults and other attributes nest within the limit for types
pub denoted_nest : {n : ℕ} {space : List ℕ} {d : Data} {known known2 : Known} {first place : ℕ} {nodes : List NodeView} → Denotes n space d known first place nodes known2 → ShallowNodes nodes
denoted_nest t =
    nodes_are (λ _. Unit {0}) IsShallow AreShallow (λ ms k d p e. tt) (λ ds p. any_items ds) (λ keys ms extra p o. o.shallow) (λ d p h. h) (λ n h. omega arith) (omega arith) t tt

-- ---- tidy values

-- the first member, or one found after it
tidy_value_at : (o : Ordering) (d e : Data) (rest : Option Data) → IsTidy e → ((x : Data) → rest ≡ Some x → IsTidy x) → match_ordering o rest (Some e) rest ≡ Some d → IsTidy d
tidy_value_at Less d e rest h later is = later d is
tidy_value_at Equal d e rest h later is = subst IsTidy (same_Some _ _ is) h
tidy_value_at Greater d e rest h later is = later d is

-- each value of tidy members is tidy
tidy_member : (ms : Members) (k : List ℕ) (d : Data) → TidyMembers ms → get_member k ms ≡ Some d → IsTidy d
tidy_member no_members k d t e = absurd cc
tidy_member (member l x ms) k d t e = tidy_value_at (slice_cmp nat_cmp k l) d x (get_member k ms) t.0 (λ y is. tidy_member ms k y t.2 is) e

-- each of tidy items is tidy
each_tidy : (ds : Items) → TidyItems ds → AllItems IsTidy ds
each_tidy no_items t = tt
each_tidy (item d ds) t = (t.0, each_tidy ds t.1)

-- a name before all members is still before them if one is removed
behind_at : (same : Bool) (j l : List ℕ) (d : Data) (rest : Members) → slice_cmp nat_cmp j l ≡ Less → AllAfter j rest → AllAfter j (cond same rest (member l d rest))
behind_at true j l d rest below h = h
behind_at false j l d rest below h = (below, h)

-- the same if all members with a name are removed
pub behind_without : (j k : List ℕ) (ms : Members) → AllAfter j ms → AllAfter j (without k ms)
behind_without j k no_members h = tt
behind_without j k (member l d ms) h = behind_at (bytes_eq k l) j l d (without k ms) h.0 (behind_without j k ms h.1)

-- a first member, kept or removed
tidy_at : (same : Bool) (l : List ℕ) (d : Data) (rest : Members) → IsTidy d → AllAfter l rest → TidyMembers rest → TidyMembers (cond same rest (member l d rest))
tidy_at true l d rest p h t = t
tidy_at false l d rest p h t = (p, h, t)

-- tidy members stay tidy after those with a name are removed
tidy_without : (k : List ℕ) (ms : Members) → TidyMembers ms → TidyMembers (without k ms)
tidy_without k no_members t = tt
tidy_without k (member l d ms) t = tidy_at (bytes_eq k l) l d (without k ms) t.0 (behind_without l k ms t.1) (tidy_without k ms t.2)

-- the same for several names
tidy_without_all : (ks : List (List ℕ)) (ms : Members) → TidyMembers ms → TidyMembers (without_all ks ms)
tidy_without_all [] ms t = t
tidy_without_all (k ∷ ks) ms t = tidy_without_all ks (without k ms) (tidy_without k ms t)

-- a size is a 64-bit integer
whole_size : (n : ℕ) → n < 2 ^ 31 → nat_lt n (2 ^ 64) ≡ true
whole_size n h = lt-ltb n (2 ^ 64) (omega arith)

-- the nodes that a tidy value denotes are tidy
pub denoted_tidy : {n : ℕ} {space : List ℕ} {d : Data} {known known2 : Known} {first place : ℕ} {nodes : List NodeView} → Denotes n space d known first place nodes known2 → IsTidy d → TidyNodes nodes
denoted_tidy t tidy =
    nodes_are IsTidy IsTidy TidyMembers (λ ms k d p e. tidy_member ms k d p e) (λ ds p. each_tidy ds p) (λ keys ms extra p o. rw o.are (tidy_without_all keys ms p)) (λ d p h. p) whole_size tt t tidy
