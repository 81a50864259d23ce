-- The nodes of a schema: each reference is to one of the nodes, no branch of a union is a union, and each field of a record is its own source.
use Rattle.std.proofs.Common.{◌≡◌, ◌≢◌, ℕ, zero, suc, ◌+◌, ◌<◌, List, [], ◌∷◌, ◌++◌, Option, Some, None, Bool, true, false, cond, length, map, get_or, bytes_eq, refl, sym, ap, subst, ◌∙◌, arith, true≢false}
use Rattle.std.specs.Prelude.{All, find, slice_get}
use Rattle.std.specs.Option.{option_or}
use Rattle.std.proofs.lemmas.List.Elements.{All-nil, All-cons, All-append}
use Rattle.std.proofs.lemmas.Option.{get_or_from_slice_get, slice_get_within}
use Rattle.std.proofs.lemmas.Slice.Eq.{bytes_eq-Decides}
use Rattle.serde_json.specs.Data.{Data, Items}
use Rattle.avro_nodes.specs.Names.{has_dot}
use Rattle.avro_nodes.specs.Nodes.{FieldView, NodeView, primitive, array, mapping, union, enumeration, fixed, rec}
use Rattle.avro_schema.specs.Names.{Known, none_known, defined, resolved, qualified, or_else}
use Rattle.avro_schema.specs.Kinds.{BranchKind, branch_kind}
use Rattle.avro_schema.specs.Denotes.{Denotes, a_primitive, a_reference, primitive_type, reference_type, array_type, map_type, fixed_type, enum_type, record_type, union_type}
use Rattle.avro_schema.specs.Denotes.{Branches, no_branch, branch, Fields, no_field, field, Lacks, AllDiffer}
use Rattle.avro_schema.specs.Texts.{IsSchema}
use Rattle.avro_resolve.specs.Resolution.{first_named, source}
use Rattle.avro_resolve.specs.Inside.Agreeing.{fields_of}
use Rattle.avro_resolve.specs.Inside.Places.{RefersBelow, IsSelfContained}

abbrev pub IsNoUnion : NodeView → Type 0
IsNoUnion (union places) = ⊥
IsNoUnion _ = Unit {0}

-- the node at the place isn't a union
abbrev pub NoUnionAt : List NodeView → ℕ → Type 0
NoUnionAt all place = (a : NodeView) → slice_get all place ≡ Some a → IsNoUnion a

-- no branch of a union is a union, and each field of a record is its own source
abbrev pub IsPlain : List NodeView → NodeView → Type 0
IsPlain all (union places) = All (NoUnionAt all) places
IsPlain all (rec named fields extra) = All (λ f. source fields f ≡ Some f) fields
IsPlain all (primitive kind extra) = Unit {0}
IsPlain all (array place extra) = Unit {0}
IsPlain all (mapping place extra) = Unit {0}
IsPlain all (enumeration named symbols fallback extra) = Unit {0}
IsPlain all (fixed named size extra) = Unit {0}

-- ---- fields with distinct names

lacks_at : (xs : List (List ℕ)) (x : List ℕ) → Lacks xs x → (k : ℕ) (d : List ℕ) → k < length xs → x ≢ get_or xs k d
lacks_at [] x h k d l = absurd (omega arith)
lacks_at (y ∷ ys) x h zero d l = h.0
lacks_at (y ∷ ys) x h (suc k) d l = lacks_at ys x h.1 k d (omega arith)

get_or-names : (fs : List FieldView) (k : ℕ) (d : FieldView) → get_or (map (λ f. f.name) fs) k d.name ≡ (get_or fs k d).name
get_or-names [] k d = refl
get_or-names (f ∷ fs) zero d = refl
get_or-names (f ∷ fs) (suc k) d = get_or-names fs k d

length-names : (fs : List FieldView) → length (map (λ f. f.name) fs) ≡ length fs
length-names [] = refl
length-names (f ∷ fs) = ap suc (length-names fs)

found_here : (f : FieldView) (o : Option FieldView) (b : Bool) → b ≡ true → cond b (Some f) o ≡ Some f
found_here f o true e = refl
found_here f o false e = absurd (true≢false (sym e))

found_later : (f g : FieldView) (o : Option FieldView) (b : Bool) → (b ≡ true → ⊥) → o ≡ Some g → cond b (Some f) o ≡ Some g
found_later f g o true never e = absurd (never refl)
found_later f g o false never e = e

find_own : (fs : List FieldView) → AllDiffer (map (λ f. f.name) fs) → (k : ℕ) (d : FieldView) → k < length fs → find (λ g. bytes_eq g.name (get_or fs k d).name) fs ≡ Some (get_or fs k d)
find_own [] h k d l = absurd (omega arith)
find_own (f ∷ fs) h zero d l = found_here f (find (λ g. bytes_eq g.name f.name) fs) (bytes_eq f.name f.name) ((bytes_eq-Decides f.name f.name).1 refl)
find_own (f ∷ fs) h (suc k) d l =
    let within : k < length fs = omega arith in
    let g = get_or fs k d in
    let names : k < length (map (λ (x : FieldView). x.name) fs) = omega (arith, length-names fs) in
    let other : f.name ≢ g.name = λ e. lacks_at (map (λ (x : FieldView). x.name) fs) f.name h.0 k d.name names (e ∙ sym (get_or-names fs k d)) in
    found_later f g (find (λ x. bytes_eq x.name g.name) fs) (bytes_eq f.name g.name) (λ e. other ((bytes_eq-Decides f.name g.name).0 e)) (find_own fs h.1 k d within)

first_own : (names : List (List ℕ)) (fs : List FieldView) (f : FieldView) → find (λ g. bytes_eq g.name f.name) fs ≡ Some f → first_named (f.name ∷ names) fs ≡ Some f
unfolding first_named
first_own names fs f e = ap (λ o. option_or o (first_named names fs)) e

own_sources : (fs : List FieldView) → AllDiffer (map (λ f. f.name) fs) → All (λ f. source fs f ≡ Some f) fs
own_sources fs h = λ k d l. let f = get_or fs k d in first_own f.aliases fs f (find_own fs h k d l)

-- ---- the places of nodes

-- the nodes are in the whole list, from this place on
Stands : List NodeView → ℕ → List NodeView → Type 0
Stands all first [] = Unit {0}
Stands all first (a ∷ nodes) = (slice_get all first ≡ Some a) × Stands all (first + 1) nodes

front : (all : List NodeView) (first : ℕ) (xs ys : List NodeView) → Stands all first (xs ++ ys) → Stands all first xs
unfolding Stands
front all first [] ys h = tt
front all first (x ∷ xs) ys h = (h.0, front all (first + 1) xs ys h.1)

back : (all : List NodeView) (first : ℕ) (xs ys : List NodeView) → Stands all first (xs ++ ys) → Stands all (first + length xs) ys
unfolding Stands
back all first [] ys h = let e : first + 0 ≡ first = omega arith in subst (λ n. Stands all n ys) (sym e) h
back all first (x ∷ xs) ys h = let e : first + 1 + length xs ≡ first + length (x ∷ xs) = omega arith in subst (λ n. Stands all n ys) e (back all (first + 1) xs ys h.1)

at_end : (before : List NodeView) (a : NodeView) (nodes : List NodeView) → slice_get (before ++ a ∷ nodes) (length before) ≡ Some a
at_end [] a nodes = refl
at_end (b ∷ before) a nodes = at_end before a nodes

pushed : (before : List NodeView) (a : NodeView) (nodes : List NodeView) → (before ++ a ∷ []) ++ nodes ≡ before ++ a ∷ nodes
pushed [] a nodes = refl
pushed (b ∷ before) a nodes = ap (λ xs. b ∷ xs) (pushed before a nodes)

length-pushed : (before : List NodeView) (a : NodeView) → length (before ++ a ∷ []) ≡ length before + 1
length-pushed [] a = refl
length-pushed (b ∷ before) a = let h = length-pushed before a in omega arith

stand_after : (before nodes : List NodeView) → Stands (before ++ nodes) (length before) nodes
unfolding Stands
stand_after before [] = tt
stand_after before (a ∷ nodes) = (
  at_end before a nodes,
  subst (λ n. Stands (before ++ a ∷ nodes) n nodes) (length-pushed before a) (subst (λ xs. Stands xs (length (before ++ a ∷ [])) nodes) (pushed before a nodes) (stand_after (before ++ a ∷ []) nodes)),
)

no_union_here : (all : List NodeView) (place : ℕ) (a : NodeView) → slice_get all place ≡ Some a → IsNoUnion a → NoUnionAt all place
no_union_here all place a e h b f = let same : a ≡ b = cc in subst IsNoUnion same h

kind_no_union : (place : ℕ) (kind : BranchKind) (a : NodeView) (more : List NodeView) → branch_kind place (a ∷ more) ≡ Some kind → IsNoUnion a
unfolding branch_kind
kind_no_union place kind (union places) more e = absurd cc
kind_no_union place kind _ more e = tt

-- ---- names known so far

record Knows (all : List NodeView) (known : Known) : Type 0 where
  at : (name : List ℕ) (place : ℕ) → known name ≡ Some place → (place < length all) × NoUnionAt all place

knows_none : (all : List NodeView) → Knows all none_known
knows_none all = record { at = λ name place e. absurd cc }

defined_step : (all : List NodeView) (first place : ℕ) (o : Option ℕ) (b : Bool) → (first < length all) × NoUnionAt all first → (o ≡ Some place → (place < length all) × NoUnionAt all place)
    → cond b (Some first) o ≡ Some place → (place < length all) × NoUnionAt all place
defined_step all first place o true here later e = let same : first ≡ place = cc in subst (λ p. (p < length all) × NoUnionAt all p) same here
defined_step all first place o false here later e = later e

knows_defined : (all : List NodeView) (known : Known) (full : List ℕ) (first : ℕ) (a : NodeView) → Knows all known → slice_get all first ≡ Some a → IsNoUnion a → Knows all (defined known full first)
knows_defined all known full first a k e h = record {
  at = λ name place f.
      defined_step all first place (known name) (bytes_eq full name) (slice_get_within all first a e, no_union_here all first a e h) (k.at name place) f;
}

or_step : (all : List NodeView) (place : ℕ) (o p : Option ℕ) → (o ≡ Some place → (place < length all) × NoUnionAt all place) → (p ≡ Some place → (place < length all) × NoUnionAt all place)
    → or_else o p ≡ Some place → (place < length all) × NoUnionAt all place
or_step all place None p one other e = other e
or_step all place (Some q) p one other e = one e

if_step : (all : List NodeView) (place : ℕ) (o p : Option ℕ) (b : Bool) → (o ≡ Some place → (place < length all) × NoUnionAt all place) → (p ≡ Some place → (place < length all) × NoUnionAt all place)
    → cond b o p ≡ Some place → (place < length all) × NoUnionAt all place
if_step all place o p true one other e = one e
if_step all place o p false one other e = other e

refers : (all : List NodeView) (known : Known) (space name : List ℕ) (place : ℕ) → Knows all known → resolved known space name ≡ Some place → (place < length all) × NoUnionAt all place
unfolding resolved
refers all known space name place k e =
    if_step all place (known name) (or_else (known (qualified space name)) (known name)) (has_dot name) (k.at name place)
    (or_step all place (known (qualified space name)) (known name) (k.at (qualified space name) place) (k.at name place)) e

-- ---- the induction over the denoted schema

record Good (all : List NodeView) (place : ℕ) (nodes : List NodeView) (known : Known) : Type 0 where
  within : place < length all
  knows : Knows all known
  names : All (RefersBelow (length all)) nodes
  plain : All (IsPlain all) nodes
  no_union : (kind : BranchKind) → branch_kind place nodes ≡ Some kind → NoUnionAt all place

record GoodParts (all : List NodeView) (nodes : List NodeView) (known : Known) : Type 0 where
  knows : Knows all known
  names : All (RefersBelow (length all)) nodes
  plain : All (IsPlain all) nodes

-- a node, with its parts
made : (all : List NodeView) (first : ℕ) (a : NodeView) (nodes : List NodeView) (known : Known) → slice_get all first ≡ Some a → RefersBelow (length all) a → IsPlain all a → GoodParts all nodes known → Good all first (a ∷ nodes) known
made all first a nodes known at names plain parts = record {
  within = slice_get_within all first a at;
  knows = parts.knows;
  names = All-cons (RefersBelow (length all)) a nodes names parts.names;
  plain = All-cons (IsPlain all) a nodes plain parts.plain;
  no_union = λ kind e. no_union_here all first a at (kind_no_union first kind a nodes e);
}

no_parts : (all : List NodeView) (known : Known) → Knows all known → GoodParts all [] known
no_parts all known k = record { knows = k; names = All-nil (RefersBelow (length all)); plain = All-nil (IsPlain all) }

parts_of : (all : List NodeView) (place : ℕ) (nodes : List NodeView) (known : Known) → Good all place nodes known → GoodParts all nodes known
parts_of all place nodes known g = record { knows = g.knows; names = g.names; plain = g.plain }

both_parts : (all : List NodeView) (xs ys : List NodeView) (known known2 : Known) → GoodParts all xs known → GoodParts all ys known2 → GoodParts all (xs ++ ys) known2
both_parts all xs ys known known2 g h = record {
  knows = h.knows;
  names = All-append (RefersBelow (length all)) xs ys g.names h.names;
  plain = All-append (IsPlain all) xs ys g.plain h.plain;
}

reference : (all : List NodeView) (known : Known) (space name : List ℕ) (place : ℕ) → Knows all known → resolved known space name ≡ Some place → Good all place [] known
reference all known space name place k e =
    let here = refers all known space name place k e in
    record { within = here.0; knows = k; names = All-nil (RefersBelow (length all)); plain = All-nil (IsPlain all); no_union = λ kind f. here.1 }

record GoodBranches (all : List NodeView) (branches : List (ℕ × BranchKind)) (nodes : List NodeView) (known : Known) : Type 0 where
  places : All (λ p. p < length all) (map (λ b. b.0) branches)
  no_unions : All (NoUnionAt all) (map (λ b. b.0) branches)
  parts : GoodParts all nodes known

record GoodFields (all : List NodeView) (fields : List FieldView) (nodes : List NodeView) (known : Known) : Type 0 where
  places : All (λ f. f.place < length all) fields
  parts : GoodParts all nodes known

mutual
  unfolding Stands

  good : {n : ℕ} {space : List ℕ} {d : Data} {known known2 : Known} {first place : ℕ} {nodes : List NodeView} → Denotes n space d known first place nodes known2
      → (all : List NodeView) → Knows all known → Stands all first nodes → Good all place nodes known2
  good (a_primitive {known = known} {first = first} {kind = kind} e room) all k s = made all first _ [] known s.0 tt tt (no_parts all known k)
  good (a_reference {space = space} {name = name} {known = known} {place = place} e found) all k s = reference all known space name place k found
  good (primitive_type {known = known} {first = first} w o room) all k s = made all first _ [] known s.0 tt tt (no_parts all known k)
  good (reference_type {space = space} {name = name} {known = known} {place = place} w e o found) all k s = reference all known space name place k found
  good (array_type {known2 = known2} {first = first} {place = place} {nodes = nodes} w i o room inner) all k s =
      let g = good inner all k s.1 in made all first _ nodes known2 s.0 g.within tt (parts_of all place nodes known2 g)
  good (map_type {known2 = known2} {first = first} {place = place} {nodes = nodes} w i o room inner) all k s =
      let g = good inner all k s.1 in made all first _ nodes known2 s.0 g.within tt (parts_of all place nodes known2 g)
  good (fixed_type {known = known} {first = first} {named = named} w names z o room) all k s =
      made all first _ [] (defined known named.name first) s.0 tt tt (no_parts all (defined known named.name first) (knows_defined all known named.name first _ k s.0 tt))
  good (enum_type {known = known} {first = first} {named = named} w names e o room) all k s =
      made all first _ [] (defined known named.name first) s.0 tt tt (no_parts all (defined known named.name first) (knows_defined all known named.name first _ k s.0 tt))
  good (record_type {known = known} {known2 = known2} {first = first} {named = named} {fields = fields} {nodes = nodes} w names i o room fs differ) all k s =
      let g = good_fields fs all (knows_defined all known named.name first _ k s.0 tt) s.1 in
      made all first _ nodes known2 s.0 g.places (own_sources fields differ) g.parts
  good (union_type {known2 = known2} {first = first} {nodes = nodes} room bs differ) all k s =
      let g = good_branches bs all k s.1 in made all first _ nodes known2 s.0 g.places g.no_unions g.parts

  good_branches : {n : ℕ} {space : List ℕ} {ds : Items} {known known2 : Known} {first : ℕ} {branches : List (ℕ × BranchKind)} {nodes : List NodeView} → Branches n space ds known first branches nodes known2
      → (all : List NodeView) → Knows all known → Stands all first nodes → GoodBranches all branches nodes known2
  good_branches (no_branch {known = known}) all k s = record { places = All-nil (λ p. p < length all); no_unions = All-nil (NoUnionAt all); parts = no_parts all known k }
  good_branches (branch {known2 = known2} {known3 = known3} {first = first} {place = place} {kind = kind} {branches = branches} {nodes = nodes} {more = more} d e others) all k s =
      let g = good d all k (front all first nodes more s) in
      let rest = good_branches others all g.knows (back all first nodes more s) in
      record {
        places = All-cons (λ p. p < length all) place (map (λ b. b.0) branches) g.within rest.places;
        no_unions = All-cons (NoUnionAt all) place (map (λ b. b.0) branches) (g.no_union kind e) rest.no_unions;
        parts = both_parts all nodes more known2 known3 (parts_of all place nodes known2 g) rest.parts;
      }

  good_fields : {n : ℕ} {space : List ℕ} {ds : Items} {known known2 : Known} {first : ℕ} {fields : List FieldView} {nodes : List NodeView} → Fields n space ds known first fields nodes known2
      → (all : List NodeView) → Knows all known → Stands all first nodes → GoodFields all fields nodes known2
  good_fields (no_field {known = known}) all k s = record { places = All-nil (λ f. f.place < length all); parts = no_parts all known k }
  good_fields (field {known2 = known2} {known3 = known3} {first = first} {f = f} {fields = fields} {nodes = nodes} {more = more} i t d others) all k s =
      let g = good d all k (front all first nodes more s) in
      let rest = good_fields others all g.knows (back all first nodes more s) in
      record {
        places = All-cons (λ f. f.place < length all) f fields g.within rest.places;
        parts = both_parts all nodes more known2 known3 (parts_of all f.place nodes known2 g) rest.parts;
      }

-- ---- schemas

of_schema : (nodes : List NodeView) → IsSchema nodes → (known : Known) × Good nodes 0 nodes known
of_schema nodes (text, h) = (h.known, good h.type_is nodes (knows_none nodes) (stand_after [] nodes))

pub some_node : (nodes : List NodeView) → IsSchema nodes → 0 < length nodes
some_node nodes h = (of_schema nodes h).1.within

pub is_whole : (nodes : List NodeView) → IsSchema nodes → IsSelfContained nodes
is_whole nodes h = (of_schema nodes h).1.names

pub is_plain : (nodes : List NodeView) → IsSchema nodes → All (IsPlain nodes) nodes
is_plain nodes h = (of_schema nodes h).1.plain

fields_own : (all : List NodeView) (a : NodeView) → IsPlain all a → All (λ f. source (fields_of a) f ≡ Some f) (fields_of a)
fields_own all (rec named fields x) h = h
fields_own all (primitive k x) h = All-nil (λ (f : FieldView). source [] f ≡ Some f)
fields_own all (array p x) h = All-nil (λ (f : FieldView). source [] f ≡ Some f)
fields_own all (mapping p x) h = All-nil (λ (f : FieldView). source [] f ≡ Some f)
fields_own all (union ps) h = All-nil (λ (f : FieldView). source [] f ≡ Some f)
fields_own all (enumeration n s d x) h = All-nil (λ (f : FieldView). source [] f ≡ Some f)
fields_own all (fixed n s x) h = All-nil (λ (f : FieldView). source [] f ≡ Some f)

pub are_own : (nodes : List NodeView) → IsSchema nodes → (i : ℕ) (a : NodeView) → slice_get nodes i ≡ Some a → All (λ f. source (fields_of a) f ≡ Some f) (fields_of a)
are_own nodes h i a e = fields_own nodes a (subst (IsPlain nodes) (get_or_from_slice_get nodes i a a e) (is_plain nodes h i a (slice_get_within nodes i a e)))
