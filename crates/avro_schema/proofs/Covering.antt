-- It suffices to check the fields that the table selects.
use Rattle.std.proofs.Common.{◌≡◌, ◌⊎◌, inl, inr, ℕ, zero, suc, ◌<◌, ◌≤◌, ◌+◌, ◌≢◌, List, [], ◌∷◌, length, map, get_or, Bool, true, false, ◌&&◌, ◌||◌, ◌++◌, Option, Some, None, Ordering, Less, Equal, Greater, nat_cmp, bytes_eq, refl, sym, ap, subst, ◌∙◌, true≢false, arith}
use Rattle.std.proofs.lemmas.Bool.{and_parts, and_from, or_right, eqb-true, eq-eqb}
use Rattle.std.specs.Prelude.{◌==◌, IfSome, option_map, is_some, slice_get}
use Rattle.std.specs.Cmp.Lexicographic.{slice_cmp}
use Rattle.std.specs.List.{list_all}
use Rattle.std.proofs.lemmas.Bool.Decides.{nat_tests}
use Rattle.std.specs.Ordering.{match_ordering, is_eq}
use Rattle.std.proofs.lemmas.Map.Text.{is_eq-slice_cmp}
use Rattle.std.proofs.lemmas.Option.{same_Some}
use Rattle.std.proofs.lemmas.Map.{update_same, update_other}
use Rattle.std.proofs.lemmas.Slice.Eq.{bytes_eq-Decides}
use Rattle.std.proofs.lemmas.List.{length-map}
use Rattle.std.specs.Map.{update}
use Rattle.serde_json.specs.Data.{Data, Members, no_members, member}
use Rattle.serde_json.specs.Find.{get_member}
use Rattle.serde_json.specs.View.{view}
use Rattle.avro_nodes.specs.declared.node.Field.{Field}
use Rattle.avro_nodes.specs.declared.node.Node.{Node}
use Rattle.avro_nodes.specs.Nodes.{NamedView, FieldView, NodeView, primitive, array, mapping, union, enumeration, fixed, rec, field_view, node_view, nodes_view}
use Rattle.avro_schema.specs.declared.tables.FieldTable.{FieldTable}
use Rattle.avro_schema.specs.Inside.Fitting.{Fitting, field_fits_by, fields_fit}
use Rattle.avro_schema.specs.Inside.FieldTables.{is_required, IsCovered, index_by_name, CoversFirstFields, IsFieldTable, IsFieldTableOf, AreFieldTables, fits_if_any, index_fits, named_fit}
use Rattle.avro_schema.proofs.Inversion.{same_bytes}

or_more : (a b c : Bool) → (b ≡ true → c ≡ true) → (a || b) ≡ true → (a || c) ≡ true
or_more true b c f h = refl
or_more false b c f h = f h

same_tests : (a b : Bool) → (a ≡ true → b ≡ true) → (b ≡ true → a ≡ true) → a ≡ b
same_tests true true f g = refl
same_tests true false f g = sym (f refl)
same_tests false true f g = g refl
same_tests false false f g = refl

among_here : (test : ℕ → Bool) (i j : ℕ) (same : Bool) (rest : Bool) → (j == i) ≡ same → (same || rest) ≡ true → test j ≡ true → (rest ≡ true → test i ≡ true) → test i ≡ true
among_here test i j true rest is h here later = subst (λ (k : ℕ). test k ≡ true) (eqb-true j i is) here
among_here test i j false rest is h here later = later h

among_passes : (test : ℕ → Bool) (xs : List ℕ) (i : ℕ) → list_all test xs ≡ true → is_required xs i ≡ true → test i ≡ true
among_passes test [] i h among = absurd (true≢false (sym among))
among_passes test (j ∷ js) i h among =
    among_here test i j (j == i) (is_required js i) refl among (and_parts (test j) (list_all test js) h).0 (λ later. among_passes test js i (and_parts (test j) (list_all test js) h).1 later)

required_more : (xs : List ℕ) (i j : ℕ) → is_required xs i ≡ true → is_required (xs ++ j ∷ []) i ≡ true
required_more [] i j h = absurd (true≢false (sym h))
required_more (x ∷ xs) i j h = or_more (x == i) (is_required xs i) (is_required (xs ++ j ∷ []) i) (λ later. required_more xs i j later) h

always_last : (xs : List ℕ) (j : ℕ) → is_required (xs ++ j ∷ []) j ≡ true
always_last [] j = rw (eq-eqb j j refl) refl
always_last (x ∷ xs) j = or_right (x == j) (is_required (xs ++ j ∷ []) j) (always_last xs j)

all_pass : {A : Type 0} (test : A → Bool) (xs : List A) → ((x : A) → test x ≡ true) → list_all test xs ≡ true
all_pass test [] each = refl
all_pass test (x ∷ xs) each = and_from (test x) (list_all test xs) (each x) (all_pass test xs each)

below : {A : Type 0} (xs : List A) (i : ℕ) (x : A) → slice_get xs i ≡ Some x → i < length xs
below [] i x e = absurd cc
below (y ∷ ys) zero x e = omega arith
below (y ∷ ys) (suc i) x e = omega (arith, below ys i x e)

module _ (one : Fitting) (ms : Members) where
  abbrev fits_here : FieldView → Bool
  fits_here f = field_fits_by one f (get_member f.name ms)

  -- ---- all fields fit

  each_fits : (fields : List FieldView) → fields_fit one ms fields ≡ true → (i : ℕ) → fits_if_any one ms (slice_get fields i) ≡ true
  each_fits [] h i = refl
  each_fits (f ∷ fields) h zero = (and_parts (fits_here f) (fields_fit one ms fields) h).0
  each_fits (f ∷ fields) h (suc i) = each_fits fields (and_parts (fits_here f) (fields_fit one ms fields) h).1 i

  index_fits_all : (fields : List FieldView) → fields_fit one ms fields ≡ true → (o : Option ℕ) → index_fits one ms fields o ≡ true
  index_fits_all fields h None = refl
  index_fits_all fields h (Some i) = each_fits fields h i

  named_all : (fields : List FieldView) (t : FieldTable) → fields_fit one ms fields ≡ true → (more : Members) → named_fit one ms fields t more ≡ true
  named_all fields t h no_members = refl
  named_all fields t h (member k d more) = and_from (index_fits one ms fields (index_by_name t k)) (named_fit one ms fields t more) (index_fits_all fields h (index_by_name t k)) (named_all fields t h more)

  -- ---- the selected fields fit

  all_fit : (fields : List FieldView) → ((i : ℕ) (f : FieldView) → slice_get fields i ≡ Some f → fits_here f ≡ true) → fields_fit one ms fields ≡ true
  all_fit [] each = refl
  all_fit (f ∷ fields) each = and_from (fits_here f) (fields_fit one ms fields) (each zero f refl) (all_fit fields (λ i g e. each (suc i) g e))

  -- a field that the table finds for a member is one of those that are checked
  found_at : (fields : List FieldView) (t : FieldTable) (k l : List ℕ) (o : Ordering) (d e : Data) (more : Members) → slice_cmp nat_cmp k l ≡ o → match_ordering o (get_member k more) (Some e) (get_member k more) ≡ Some d
      → index_fits one ms fields (index_by_name t l) ≡ true → (get_member k more ≡ Some d → index_fits one ms fields (index_by_name t k) ≡ true) → index_fits one ms fields (index_by_name t k) ≡ true
  found_at fields t k l Less d e more is found here later = later found
  found_at fields t k l Equal d e more is found here later =
      let same : k ≡ l = same_bytes k l (sym (is_eq-slice_cmp k l) ∙ ap is_eq is) in
      rw same here
  found_at fields t k l Greater d e more is found here later = later found

  named_passes : (fields : List FieldView) (t : FieldTable) (k : List ℕ) (d : Data) (more : Members) → get_member k more ≡ Some d → named_fit one ms fields t more ≡ true → index_fits one ms fields (index_by_name t k) ≡ true
  named_passes fields t k d no_members found h = absurd cc
  named_passes fields t k d (member l e more) found h =
      let here = (and_parts (index_fits one ms fields (index_by_name t l)) (named_fit one ms fields t more) h).0 in
      let rest = (and_parts (index_fits one ms fields (index_by_name t l)) (named_fit one ms fields t more) h).1 in
      found_at fields t k l (slice_cmp nat_cmp k l) d e more refl found here (λ later. named_passes fields t k d more later rest)

  left_out : (fields : List FieldView) (t : FieldTable) (i : ℕ) (f : FieldView) (o : Option Data) → slice_get fields i ≡ Some f → get_member f.name ms ≡ o → is_some f.value ≡ true → index_by_name t f.name ≡ Some i
      → named_fit one ms fields t ms ≡ true → fits_here f ≡ true
  left_out fields t i f None at is has named h = rw is has
  left_out fields t i f (Some d) at is has named h = rw (named, at) at (named_passes fields t f.name d ms is h)

  one_fits : (fields : List FieldView) (t : FieldTable) (i : ℕ) (f : FieldView) → slice_get fields i ≡ Some f → IsCovered t.required.items (index_by_name t) i f
      → list_all (λ j. fits_if_any one ms (slice_get fields j)) t.required.items ≡ true → named_fit one ms fields t ms ≡ true → fits_here f ≡ true
  one_fits fields t i f at (inl among) required named = rw at at (among_passes (λ j. fits_if_any one ms (slice_get fields j)) t.required.items i required among)
  one_fits fields t i f at (inr found) required named = left_out fields t i f (get_member f.name ms) at refl found.0 found.1 named

  pub table_decides : (fields : List FieldView) (t : FieldTable) → IsFieldTable t fields → (list_all (λ j. fits_if_any one ms (slice_get fields j)) t.required.items && named_fit one ms fields t ms) ≡ fields_fit one ms fields
  unfolding CoversFirstFields
  table_decides fields t is =
      same_tests (list_all (λ j. fits_if_any one ms (slice_get fields j)) t.required.items && named_fit one ms fields t ms) (fields_fit one ms fields)
      (λ h. all_fit fields (λ i f at. one_fits fields t i f at (is i f (below fields i f at) at)
      (and_parts (list_all (λ j. fits_if_any one ms (slice_get fields j)) t.required.items) (named_fit one ms fields t ms) h).0
      (and_parts (list_all (λ j. fits_if_any one ms (slice_get fields j)) t.required.items) (named_fit one ms fields t ms) h).1))
      (λ h. and_from (list_all (λ j. fits_if_any one ms (slice_get fields j)) t.required.items) (named_fit one ms fields t ms) (all_pass (λ j. fits_if_any one ms (slice_get fields j)) t.required.items (each_fits fields h)) (named_all fields t h ms))

pub last_decides : (a b c : Bool) → a ≡ true → (a && b) ≡ c → b ≡ c
last_decides true b c e h = h
last_decides false b c e h = absurd (true≢false (sym e))

pub first_decides : (a b c : Bool) → a ≡ false → (a && b) ≡ c → a ≡ c
first_decides true b c e h = absurd (true≢false e)
first_decides false b c e h = h

-- ---- the tables

pub table_is : (t : FieldTable) (node : NodeView) (named : NamedView) (fields : List FieldView) (extra : Members) → IsFieldTableOf t node → node ≡ rec named fields extra → IsFieldTable t fields
unfolding IsFieldTableOf
table_is t node named fields extra is e = is named fields extra e

fields_in : NodeView → List FieldView
fields_in (primitive kind extra) = []
fields_in (array items extra) = []
fields_in (mapping values extra) = []
fields_in (union branches) = []
fields_in (enumeration named symbols fallback extra) = []
fields_in (fixed named size extra) = []
fields_in (rec named fields extra) = fields

pub table_of_record : (t : FieldTable) (named : NamedView) (fields : List FieldView) (extra : Members) → IsFieldTable t fields → IsFieldTableOf t (rec named fields extra)
unfolding IsFieldTableOf fields_in
table_of_record t named fields extra is named2 fields2 extra2 e = subst (λ (fs : List FieldView). IsFieldTable t fs) (ap fields_in e) is

pub no_tables : (nodes : List NodeView) → AreFieldTables nodes []
unfolding AreFieldTables
no_tables nodes place t node e f = absurd cc

-- ---- construction of a table

pub covers_none : (named : List ℕ → Option ℕ) (fields : List FieldView) → CoversFirstFields 0 [] named fields
unfolding CoversFirstFields
covers_none named fields i f h e = absurd (omega arith)

other_index : (i j : ℕ) → (j == i) ≡ false → j ≢ i
other_index i j h = grind (arith, nat_tests)

same_text : (s : List ℕ) → bytes_eq s s ≡ true
same_text s = (bytes_eq-Decides s s).1 refl

none_is_no_index : (i : ℕ) → None ≡ Some i → ⊥
none_is_no_index i e = absurd cc

still_found : (required : List ℕ) (named : List ℕ → Option ℕ) (i n : ℕ) (f : FieldView) → IsCovered required named i f → IsCovered (required ++ n ∷ []) named i f
still_found required named i n f (inl among) = inl (required_more required i n among)
still_found required named i n f (inr found) = inr found

named_still : (required : List ℕ) (named named2 : List ℕ → Option ℕ) (i n : ℕ) (f g : FieldView) (same : Bool) → bytes_eq g.name f.name ≡ same → named g.name ≡ None → named2 f.name ≡ update bytes_eq named g.name (Some n) f.name
    → IsCovered required named i f → IsCovered required named2 i f
named_still required named named2 i n f g same is new more (inl among) = inl among
named_still required named named2 i n f g true is new more (inr found) = absurd (none_is_no_index i (sym new ∙ ap named (same_bytes g.name f.name is) ∙ found.1))
named_still required named named2 i n f g false is new more (inr found) = inr (found.0, more ∙ update_other bytes_eq named g.name (Some n) f.name is ∙ found.1)

module _ (n : ℕ) (required : List ℕ) (named : List ℕ → Option ℕ) (fields : List FieldView) (so_far : CoversFirstFields n required named fields) where
  pushed_at : (same : Bool) (i : ℕ) (f : FieldView) → (i == n) ≡ same → i < n + 1 → slice_get fields i ≡ Some f → IsCovered (required ++ n ∷ []) named i f
  unfolding CoversFirstFields
  pushed_at true i f is h e = inl (subst (λ (k : ℕ). is_required (required ++ n ∷ []) k ≡ true) (sym (eqb-true i n is)) (always_last required n))
  pushed_at false i f is h e = still_found required named i n f (so_far i f (omega (arith, other_index n i is)) e)

  -- a field that is required
  pub covers_pushed : CoversFirstFields (n + 1) (required ++ n ∷ []) named fields
  unfolding CoversFirstFields
  covers_pushed i f h e = pushed_at (i == n) i f refl h e

  module _ (g : FieldView) (named2 : List ℕ → Option ℕ) (here : slice_get fields n ≡ Some g) (has : is_some g.value ≡ true) (new : named g.name ≡ None) (more : (q : List ℕ) → named2 q ≡ update bytes_eq named g.name (Some n) q) where
    named_at : (same : Bool) (i : ℕ) (f : FieldView) → (i == n) ≡ same → i < n + 1 → slice_get fields i ≡ Some f → IsCovered required named2 i f
    unfolding CoversFirstFields
    named_at true i f is h e =
        let i_is : i ≡ n = eqb-true i n is in
        let f_is : g ≡ f = same_Some _ _ (sym here ∙ ap (slice_get fields) (sym i_is) ∙ e) in
        inr (
          ap (λ (x : FieldView). is_some x.value) (sym f_is) ∙ has,
          more f.name ∙ update_same bytes_eq named g.name (Some n) f.name (ap (λ (x : FieldView). bytes_eq g.name x.name) (sym f_is) ∙ same_text g.name) ∙ ap (λ (k : ℕ). Some k) (sym i_is),
        )
    named_at false i f is h e = named_still required named named2 i n f g (bytes_eq g.name f.name) refl new (more f.name) (so_far i f (omega (arith, other_index n i is)) e)

    -- a field with a default and a new name
    pub covers_named : CoversFirstFields (n + 1) required named2 fields
    unfolding CoversFirstFields
    covers_named i f h e = named_at (i == n) i f refl h e

pub covers_all : (n : ℕ) (required : List ℕ) (named : List ℕ → Option ℕ) (fields : List Field) → length fields ≤ n → CoversFirstFields n required named (map field_view fields)
    → CoversFirstFields (length (map field_view fields)) required named (map field_view fields)
unfolding CoversFirstFields
covers_all n required named fields h so_far i f within e = so_far i f (omega (arith, length-map fields field_view)) e

pub field_here : (fields : List Field) (n : ℕ) (x d : Field) → n < length fields → x ≡ get_or fields n d → slice_get (map field_view fields) n ≡ Some (field_view x)
field_here [] n x d h is = absurd (omega arith)
field_here (f ∷ fields) zero x d h is = rw is refl
field_here (f ∷ fields) (suc n) x d h is = field_here fields n x d (omega arith) is

pub is_absent : {A : Type 0} (o : Option A) → is_some o ≡ false → o ≡ None
is_absent None h = refl
is_absent (Some x) h = absurd (true≢false h)

some_view : {A B : Type 0} (f : A → B) (o : Option A) → is_some o ≡ true → is_some (option_map f o) ≡ true
some_view f None h = h
some_view f (Some x) h = refl

pub shown_some : (x : Field) → is_some x.value ≡ true → is_some (field_view x).value ≡ true
shown_some x h = some_view view x.value h

pub both_ways : (b : Bool) → b ≡ true → b ≡ false → ⊥
both_ways b e f = true≢false (sym e ∙ f)

one_further : {A : Type 0} (x : A) (xs : List A) (y z : A) (i : ℕ) → (slice_get xs i ≡ Some z) ⊎ ((i ≡ length xs) × (y ≡ z)) → (slice_get (x ∷ xs) (suc i) ≡ Some z) ⊎ ((suc i ≡ length (x ∷ xs)) × (y ≡ z))
one_further x xs y z i (inl e) = inl e
one_further x xs y z i (inr e) = inr (ap suc e.0, e.1)

got_before : {A : Type 0} (xs : List A) (y z : A) (i : ℕ) → slice_get (xs ++ y ∷ []) i ≡ Some z → (slice_get xs i ≡ Some z) ⊎ ((i ≡ length xs) × (y ≡ z))
got_before [] y z zero e = inr (refl, same_Some _ _ e)
got_before [] y z (suc i) e = absurd cc
got_before (x ∷ xs) y z zero e = inl e
got_before (x ∷ xs) y z (suc i) e = one_further x xs y z i (got_before xs y z i e)

table_there : (nodes : List NodeView) (o : Option FieldTable) (node other : NodeView) (n place : ℕ) (t : FieldTable) → slice_get nodes n ≡ Some node → place ≡ n → slice_get nodes place ≡ Some other → o ≡ Some t → IfSome o (λ s. IsFieldTableOf s node) → IsFieldTableOf t other
table_there nodes None node other n place t here at f is given = absurd cc
table_there nodes (Some s) node other n place t here at f is given =
    let node_is : node ≡ other = same_Some _ _ (sym here ∙ ap (slice_get nodes) (sym at) ∙ f) in
    subst (λ (x : NodeView). IsFieldTableOf t x) node_is (subst (λ (x : FieldTable). IsFieldTableOf x node) (same_Some _ _ is) given)

table_one_of : (nodes : List NodeView) (tables : List (Option FieldTable)) (o : Option FieldTable) (node other : NodeView) (place : ℕ) (t : FieldTable) → AreFieldTables nodes tables → slice_get nodes (length tables) ≡ Some node → IfSome o (λ s. IsFieldTableOf s node)
    → slice_get nodes place ≡ Some other → (slice_get tables place ≡ Some (Some t)) ⊎ ((place ≡ length tables) × (o ≡ Some t)) → IsFieldTableOf t other
unfolding AreFieldTables
table_one_of nodes tables o node other place t so_far here given f (inl e) = so_far place t other e f
table_one_of nodes tables o node other place t so_far here given f (inr e) = table_there nodes o node other (length tables) place t here e.0 f e.1 given

pub tables_more : (nodes : List NodeView) (tables : List (Option FieldTable)) (o : Option FieldTable) (node : NodeView) → AreFieldTables nodes tables → slice_get nodes (length tables) ≡ Some node → IfSome o (λ t. IsFieldTableOf t node) → AreFieldTables nodes (tables ++ o ∷ [])
unfolding AreFieldTables
tables_more nodes tables o node so_far here is place t other e f = table_one_of nodes tables o node other place t so_far here is f (got_before tables o (Some t) place e)

pub node_here : (nodes : List Node) (n : ℕ) (x d : Node) → n < length nodes → x ≡ get_or nodes n d → slice_get (nodes_view nodes) n ≡ Some (node_view x)
node_here [] n x d h is = absurd (omega arith)
node_here (f ∷ nodes) zero x d h is = rw is refl
node_here (f ∷ nodes) (suc n) x d h is = node_here nodes n x d (omega arith) is
