-- Values of the tree, level by level, and the owned values made from them.
use Rattle.std.proofs.Common.{◌≡◌, ℕ, suc, ◌+◌, ◌<◌, ◌≤◌, List, [], ◌∷◌, ◌++◌, map, Bool, Option, Some, None, Vec, Bor, Global, refl, sym, ap, ◌∙◌, arith, rules}
use Rattle.json.specs.Token.{Token}
use Rattle.json.specs.Json.{parse_map}
use Rattle.serde_json.specs.Data.{Data, null, boolean, number, string, array, object, Items, item}
use Rattle.serde_json.specs.View.{view, number_view, items_view}
use Rattle.serde_json.specs.declared.number.Number.{Number as Numeral}
use Rattle.serde_json.specs.declared.value.Value.{Value}
use Rattle.avro_schema.specs.declared.borrowed.Object.{Object as TreeObject}
use Rattle.avro_schema.specs.declared.borrowed.Json.{Json, fold-Json, Null, Bool as Truth, Number, Text, Array, Object, Owned, the_lemmas}
use Rattle.avro_schema.specs.declared.borrowed.Json.TheOpen.{Json-F}
use Rattle.avro_schema.specs.Inside.Borrowed.{value_data, items_data, object_data, items_on}
use Rattle.avro_schema.proofs.Conversions.{item_push}

-- ---- a value by its form

pub of_Null : value_data Null ≡ null
of_Null = search (rules, the_lemmas)

pub of_Bool : (b : Bool) → value_data (Truth b) ≡ boolean b
of_Bool b = search (rules, the_lemmas)

pub of_Number : (n : Numeral) → value_data (Number n) ≡ number (number_view n)
of_Number n = search (rules, the_lemmas)

pub of_Text : (s : Bor (List ℕ)) → value_data (Text s) ≡ string s.now
of_Text s = search (rules, the_lemmas)

pub of_Array : (v : Vec Json Global) → value_data (Array v) ≡ array (items_data v.items)
of_Array v = search (rules, the_lemmas)

pub of_Object : (o : TreeObject (Bor (List ℕ) × Json)) → value_data (Object o) ≡ object (object_data o)
of_Object o = search (rules, the_lemmas)

pub of_Owned : (v : Value) → value_data (Owned v) ≡ view v
of_Owned v = search (rules, the_lemmas)

-- ---- owned values

pub item_owned : (vs : List Value) (v : Value) (d : Data) (more : Items) → view v ≡ d → items_on (items_view vs) (item d more) ≡ items_on (items_view (vs ++ v ∷ [])) more
item_owned vs v d more e = ap (λ (x : Data). items_on (items_view vs) (item x more)) (sym e) ∙ item_push vs v more

-- ---- the size of a value

abbrev pub sum_of : List ℕ → ℕ
sum_of [] = 0
sum_of (n ∷ ns) = suc n + sum_of ns

abbrev pub entries_sum : List (Bor (List ℕ) × ℕ) → ℕ
entries_sum [] = 0
entries_sum (m ∷ ms) = suc m.1 + entries_sum ms

abbrev pub size_step : Json-F ℕ → ℕ
size_step Json-F.Null = 0
size_step (Json-F.Bool b) = 0
size_step (Json-F.Number n) = 0
size_step (Json-F.Text s) = 0
size_step (Json-F.Array v) = suc (sum_of v.items)
size_step (Json-F.Object o) = suc (entries_sum o.reserved.items)
size_step (Json-F.Owned v) = 0

abbrev pub size : Json → ℕ
size = fold-Json ℕ size_step

abbrev pub items_size : List Json → ℕ
items_size vs = sum_of (map size vs)

abbrev pub members_size : List (Bor (List ℕ) × Json) → ℕ
members_size ms = entries_sum (map (λ m. (m.0, size m.1)) ms)

pub size_Array : (v : Vec Json Global) → size (Array v) ≡ suc (items_size v.items)
size_Array v = search (rules, the_lemmas)

pub size_Object : (o : TreeObject (Bor (List ℕ) × Json)) → size (Object o) ≡ suc (members_size o.reserved.items)
size_Object o = search (rules, the_lemmas)

pub next_item : (rest : List Json) (v : Json) (vs : List Json) (n : ℕ) → rest ≡ v ∷ vs → items_size rest ≤ n → (size v < n) × (items_size vs ≤ n)
next_item rest v vs n is h = let same = ap items_size is in (omega arith, omega arith)

pub next_member : (rest : List (Bor (List ℕ) × Json)) (m : Bor (List ℕ) × Json) (ms : List (Bor (List ℕ) × Json)) (n : ℕ) → rest ≡ m ∷ ms → members_size rest ≤ n → (size m.1 < n) × (members_size ms ≤ n)
next_member rest m ms n is h = let same = ap members_size is in (omega arith, omega arith)

-- ---- the items read so far, followed by the next

pub tree_item_push : (vs : List Json) (v : Json) (d : Data) (rest : Items) → value_data v ≡ d → items_on (items_data vs) (item d rest) ≡ items_on (items_data (vs ++ v ∷ [])) rest
tree_item_push [] v d rest e = ap (λ (x : Data). item x rest) (sym e)
tree_item_push (w ∷ vs) v d rest e = ap (item (value_data w)) (tree_item_push vs v d rest e)

pub one_more_item : (vs : List Json) (v : Json) (r : Option (Items × List Token)) → parse_map (items_on (items_data vs)) (parse_map (item (value_data v)) r) ≡ parse_map (items_on (items_data (vs ++ v ∷ []))) r
one_more_item vs v None = refl
one_more_item vs v (Some p) = ap (λ (ds : Items). Some (ds, p.1)) (tree_item_push vs v (value_data v) p.0 refl)
