-- The attributes of a declaration, which are the members of a JSON object (Avro 1.11 specification, Schema Declaration). Both the rules of
-- `Denotes` and the computed rules use them.
use Rattle.std.specs.Prelude.{ℕ, List, [], ◌∷◌, nat_lt, if◌then◌else◌, ◌^◌, Option, Some, None, option_map, option_and_then}
use Rattle.std.specs.List.{list_any}
use Rattle.std.specs.Str.{bytes_eq}
use Rattle.serde_json.specs.Data.{Data, Items, no_items, item, Members, no_members, member}
use Rattle.serde_json.specs.Find.{get_member, as_str, as_array, as_number, as_u64}
use Rattle.avro_nodes.specs.declared.node.Order.{Order}
use Rattle.avro_nodes.specs.declared.node.Order.TheVariants.{Ascending}
use Rattle.avro_schema.specs.Keywords.{order_of}

infixl 10 ◌>>=◌
abbrev pub ◌>>=◌ : {A B : Type 0} → Option A → (A → Option B) → Option B
o >>= f = option_and_then f o

-- the members without the key `k`
abbrev pub without : List ℕ → Members → Members
without k no_members = no_members
without k (member l d ms) = if bytes_eq k l then without k ms else member l d (without k ms)

-- the members without these keys
abbrev pub without_all : List (List ℕ) → Members → Members
without_all [] ms = ms
without_all (k ∷ ks) ms = without_all ks (without k ms)

-- the attribute `k`, if it is a string
unfoldable pub text_in : List ℕ → Members → Option (List ℕ)
text_in k ms = option_and_then as_str (get_member k ms)

-- the attribute `k`, if it is an array
unfoldable pub array_in : List ℕ → Members → Option Items
array_in k ms = option_and_then as_array (get_member k ms)

abbrev pub text_of_any : Option Data → Option (Option (List ℕ))
text_of_any None = Some None
text_of_any (Some d) = option_map Some (as_str d)

-- the optional attribute `k`: `None` if it isn't a string, `Some None` if it is missing
unfoldable pub text_if_any : List ℕ → Members → Option (Option (List ℕ))
text_if_any k ms = text_of_any (get_member k ms)

-- the names that `rule` makes of the strings in an array; `None` if an item is no string or `rule` rejects it
unfoldable pub texts_in : (List ℕ → Option (List ℕ)) → Items → Option (List (List ℕ))
texts_in rule no_items = Some []
texts_in rule (item d ds) = do
  text ← as_str d
  name ← rule text
  more ← texts_in rule ds
  Some (name ∷ more)

-- the same for an optional attribute: no names if it is missing, `None` also if it isn't an array
abbrev pub texts_if_any : (List ℕ → Option (List ℕ)) → Option Data → Option (List (List ℕ))
texts_if_any rule None = Some []
texts_if_any rule (Some d) = as_array d >>= λ ds. texts_in rule ds

-- the size in bytes of a `fixed` type: an integer from 0 to 2^31 - 1 (this project's choice)
unfoldable pub size_of : Option Data → Option ℕ
size_of o = o >>= as_number >>= as_u64 >>= λ n. if nat_lt n (2 ^ 31) then Some n else None

-- a string that is one of these symbols
abbrev pub symbol_in : List (List ℕ) → Data → Option (List ℕ)
symbol_in symbols d = as_str d >>= λ s. if list_any (λ t. bytes_eq t s) symbols then Some s else None

-- the default of an enum: `None` if it isn't one of the symbols, `Some None` if it is missing
abbrev pub fallback_in : List (List ℕ) → Option Data → Option (Option (List ℕ))
fallback_in symbols None = Some None
fallback_in symbols (Some d) = symbol_in symbols d >>= λ s. Some (Some s)

-- the order of a field; ascending if the attribute is missing
abbrev pub order_in : Option Data → Option Order
order_in None = Some Ascending
order_in (Some d) = as_str d >>= order_of
