-- The text of a tidy value is read back as that value, and so is the identity text of tidy and shallow nodes.
use Rattle.std.proofs.Common.{◌≡◌, ℕ, suc, ◌^◌, ◌<◌, ◌≤◌, ◌==◌, pos, negsuc, List, [], ◌∷◌, length, get_or, true, false, max, decimal, Option, Some, option_map, option_and_then, refl, sym, ap, ap₂, subst, ◌∙◌, append-nil, arith}
use Rattle.std.proofs.lemmas.Bool.{false≢true, ltb-true, ne_eqb}
use Rattle.std.proofs.lemmas.Fmt.{decimal_is_IsNumeral}
use Rattle.std.proofs.lemmas.Str.Parse.{digit_at}
use Rattle.json.specs.Token.{Token}
use Rattle.json.specs.Lex.{tokens}
use Rattle.json.specs.Word.{head, after_number}
use Rattle.json.specs.Print.{IsNumber}
use Rattle.json.specs.Json as json
use Rattle.json.specs.Tree as tree
use Rattle.json.proofs.Printed.Decimals.{IsNumber-decimal}
use Rattle.json.proofs.Printed.Tokens.{tokens-print}
use Rattle.json.proofs.Printed.Trees.{value-json_tokens, ArePrintable-json_tokens}
use Rattle.serde_json.specs.Data.{Num, unsigned, negative, float, Data, null, boolean, number, string, array, object, Items, no_items, item, Members, no_members, member, put, depth, items_depth, members_depth}
use Rattle.serde_json.specs.Read.{number_of, of_json, of_items, of_members, max_depth, read}
use Rattle.serde_json.specs.Written.{number_text, outline, items_outline, members_outline, compact_text}
use Rattle.serde_json.proofs.Numbers.{number_of-decimal, number_of-negative}
use Rattle.serde_json.proofs.Texts.{print-outline}
use Rattle.avro_nodes.specs.Nodes.{NodeView}
use Rattle.avro_nodes.specs.Inside.Objects.{AreOrdered}
use Rattle.avro_nodes.specs.Whole.{is_whole_number}
use Rattle.avro_nodes.specs.Identity.{identity, identity_value}
use Rattle.avro_nodes.proofs.Shallow.{ShallowNodes, identity_nests}
use Rattle.avro_nodes.proofs.Tidy.{IsTidy, TidyItems, TidyMembers, TidyNodes, tidy_ordered, identity_is_tidy}
use Rattle.avro_nodes.proofs.Written.{joined, joined_on, put_last, joined_nothing}

-- ---- numbers

-- a text that begins with a digit or a later byte has no sign
no_sign : (ds : List ℕ) → 0 < length ds → 48 ≤ get_or ds 0 0 → (head ds == 45) ≡ false
no_sign [] some h = absurd (omega arith)
no_sign (d ∷ ds) some h = ne_eqb d 45 (λ e. omega (arith, e, h))

-- digits after a minus are a JSON number, also those of 2^63
number_below : (n : ℕ) → n < 2 ^ 64 → IsNumber (45 ∷ decimal n)
unfolding after_number
number_below n h =
    let is = decimal_is_IsNumeral n h in
    let bare = no_sign (decimal n) is.0.0 (digit_at (decimal n) 0 is.0.1 is.0.0).0 in
    rw bare at (IsNumber-decimal n h)

-- the text of an integer is a JSON number
number_is : (n : Num) → is_whole_number n ≡ true → IsNumber (number_text n)
number_is (unsigned n) w = IsNumber-decimal n (ltb-true n (2 ^ 64) w)
number_is (negative (pos n)) w = absurd (false≢true w)
number_is (negative (negsuc n)) w = let h = ltb-true n (2 ^ 63) w in number_below (suc n) (omega arith)
number_is (float x) w = absurd (false≢true w)

-- it is read as that number
number_reads : (n : Num) → is_whole_number n ≡ true → number_of (number_text n) ≡ Some n
number_reads (unsigned n) w = number_of-decimal n (ltb-true n (2 ^ 64) w)
number_reads (negative (pos n)) w = absurd (false≢true w)
number_reads (negative (negsuc n)) w = number_of-negative n (ltb-true n (2 ^ 63) w)
number_reads (float x) w = absurd (false≢true w)

-- ---- a value as JSON

mutual
  -- its numbers are JSON numbers
  numbers_are : (d : Data) → IsTidy d → tree.HasNumbers (outline d)
  numbers_are null t = tt
  numbers_are (boolean b) t = tt
  numbers_are (number n) t = number_is n t
  numbers_are (string s) t = tt
  numbers_are (array ds) t = items_numbers ds t
  numbers_are (object ms) t = members_numbers ms t

  items_numbers : (ds : Items) → TidyItems ds → tree.ItemsHaveNumbers (items_outline ds)
  items_numbers no_items t = tt
  items_numbers (item d ds) t = (numbers_are d t.0, items_numbers ds t.1)

  members_numbers : (ms : Members) → TidyMembers ms → tree.MembersHaveNumbers (members_outline ms)
  members_numbers no_members t = tt
  members_numbers (member k d ms) t = (numbers_are d t.0, members_numbers ms t.2)

mutual
  -- it nests as deep as the value
  same_depth : (d : Data) → tree.depth (outline d) ≡ depth d
  same_depth null = refl
  same_depth (boolean b) = refl
  same_depth (number n) = refl
  same_depth (string s) = refl
  same_depth (array ds) = ap (λ (n : ℕ). suc n) (items_same_depth ds)
  same_depth (object ms) = ap (λ (n : ℕ). suc n) (members_same_depth ms)

  items_same_depth : (ds : Items) → tree.items_depth (items_outline ds) ≡ items_depth ds
  items_same_depth no_items = refl
  items_same_depth (item d ds) = ap₂ max (same_depth d) (items_same_depth ds)

  members_same_depth : (ms : Members) → tree.members_depth (members_outline ms) ≡ members_depth ms
  members_same_depth no_members = refl
  members_same_depth (member k d ms) = ap₂ max (same_depth d) (members_same_depth ms)

mutual
  -- it is read as the value
  of_outline : (d : Data) → IsTidy d → of_json (outline d) ≡ Some d
  of_outline null t = refl
  of_outline (boolean b) t = refl
  of_outline (number n) t = ap (option_map number) (number_reads n t)
  of_outline (string s) t = refl
  of_outline (array ds) t = ap (option_map array) (items_of_outline ds t)
  of_outline (object ms) t = ap (option_map object) (members_of_outline no_members ms t (tidy_ordered ms t))

  items_of_outline : (ds : Items) → TidyItems ds → of_items (items_outline ds) ≡ Some ds
  items_of_outline no_items t = refl
  items_of_outline (item d ds) t =
      ap (option_and_then (λ (x : Data). option_map (item x) (of_items (items_outline ds)))) (of_outline d t.0) ∙ ap (option_map (item d)) (items_of_outline ds t.1)

  -- after the members that were read
  members_of_outline : (done ms : Members) → TidyMembers ms → AreOrdered (joined done ms) → of_members (members_outline ms) done ≡ Some (joined done ms)
  members_of_outline done no_members t o = ap (λ (ms : Members). Some ms) (sym (joined_nothing done))
  members_of_outline done (member k d ms) t o =
      let more = joined done (member k d no_members) in
      ap (option_and_then (λ (x : Data). of_members (members_outline ms) (put k x done))) (of_outline d t.0)
      ∙ ap (of_members (members_outline ms)) (put_last done k d ms o)
      ∙ members_of_outline more ms t.2 (subst AreOrdered (sym (joined_on done k d ms)) o)
      ∙ ap (λ (xs : Members). Some xs) (joined_on done k d ms)

-- ---- the text

abbrev finished : Option (json.Json × List Token) → Option Data
finished o = option_and_then of_json (option_and_then (λ p. json.if_last p.0 p.1) o)

-- the compact text of a tidy value is read as that value, if it nests no deeper than JSON may
pub read-compact_text : (d : Data) → IsTidy d → depth d ≤ max_depth → read (compact_text d) ≡ Some d
read-compact_text d t shallow =
    let ts = tree.json_tokens (outline d) in
    let same : tokens (compact_text d) ≡ ts = ap tokens (sym (print-outline d)) ∙ tokens-print ts (ArePrintable-json_tokens (outline d) (numbers_are d t)) in
    ap finished (ap (json.value max_depth) (same ∙ sym (append-nil ts)) ∙ value-json_tokens (outline d) max_depth [] (omega (arith, same_depth d, shallow))) ∙ of_outline d t

-- the identity text of tidy and shallow nodes is read as their identity value
pub read-identity : (nodes : List NodeView) → TidyNodes nodes → ShallowNodes nodes → read (identity nodes) ≡ Some (identity_value nodes)
read-identity nodes t shallow = read-compact_text (identity_value nodes) (identity_is_tidy nodes t) (omega (arith, identity_nests nodes shallow))
