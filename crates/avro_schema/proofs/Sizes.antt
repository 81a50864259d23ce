-- The names of a definition are among the strings of the value written for it.
use Rattle.std.proofs.Common.{◌≡◌, ℕ, ◌+◌, ◌≤◌, List, [], ◌∷◌, ◌++◌, length, Bool, true, false, cond, Option, Some, None, codes, bytes_eq, refl, sym, ap, ◌∙◌, true≢false, Ordering, Less, Equal, Greater, nat_cmp, is_eq, arith}
use Rattle.std.specs.Cmp.Lexicographic.{slice_cmp}
use Rattle.std.specs.Ordering.{match_ordering}
use Rattle.std.proofs.lemmas.Map.Text.{is_eq-slice_cmp}
use Rattle.serde_json.specs.Data.{Data, string, array, Items, Members, no_members, member}
use Rattle.serde_json.specs.Find.{get_member}
use Rattle.avro_nodes.specs.Nodes.{NamedView, NodeView}
use Rattle.avro_nodes.specs.Identity.{texts}
use Rattle.avro_nodes.proofs.Lengths.{data_size, items_size, members_size}
use Rattle.avro_schema.specs.Attributes.{without}
use Rattle.avro_schema.specs.Inside.Weight.{texts_size, named_size, names_size}
use Rattle.avro_schema.specs.Inside.Mentions.{mentions}
use Rattle.avro_schema.proofs.Inversion.{get-without}
use Rattle.avro_schema.proofs.RoundDeclarations.{aliases_due}

-- ---- members with different keys

abbrev pub option_size : Option Data → ℕ
option_size None = 0
option_size (Some d) = data_size d

found_at : (o : Ordering) (same : Bool) (k l : List ℕ) (d : Data) (ms : Members) → is_eq o ≡ same → option_size (get_member k ms) + members_size (without k ms) ≤ members_size ms
    → option_size (match_ordering o (get_member k ms) (Some d) (get_member k ms)) + members_size (cond same (without k ms) (member l d (without k ms))) ≤ data_size d + members_size ms
found_at Less true k l d ms is later = absurd (true≢false (sym is))
found_at Less false k l d ms is later = omega (arith, later)
found_at Equal true k l d ms is later = omega (arith, later)
found_at Equal false k l d ms is later = absurd (true≢false is)
found_at Greater true k l d ms is later = absurd (true≢false (sym is))
found_at Greater false k l d ms is later = omega (arith, later)

-- one member, and the members with other keys
found : (k : List ℕ) (ms : Members) → option_size (get_member k ms) + members_size (without k ms) ≤ members_size ms
found k no_members = omega arith
found k (member l d ms) = found_at (slice_cmp nat_cmp k l) (bytes_eq k l) k l d ms (is_eq-slice_cmp k l) (found k ms)

pub one_found : (k : List ℕ) (d : Data) (ms : Members) → get_member k ms ≡ Some d → data_size d ≤ members_size ms
one_found k d ms e = omega (arith, found k ms, ap option_size e)

aliases_size : (ts : List (List ℕ)) → items_size (texts ts) ≡ texts_size ts
aliases_size [] = refl
aliases_size (t ∷ ts) = ap (λ (n : ℕ). length t + n) (aliases_size ts)

due_size : (ts : List (List ℕ)) → option_size (aliases_due ts) ≡ texts_size ts
due_size [] = refl
due_size (t ∷ ts) = aliases_size (t ∷ ts)

module _ (named : NamedView) (ms : Members) (name : get_member (codes "name") ms ≡ Some (string named.name)) (aliases : get_member (codes "aliases") ms ≡ aliases_due named.aliases) where
  -- the names of a definition, and one more of its members
  with_one : (k : List ℕ) → bytes_eq (codes "name") k ≡ false → bytes_eq (codes "aliases") k ≡ false → named_size named + option_size (get_member k ms) ≤ members_size ms
  with_one k a b =
      let inner = without (codes "name") ms in
      omega (
        arith,
        found (codes "name") ms,
        ap option_size name,
        found (codes "aliases") inner,
        ap option_size (get-without (codes "aliases") (codes "name") ms refl ∙ aliases),
        due_size named.aliases,
        found k (without (codes "aliases") inner),
        ap option_size (get-without k (codes "aliases") inner b ∙ get-without k (codes "name") ms a),
      )

  pub named_found : named_size named ≤ members_size ms
  named_found = omega (arith, with_one (codes "fields") refl refl)

  pub record_found : (fields : Items) → get_member (codes "fields") ms ≡ Some (array fields) → named_size named + items_size fields ≤ members_size ms
  record_found fields e = omega (arith, with_one (codes "fields") refl refl, ap option_size e)

-- ---- nodes

pub names_append : (nodes more : List NodeView) → names_size (nodes ++ more) ≡ names_size nodes + names_size more
names_append [] more = omega arith
names_append (node ∷ nodes) more = omega (arith, names_append nodes more)

pub mentions_append : (all nodes more : List NodeView) → mentions all (nodes ++ more) ≡ mentions all nodes + mentions all more
mentions_append all [] more = omega arith
mentions_append all (node ∷ nodes) more = omega (arith, mentions_append all nodes more)
