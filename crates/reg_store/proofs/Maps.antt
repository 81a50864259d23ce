-- A finite map, and a function or another map with an entry for the same keys.
use Rattle.std.proofs.Common.{◌≡◌, ◌≢◌, inl, inr, List, ℕ, Option, Some, None, Ordering, true, false, cond, refl, sym, ap, ◌∙◌}
use Rattle.std.specs.Prelude.{option_map, bytes_eq}
use Rattle.std.specs.FinMap.{FinMap, get, insert, remove, same_map}
use Rattle.std.proofs.lemmas.Slice.Eq.{bytes_eq-Decides}
use Rattle.std.proofs.lemmas.Bool.{false_from_ne_true}
use Rattle.reg_tables.specs.Contents.{text_cmp, TextMap}
use Rattle.reg_tables.specs.Inside.KeyedLaws.{IsKeyOrder}
use Rattle.reg_tables.proofs.MapLemmas.{get-insert-same, get-insert-other, get-remove-same, get-remove-other, same_or_not}
use Rattle.reg_tables.proofs.KeyedTables.{text_order}

pub same_bytes : (a : List ℕ) → bytes_eq a a ≡ true
same_bytes a = (bytes_eq-Decides a a).1 refl

pub other_bytes : (a b : List ℕ) → b ≢ a → bytes_eq a b ≡ false
other_bytes a b other = false_from_ne_true _ (λ h. other (sym ((bytes_eq-Decides a b).0 h)))

pub insert_both : {V W : Type 0} (write : V → W) (m : TextMap W) (look : List ℕ → Option V) (k : List ℕ) (v : V) → ((q : List ℕ) → get m q ≡ option_map write (look q))
    → (q : List ℕ) → get (insert m k (write v)) q ≡ option_map write (cond (bytes_eq k q) (Some v) (look q))
insert_both write m look k v same q = elim (same_or_not text_cmp text_order q k) [
  | inl e ↦ ap (get (insert m k (write v))) e ∙ get-insert-same text_cmp text_order m k (write v) ∙ sym (ap (λ b. option_map write (cond b (Some v) (look q))) (ap (bytes_eq k) e ∙ same_bytes k))
  | inr other ↦ get-insert-other text_cmp text_order m k (write v) q other ∙ same q ∙ sym (ap (λ b. option_map write (cond b (Some v) (look q))) (other_bytes k q other))
]

pub remove_both : {V W : Type 0} (write : V → W) (m : TextMap W) (look : List ℕ → Option V) (k : List ℕ) → ((q : List ℕ) → get m q ≡ option_map write (look q))
    → (q : List ℕ) → get (remove m k) q ≡ option_map write (cond (bytes_eq k q) None (look q))
remove_both write m look k same q = elim (same_or_not text_cmp text_order q k) [
  | inl e ↦ ap (get (remove m k)) e ∙ get-remove-same text_cmp text_order m k ∙ sym (ap (λ b. option_map write (cond b None (look q))) (ap (bytes_eq k) e ∙ same_bytes k))
  | inr other ↦ get-remove-other text_cmp text_order m k q other ∙ same q ∙ sym (ap (λ b. option_map write (cond b None (look q))) (other_bytes k q other))
]

pub insert-insert : {W : Type 0} (m : TextMap W) (k : List ℕ) (v w : W) → insert (insert m k v) k w ≡ insert m k w
insert-insert m k v w = same_map text_order.total text_order.antisymmetric _ _ (λ q. elim (same_or_not text_cmp text_order q k) [
  | inl e ↦ ap (get (insert (insert m k v) k w)) e ∙ get-insert-same text_cmp text_order (insert m k v) k w ∙ sym (get-insert-same text_cmp text_order m k w) ∙ ap (get (insert m k w)) (sym e)
  | inr other ↦ get-insert-other text_cmp text_order (insert m k v) k w q other ∙ get-insert-other text_cmp text_order m k v q other ∙ sym (get-insert-other text_cmp text_order m k w q other)
])

pub insert-swap : {W : Type 0} (m : TextMap W) (k : List ℕ) (v : W) (q : List ℕ) (w : W) → q ≢ k → insert (insert m k v) q w ≡ insert (insert m q w) k v
insert-swap m k v q w apart = same_map text_order.total text_order.antisymmetric _ _ (λ x. elim (same_or_not text_cmp text_order x q) [
  | inl e ↦
      let other : x ≢ k = (λ h. apart (sym e ∙ h)) in
      ap (get (insert (insert m k v) q w)) e ∙ get-insert-same text_cmp text_order (insert m k v) q w ∙ sym (get-insert-same text_cmp text_order m q w) ∙ ap (get (insert m q w)) (sym e) ∙ sym (get-insert-other text_cmp text_order (insert m q w) k v x other)
  | inr not_q ↦ elim (same_or_not text_cmp text_order x k) [
    | inl e ↦
        get-insert-other text_cmp text_order (insert m k v) q w x not_q ∙ ap (get (insert m k v)) e ∙ get-insert-same text_cmp text_order m k v ∙ sym (get-insert-same text_cmp text_order (insert m q w) k v) ∙ ap (get (insert (insert m q w) k v)) (sym e)
    | inr not_k ↦
        get-insert-other text_cmp text_order (insert m k v) q w x not_q ∙ get-insert-other text_cmp text_order m k v x not_k ∙ sym (get-insert-other text_cmp text_order m q w x not_q) ∙ sym (get-insert-other text_cmp text_order (insert m q w) k v x not_k)
  ]
])

-- a map whose values are those of another, encoded
module _ {K V W : Type 0} {R : K → K → Ordering} (order : IsKeyOrder R) (write : V → W) (m : FinMap R W) (n : FinMap R V) (same : (q : K) → get m q ≡ option_map write (get n q)) (k : K) where
  pub insert_each : (v : V) (q : K) → get (insert m k (write v)) q ≡ option_map write (get (insert n k v) q)
  insert_each v q = elim (same_or_not R order q k) [
    | inl e ↦ ap (get (insert m k (write v))) e ∙ get-insert-same R order m k (write v) ∙ sym (ap (option_map write) (ap (get (insert n k v)) e ∙ get-insert-same R order n k v))
    | inr other ↦ get-insert-other R order m k (write v) q other ∙ same q ∙ sym (ap (option_map write) (get-insert-other R order n k v q other))
  ]

  pub remove_each : (q : K) → get (remove m k) q ≡ option_map write (get (remove n k) q)
  remove_each q = elim (same_or_not R order q k) [
    | inl e ↦ ap (get (remove m k)) e ∙ get-remove-same R order m k ∙ sym (ap (option_map write) (ap (get (remove n k)) e ∙ get-remove-same R order n k))
    | inr other ↦ get-remove-other R order m k q other ∙ same q ∙ sym (ap (option_map write) (get-remove-other R order n k q other))
  ]
