-- How the length of the entries' texts changes with the entries.
use Rattle.std.proofs.Common.{◌≡◌, ℕ, zero, suc, ◌+◌, ◌-◌, ◌≤◌, ◌<◌, Bool, true, false, List, [], ◌∷◌, length, take, slice_get, Option, Some, None, refl, arith, cond, nat_eq, ◌≢◌, ap, sym, ◌∙◌}
use Rattle.std.proofs.lemmas.Bool.{eqb-true, ne_eqb}
use Rattle.std.proofs.lemmas.List.{take_all}
use Rattle.std.specs.Option.{option_map_or}
use Rattle.std.specs.Prelude.{option_map}
use Rattle.std.specs.Map.{lookup, lookup_entry, remove_entry}
use Rattle.lru.specs.LruCache.{LruCache, promoted, put_entries, displaced, last_entry}
use Rattle.lru.proofs.CallerLemmas.{Contains-lookup_entry}
use Rattle.schema_cache.specs.Entries.{EntryView, entry_text_bytes, text_bytes}

pub text_bytes-take : (n : ℕ) (es : List (ℕ × EntryView)) → length es ≤ suc n → text_bytes (take n es) + entry_text_bytes (slice_get es n) ≡ text_bytes es
text_bytes-take zero [] h = refl
text_bytes-take zero (e ∷ []) h = omega arith
text_bytes-take zero (e ∷ f ∷ es) h = absurd (omega arith)
text_bytes-take (suc n) [] h = refl
text_bytes-take (suc n) (e ∷ es) h = let later = text_bytes-take n es (omega arith) in omega arith

pub text_bytes-last : (es : List (ℕ × EntryView)) → text_bytes (take (length es - 1) es) + entry_text_bytes (last_entry es) ≡ text_bytes es
text_bytes-last es = text_bytes-take (length es - 1) es (omega arith)

module _ (test : ℕ → Bool) where
  pub text_bytes-remove_entry : (es : List (ℕ × EntryView)) → text_bytes (remove_entry test es) + entry_text_bytes (lookup_entry test es) ≡ text_bytes es
  text_bytes-remove_entry [] = refl
  text_bytes-remove_entry (e ∷ es) = by (test e.0) (text_bytes-remove_entry es)
    where
      by : (b : Bool) → text_bytes (remove_entry test es) + entry_text_bytes (lookup_entry test es) ≡ text_bytes es → text_bytes (cond b es (e ∷ remove_entry test es)) + entry_text_bytes (cond b (Some e) (lookup_entry test es)) ≡ text_bytes (e ∷ es)
      by true later = omega arith
      by false later = omega arith

  pub text_bytes-promoted : (es : List (ℕ × EntryView)) → text_bytes (promoted test es) ≡ text_bytes es
  text_bytes-promoted es = by (lookup_entry test es) (text_bytes-remove_entry es)
    where
      by : (o : Option (ℕ × EntryView)) → text_bytes (remove_entry test es) + entry_text_bytes o ≡ text_bytes es → text_bytes (option_map_or (λ e. e ∷ remove_entry test es) o es) ≡ text_bytes es
      by None h = refl
      by (Some e) h = omega arith

  pub lookup-by_entry : (es : List (ℕ × EntryView)) → lookup test es ≡ option_map (λ e. e.1) (lookup_entry test es)
  lookup-by_entry [] = refl
  lookup-by_entry (e ∷ es) = by (test e.0) (lookup-by_entry es)
    where
      by : (b : Bool) → lookup test es ≡ option_map (λ e. e.1) (lookup_entry test es) → cond b (Some e.1) (lookup test es) ≡ option_map (λ e. e.1) (cond b (Some e) (lookup_entry test es))
      by true later = refl
      by false later = later

  -- a promotion doesn't change the first entry that passes
  pub lookup-promoted : (es : List (ℕ × EntryView)) → lookup test (promoted test es) ≡ lookup test es
  lookup-promoted es = by (lookup_entry test es) refl
    where
      by : (o : Option (ℕ × EntryView)) → lookup_entry test es ≡ o → lookup test (option_map_or (λ e. e ∷ remove_entry test es) o es) ≡ lookup test es
      by None h = refl
      by (Some e) h = rw ((Contains-lookup_entry test es e h).1, lookup-by_entry es, h) refl

  -- without an entry of another key, a look-up finds the same
  pub lookup-other : (q : ℕ → Bool) → ((k : ℕ) → test k ≡ true → q k ≡ false) → (es : List (ℕ × EntryView)) → lookup q (remove_entry test es) ≡ lookup q es
  lookup-other q apart [] = refl
  lookup-other q apart (e ∷ es) = by (test e.0) refl (lookup-other q apart es)
    where
      by : (b : Bool) → test e.0 ≡ b → lookup q (remove_entry test es) ≡ lookup q es → lookup q (cond b es (e ∷ remove_entry test es)) ≡ cond (q e.0) (Some e.1) (lookup q es)
      by true is later = rw (apart e.0 is) refl
      by false is later = ap (cond (q e.0) (Some e.1)) later

module _ (c : LruCache ℕ EntryView) (k : ℕ) (v : EntryView) (room : length c.entries < c.cap) where
  one_test : (other key : ℕ) → other ≢ k → nat_eq k key ≡ true → nat_eq other key ≡ false
  one_test other key apart is = ne_eqb other key (λ e. apart (e ∙ sym (eqb-true k key is)))

  -- `push` changes the entry of no other key, if there is room for one more
  pub lookup-put_other : (other : ℕ) → other ≢ k → lookup (nat_eq other) (put_entries nat_eq c k v) ≡ lookup (nat_eq other) c.entries
  lookup-put_other other apart = by (lookup_entry (nat_eq k) c.entries) refl
    where
      by : (o : Option (ℕ × EntryView)) → lookup_entry (nat_eq k) c.entries ≡ o → lookup (nat_eq other) (option_map_or (λ e. (e.0, v) ∷ remove_entry (nat_eq k) c.entries) o ((k, v) ∷ take (c.cap - 1) c.entries)) ≡ lookup (nat_eq other) c.entries
      by None h =
          let few : length c.entries ≤ c.cap - 1 = omega arith in
          rw (ne_eqb other k apart, take_all (c.cap - 1) c.entries few) refl
      by (Some e) h = rw (one_test other e.0 apart (Contains-lookup_entry (nat_eq k) c.entries e h).1) (lookup-other (nat_eq k) (nat_eq other) (λ key is. one_test other key apart is) c.entries)

module _ (eq : ℕ → ℕ → Bool) (c : LruCache ℕ EntryView) (k : ℕ) (v : EntryView) where
  -- `push` adds an entry, and returns the displaced one
  pub text_bytes-put : length c.entries ≤ c.cap → 0 < c.cap → text_bytes (put_entries eq c k v) + entry_text_bytes (displaced eq c k v) ≡ text_bytes c.entries + length v.text
  text_bytes-put few some = by (lookup_entry (eq k) c.entries) (lookup (eq k) c.entries) (lookup-by_entry (eq k) c.entries) (text_bytes-remove_entry (eq k) c.entries)
    where
      by : (o : Option (ℕ × EntryView)) (p : Option EntryView) → p ≡ option_map (λ e. e.1) o → text_bytes (remove_entry (eq k) c.entries) + entry_text_bytes o ≡ text_bytes c.entries
          → text_bytes (option_map_or (λ e. (e.0, v) ∷ remove_entry (eq k) c.entries) o ((k, v) ∷ take (c.cap - 1) c.entries))
          + entry_text_bytes (option_map_or (λ old. Some (k, old)) p (slice_get c.entries (c.cap - 1))) ≡ text_bytes c.entries + length v.text
      by None p e h = rw e (let all = text_bytes-take (c.cap - 1) c.entries (omega arith) in omega arith)
      by (Some f) p e h = rw e (omega arith)
