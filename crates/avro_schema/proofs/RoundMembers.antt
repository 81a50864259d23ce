-- Members that are inserted among other attributes and removed again.
use Rattle.std.proofs.Common.{◌≡◌, ◌≢◌, ℕ, List, [], ◌∷◌, Bool, true, false, cond, ◌||◌, Option, Some, None, Ordering, Less, Equal, Greater, nat_cmp, is_eq, bytes_eq, refl, sym, ap, ◌∙◌, true≢false}
use Rattle.std.specs.Cmp.Lexicographic.{slice_cmp}
use Rattle.std.specs.List.{list_any}
use Rattle.std.specs.Ordering.{match_ordering}
use Rattle.std.proofs.lemmas.Map.Text.{is_eq-slice_cmp}
use Rattle.serde_json.specs.Data.{Data, Members, no_members, member, put}
use Rattle.serde_json.specs.Find.{get_member}
use Rattle.avro_schema.specs.Attributes.{without, without_all}
use Rattle.avro_schema.proofs.Inversion.{differ, same_bytes}

-- whether a key is one of these
abbrev pub is_among : List (List ℕ) → List ℕ → Bool
is_among keys l = list_any (λ k. bytes_eq k l) keys

-- the members with other keys, in one pass
abbrev pub kept : List (List ℕ) → Members → Members
kept keys no_members = no_members
kept keys (member l d ms) = cond (is_among keys l) (kept keys ms) (member l d (kept keys ms))

-- ---- removing keys one at a time or in one pass

keep_all : (ms : Members) → kept [] ms ≡ ms
keep_all no_members = refl
keep_all (member l d ms) = ap (member l d) (keep_all ms)

keep_more_at : (same : Bool) (k : List ℕ) (ks : List (List ℕ)) (l : List ℕ) (d : Data) (ms : Members) → kept ks (without k ms) ≡ kept (k ∷ ks) ms
    → kept ks (cond same (without k ms) (member l d (without k ms))) ≡ cond (same || is_among ks l) (kept (k ∷ ks) ms) (member l d (kept (k ∷ ks) ms))
keep_more_at true k ks l d ms later = later
keep_more_at false k ks l d ms later = rw later refl

keep_more : (k : List ℕ) (ks : List (List ℕ)) (ms : Members) → kept ks (without k ms) ≡ kept (k ∷ ks) ms
keep_more k ks no_members = refl
keep_more k ks (member l d ms) = keep_more_at (bytes_eq k l) k ks l d ms (keep_more k ks ms)

pub without_is_kept : (ks : List (List ℕ)) (ms : Members) → without_all ks ms ≡ kept ks ms
without_is_kept [] ms = sym (keep_all ms)
without_is_kept (k ∷ ks) ms = without_is_kept ks (without k ms) ∙ keep_more k ks ms

-- ---- a member with one of the keys is removed

past_put_at : (o : Ordering) (ks : List (List ℕ)) (k l : List ℕ) (d e : Data) (ms : Members) → slice_cmp nat_cmp k l ≡ o → is_among ks k ≡ true → kept ks (put k d ms) ≡ kept ks ms
    → kept ks (match_ordering o (member k d (member l e ms)) (member l d ms) (member l e (put k d ms))) ≡ kept ks (member l e ms)
past_put_at Less ks k l d e ms is among later = rw among refl
past_put_at Equal ks k l d e ms is among later =
    let same : k ≡ l = same_bytes k l (sym (is_eq-slice_cmp k l) ∙ ap is_eq is) in
    rw (← same, among) refl
past_put_at Greater ks k l d e ms is among later = rw later refl

past_put : (ks : List (List ℕ)) (k : List ℕ) (d : Data) (ms : Members) → is_among ks k ≡ true → kept ks (put k d ms) ≡ kept ks ms
past_put ks k d no_members among = rw among refl
past_put ks k d (member l e ms) among = past_put_at (slice_cmp nat_cmp k l) ks k l d e ms refl among (past_put ks k d ms among)

pub without-put : (ks : List (List ℕ)) (k : List ℕ) (d : Data) (ms : Members) → is_among ks k ≡ true → without_all ks (put k d ms) ≡ without_all ks ms
without-put ks k d ms among = without_is_kept ks (put k d ms) ∙ past_put ks k d ms among ∙ sym (without_is_kept ks ms)

-- removing the keys again changes nothing
kept_twice_at : (among : Bool) (ks : List (List ℕ)) (l : List ℕ) (d : Data) (ms : Members) → is_among ks l ≡ among → kept ks (kept ks ms) ≡ kept ks ms
    → kept ks (cond among (kept ks ms) (member l d (kept ks ms))) ≡ cond among (kept ks ms) (member l d (kept ks ms))
kept_twice_at true ks l d ms is later = later
kept_twice_at false ks l d ms is later = rw (is, later) refl

kept_twice : (ks : List (List ℕ)) (ms : Members) → kept ks (kept ks ms) ≡ kept ks ms
kept_twice ks no_members = refl
kept_twice ks (member l d ms) = kept_twice_at (is_among ks l) ks l d ms refl (kept_twice ks ms)

pub without_twice : (ks : List (List ℕ)) (ms : Members) → without_all ks (without_all ks ms) ≡ without_all ks ms
without_twice ks ms = ap (without_all ks) (without_is_kept ks ms) ∙ without_is_kept ks (kept ks ms) ∙ kept_twice ks ms ∙ sym (without_is_kept ks ms)

-- ---- the lookup of a removed key fails

pub not_found_at : (o : Ordering) (a : Option Data) (e : Data) → is_eq o ≡ false → a ≡ None → match_ordering o a (Some e) a ≡ None
not_found_at Less a e other none = none
not_found_at Equal a e other none = absurd (true≢false other)
not_found_at Greater a e other none = none

none_kept_at : (among : Bool) (ks : List (List ℕ)) (k l : List ℕ) (d : Data) (ms : Members) → is_among ks l ≡ among → is_among ks k ≡ true → get_member k (kept ks ms) ≡ None
    → get_member k (cond among (kept ks ms) (member l d (kept ks ms))) ≡ None
none_kept_at true ks k l d ms is in_it later = later
none_kept_at false ks k l d ms is in_it later =
    let apart : k ≢ l = λ e. true≢false (sym in_it ∙ ap (is_among ks) e ∙ is) in
    not_found_at (slice_cmp nat_cmp k l) (get_member k (kept ks ms)) d (is_eq-slice_cmp k l ∙ differ k l apart) later

none_kept : (ks : List (List ℕ)) (k : List ℕ) (ms : Members) → is_among ks k ≡ true → get_member k (kept ks ms) ≡ None
none_kept ks k no_members in_it = refl
none_kept ks k (member l d ms) in_it = none_kept_at (is_among ks l) ks k l d ms refl in_it (none_kept ks k ms in_it)

pub none_without : (ks : List (List ℕ)) (k : List ℕ) (ms : Members) → is_among ks k ≡ true → get_member k (without_all ks ms) ≡ None
none_without ks k ms in_it = ap (get_member k) (without_is_kept ks ms) ∙ none_kept ks k ms in_it
