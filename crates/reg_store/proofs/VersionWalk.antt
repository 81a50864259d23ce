-- Reading the ids of versions one version after another, and the verdict.
use Rattle.std.proofs.Common.{◌≡◌, ◌↔◌, ◌&&◌, ℕ, ℤ, ◌+◌, ◌<◌, List, [], ◌∷◌, ◌++◌, map, flat_map, take, length, get_or, Bool, true, IsTrue, refl, sym, ap, subst, ◌∙◌, append_assoc, append-nil, arith}
use Rattle.std.specs.List.{AllByRecursion, AllZip}
use Rattle.std.proofs.lemmas.Bool.{and_from, and_parts}
use Rattle.std.proofs.lemmas.List.{map_more}
use Rattle.sqlite.specs.Effect.{Database}
use Rattle.reg_core.specs.Registry.{RowKey}
use Rattle.reg_tables.specs.declared.evidence.RawEvidence.{RawEvidence}
use Rattle.reg_tables.specs.declared.evidence.RawAgainst.{RawAgainst}
use Rattle.reg_tables.specs.Listings.{against_rows, greatest_integer, ListsAgainstOf, ListsEvidence}
use Rattle.reg_store.specs.Spells.{SpellsUnopened}
use Rattle.reg_store.specs.Inside.TableChecks.{AreDistinct, evidence_fits, version_at, ArePositionsContiguous, rowids_in, JudgesVersion, JudgesVersions, JudgesIds, EvidenceTablesPass, SpellsSome}
use Rattle.reg_store.proofs.PartsPass.{parts_passed, fits, parts_apart, parts_counted, parts_fit}
use Rattle.reg_store.proofs.TextParts.{mapped-append}

-- ---- one version more

zip_more : {A B : Type 0} (R : A → B → Type 0) (xs : List A) (ys : List B) (x : A) (y : B) → AllZip R xs ys → R x y → AllZip R (xs ++ x ∷ []) (ys ++ y ∷ [])
zip_more R [] [] x y all it = (it, tt)
zip_more R [] (b ∷ ys) x y all it = absurd all
zip_more R (a ∷ xs) [] x y all it = absurd all
zip_more R (a ∷ xs) (b ∷ ys) x y all it = (all.0, zip_more R xs ys x y all.1 it)

joined_more : {A : Type 0} (parts : List (List A)) (lines : List A) → flat_map (λ (l : List A). l) (parts ++ lines ∷ []) ≡ flat_map (λ (l : List A). l) parts ++ lines
joined_more [] lines = append-nil lines
joined_more (first ∷ parts) lines = ap (λ l. first ++ l) (joined_more parts lines) ∙ sym (append_assoc first (flat_map (λ l. l) parts) lines)

all_more : {A : Type 0} (P : A → Type 0) (xs : List A) (x : A) → (AllByRecursion P xs × P x) ↔ AllByRecursion P (xs ++ x ∷ [])
all_more P [] x = (λ h. (h.1, tt), λ h. (tt, h.0))
all_more P (a ∷ xs) x = let rest = all_more P xs x in (λ h. (h.0.0, rest.0 (h.0.1, h.1)), λ h. let r = rest.1 h.1 in ((h.0, r.0), r.1))

pub no_versions : (db : Database) (rowids : List ℤ) → rowids ≡ [] → JudgesVersions [] db rowids true
no_versions db rowids none = record { parts = []; lists = tt; have = sym none; judged = (λ h. tt, λ h. refl) }

versions_more : (db : Database) (versions : List RowKey) (version : RowKey) (rowids added : List ℤ) (a b : Bool) → JudgesVersions versions db rowids a → JudgesVersion version db added b → JudgesVersions (versions ++ version ∷ []) db (rowids ++ added) (a && b)
versions_more db versions version rowids added a b it one = record {
  parts = it.parts ++ one.lines ∷ [];
  lists = zip_more (λ version lines. ListsAgainstOf version db lines) versions it.parts version one.lines it.lists one.lists;
  have = ap rowids_in (joined_more it.parts one.lines) ∙ mapped-append (λ (line : RawAgainst). line.rowid) (flat_map (λ (l : List RawAgainst). l) it.parts) one.lines ∙ (λ i. it.have i ++ one.have i);
  judged =
      let all = all_more ArePositionsContiguous it.parts one.lines in (
        λ yes. let both = and_parts a b yes in all.0 (it.judged.0 both.0, one.judged.0 both.1),
        λ every. let both = all.1 every in and_from a b (it.judged.1 both.0) (one.judged.1 both.1),
      );
}

abbrev pub AllPass : List RawEvidence → List ℤ → Bool → ℕ → Type 0
AllPass evidence rowids fit count = IsTrue fit × (AreDistinct (map (λ (line : RawEvidence). line.rowid) evidence) × AllByRecursion evidence_fits evidence) × (length rowids ≡ count) × AreDistinct rowids

module _ (db : Database) (evidence : List RawEvidence) where
  pub next_version : (i : ℕ) (line d : RawEvidence) → i < length evidence → line ≡ get_or evidence i d → (before added after : List ℤ) (a b fit : Bool) → JudgesVersions (map version_at (take i evidence)) db before a
      → (other : Database) → other ≡ db → JudgesVersion (version_at line) other added b
      → after ≡ before ++ added → fit ≡ (a && b) → JudgesVersions (map version_at (take (i + 1) evidence)) db after fit
  next_version i line d within is before added after a b fit it other same one rowids_are fit_is =
      let versions = map version_at (take i evidence) in
      let more = versions_more db versions (version_at line) before added a b it (subst (λ (x : Database). JudgesVersion (version_at line) x added b) same one) in
      let grown : map version_at (take (i + 1) evidence) ≡ versions ++ version_at line ∷ [] = map_more version_at evidence i d within ∙ ap (λ (l : RawEvidence). versions ++ version_at l ∷ []) (sym is) in
      subst (λ (vs : List RowKey). JudgesVersions vs db after fit) (sym grown)
      (subst (λ (ids : List ℤ). JudgesVersions (versions ++ version_at line ∷ []) db ids fit) (sym rowids_are) (subst (JudgesVersions (versions ++ version_at line ∷ []) db (before ++ added)) (sym fit_is) more))

  -- ---- the verdict

  module _ (lists : ListsEvidence db evidence) (rowids : List ℤ) (fit : Bool) (count : ℕ) (it : JudgesIds (map version_at evidence) db rowids fit count) (few : length rowids < greatest_integer) where
    pub all_passed : AllPass evidence rowids fit count → EvidenceTablesPass db
    all_passed p =
        let many : length (against_rows db) ≡ length rowids = (let same = p.2 in let counted = it.counted in omega (arith, same, counted, few)) in
        parts_passed db evidence lists rowids fit it.judged p.1 p.3 many p.0

    pub none_refused : SpellsSome SpellsUnopened db → AllPass evidence rowids fit count
    none_refused s =
        let rows = fits db evidence lists rowids fit it.judged s in
        let many = parts_counted db evidence lists rowids fit it.judged s in
        let counted = it.counted in
        let same : length rowids ≡ count = omega (arith, many, counted, few) in
        (parts_fit db evidence lists rowids fit it.judged s, (rows.apart, rows.fit), same, parts_apart db evidence lists rowids fit it.judged s)
