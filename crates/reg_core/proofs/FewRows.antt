-- A few versions of a subject that suffice in place of all: they determine the reply and the changes of a command.
use Rattle.std.proofs.Common.{◌≡◌, ◌≢◌, ◌∙◌, ℕ, suc, ◌≤◌, ◌==◌, Bool, true, false, true≢false, List, [], ◌∷◌, ◌++◌, append-nil, refl, ap, sym, subst, arith}
use Rattle.std.specs.Prelude.{All, Option, None, Some, Ok, Err, not, ◌||◌, filter, length, nat_lt, option_to_list, if◌then◌else◌}
use Rattle.std.specs.List.{Contains, last_or}
use Rattle.std.specs.Option.{ok_or}
use Rattle.std.proofs.lemmas.Bool.{eq-eqb, lt-ltb}
use Rattle.std.proofs.lemmas.List.Elements.{All-nil, All-cons, All-head, All-tail, filter-append}
use Rattle.std.proofs.lemmas.Option.{none-some}
use Rattle.reg_core.specs.declared.level.Level.{Level}
use Rattle.reg_core.specs.declared.level.Level.TheVariants.{Backward, BackwardTransitive, Forward, ForwardTransitive, Full, FullTransitive, Off}
use Rattle.reg_core.specs.declared.code.Code.TheVariants.{SchemaNotFound, SubjectSoftDeleted}
use Rattle.reg_core.specs.declared.number.VersionChoice.{VersionChoice}
use Rattle.reg_core.specs.declared.number.VersionChoice.TheVariants.{Latest, Numbered}
use Rattle.reg_core.specs.Compatibility.{latest, named_versions, is_transitive}
use Rattle.reg_core.specs.DeletionCommands.{require_live, require_deleted, if_found, row_to_soft_delete, row_to_delete}
use Rattle.reg_core.specs.ReadCommands.{found_row, lookup_row, rows_with_id}
use Rattle.reg_core.specs.RegisterCommands.{is_among}
use Rattle.reg_core.specs.Registry.{Row}
use Rattle.reg_core.specs.Rows.{rows_with, live_rows, visible_rows, next_number}
use Rattle.reg_core.specs.declared.needs.SubjectRows.{SubjectRows}
use Rattle.reg_core.specs.declared.needs.SubjectRows.TheVariants.{Every, ToChoose, ToDelete, ToLookUp, ToCompare, ToRegister}
use Rattle.reg_core.specs.Needs.{SufficeToRegister, SufficeForSubject}
use Rattle.reg_core.proofs.ChosenRows.{All-latest, filter_all, last_is_shown, some_last}
use Rattle.reg_core.proofs.DeletionSteps.{all_shown}
use Rattle.reg_core.proofs.LastRows.{Rising, last_passes, latest_again, next_onto, none_latest_of, up_to_last}
use Rattle.reg_core.proofs.RowLemmas.{All-live_rows, filter_keeps}

none_pass : {X : Type 0} (p : X → Bool) (xs : List X) → filter p xs ≡ [] → All (λ x. p x ≡ false) xs
none_pass p [] e = All-nil (λ x. p x ≡ false)
none_pass p (x ∷ xs) e = by (p x) refl e (none_pass p xs)
  where
    by : (b : Bool) → p x ≡ b → (if b then x ∷ filter p xs else filter p xs) ≡ [] → (filter p xs ≡ [] → All (λ y. p y ≡ false) xs) → All (λ y. p y ≡ false) (x ∷ xs)
    by true is f rest = absurd cc
    by false is f rest = All-cons (λ y. p y ≡ false) x xs is (rest f)

passes_none : {X : Type 0} (p : X → Bool) (xs : List X) → All (λ x. p x ≡ false) xs → filter p xs ≡ []
passes_none p [] h = refl
passes_none p (x ∷ xs) h = ap (λ b. if b then x ∷ filter p xs else filter p xs) (All-head (λ y. p y ≡ false) x xs h) ∙ passes_none p xs (All-tail (λ y. p y ≡ false) x xs h)

-- ---- the last version

-- a level that isn't transitive compares with the last version only
pub named_latest : (level : Level) (rows : List Row) → is_transitive level ≡ false → named_versions level (latest rows) ≡ named_versions level rows
named_latest Backward rows e = latest_again rows
named_latest BackwardTransitive rows e = absurd (true≢false e)
named_latest Forward rows e = latest_again rows
named_latest ForwardTransitive rows e = absurd (true≢false e)
named_latest Full rows e = latest_again rows
named_latest FullTransitive rows e = absurd (true≢false e)
named_latest Off rows e = refl

-- ---- ids

-- if a version has the id, the id is among these
pub among_of : (id : ℕ) (row : Row) (rows : List Row) → Contains rows row → row.1.id ≡ id → is_among (Some id) rows ≡ true
among_of id row rows there e = some (rows_with id rows) (filter_keeps (λ (r : Row). r.1.id == id) rows row there (eq-eqb row.1.id id e))
  where
    some : (xs : List Row) → Contains xs row → nat_lt 0 (length xs) ≡ true
    some [] h = absurd (omega (arith, h.1))
    some (x ∷ xs) h = lt-ltb 0 (suc (length xs)) (omega arith)

none_with : (known : Option ℕ) (rows : List Row) → is_among known rows ≡ false → rows_with_id known rows ≡ []
none_with known rows e = by (rows_with_id known rows) e
  where
    by : (xs : List Row) → nat_lt 0 (length xs) ≡ false → xs ≡ []
    by [] h = refl
    by (x ∷ xs) h = absurd (true≢false (sym (lt-ltb 0 (suc (length xs)) (omega arith)) ∙ h))

with_latest : (id : ℕ) (rows : List Row) → rows_with id rows ≡ [] → rows_with id (latest rows) ≡ []
with_latest id [] e = e
with_latest id (x ∷ []) e = e
with_latest id (x ∷ y ∷ ys) e = by (x.1.id == id) e (with_latest id (y ∷ ys))
  where
    by : (b : Bool) → (if b then x ∷ rows_with id (y ∷ ys) else rows_with id (y ∷ ys)) ≡ [] → (rows_with id (y ∷ ys) ≡ [] → rows_with id (latest (y ∷ ys)) ≡ []) → rows_with id (latest (y ∷ ys)) ≡ []
    by true f h = absurd cc
    by false f h = h f

none_latest : (known : Option ℕ) (rows : List Row) → rows_with_id known rows ≡ [] → rows_with_id known (latest rows) ≡ []
none_latest None rows e = refl
none_latest (Some id) rows e = with_latest id rows e

-- ---- Register

-- a live version with the id suffices
pub registers_found : (level : Level) (id : ℕ) (row : Row) (all : List Row) → Contains (live_rows all) row → row.1.id ≡ id → row.1.deleted ≡ false → SufficeToRegister level (Some id) (row ∷ []) all
registers_found level id row all there e alive =
    let here : Contains (live_rows (row ∷ [])) row = filter_keeps (λ (r : Row). not r.1.deleted) (row ∷ []) row (0, omega arith, refl) (ap not alive) in
    let among = among_of id row (live_rows all) there e in record {
      among = among_of id row (live_rows (row ∷ [])) here e ∙ sym among;
      next = λ none. absurd (true≢false (sym among ∙ none));
      named = λ none. absurd (true≢false (sym among ∙ none));
    }

-- if no live version has the id, the last live version and the next number suffice
pub registers_few : (level : Level) (known : Option ℕ) (seen all : List Row) → is_transitive level ≡ false → is_among known (live_rows all) ≡ false
    → next_number seen ≡ next_number all → live_rows seen ≡ latest (live_rows all) → SufficeToRegister level known seen all
registers_few level known seen all few unknown next live =
    let none = none_latest known (live_rows all) (none_with known (live_rows all) unknown) in
    let unseen : is_among known (live_rows seen) ≡ false = ap (λ (rows : List Row). is_among known rows) live ∙ ap (λ (rows : List Row). nat_lt 0 (length rows)) none in record {
      among = unseen ∙ sym unknown;
      next = λ _. next;
      named = λ _. ap (named_versions level) live ∙ named_latest level (live_rows all) few;
    }

-- the last version suffices if it is live
pub registers_last : (level : Level) (known : Option ℕ) (last : Row) (all : List Row) → is_transitive level ≡ false → is_among known (live_rows all) ≡ false → Rising all → latest all ≡ last ∷ [] → last.1.deleted ≡ false
    → SufficeToRegister level known (last ∷ []) all
registers_last level known last all few unknown rising e alive =
    registers_few level known (last ∷ []) all few unknown
    (next_onto [] all last rising e (All-nil (λ (r : Row). r.0.1 ≤ last.0.1)))
    (filter_all (λ (r : Row). not r.1.deleted) (last ∷ []) (All-cons (λ (r : Row). not r.1.deleted ≡ true) last [] (ap not alive) (All-nil (λ (r : Row). not r.1.deleted ≡ true))) ∙ sym (last_passes (λ (r : Row). not r.1.deleted) all last e (ap not alive)))

-- if the last version is soft-deleted, it suffices with the last live one
pub registers_ends : (level : Level) (known : Option ℕ) (last : Row) (all : List Row) → is_transitive level ≡ false → is_among known (live_rows all) ≡ false → Rising all → latest all ≡ last ∷ [] → last.1.deleted ≡ true
    → SufficeToRegister level known (latest (live_rows all) ++ last ∷ []) all
registers_ends level known last all few unknown rising e gone =
    let P = λ (r : Row). r.0.1 ≤ last.0.1 in
    let alone : live_rows (last ∷ []) ≡ [] = rw gone refl in
    registers_few level known (latest (live_rows all) ++ last ∷ []) all few unknown
    (next_onto (latest (live_rows all)) all last rising e (All-latest P (live_rows all) (All-live_rows P all (up_to_last all last rising e))))
    (filter-append (λ (r : Row). not r.1.deleted) (latest (live_rows all)) (last ∷ [])
    ∙ (ap (λ (rows : List Row). live_rows (latest (live_rows all)) ++ rows) alone
    ∙ (append-nil (live_rows (latest (live_rows all))) ∙ last_is_shown false all)))

pub registers_all : (level : Level) (known : Option ℕ) (seen all : List Row) → seen ≡ all → SufficeToRegister level known seen all
registers_all level known seen all is = subst (λ (rows : List Row). SufficeToRegister level known rows all) (sym is) (record { among = refl; next = λ _. refl; named = λ _. refl })

pub all_tell : (level : Level) (known : Option ℕ) (asked : SubjectRows) (seen all : List Row) → seen ≡ all → SufficeForSubject level known asked seen all
all_tell level known Every seen all is = is
all_tell level known (ToChoose choice deleted) seen all is = ap (λ (rows : List Row). found_row choice (visible_rows deleted rows)) is
all_tell level known (ToDelete choice permanent) seen all is = ap (row_to_delete permanent choice) is
all_tell level known (ToLookUp deleted) seen all is = ap (λ (rows : List Row). lookup_row known (visible_rows deleted rows)) is
all_tell level known ToCompare seen all is = ap (λ (rows : List Row). named_versions level (live_rows rows)) is
all_tell level known ToRegister seen all is = registers_all level known seen all is

pub registers_none : (level : Level) (known : Option ℕ) (all : List Row) → latest all ≡ [] → SufficeToRegister level known [] all
registers_none level known all e = registers_all level known [] all (sym (none_latest_of all e))

-- ---- CheckAll

-- the last live version suffices for a level that isn't transitive
pub checks_last : (level : Level) (all : List Row) → is_transitive level ≡ false → named_versions level (live_rows (latest (live_rows all))) ≡ named_versions level (live_rows all)
checks_last level all few = ap (named_versions level) (last_is_shown false all) ∙ named_latest level (live_rows all) few

-- ---- Lookup

looked_some : (known : Option ℕ) (rows : List Row) (row : Row) → last_or None (rows_with_id known rows) ≡ Some row → lookup_row known rows ≡ Ok row
looked_some None rows row e = absurd (none-some row e)
looked_some (Some id) [] row e = absurd (none-some row e)
looked_some (Some id) (r ∷ rows) row e = ap (λ (o : Option Row). ok_or o SchemaNotFound) e

-- the last shown version with the id suffices to look it up
pub looks_up_found : (deleted : Bool) (id : ℕ) (row : Row) (all : List Row) → last_or None (rows_with id (visible_rows deleted all)) ≡ Some row → (deleted || not row.1.deleted) ≡ true → row.1.id ≡ id
    → lookup_row (Some id) (visible_rows deleted (row ∷ [])) ≡ lookup_row (Some id) (visible_rows deleted all)
looks_up_found deleted id row all e shown has =
    let p = λ (r : Row). deleted || not r.1.deleted in
    let alone : visible_rows deleted (row ∷ []) ≡ row ∷ [] = filter_all p (row ∷ []) (All-cons (λ (r : Row). p r ≡ true) row [] shown (All-nil (λ (r : Row). p r ≡ true))) in
    let itself : last_or None (rows_with id (row ∷ [])) ≡ Some row = ap (λ (b : Bool). last_or None (if b then row ∷ [] else [])) (eq-eqb row.1.id id has) in
    ap (lookup_row (Some id)) alone ∙ looked_some (Some id) (row ∷ []) row itself ∙ sym (looked_some (Some id) (visible_rows deleted all) row e)

none_last_of : (xs : List Row) → last_or None xs ≡ None → xs ≡ []
none_last_of [] e = refl
none_last_of (x ∷ xs) e = absurd (some_last x xs (ap option_to_list e))

looked_none : (known : Option ℕ) (row : Row) (rows : List Row) → rows_with_id known (row ∷ rows) ≡ [] → lookup_row known (row ∷ rows) ≡ Err SchemaNotFound
looked_none known row rows e = ap (λ (xs : List Row). ok_or (last_or None xs) SchemaNotFound) e

looked_last : (known : Option ℕ) (rows : List Row) → rows_with_id known rows ≡ [] → lookup_row known (latest rows) ≡ lookup_row known rows
looked_last known [] e = refl
looked_last known (row ∷ rows) e = by (latest (row ∷ rows)) refl (none_latest known (row ∷ rows) e) ∙ sym (looked_none known row rows e)
  where
    by : (last : List Row) → latest (row ∷ rows) ≡ last → rows_with_id known last ≡ [] → lookup_row known last ≡ Err SchemaNotFound
    by [] is none = absurd (some_last row rows is)
    by (r ∷ rs) is none = looked_none known r rs none

-- if no shown version has the id, the last shown one suffices
pub looks_up_none : (deleted : Bool) (known : Option ℕ) (all : List Row) → last_or None (rows_with_id known (visible_rows deleted all)) ≡ None
    → lookup_row known (visible_rows deleted (latest (visible_rows deleted all))) ≡ lookup_row known (visible_rows deleted all)
looks_up_none deleted known all e =
    ap (lookup_row known) (last_is_shown deleted all) ∙ looked_last known (visible_rows deleted all) (none_last_of (rows_with_id known (visible_rows deleted all)) e)

-- ---- DeleteVersion

-- versions that suffice to choose one suffice to choose the removed one
pub removes_as : (choice : Option VersionChoice) (seen all : List Row) → found_row choice seen ≡ found_row choice all → row_to_delete true choice seen ≡ row_to_delete true choice all
removes_as choice seen all e = ap (if_found require_deleted) e

mark_is : (number : ℕ) (rows : List Row) → row_to_soft_delete (Some (Numbered number)) rows ≡ if_found require_live (found_row (Some (Numbered number)) rows)
mark_is number [] = refl
mark_is number (row ∷ rows) = refl

-- versions that suffice to find a number suffice to choose the soft-deleted one
pub marks_as : (number : ℕ) (seen all : List Row) → found_row (Some (Numbered number)) seen ≡ found_row (Some (Numbered number)) all
    → row_to_delete false (Some (Numbered number)) seen ≡ row_to_delete false (Some (Numbered number)) all
marks_as number seen all e = mark_is number seen ∙ (ap (if_found require_live) e ∙ sym (mark_is number all))

marked_last : (rows : List Row) (row : Row) → latest (live_rows rows) ≡ row ∷ [] → row_to_soft_delete (Some Latest) rows ≡ Ok row
marked_last [] row e = absurd cc
marked_last (r ∷ rows) row e = by (last_or None (live_rows (r ∷ rows))) e
  where
    by : (o : Option Row) → option_to_list o ≡ row ∷ [] → ok_or o SubjectSoftDeleted ≡ Ok row
    by None h = absurd cc
    by (Some x) h = let same : x ≡ row = cc in ap Ok same

marked_none : (row : Row) (rows : List Row) → live_rows (row ∷ rows) ≡ [] → row_to_soft_delete (Some Latest) (row ∷ rows) ≡ Err SubjectSoftDeleted
marked_none row rows e = ap (λ (xs : List Row). ok_or (last_or None xs) SubjectSoftDeleted) e

-- if no version is live, the last version suffices
pub marks_none : (all : List Row) → latest (live_rows all) ≡ [] → row_to_delete false (Some Latest) (latest all) ≡ row_to_delete false (Some Latest) all
marks_none [] e = refl
marks_none (row ∷ rows) e = by (latest (row ∷ rows)) refl dead ∙ sym (marked_none row rows (none_latest_of (live_rows (row ∷ rows)) e))
  where
    dead : All (λ (r : Row). not r.1.deleted ≡ false) (latest (row ∷ rows))
    dead = All-latest (λ (r : Row). not r.1.deleted ≡ false) (row ∷ rows) (none_pass (λ (r : Row). not r.1.deleted) (row ∷ rows) (none_latest_of (live_rows (row ∷ rows)) e))

    by : (last : List Row) → latest (row ∷ rows) ≡ last → All (λ (r : Row). not r.1.deleted ≡ false) last → row_to_soft_delete (Some Latest) last ≡ Err SubjectSoftDeleted
    by [] is h = absurd (some_last row rows is)
    by (r ∷ rs) is h = marked_none r rs (passes_none (λ (x : Row). not x.1.deleted) (r ∷ rs) h)

-- versions that suffice to choose one with `deleted` suffice to choose it of all
found_shown : (choice : Option VersionChoice) (seen all : List Row) → found_row choice (visible_rows true seen) ≡ found_row choice (visible_rows true all) → found_row choice seen ≡ found_row choice all
found_shown choice seen all e = ap (found_row choice) (sym (all_shown seen)) ∙ (e ∙ ap (found_row choice) (all_shown all))

pub removes_shown : (choice : Option VersionChoice) (seen all : List Row) → found_row choice (visible_rows true seen) ≡ found_row choice (visible_rows true all) → row_to_delete true choice seen ≡ row_to_delete true choice all
removes_shown choice seen all e = removes_as choice seen all (found_shown choice seen all e)

pub marks_shown : (number : ℕ) (seen all : List Row) → found_row (Some (Numbered number)) (visible_rows true seen) ≡ found_row (Some (Numbered number)) (visible_rows true all)
    → row_to_delete false (Some (Numbered number)) seen ≡ row_to_delete false (Some (Numbered number)) all
marks_shown number seen all e = marks_as number seen all (found_shown (Some (Numbered number)) seen all e)

-- the last live version suffices, if any version is live
pub marks_live : (seen all : List Row) → seen ≡ latest (live_rows all) → seen ≢ [] → row_to_delete false (Some Latest) seen ≡ row_to_delete false (Some Latest) all
marks_live seen all e some = by (last_or None (live_rows all)) refl
  where
    by : (o : Option Row) → last_or None (live_rows all) ≡ o → row_to_delete false (Some Latest) seen ≡ row_to_delete false (Some Latest) all
    by None is = absurd (some (e ∙ ap option_to_list is))
    by (Some row) is =
        let one : latest (live_rows all) ≡ row ∷ [] = ap option_to_list is in
        let again : latest (live_rows seen) ≡ row ∷ [] = ap latest (ap live_rows e ∙ last_is_shown false all) ∙ (latest_again (live_rows all) ∙ one) in
        marked_last seen row again ∙ sym (marked_last all row one)
