use Rattle.std.proofs.Common.{rules, ◌≡◌, ◌∙◌, None, Some, option_map, map, List, [], ◌∷◌, ◌++◌, length, append-nil, append_assoc, refl, sym, ap, subst}
use Rattle.std.specs.Prelude.{Option}
use Rattle.std.proofs.lemmas.List.{map-append, nil_from_length}
use Rattle.reg_core.specs.Registry.{Row}
use Rattle.reg_tables.specs.declared.listed.ListedVersion.{ListedVersion}
use Rattle.reg_tables.specs.Entries.{listed_version_view, subject_version_view}
use Rattle.reg_store.specs.Inside.Viewing.{IsLastShown, row_numbered, row_spelled}
use Rattle.reg_store.proofs.KnownLemmas.{last_of_subject, last_of_two, last_stays}
use Rattle.reg_store.proofs.store.last_with_id.last_among.Goals as goal

more : {A : Type 0} (done : List A) (line : A) (rest left all : List A) → left ≡ line ∷ rest → done ++ left ≡ all → (done ++ line ∷ []) ++ rest ≡ all
more done line rest left all next before = append_assoc done (line ∷ []) rest ∙ ap (λ l. done ++ l) (sym next) ∙ before

abbrev line_row : ListedVersion → Row
line_row line = row_spelled (listed_version_view line)

pub loop-line-init : goal.loop-line-init
loop-line-init c = record { read = search rules; last = λ k d lt. search rules }

pub loop-line-preserved-then-is_shown_of : goal.loop-line-preserved-then-is_shown_of
loop-line-preserved-then-is_shown_of c =
    let deleted = c.args.shows_deleted in
    let subject = c.args.subject.now in
    let seen = map line_row c.loop-line.yielded in
    let line = c.in-Some.line in
    record {
      read = more c.loop-line.yielded line c.next.new.self.rest.items c.loop-line.line-iterator.rest.items c.args.lines.items c.in-Some.ensures.steps.0 c.loop-line.invariant.read;
      last = subst (λ (rows : List Row). IsLastShown deleted subject rows (Some (line_row c.later_of.result))) (sym (map-append line_row c.loop-line.yielded (line ∷ [])))
          (last_of_two deleted subject seen (line_row line) line_row (λ a. refl) c.loop-line.last line c.later_of.result refl c.later_of.ensures (sym c.is_shown_of.ensures ∙ c.if-is_shown_of.true) c.loop-line.invariant.last);
    }

pub loop-line-preserved : goal.loop-line-preserved
loop-line-preserved c =
    let deleted = c.args.shows_deleted in
    let subject = c.args.subject.now in
    let seen = map line_row c.loop-line.yielded in
    let line = c.in-Some.line in
    record {
      read = more c.loop-line.yielded line c.next.new.self.rest.items c.loop-line.line-iterator.rest.items c.args.lines.items c.in-Some.ensures.steps.0 c.loop-line.invariant.read;
      last = subst (λ (rows : List Row). IsLastShown deleted subject rows (option_map line_row c.loop-line.last)) (sym (map-append line_row c.loop-line.yielded (line ∷ [])))
          (last_stays deleted subject seen (line_row line) (option_map line_row c.loop-line.last) (sym c.is_shown_of.ensures ∙ c.if-is_shown_of.false) c.loop-line.invariant.last);
    }

all_read : {A : Type 0} (done rest all : List A) → length rest ≡ 0 → done ++ rest ≡ all → done ≡ all
all_read done rest all none read = sym (append-nil done) ∙ ap (λ l. done ++ l) (sym (nil_from_length rest none)) ∙ read

pub returns-in_default : goal.returns-in_default
returns-in_default c =
    let read = all_read c.loop-line.yielded c.loop-line.line-iterator.rest.items c.args.lines.items (sym c.loop-line.line-iterator.rest.ok.0 ∙ c.in-None.ensures.steps.0) c.loop-line.invariant.read in
    subst (λ (lines : List ListedVersion). IsLastShown c.args.shows_deleted c.args.subject.now (map line_row lines) None) read
    (subst (λ (o : Option ListedVersion). IsLastShown c.args.shows_deleted c.args.subject.now (map line_row c.loop-line.yielded) (option_map line_row o)) c.in_default.is c.loop-line.invariant.last)

pub returns : goal.returns
returns c =
    let read = all_read c.loop-line.yielded c.loop-line.line-iterator.rest.items c.args.lines.items (sym c.loop-line.line-iterator.rest.ok.0 ∙ c.in-None.ensures.steps.0) c.loop-line.invariant.read in
    subst (λ (lines : List ListedVersion). IsLastShown c.args.shows_deleted c.args.subject.now (map line_row lines) (Some (row_numbered c.args.subject.now (subject_version_view (record { number = c.in-Some-last.line.number; id = c.in-Some-last.line.id; deleted = c.in-Some-last.line.deleted }))))) read
    (last_of_subject c.args.shows_deleted c.args.subject.now (map line_row c.loop-line.yielded) c.in-Some-last.line
    (subst (λ (o : Option ListedVersion). IsLastShown c.args.shows_deleted c.args.subject.now (map line_row c.loop-line.yielded) (option_map line_row o)) c.in-Some-last.is c.loop-line.invariant.last))
