use Rattle.std.proofs.Common.{◌≡◌, List, [], ◌∷◌, ◌++◌, map, sym, ap, ◌∙◌, append_assoc}
use Rattle.std.proofs.lemmas.List.Elements.{All-rest}
use Rattle.reg_tables.specs.declared.listed.ListedVersion.{ListedVersion}
use Rattle.reg_tables.specs.Entries.{listed_version_view}
use Rattle.reg_store.specs.Inside.Viewing.{row_spelled, HasSubject}
use Rattle.reg_store.proofs.store.rows.rows_in.Goals as goal

more : {A B : Type 0} (f : A → B) (rows new : List B) (row : B) (line : A) (rest left : List A) (all : List B) → new ≡ rows ++ row ∷ [] → row ≡ f line → left ≡ line ∷ rest → rows ++ map f left ≡ all → new ++ map f rest ≡ all
more f rows new row line rest left all pushed is next before =
    ap (λ r. r ++ map f rest) pushed ∙ append_assoc rows (row ∷ []) (map f rest) ∙ ap (λ r. rows ++ (r ∷ map f rest)) is ∙ sym (ap (λ l. rows ++ map f l) next) ∙ before

pub loop-line-preserved : goal.loop-line-preserved
loop-line-preserved c =
    let rest = c.next.new.self.rest.items in
    let left = c.loop-line.line-iterator.rest.items in
    record {
      made = more (λ (line : ListedVersion). row_spelled (listed_version_view line)) c.loop-line.rows.items c.push_row.new.rows.items c.in_ok-row_in.field-0 c.in-Some.line rest left _ c.in_ok-push_row.ensures c.in_ok-row_in.ensures.ok c.in-Some.ensures.steps.0 c.loop-line.invariant.made;
      subjects = λ all. All-rest HasSubject c.in-Some.line rest left c.in-Some.ensures.steps.0 (c.loop-line.invariant.subjects all);
    }
