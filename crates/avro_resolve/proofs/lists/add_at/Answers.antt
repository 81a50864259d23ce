use Rattle.std.proofs.Common.{◌≡◌, ◌++◌, ◌∷◌, [], List, refl, sym, subst, ap, ◌∙◌, inl, inr}
use Rattle.std.specs.Prelude.{Contains, Vec}
use Rattle.std.specs.declared.alloc.Global.{Global}
use Rattle.std.proofs.lemmas.List.Elements.{Contains-append_left, Contains-push, Contains-push_cases}
use Rattle.avro_resolve.specs.Inside.Lists.{list_at}
use Rattle.avro_resolve.proofs.ListLemmas.{adds_one, list_set, list_in}
use Rattle.avro_resolve.proofs.lists.add_at.Goals as goal

pub returns-clause-adds : goal.returns-clause-adds
returns-clause-adds g c =
    let xs = c.args.lists.now.items in let k = c.args.place in let d = c.index_mut.result.now in let item = c.args.item in
    let here : list_at xs k ≡ d.items = list_in xs k d c.requires ∙ ap (λ (v : Vec g.row.T.Denot Global). v.items) (sym c.index_mut.ensures.value) in
    let new : c.push.new.self.items ≡ list_at xs k ++ item ∷ [] = c.in_ok-push.ensures.items ∙ ap (λ (ys : List g.row.T.Denot). ys ++ item ∷ []) (sym here) in
    adds_one xs k c.push.new.self c.requires (λ x p. (x ≡ item) × (p ≡ k))
    (λ x h. subst (λ (ys : List g.row.T.Denot). Contains ys x) (sym new) (Contains-append_left (list_at xs k) (item ∷ []) x h))
    (λ x h. elim (Contains-push_cases (list_at xs k) item x (subst (λ (ys : List g.row.T.Denot). Contains ys x) new h)) [ inl m ↦ inl m | inr e ↦ inr (sym e, refl) ])

pub returns-clause-there : goal.returns-clause-there
returns-clause-there g c =
    let xs = c.args.lists.now.items in let k = c.args.place in let item = c.args.item in
    subst (λ (ys : List g.row.T.Denot). Contains ys item) (sym (list_set xs k c.push.new.self c.requires ∙ c.in_ok-push.ensures.items)) (Contains-push c.index_mut.result.now.items item)
