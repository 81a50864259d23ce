-- A list of deliveries with the list of their replies.
use Rattle.std.proofs.Common.{◌≡◌, ℕ, not, List, [], ◌∷◌, ◌++◌, ◌+◌, ◌<◌, refl, sym, ap, ◌∙◌, subst, length, zip, take, get_or, arith}
use Rattle.std.proofs.lemmas.List.{take_more, length-take}
use Rattle.std.proofs.lemmas.List.Elements.{filter-append}
use Rattle.reg_core.specs.Replies.{ReplyView}
use Rattle.reg_core.specs.declared.delivery.Delivery.{Delivery}
use Rattle.reg_core.specs.Stored.{Stored}
use Rattle.reg_service.specs.Deliveries.{Exchange, Serves, served, is_backend_fault}
use Rattle.reg_service.proofs.JoinedExchanges.{serves-append}

pub zip-push : {A B : Type 0} (xs : List A) (ys : List B) (x : A) (y : B) → length xs ≡ length ys
    → zip (xs ++ x ∷ []) (ys ++ y ∷ []) ≡ zip xs ys ++ (x, y) ∷ []
zip-push [] [] x y e = refl
zip-push [] (b ∷ ys) x y e = absurd (omega arith)
zip-push (a ∷ xs) [] x y e = absurd (omega arith)
zip-push (a ∷ xs) (b ∷ ys) x y e = let h : length xs ≡ length ys = omega arith in ap (λ zs. (a, b) ∷ zs) (zip-push xs ys x y h)

pub served-append : (xs ys : List Exchange) → served (xs ++ ys) ≡ served xs ++ served ys
served-append xs ys = filter-append (λ (x : Exchange). not (is_backend_fault x.1)) xs ys

-- One more delivery, after those that were served before it.
pub serves-push : (list : List Delivery) (replies : List ReplyView) (d : Delivery) (reply : ReplyView) (was mid now : Stored)
    → length list ≡ length replies
    → Serves was (served (zip list replies)) mid → Serves mid (served ((d, reply) ∷ [])) now
    → Serves was (served (zip (list ++ d ∷ []) (replies ++ reply ∷ []))) now
serves-push list replies d reply was mid now same before one =
    let e : served (zip (list ++ d ∷ []) (replies ++ reply ∷ [])) ≡ served (zip list replies) ++ served ((d, reply) ∷ []) =
    ap served (zip-push list replies d reply same) ∙ served-append (zip list replies) ((d, reply) ∷ []) in
    let P : List Exchange → Type 0 = λ xs. Serves was xs now in
    subst P (sym e) (serves-append was mid now (served (zip list replies)) (served ((d, reply) ∷ [])) before one)

-- The same for the next delivery of a list.
pub serves_next : (list : List Delivery) (i : ℕ) (d : Delivery) (replies replies' : List ReplyView) (reply : ReplyView) (was mid now : Stored)
    → i < length list → d ≡ get_or list i d → length replies ≡ i → replies' ≡ replies ++ reply ∷ []
    → Serves was (served (zip (take i list) replies)) mid → Serves mid (served ((d, reply) ∷ [])) now
    → Serves was (served (zip (take (i + 1) list) replies')) now
serves_next list i d replies replies' reply was mid now lt item count more before one =
    let front : take (i + 1) list ≡ take i list ++ d ∷ [] = take_more list i d lt ∙ ap (λ (x : Delivery). take i list ++ x ∷ []) (sym item) in
    let same : length (take i list) ≡ length replies = omega (arith, length-take i list) in
    let P : List Delivery × List ReplyView → Type 0 = λ both. Serves was (served (zip both.0 both.1)) now in
    subst P (λ j. (sym front j, sym more j)) (serves-push (take i list) replies d reply was mid now same before one)
