use Rattle.std.proofs.Common.{◌≡◌, ℕ, Bool, true, false, List, refl, sym, ap, ◌∙◌}
use Rattle.std.specs.Prelude.{Option, Some, None, MatchOption, cond, option_map}
use Rattle.std.specs.Str.{IsUtf8, is_utf8}
use Rattle.std.proofs.lemmas.Str.{IsUtf8-from_is_utf8, is_utf8-from_IsUtf8}
use Rattle.matchit.specs.Router.{RouteOf}
use Rattle.matchit.specs.Seek.{first}
use Rattle.reg_routes.specs.declared.resource.Resource.{Resource}
use Rattle.reg_routes.specs.Routes.{paths, resource_of}
use Rattle.reg_routes.proofs.routes.Routes.resource_of.Goals as goal

looked_up : (path : List ℕ) (o : Option Resource) → IsUtf8 path
    → MatchOption o (first paths path ≡ None) (λ resource. (found : RouteOf Resource) × (first paths path ≡ Some found) × (found.value ≡ resource))
    → o ≡ resource_of path
unfolding resource_of
looked_up path None u none =
    sym (ap (λ b. cond b (option_map (λ (route : RouteOf Resource). route.value) (first paths path)) None) (is_utf8-from_IsUtf8 path u)
    ∙ ap (option_map (λ (route : RouteOf Resource). route.value)) none)
looked_up path (Some resource) u (found, is, value) =
    sym (ap (λ b. cond b (option_map (λ (route : RouteOf Resource). route.value) (first paths path)) None) (is_utf8-from_IsUtf8 path u)
    ∙ (ap (option_map (λ (route : RouteOf Resource). route.value)) is ∙ ap Some value))

unread : (path : List ℕ) → (IsUtf8 path → ⊥) → None ≡ resource_of path
unfolding resource_of
unread path bad = by (is_utf8 path) refl
  where
    by : (b : Bool) → is_utf8 path ≡ b → None ≡ cond b (option_map (λ (route : RouteOf Resource). route.value) (first paths path)) None
    by true e = absurd (bad (IsUtf8-from_is_utf8 path e))
    by false e = refl

pub returns-in-Ok : goal.returns-in-Ok
returns-in-Ok c = let read = c.in-Ok.ensures.cases in looked_up c.args.path.now c.lookup.result read.1 (rw read.0 at c.lookup.ensures)

pub returns-in-Err : goal.returns-in-Err
returns-in-Err c = unread c.args.path.now c.in-Err.ensures.cases.0
