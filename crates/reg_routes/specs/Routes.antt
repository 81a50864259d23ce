-- The table of the API: its paths, their methods, and the operation of each method (Schema Registry API reference, Subjects, Schemas, Config,
-- Compatibility and Mode).
use Rattle.std.specs.Prelude.{ℕ, List, [], ◌∷◌, ◌++◌, map, codes, bytes_eq, cond, Option, Some, None, option_map, Result, Ok, Err, if◌then◌else◌}
use Rattle.std.specs.Str.{is_utf8}
use Rattle.matchit.specs.Rows.{RowsOf}
use Rattle.matchit.specs.Order.{placed}
use Rattle.matchit.specs.Seek.{first}
use Rattle.matchit.specs.Route.{Scan, parse_route}
use Rattle.matchit.specs.Router.{RouteOf, route_from}
use Rattle.matchit.specs.declared.error.InsertError.{InsertError}
use Rattle.reg_routes.specs.declared.resource.Resource.{Resource}
use Rattle.reg_routes.specs.declared.resource.Resource.TheVariants as resource
use Rattle.reg_routes.specs.declared.resource.Operation.{Operation}
use Rattle.reg_routes.specs.declared.resource.Operation.TheVariants as op

-- ---- the paths

-- the routes with one more path, as matchit parses it; a text that isn't a path adds none
abbrev pub with_read : Result Scan InsertError → Resource → RowsOf (RouteOf Resource) → RowsOf (RouteOf Resource)
with_read (Ok scan) value rows = placed (scan.pattern, route_from scan value) rows
with_read (Err error) value rows = rows

-- the routes with one more path, at its place in matchit's order; a text that isn't a path adds none
abbrev pub with_path : List ℕ → Resource → RowsOf (RouteOf Resource) → RowsOf (RouteOf Resource)
with_path path value rows = with_read (parse_route path) value rows

-- each path, and its resource
unfoldable pub paths : RowsOf (RouteOf Resource)
paths =
    with_path (codes "/mode/{subject}") resource.ModeOf
    (with_path (codes "/mode") resource.Mode
    (with_path (codes "/compatibility/subjects/{subject}/versions/{version}") resource.CompatibilityOf
    (with_path (codes "/compatibility/subjects/{subject}/versions") resource.Compatibility
    (with_path (codes "/config/{subject}") resource.ConfigOf
    (with_path (codes "/config") resource.Config
    (with_path (codes "/schemas/ids/{id}/versions") resource.VersionsOfId
    (with_path (codes "/schemas/ids/{id}") resource.Id
    (with_path (codes "/schemas/types") resource.Types
    (with_path (codes "/subjects/{subject}/versions/{version}/schema") resource.Text
    (with_path (codes "/subjects/{subject}/versions/{version}") resource.Version
    (with_path (codes "/subjects/{subject}/versions") resource.Versions
    (with_path (codes "/subjects/{subject}") resource.Subject
    (with_path (codes "/subjects") resource.Subjects [])))))))))))))

-- the resource of a path, by the lookup of matchit; a path that isn't UTF-8 has none
unfoldable pub resource_of : List ℕ → Option Resource
resource_of path = if is_utf8 path then option_map (λ route. route.value) (first paths path) else None

-- ---- the methods (RFC 9110, section 9)

abbrev pub get : List ℕ
get = codes "GET"

abbrev pub put : List ℕ
put = codes "PUT"

abbrev pub post : List ℕ
post = codes "POST"

abbrev pub delete : List ℕ
delete = codes "DELETE"

-- the methods of a resource in byte order, and the operation of each
abbrev pub methods_of : Resource → List (List ℕ × Operation)
methods_of resource.Subjects = (get, op.Subjects) ∷ []
methods_of resource.Subject = (delete, op.DeleteSubject) ∷ (post, op.Lookup) ∷ []
methods_of resource.Versions = (get, op.Versions) ∷ (post, op.Register) ∷ []
methods_of resource.Version = (delete, op.DeleteVersion) ∷ (get, op.Version) ∷ []
methods_of resource.Text = (get, op.Text) ∷ []
methods_of resource.Types = (get, op.Types) ∷ []
methods_of resource.Id = (get, op.ById) ∷ []
methods_of resource.VersionsOfId = (get, op.VersionsOfId) ∷ []
methods_of resource.Config = (get, op.Global) ∷ (put, op.SetGlobal) ∷ []
methods_of resource.ConfigOf = (get, op.LevelOf) ∷ (put, op.SetLevel) ∷ []
methods_of resource.Compatibility = (post, op.CheckAll) ∷ []
methods_of resource.CompatibilityOf = (post, op.Check) ∷ []
methods_of resource.Mode = (get, op.GlobalMode) ∷ (put, op.SetGlobalMode) ∷ []
methods_of resource.ModeOf = (get, op.ModeOf) ∷ (put, op.SetMode) ∷ []

-- the operation of a method; methods are case-sensitive (RFC 9110, section 9.1)
abbrev pub operation_for : List ℕ → List (List ℕ × Operation) → Option Operation
operation_for method [] = None
operation_for method (m ∷ ms) = cond (bytes_eq method m.0) (Some m.1) (operation_for method ms)

-- names, separated by a comma and a space
abbrev pub comma_separated : List (List ℕ) → List ℕ
comma_separated [] = []
comma_separated (name ∷ []) = name
comma_separated (name ∷ other ∷ names) = name ++ codes ", " ++ comma_separated (other ∷ names)

-- a resource's methods, for an `Allow` field (RFC 9110, section 10.2.1)
abbrev pub allow_of : Resource → List ℕ
allow_of resource = comma_separated (map (λ m. m.0) (methods_of resource))
