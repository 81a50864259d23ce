-- The command of a request, by its operation, path, query and body. `None` if a segment that the command needs isn't UTF-8 after decoding,
-- or if its subject isn't valid. `None` also if the body lacks a string member that the command needs: a body that isn't JSON has none. The number
-- of a segment is the number of slashes before it. (Schema Registry API reference, Subjects, Schemas, Config, Compatibility and Mode.)
use Rattle.std.specs.Prelude.{ℕ, Bool, List, codes, Option, Some, option_map, option_and_then}
use Rattle.reg_core.specs.declared.command.Command.{Command}
use Rattle.reg_core.specs.declared.command.Command.TheVariants.{SetGlobal, SetLevel, Register, DeleteVersion, DeleteSubject, Global, LevelOf, Lookup, Subjects, Versions, Version, Text, ById, VersionsOfId, Types, Check, CheckAll, SetGlobalMode, SetMode, GlobalMode, ModeOf}
use Rattle.reg_routes.specs.declared.resource.Operation.{Operation}
use Rattle.reg_routes.specs.declared.resource.Operation.TheVariants as op
use Rattle.reg_routes.specs.declared.command.RequestParts.{RequestParts}
use Rattle.reg_routes.specs.Targets.{segment_text, segment_subject}
use Rattle.reg_routes.specs.Queries.{query_flag}
use Rattle.reg_routes.specs.Bodies.{body_string_member, body_schema}

-- the result of `then` for the subject in this segment of the path; `None` also if the decoded segment is no valid subject
abbrev pub for_subject : ℕ → List ℕ → (List ℕ → Option Command) → Option Command
for_subject slashes path then = option_and_then then (segment_subject slashes path)

-- the result of `then` for the text of this segment of the path; `None` also if the segment isn't UTF-8 after decoding
abbrev pub for_text : ℕ → List ℕ → (List ℕ → Option Command) → Option Command
for_text slashes path then = option_and_then then (segment_text slashes path)

-- the result of `then` for the body's string member with this name; `None` if the body has none
abbrev pub for_string : List ℕ → List ℕ → (List ℕ → Command) → Option Command
for_string name body then = option_map then (body_string_member name body)

-- `then` of the level's text, the body's string member `compatibility`; `None` if the body has none
abbrev pub for_level : List ℕ → (List ℕ → Command) → Option Command
for_level = for_string (codes "compatibility")

-- `then` of the mode's text, the body's string member `mode`; `None` if the body has none
abbrev pub for_mode : List ℕ → (List ℕ → Command) → Option Command
for_mode = for_string (codes "mode")

-- `then` of the text of the schema in the body, and of whether it is supported (Avro without references); `None` if the body has no such text
abbrev pub for_schema : List ℕ → (List ℕ → Bool → Command) → Option Command
for_schema body then = option_map (λ schema. then schema.text schema.supported) (body_schema body)

abbrev pub deleted : List ℕ → Bool
deleted query = query_flag query (codes "deleted")

abbrev pub permanent : List ℕ → Bool
permanent query = query_flag query (codes "permanent")

abbrev pub default_to_global : List ℕ → Bool
default_to_global query = query_flag query (codes "defaultToGlobal")

-- the command of an operation
abbrev pub command_from : Operation → List ℕ → List ℕ → List ℕ → Option Command
command_from op.SetGlobal path query body = for_level body SetGlobal
command_from op.SetLevel path query body = for_subject 2 path (λ subject. for_level body (SetLevel subject))
command_from op.Register path query body = for_subject 2 path (λ subject. for_schema body (Register subject))
command_from op.DeleteVersion path query body =
    for_subject 2 path (λ subject. for_text 4 path (λ version. Some (DeleteVersion subject version (permanent query))))
command_from op.DeleteSubject path query body = for_subject 2 path (λ subject. Some (DeleteSubject subject (permanent query)))
command_from op.Global path query body = Some Global
command_from op.LevelOf path query body = for_subject 2 path (λ subject. Some (LevelOf subject (default_to_global query)))
command_from op.Lookup path query body =
    for_subject 2 path (λ subject. for_schema body (λ text supported. Lookup subject text supported (deleted query)))
command_from op.Subjects path query body = Some (Subjects (deleted query))
command_from op.Versions path query body = for_subject 2 path (λ subject. Some (Versions subject (deleted query)))
command_from op.Version path query body =
    for_subject 2 path (λ subject. for_text 4 path (λ version. Some (Version subject version (deleted query))))
command_from op.Text path query body =
    for_subject 2 path (λ subject. for_text 4 path (λ version. Some (Text subject version (deleted query))))
command_from op.ById path query body = for_text 3 path (λ id. Some (ById id))
command_from op.VersionsOfId path query body = for_text 3 path (λ id. Some (VersionsOfId id (deleted query)))
command_from op.Types path query body = Some Types
command_from op.Check path query body =
    for_subject 3 path (λ subject. for_text 5 path (λ version. for_schema body (Check subject version)))
command_from op.CheckAll path query body = for_subject 3 path (λ subject. for_schema body (CheckAll subject))
command_from op.SetGlobalMode path query body = for_mode body SetGlobalMode
command_from op.SetMode path query body = for_subject 2 path (λ subject. for_mode body (SetMode subject))
command_from op.GlobalMode path query body = Some GlobalMode
command_from op.ModeOf path query body = for_subject 2 path (λ subject. Some (ModeOf subject (default_to_global query)))

-- the same for the borrowed parts of a request
abbrev pub command_in : Operation → RequestParts → Option Command
command_in operation parts = command_from operation parts.target.path.now parts.target.query.now parts.body.now
