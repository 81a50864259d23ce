-- How a parse by clap determines the task.
use Rattle.std.proofs.Common.{◌≡◌, ◌∙◌, ap, ap₂, unwrap_or, sym, subst, refl, true, inl, inr, List, [], ◌∷◌, Option, Some, None, option_map}
use Rattle.std.specs.Prelude.{option_and_then}
use Rattle.clap.specs.Words.{App, HasKind, HasMatchesOf, IsAmong, Kinds, Row, Text, fault_of, is_simple, is_simple_and_free, kind_of, subcommand_of, subcommand_rows_of}
use Rattle.clap.specs.declared.error.ErrorKind.{ErrorKind}
use Rattle.clap.specs.declared.error.ErrorKind.TheVariants as kind
use Rattle.clap.specs.declared.Error.{Error}
use Rattle.clap.specs.declared.ArgMatches.{ArgMatches}
use Rattle.clap.proofs.OnLiterals.{clap_on_literals}
use Rattle.reg_cli.specs.Commands.{program}
use Rattle.reg_cli.specs.Line.{line, task_unless_faulty, task_in}

-- the program's subcommands and options are of a kind for which clap's contract says when a parse fails
is_free : is_simple_and_free program ≡ true
unfolding clap_on_literals
is_free = refl

-- they are also of a kind for which clap's contract says what a successful parse returns
is_plain : is_simple program ≡ true
unfolding clap_on_literals
is_plain = refl

faulty : (k : ErrorKind) (kinds : Kinds) (arguments : List Text) → IsAmong k kinds → task_unless_faulty kinds arguments ≡ None
faulty k [] arguments among = absurd among
faulty k (x ∷ xs) arguments among = refl

-- if a parse rejects arguments, and not because an allocation failed, they give no task
pub refused : (a : App) → a ≡ program → (arguments : List Text) (e : Error) → (is_simple_and_free a ≡ true → HasKind (fault_of a arguments) e)
    → (kind_of e ≡ kind.OutOfMemory → ⊥) → line arguments ≡ None
refused a is arguments e fails other =
    elim (subst (λ (x : App). is_simple_and_free x ≡ true → HasKind (fault_of x arguments) e) is fails is_free) [
      | inl memory ↦ absurd (other memory)
      | inr among ↦ faulty (kind_of e) (fault_of program arguments) arguments among
    ]

-- arguments that a parse accepts give the task of the subcommand
pub taken : (a : App) → a ≡ program → (arguments : List Text) → (is_simple_and_free a ≡ true → fault_of a arguments ≡ []) → (m : ArgMatches) → HasMatchesOf a arguments m
    → line arguments ≡ option_and_then (λ found. task_in found.0 found.1) (subcommand_rows_of m)
taken a is arguments free m has =
    let none : fault_of program arguments ≡ [] = subst (λ (x : App). is_simple_and_free x ≡ true → fault_of x arguments ≡ []) is free is_free in
    let met : subcommand_rows_of m ≡ subcommand_of program arguments = (subst (λ (x : App). HasMatchesOf x arguments m) is has is_plain).1 in
    ap (λ kinds. task_unless_faulty kinds arguments) none ∙ ap (option_and_then (λ (found : Text × List Row). task_in found.0 found.1)) (sym met)

-- a name and rows that are known separately, as a pair
pub pair_from : {X : Type 0} (f : X → Text) (g : X → List Row) (o : Option X) (name : Text) (rows : List Row) → Some name ≡ option_map f o
    → Some rows ≡ option_map (λ (p : Text × List Row). p.1) (option_map {U = Text × List Row} (λ x. (f x, g x)) o)
    → option_map {U = Text × List Row} (λ x. (f x, g x)) o ≡ Some (name, rows)
pair_from f g None name rows named read = cc
pair_from f g (Some x) name rows named read =
    ap₂ (λ n r. Some (n, r)) (ap (λ o. unwrap_or o name) (sym named)) (ap (λ o. unwrap_or o rows) (sym read))
