-- The rows of `meta` (this project's choice).
use Rattle.std.specs.Prelude.{ℕ, ◌&&◌, Bool, false, List, [], ◌∷◌, codes, bytes_eq, if◌then◌else◌, Option, None, Some, is_some, option_and_then}
use Rattle.std.specs.List.{list_any, list_all}
use Rattle.reg_core.specs.Levels.{level_of}
use Rattle.reg_core.specs.Modes.{mode_of}
use Rattle.reg_core.specs.Numbers.{parse_number}

-- a name and its value
abbrev pub MetaPair : Type 0
MetaPair = List ℕ × List ℕ

-- the value of the first row with the name; `None` if no row has it
abbrev pub value_of : List ℕ → List MetaPair → Option (List ℕ)
value_of name [] = None
value_of name (row ∷ rows) = if bytes_eq row.0 name then Some row.1 else value_of name rows

-- the names that `meta` has in layout 1
abbrev pub layout_one_names : List (List ℕ)
layout_one_names = codes "format" ∷ codes "layout" ∷ codes "global" ∷ []

-- the names that `meta` has in layout 2
abbrev pub layout_two_names : List (List ℕ)
layout_two_names = codes "format" ∷ codes "layout" ∷ codes "global" ∷ codes "mode" ∷ []

abbrev pub is_name : List (List ℕ) → List ℕ → Bool
is_name known name = list_any (bytes_eq name) known

abbrev pub has_only_known_names : List (List ℕ) → List MetaPair → Bool
has_only_known_names known rows = list_all (λ row. is_name known row.0) rows

-- there is a value, and it is this text
abbrev pub value_equals : List ℕ → Option (List ℕ) → Bool
value_equals text None = false
value_equals text (Some value) = bytes_eq value text

-- there is a value, and it is the name of a level
abbrev pub has_level : Option (List ℕ) → Bool
has_level None = false
has_level (Some value) = is_some (level_of value)

-- there is a value, and it is the name of a mode
abbrev pub has_mode : Option (List ℕ) → Bool
has_mode None = false
has_mode (Some value) = is_some (mode_of value)

-- the number from 1 to 999,999,999 that a text writes in decimal digits without a leading zero; else `None`
abbrev pub number_in : List ℕ → Option ℕ
number_in text = parse_number 999999999 text

-- the layout number of the rows; `None` unless they have the format `avroreg` and a valid number
abbrev pub layout_of : List MetaPair → Option ℕ
layout_of rows = if value_equals (codes "avroreg") (value_of (codes "format") rows) then option_and_then number_in (value_of (codes "layout") rows) else None

-- the format `avroreg`, this layout number, and a global level
abbrev pub has_common : List ℕ → List MetaPair → Bool
has_common number rows = value_equals (codes "avroreg") (value_of (codes "format") rows) && value_equals number (value_of (codes "layout") rows) && has_level (value_of (codes "global") rows)

-- a `meta` table of layout 1: the format `avroreg`, layout number 1, a global level, and no other name
abbrev pub is_layout_one_meta : List MetaPair → Bool
is_layout_one_meta rows = has_common (codes "1") rows && has_only_known_names layout_one_names rows

-- a `meta` table of layout 2: the format `avroreg`, layout number 2, a global level, a global mode, and no other name
abbrev pub is_layout_two_meta : List MetaPair → Bool
is_layout_two_meta rows = has_common (codes "2") rows && has_mode (value_of (codes "mode") rows) && has_only_known_names layout_two_names rows
