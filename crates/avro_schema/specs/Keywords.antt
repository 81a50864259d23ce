-- The keywords of declarations (Avro 1.11 specification, Schema Declaration; Primitive Types; Complex Types).
use Rattle.std.specs.Prelude.{ℕ, List, if◌then◌else◌, Option, Some, None, codes}
use Rattle.std.specs.Str.{bytes_eq}
use Rattle.avro_nodes.specs.declared.node.PrimitiveKind.{PrimitiveKind}
use Rattle.avro_nodes.specs.declared.node.PrimitiveKind.TheVariants.{Null, Boolean, Int, Long, Float, Double, Bytes, Text}
use Rattle.avro_nodes.specs.declared.node.Order.{Order}
use Rattle.avro_nodes.specs.declared.node.Order.TheVariants.{Ascending, Descending, Ignore}
use Rattle.avro_schema.specs.declared.keywords.TypeKind.{TypeKind}
use Rattle.avro_schema.specs.declared.keywords.TypeKind.TheVariants.{Primitive, Array, Map, Fixed, Enum, Record, Reference}

-- the primitive type with this name
unfoldable pub kind_of : List ℕ → Option PrimitiveKind
kind_of s =
    if bytes_eq s (codes "null") then Some Null else
    (if bytes_eq s (codes "boolean") then Some Boolean else
    (if bytes_eq s (codes "int") then Some Int else
    (if bytes_eq s (codes "long") then Some Long else
    (if bytes_eq s (codes "float") then Some Float else
    (if bytes_eq s (codes "double") then Some Double else
    (if bytes_eq s (codes "bytes") then Some Bytes else
    (if bytes_eq s (codes "string") then Some Text else None)))))))

-- the complex type with this name, else a reference
abbrev pub other_word : List ℕ → TypeKind
other_word s =
    if bytes_eq s (codes "record") then Record else
    (if bytes_eq s (codes "enum") then Enum else
    (if bytes_eq s (codes "array") then Array else
    (if bytes_eq s (codes "map") then Map else
    (if bytes_eq s (codes "fixed") then Fixed else Reference))))

abbrev pub kind_or_other : Option PrimitiveKind → List ℕ → TypeKind
kind_or_other (Some kind) s = Primitive kind
kind_or_other None s = other_word s

-- what an object with this `type` declares: a primitive type, a complex type or, for any other text, a reference
unfoldable pub type_kind_of : List ℕ → TypeKind
type_kind_of s = kind_or_other (kind_of s) s

-- the `order` of a field (Avro 1.11 specification, Complex Types, Records)
unfoldable pub order_of : List ℕ → Option Order
order_of s =
    if bytes_eq s (codes "ascending") then Some Ascending else
    (if bytes_eq s (codes "descending") then Some Descending else
    (if bytes_eq s (codes "ignore") then Some Ignore else None))
