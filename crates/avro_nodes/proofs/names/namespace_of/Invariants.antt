use Rattle.std.proofs.Common.{◌≡◌, ◌⊎◌, ◌<◌, take, get_or}
use Rattle.avro_nodes.specs.Names.{namespace_of}
use Rattle.avro_nodes.proofs.names.namespace_of.Given as goal

abbrev pub invariant-loop-i : goal.invariant-loop-i
invariant-loop-i l = (take l.end l.name ≡ namespace_of (take l.i l.name)) × ((l.end ≡ 0) ⊎ ((l.end < l.i) × (get_or l.name l.end 0 ≡ 46)))
