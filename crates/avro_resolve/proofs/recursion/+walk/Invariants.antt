use Rattle.std.proofs.Common.{◌*◌, ◌+◌, ◌-◌, ◌≡◌, ◌≤◌, length, take, All, IsTrue, map}
use Rattle.avro_nodes.specs.Nodes.{field_view}
use Rattle.avro_resolve.specs.Resolution.{Readable}
use Rattle.avro_resolve.specs.Witnesses.{member, AreDistinct}
use Rattle.avro_resolve.specs.Inside.Schemas.{columns, rows}
use Rattle.avro_resolve.specs.Inside.Walking.{Represents, IsReady, ExtendsWalk}
use Rattle.avro_resolve.proofs.recursion.+walk.Given as goal

abbrev pub decreases-check_pair : goal.decreases-check_pair
decreases-check_pair l = 4 * (1000 - l.depth)

abbrev pub decreases-is_supported : goal.decreases-is_supported
decreases-is_supported l = 4 * (1000 - l.depth) + 3

abbrev pub decreases-fits : goal.decreases-fits
decreases-fits l = 4 * (1000 - l.depth) + 2

abbrev pub decreases-all_readable : goal.decreases-all_readable
decreases-all_readable l = 4 * (1000 - l.depth) + 1

abbrev pub invariant-check_pair-loop-walk : goal.invariant-check_pair-loop-walk
invariant-check_pair-loop-walk l = record {
  front : take (length l.walk.assumed.items) l.initial.walk.assumed.items ≡ l.walk.assumed.items;
  low : l.mark ≤ length l.walk.assumed.items;
  distinct : AreDistinct l.walk.assumed.items;
  marks : Represents (length (columns l.schemas)) l.walk.assumed_set l.walk.assumed.items;
  failed : l.walk.failed ≡ l.initial.walk.failed;
  failed_set : l.walk.failed_set ≡ l.initial.walk.failed_set;
  visits : l.walk.visits ≡ l.initial.walk.visits;
}

abbrev pub decreases-check_pair-loop-walk : goal.decreases-check_pair-loop-walk
decreases-check_pair-loop-walk l = length l.walk.assumed.items

abbrev pub invariant-fits-loop-p : goal.invariant-fits-loop-p
invariant-fits-loop-p l = record {
  ready : IsReady (rows l.schemas) (columns l.schemas) l.depth l.walk;
  grown : ExtendsWalk (rows l.schemas) (columns l.schemas) l.initial.walk l.walk;
  held : All (λ p. IsTrue (member l.walk.assumed.items p l.at.1)) (take l.p-index l.p-items);
}

abbrev pub invariant-fits-loop-q : goal.invariant-fits-loop-q
invariant-fits-loop-q l = record {
  ready : IsReady (rows l.schemas) (columns l.schemas) l.depth l.walk;
  grown : ExtendsWalk (rows l.schemas) (columns l.schemas) l.initial.walk l.walk;
  lost : All (λ p. IsTrue (member l.walk.failed.items l.at.0 p)) (take l.q-index l.q-items);
}

abbrev pub invariant-all_readable-loop-index : goal.invariant-all_readable-loop-index
invariant-all_readable-loop-index l = record {
  ready : IsReady (rows l.schemas) (columns l.schemas) l.depth l.walk;
  grown : ExtendsWalk (rows l.schemas) (columns l.schemas) l.initial.walk l.walk;
  held : All (λ f. Readable (member l.walk.assumed.items) (map field_view l.fields) (field_view f)) (take l.index l.wanted);
}
