-- The reader doesn't need a field's `type` for its other attributes, so `type` may be removed first.
use Rattle.std.proofs.Common.{◌≡◌, ℕ, List, [], ◌∷◌, Bool, true, false, cond, Some, bytes_eq, codes, refl, ap, sym, ◌∙◌}
use Rattle.serde_json.specs.Data.{Data, Members, no_members, member}
use Rattle.serde_json.specs.Find.{get_member, as_object}
use Rattle.avro_schema.specs.Attributes.{without, without_all, text_in}
use Rattle.avro_schema.specs.Inside.Declarations.{field_attributes_in, field_attribute_keys}
use Rattle.avro_schema.proofs.Inversion.{get-without, get_past}

swapped_at : (a b : Bool) (k l m : List ℕ) (d : Data) (ms : Members) → bytes_eq k m ≡ a → bytes_eq l m ≡ b → without k (without l ms) ≡ without l (without k ms)
    → without k (cond b (without l ms) (member m d (without l ms))) ≡ without l (cond a (without k ms) (member m d (without k ms)))
swapped_at true true k l m d ms e f later = later
swapped_at true false k l m d ms e f later = rw e later
swapped_at false true k l m d ms e f later = rw f later
swapped_at false false k l m d ms e f later = rw (e, f) (ap (member m d) later)

swapped : (k l : List ℕ) (ms : Members) → without k (without l ms) ≡ without l (without k ms)
swapped k l no_members = refl
swapped k l (member m d ms) = swapped_at (bytes_eq k m) (bytes_eq l m) k l m d ms refl refl (swapped k l ms)

all_swapped : (ks : List (List ℕ)) (l : List ℕ) (ms : Members) → without_all ks (without l ms) ≡ without l (without_all ks ms)
all_swapped [] l ms = refl
all_swapped (k ∷ ks) l ms = ap (without_all ks) (swapped k l ms) ∙ all_swapped ks l (without k ms)

same_label : (ms : Members) → field_attributes_in (without (codes "type") ms) ≡ field_attributes_in ms
unfolding field_attributes_in text_in
same_label ms =
    let t = codes "type" in
    let one = codes "name" ∷ [] in
    let two = codes "name" ∷ codes "aliases" ∷ [] in
    let three = codes "name" ∷ codes "aliases" ∷ codes "order" ∷ [] in
    let aliases = get_past (codes "aliases") one (without t ms) refl ∙ get-without (codes "aliases") t ms refl ∙ sym (get_past (codes "aliases") one ms refl) in
    let order = get_past (codes "order") two (without t ms) refl ∙ get-without (codes "order") t ms refl ∙ sym (get_past (codes "order") two ms refl) in
    let value = get_past (codes "default") three (without t ms) refl ∙ get-without (codes "default") t ms refl ∙ sym (get_past (codes "default") three ms refl) in
    rw (get-without (codes "name") t ms refl, aliases, order, value) refl

pub label_apart : (d : Data) (ms after : Members) → as_object d ≡ Some ms → after ≡ without (codes "type") ms → field_attributes_in after ≡ field_attributes_in ms
label_apart d ms after is e = ap field_attributes_in e ∙ same_label ms

pub type_apart : (d : Data) (ms after : Members) → as_object d ≡ Some ms → after ≡ without (codes "type") ms → get_member (codes "type") (without_all field_attribute_keys ms) ≡ get_member (codes "type") ms
type_apart d ms after is e = get_past (codes "type") field_attribute_keys ms refl

pub rest_apart : (d : Data) (ms after : Members) → as_object d ≡ Some ms → after ≡ without (codes "type") ms → without_all field_attribute_keys after ≡ without (codes "type") (without_all field_attribute_keys ms)
rest_apart d ms after is e = ap (without_all field_attribute_keys) e ∙ all_swapped field_attribute_keys (codes "type") ms
