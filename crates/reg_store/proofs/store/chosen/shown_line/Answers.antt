use Rattle.std.proofs.Common.{◌≡◌, Bool, true, false, not, Option, Some, refl, ap, subst, rules}
use Rattle.std.specs.Prelude.{◌||◌}
use Rattle.reg_core.specs.Registry.{Version}
use Rattle.reg_store.proofs.Bases.{base_of}
use Rattle.reg_store.proofs.ChosenLemmas.{entry_told, none_told}
use Rattle.reg_store.proofs.ReadLemmas.{read, not_read}
use Rattle.reg_store.proofs.store.chosen.shown_line.Goals as goal

same_deleted : (found : Option Version) (one other : Version) → found ≡ Some one → found ≡ Some other → one.deleted ≡ other.deleted
same_deleted found one other here there = let same : one ≡ other = cc in ap (λ (v : Version). v.deleted) same

pub returns-in_err-entry : goal.returns-in_err-entry
returns-in_err-entry g c = not_read c.in_err-entry.ensures.frame c.in_err-entry.ensures.fault c.from_residual.ensures.1

pub returns-in-Some : goal.returns-in-Some
returns-in-Some g c =
    let is_shown : (c.args.deleted || not c.in-Some.entry.deleted) ≡ true = search rules in
    read c.in_ok-entry.ensures.frame (λ clean was over.
    let it = base_of over.spells in
    let found = rw (c.in-Some.is, c.as_str.ensures.text) at (c.in_ok-entry.ensures.found clean it.schema it.first it.contents it.holds) in
    (entry_told it.contents was.registry it.spelled.versions c.args.subject.now c.args.number c.in-Some.entry found, refl, is_shown))

pub returns-in_default : goal.returns-in_default
returns-in_default g c =
    let hidden : (c.args.deleted || not c.in-Some.entry.deleted) ≡ false = search rules in
    read c.in_ok-entry.ensures.frame (λ clean was over version there.
    let it = base_of over.spells in
    let found = rw (c.in-Some.is, c.as_str.ensures.text) at (c.in_ok-entry.ensures.found clean it.schema it.first it.contents it.holds) in
    let told = entry_told it.contents was.registry it.spelled.versions c.args.subject.now c.args.number c.in-Some.entry found in
    let same : c.in-Some.entry.deleted ≡ version.deleted = same_deleted _ _ version told there in
    subst (λ (deleted : Bool). (c.args.deleted || not deleted) ≡ false) same hidden)

pub returns-in_default-2 : goal.returns-in_default-2
returns-in_default-2 g c =
    read c.in_ok-entry.ensures.frame (λ clean was over version there.
    let it = base_of over.spells in
    let none = rw (c.in_default.is, c.as_str.ensures.text) at (c.in_ok-entry.ensures.found clean it.schema it.first it.contents it.holds) in
    absurd (none_told it.contents was.registry it.spelled.versions c.args.subject.now c.args.number none version there))
