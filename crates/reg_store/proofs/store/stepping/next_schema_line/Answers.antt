use Rattle.std.proofs.Common.{◌∙◌, ◌≡◌, ◌+◌, None, Some, refl, ap, subst, arith, slice_get}
use Rattle.std.specs.Prelude.{string_bytes}
use Rattle.reg_store.specs.declared.listing.Listing.TheVariants.{Schemas}
use Rattle.reg_store.specs.Listings.{listing_lines, schema_line}
use Rattle.reg_store.proofs.NextLineLemmas.{schema_next}
use Rattle.reg_store.proofs.ReadLemmas.{fail, tell, refuse}
use Rattle.reg_store.proofs.Bases.{base_of}
use Rattle.reg_store.proofs.store.stepping.next_schema_line.Goals as goal

pub returns-in_err-text_with_id : goal.returns-in_err-text_with_id
returns-in_err-text_with_id g c = fail c.in_err-text_with_id.ensures c.from_residual.ensures.1

pub returns-in-None : goal.returns-in-None
returns-in-None g c =
    tell c.in_ok-text_with_id.ensures (λ was over text count at.
    let found = rw c.in-None.is at text in
    let it = schema_next was.registry (base_of over.spells).spelled.registry.few c.args.id c.saturating_add-next.result (omega (arith, c.ranges.id.fits)) c.saturating_add-next.ensures None found in
    record { line = subst (λ n. None ≡ slice_get (listing_lines Schemas was.registry) n) at it.0; cursor = at })

pub returns-in_err-line-in-Some : goal.returns-in_err-line-in-Some
returns-in_err-line-in-Some g c = refuse c.in_ok-text_with_id.ensures c.from_residual-in_err-line-in-Some.ensures.1

pub returns-in_ok-line-in-Some : goal.returns-in_ok-line-in-Some
returns-in_ok-line-in-Some g c =
    tell c.in_ok-text_with_id.ensures (λ was over text count at.
    let found = rw c.in-Some.is at text in
    let bytes = string_bytes c.in-Some.text in
    let it = schema_next was.registry (base_of over.spells).spelled.registry.few c.args.id c.saturating_add-next.result (omega (arith, c.ranges.id.fits)) c.saturating_add-next.ensures (Some bytes) found in
    record {
      line = ap Some c.in_ok-line-in-Some.ensures ∙ subst (λ n. Some (schema_line c.saturating_add-next.result bytes) ≡ slice_get (listing_lines Schemas was.registry) n) at it.0;
      cursor = it.1 bytes refl ∙ ap (λ n. n + 1) at;
    })
