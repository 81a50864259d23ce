use Rattle.std.proofs.Common.{◌∙◌, Some, sym, ap, subst}
use Rattle.reg_core.specs.Replies.{IsKeptStatus}
use Rattle.reg_tables.specs.Contents.{KeptReplyView}
use Rattle.reg_tables.specs.KeptReplyViews.{kept_reply_view}
use Rattle.reg_store.specs.Spells.{stored_reply}
use Rattle.reg_store.proofs.ReadBack.{none_written, kept_is}
use Rattle.reg_store.proofs.Texts.{was_written}
use Rattle.reg_store.proofs.ReadLemmas.{read, not_read}
use Rattle.reg_store.proofs.Bases.{base_of}
use Rattle.reg_store.proofs.store.reading.kept_under.Goals as goal

pub returns-in_err-kept_reply : goal.returns-in_err-kept_reply
returns-in_err-kept_reply g c = not_read c.in_err-kept_reply.ensures.frame c.in_err-kept_reply.ensures.fault c.from_residual.ensures.1

pub returns-in-None : goal.returns-in-None
returns-in-None g c =
    read c.in_ok-kept_reply.ensures.frame (λ clean was over.
    let it = base_of over.spells in
    let none = rw (c.in-None.is, c.as_str.ensures.text) at (c.in_ok-kept_reply.ensures.found clean it.schema it.first it.contents it.holds) in
    none_written stored_reply (was.replies c.args.key.now) (sym (it.spelled.kept c.args.key.now) ∙ none))

pub returns-in_err-reply_in-in-Some : goal.returns-in_err-reply_in-in-Some
returns-in_err-reply_in-in-Some g c =
    read c.in_ok-kept_reply.ensures.frame (λ clean was over.
    let it = base_of over.spells in
    let found = rw c.in-Some.is at (c.in_ok-kept_reply.ensures.found clean it.schema it.first it.contents it.holds) in
    let entry = was_written stored_reply (was.replies c.as_str.result.now) (kept_reply_view c.in-Some.row) (sym (it.spelled.kept c.as_str.result.now) ∙ found) in
    let status = (it.spelled.keys c.as_str.result.now entry.0 entry.1).status in
    absurd (c.in_err-reply_in-in-Some.ensures.err (subst IsKeptStatus (sym (ap (λ (r : KeptReplyView). r.status) entry.2)) status)))

pub returns-in_ok-reply_in-in-Some : goal.returns-in_ok-reply_in-in-Some
returns-in_ok-reply_in-in-Some g c =
    read c.in_ok-kept_reply.ensures.frame (λ clean was over.
    let it = base_of over.spells in
    let found = rw (c.in-Some.is, c.as_str.ensures.text) at (c.in_ok-kept_reply.ensures.found clean it.schema it.first it.contents it.holds) in
    kept_is (was.replies c.args.key.now) _ (sym (it.spelled.kept c.args.key.now) ∙ found ∙ ap Some c.in_ok-reply_in-in-Some.ensures.ok))
