use Rattle.std.proofs.Common.{[]}
use Rattle.std.proofs.KnownBytes.{Appends-nil, Appends-kept}
use Rattle.reg_http.proofs.ConversationLemmas.{sends_nothing}
use Rattle.reg_http.proofs.serving.write_more.Goals as goal

pub returns-in-Err : goal.returns-in-Err
returns-in-Err g c =
    let failed = c.in-Err.ensures.err in
    ([], sends_nothing c.args.conversation.now c.send.new.self failed.0, Appends-kept _ _ _ _ (Appends-nil (g.W.Write.contents c.args.writer.now)) failed.1)
