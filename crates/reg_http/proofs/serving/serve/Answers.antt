use Rattle.std.proofs.Common.{[], refl}
use Rattle.reg_service.specs.Services.{state_in}
use Rattle.reg_service.proofs.CrashLemmas.{leaves_open}
use Rattle.reg_service.proofs.DurableLists.{serves_each}
use Rattle.reg_http.proofs.EndLemmas.{Session-map, Session-unread}
use Rattle.reg_http.proofs.serving.serve.Goals as goal

pub returns-in_default : goal.returns-in_default
returns-in_default g c =
    let s = c.args.service.now in
    let spelled = leaves_open (state_in s) (g.met.S.Store.settled s.store.db.idle.conn.store) in
    record { session = Session-unread _ (g.R.Read.remaining c.args.reader.now) (g.W.Write.contents c.args.writer.now) (serves_each s s [] spelled refl) }

pub returns-in_default-with_all_room : goal.returns-in_default-with_all_room
returns-in_default-with_all_room g c =
    let s = c.args.service.now in
    let spelled = leaves_open (state_in s) (g.met.S.Store.settled s.store.db.idle.conn.store) in
    record { session = Session-unread _ (g.R.Read.remaining c.args.reader.now) (g.W.Write.contents c.args.writer.now) (serves_each s s [] spelled refl) }

pub returns : goal.returns
returns g c =
    let old = c.args.service.now in
    let new = c.serve_with.new.service in
    let spelled = leaves_open (state_in old) (g.met.S.Store.settled old.store.db.idle.conn.store) in
    record { session = Session-map _ _ (λ xs each. serves_each old new xs spelled each) _ _ _ _ _ c.serve_with.ensures }
