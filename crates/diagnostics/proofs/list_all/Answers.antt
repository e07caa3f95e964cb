use Rattle.diagnostics.proofs.RepliesLaws.{by_reply, list_all_is}
use Rattle.diagnostics.proofs.list_all.Goals as goal

pub returns : goal.returns
returns c b =
    let a = c.args in
    by_reply _ a.room.now _ (list_all_is a.cfg.now a.request.now _ _)
    (c.list_asked.ensures b)
