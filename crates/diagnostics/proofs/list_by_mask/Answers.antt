use Rattle.diagnostics.proofs.RepliesLaws.{by_reply, list_by_mask_is}
use Rattle.diagnostics.proofs.list_by_mask.Goals as goal

pub returns : goal.returns
returns c b =
    let a = c.args in
    by_reply _ a.room.now _
    (list_by_mask_is _ a.request.now _ _
    (c.mask_of.ensures a.cfg.now))
    (c.list_asked.ensures b)
