-- The part of the image that the block is.
use Rattle.std.proofs.Common.{sym}
use native.Mathlib.Nat.{add-sub_cancel_left}
use Rattle.view.proofs.Laws.{shown_open}
use Rattle.view.proofs.view.Goals as goal

pub returns-in-Block : goal.returns-in-Block
returns-in-Block c =
    let e = c.in-Block.ensures in
    rw (e.0, add-sub_cancel_left) (sym (shown_open c.args.device c.args.image.now c.args.page.now c.args.block e.1 e.2))
