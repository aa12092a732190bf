-- Where nothing counts no clock does anything.
use Rattle.std.proofs.Common.{◌∙◌, sym}
use Rattle.fast_forward.proofs.Laws.{still_later}
use Rattle.fast_run.proofs.device_later.Goals as goal

pub returns-then-is_still-clause-device : goal.returns-then-is_still-clause-device
returns-then-is_still-clause-device c =
    let e = rw c.active_of.ensures at (sym c.is_still.ensures ∙ c.if-is_still.true) in
    rw (still_later c.args.n c.args.d.value.controller c.args.image.now e).0

pub returns-then-is_still-clause-array : goal.returns-then-is_still-clause-array
returns-then-is_still-clause-array c =
    let e = rw c.active_of.ensures at (sym c.is_still.ensures ∙ c.if-is_still.true) in
    rw (still_later c.args.n c.args.d.value.controller c.args.image.now e).1
