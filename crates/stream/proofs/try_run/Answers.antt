-- Straps that the part allows are of a part that there is, and fit a nibble.
use Rattle.std.proofs.Common.{arith}
use Rattle.std.proofs.lemmas.Result.{err_from_is_err_and}
use Rattle.part.proofs.Straps.{allowed}
use Rattle.soundness.proofs.Fresh.{fresh_sound}
use Rattle.stream.proofs.Doors.{refused_by, streamed}
use Rattle.stream.proofs.try_run.Goals as goal

pub overflow_cast-chip : goal.overflow_cast-chip
overflow_cast-chip c =
    let a = allowed _ _ (rw c.strap_count.ensures at c.if-strap_count-straps.false) in omega (arith, a.0)

pub overflow_cast-chip-2 : goal.overflow_cast-chip-2
overflow_cast-chip-2 c =
    let a = allowed _ _ (rw c.strap_count.ensures at c.if-strap_count-straps.false) in omega (arith, a.1)

pub fresh-requires : goal.fresh-requires
fresh-requires c = (allowed _ _ (rw c.strap_count.ensures at c.if-strap_count-straps.false)).0

pub returns-in_err-test_stream : goal.returns-in_err-test_stream
returns-in_err-test_stream c =
    let p = err_from_is_err_and c.from_residual-in_err-test_stream.result c.from_residual-in_err-test_stream.ensures.1 in
    rw (p.1, p.2) (grind (arith, refused_by, streamed))

pub invariant_of-up : goal.invariant_of-up
invariant_of-up c = record { sound = grind (arith, fresh_sound) }
