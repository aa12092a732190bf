-- Straps that the part allows are of a part that there is, and fit a nibble.
use Rattle.std.proofs.Common.{arith}
use Rattle.part.proofs.Straps.{allowed}
use Rattle.part.proofs.chip_of.Goals as goal

pub overflow_cast-result : goal.overflow_cast-result
overflow_cast-result c =
    let a = allowed _ _ (rw c.strap_count.ensures at c.if-straps-strap_count.true) in omega (arith, a.0)

pub overflow_cast-result-then-straps-strap_count : goal.overflow_cast-result-then-straps-strap_count
overflow_cast-result-then-straps-strap_count c =
    let a = allowed _ _ (rw c.strap_count.ensures at c.if-straps-strap_count.true) in omega (arith, a.1)

pub returns-then-straps-strap_count-clause-there : goal.returns-then-straps-strap_count-clause-there
returns-then-straps-strap_count-clause-there c = (allowed _ _ (rw c.strap_count.ensures at c.if-straps-strap_count.true)).0
