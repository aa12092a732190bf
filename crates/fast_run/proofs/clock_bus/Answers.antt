use Rattle.std.proofs.Common.{arith}
use lib.ListN.{length-set}
use Rattle.fast_run.proofs.Steps.{alone_clock}
use Rattle.fast_run.proofs.clock_bus.Goals as goal

pub returns-clause-alone : goal.returns-clause-alone
returns-clause-alone c =
    λ d image q e. alone_clock _ _ _ _ _ _ _ _ (omega arith) (omega arith) (c.stops_before.ensures c.if-stops_before.false) (rw (c.sample_at.ensures, ← q, ← e) at c.clock_frame-frame.ensures) (c.is_silent.ensures c.if-not-is_silent.false) (rw c.drive.ensures) (simp length-set)
