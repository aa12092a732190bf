-- A clock without a reset on which nothing happens: the bus is idle, the frame line stays high, and no operation counts.
-- Assumes nothing.
use Rattle.std.specs.Prelude.{ℕ, Bool, false, cond, eqb}
use Rattle.record.specs.declared.Device.{Device}
use Rattle.record.specs.Record.{is_idle}
use Rattle.record.specs.Sample.{frame_line}
use Rattle.operation.specs.Clock.{active, is_still}

unfoldable pub is_eventless : Device → ℕ → Bool
is_eventless d sample =
    cond (eqb (frame_line sample) 0) false (cond (is_idle d.frame) (is_still (active d.controller)) false)
