-- `fast_forward::forward`: with the operation as it is after some clocks in its place, what is left of the wait stops where
-- all of it does. Assumes nothing.
use Rattle.std.proofs.Common.{◌-◌, ◌≡◌, ◌≤◌, length}
use Rattle.operation.specs.Clock.{replaced}
use Rattle.fast_forward.specs.Forward.{forwarding}
use Rattle.fast_forward.proofs.Turns.{Counting}
use Rattle.fast_forward.proofs.forward.Given as goal

abbrev pub invariant-loop-done : goal.invariant-loop-done
invariant-loop-done l =
    (l.done ≤ l.n) × (length l.image ≡ length l.fn.image)
    × (forwarding (l.n - l.done) l.done (replaced l.c l.o.0 l.c.marks) l.image ≡ forwarding l.n 0 l.c l.fn.image)
    × Counting l.c l.o.0

abbrev pub decreases-loop-done : goal.decreases-loop-done
decreases-loop-done l = l.n - l.done
