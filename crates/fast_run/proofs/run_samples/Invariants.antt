-- The samples up to place k have led from the first world to the one there, and their answers stand in the buffer.
use Rattle.std.proofs.Common.{◌-◌, ◌≤◌}
use Rattle.clock.specs.Fold.{world}
use Rattle.fast_run.specs.Stretch.{Simulates}
use Rattle.fast_run.proofs.run_samples.Given as goal

abbrev pub invariant-loop-k : goal.invariant-loop-k
invariant-loop-k l =
    record {
      within : l.k ≤ l.n;
      simulates : Simulates l.stream 0 (world l.initial.d.0 l.initial.image) l.initial.answers l.k (world l.d.0 l.image) l.answers;
    }

abbrev pub decreases-loop-k : goal.decreases-loop-k
decreases-loop-k l = l.n - l.k
