-- How far the bus has come from its first place, and that what it did so far simulates the samples up to there.
use Rattle.std.proofs.Common.{◌-◌, ◌≤◌}
use Rattle.clock.specs.Fold.{world}
use Rattle.fast_run.specs.Stretch.{world_later, Simulates}
use Rattle.fast_run.proofs.run_bus_alone.Given as goal

abbrev pub invariant-loop-k : goal.invariant-loop-k
invariant-loop-k l =
    record {
      within : l.k ≤ l.ahead.to;
      simulates : Simulates l.ahead.stream.now l.from (world l.initial.d l.initial.image) l.initial.answers l.k (world_later l.initial.d l.initial.image (l.k - l.from) l.f) l.answers;
    }

abbrev pub decreases-loop-k : goal.decreases-loop-k
decreases-loop-k l = l.ahead.to - l.k
