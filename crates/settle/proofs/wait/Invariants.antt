-- After `count` samples, with as many less to come, it stops where it stops from the start. Assumes nothing.
use Rattle.std.proofs.Common.{◌-◌, ◌≡◌, true}
use Rattle.soundness.specs.Sound.{sound_of}
use Rattle.clock.specs.Fold.{world}
use Rattle.settle.specs.Settle.{settling}
use Rattle.settle.proofs.wait.Given as goal

abbrev pub invariant-loop-count : goal.invariant-loop-count
invariant-loop-count l =
    (sound_of l.d ≡ true)
    × (settling l.sample (l.limit - l.count) l.count (world l.d l.image) ≡ settling l.sample l.limit 0 (world l.initial.d l.initial.image))
