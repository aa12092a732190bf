-- A fresh device is sound. Assumes nothing.
use mathlib.Core.Path.{◌≡◌}
use mathlib.Core.Bool.{true}
use Prim.Native.Nat.{ℕ, ◌<◌}
use borrow.Author.Tests.{lt-ltb}
use Rattle.basics.specs.All.{all}
use Rattle.units.specs.declared.Times.{Times}
use Rattle.units.specs.Units.{times_fit}
use Rattle.part.specs.Fresh.{fresh_of}
use Rattle.part.specs.Parts.{strap_count}
use Rattle.status.specs.Status.{condition_of}
use Rattle.soundness.specs.Sound.{frame_fits, outer_fits, inner_fits, controller_fits, sound_of}

pub fresh_sound : (part straps : ℕ) (ts : Times)
    → straps < strap_count part
    → times_fit ts ≡ true
    → sound_of (fresh_of part straps ts) ≡ true
unfolding sound_of fresh_of frame_fits controller_fits outer_fits inner_fits condition_of all
fresh_sound part straps ts h fits = rw (lt-ltb straps (strap_count part) h, fits)
