-- Which number a step gives, from what its tests found, and which device where it gives one. Assumes nothing.
use mathlib.Core.Path.{◌≡◌, refl}
use mathlib.Core.Bool.{Bool, true, false, cond}
use mathlib.Core.List.{List}
use Prim.Native.Nat.{ℕ}
use lib.Dec.{eqb}
use lib.ListN.{length}
use borrow.Author.Tests.{eq-eqb, ne_eqb}
use Rattle.record.specs.declared.Device.{Device}
use Rattle.record.specs.Sample.{voltage}
use Rattle.soundness.specs.Sound.{sound_of}
use Rattle.clock.specs.declared.DeviceClocked.{DeviceClocked}
use Rattle.clock.specs.Clock.{device_clock}
use Rattle.step.specs.declared.Stepped.{Stepped}
use Rattle.step.specs.Step.{step_number, stepped, done, stepped_of}

abbrev chosen : Bool → DeviceClocked → ℕ → Device → Stepped
chosen t a number d = cond t (done a) (stepped number 0 d)

left_alone : (t : Bool) (a : DeviceClocked) (number : ℕ) (d : Device) → ((chosen t a number d).number ≡ 0 → ⊥)
    → (chosen t a number d).device ≡ d
left_alone true a number d z = absurd (z refl)
left_alone false a number d z = refl

module _ (d : Device) (image : List ℕ) (sample : ℕ) where
  pub unsound : sound_of d ≡ false → step_number d image sample ≡ 1
  unfolding step_number
  unsound e = rw e

  module _ (e : sound_of d ≡ true) where
    pub mismatched : (length image ≡ 1048576 → ⊥) → step_number d image sample ≡ 2
    unfolding step_number
    mismatched l = rw (e, ne_eqb (length image) 1048576 l)

    module _ (l : length image ≡ 1048576) where
      pub overvolted : voltage sample ≡ 3 → step_number d image sample ≡ 7
      unfolding step_number
      overvolted v = rw (e, eq-eqb (length image) 1048576 l, eq-eqb (voltage sample) 3 v)

      pub accepted : (voltage sample ≡ 3 → ⊥) → step_number d image sample ≡ 0
      unfolding step_number
      accepted v = rw (e, eq-eqb (length image) 1048576 l, ne_eqb (voltage sample) 3 v)

  -- a step that is refused gives the device handed in
  pub refused : ((stepped_of d image sample).number ≡ 0 → ⊥) → (stepped_of d image sample).device ≡ d
  unfolding stepped_of
  refused z =
      left_alone (eqb (step_number d image sample) 0) (device_clock d image sample) (step_number d image sample) d z
