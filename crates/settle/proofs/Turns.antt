-- A turn of settle: it stops where status bit 7 is 1, or goes on with one sample less to come. Assumes nothing.
use mathlib.Core.Path.{◌≡◌}
use mathlib.Core.Bool.{true, false}
use mathlib.Core.List.{List}
use Prim.Native.Nat.{ℕ, zero, suc, ◌+◌}
use native.Mathlib.Numerals.{add-one}
use Rattle.record.specs.declared.Device.{Device}
use Rattle.clock.specs.declared.DeviceClocked.{DeviceClocked}
use Rattle.clock.specs.Clock.{device_clock, image_after}
use Rattle.clock.specs.Fold.{World, world, onward}
use Rattle.settle.specs.Settle.{is_ready, stop, settling}

module _ (sample : ℕ) where
  pub stops : (n count : ℕ) (w : World) → is_ready w.device ≡ true → settling sample n count w ≡ stop count true w
  stops zero count w e = rw e
  stops (suc n) count w e = rw e

  -- from what the clock gave
  pub goes_on : (n left count : ℕ) (d : Device) (image : List ℕ) (a : DeviceClocked) (later : List ℕ)
      → n ≡ left + 1
      → is_ready d ≡ false
      → a ≡ device_clock d image sample
      → later ≡ image_after d image sample
      → settling sample left (count + 1) (world a.device later) ≡ settling sample n count (world d image)
  unfolding onward
  goes_on n left count d image a later e f ea el = rw (e, add-one left, f, ea, el)
