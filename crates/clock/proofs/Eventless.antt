-- On a clock without events device and image stay as they are, and nothing is driven. Assumes nothing.
use native.Mathlib.Omega.{arith}
use Rattle.std.proofs.lemmas.Bool.Decides.{nat_tests}
use mathlib.Core.Path.{◌≡◌}
use mathlib.Core.Bool.{true, false}
use mathlib.Core.List.{List}
use Prim.Native.Nat.{ℕ}
use lib.Dec.{eqb}
use borrow.Author.Tests.{eqb-true}
use Rattle.record.specs.declared.Device.{Device}
use Rattle.record.specs.Record.{is_idle}
use Rattle.record.specs.Sample.{frame_line, is_reset}
use Rattle.effect.specs.declared.Effect.TheVariants.{Nothing}
use Rattle.operation.specs.Clock.{active, is_still}
use Rattle.operation.proofs.Facts.{still_clocked}
use Rattle.std.specs.Prelude.{None}
use Rattle.bus.specs.Frames.{frame_clock}
use Rattle.bus.proofs.Laws.{idle_silent}
use Rattle.clock.specs.Clock.{served_of, happened, device_clocked, image_after, device_clock}
use Rattle.clock.specs.Eventless.{is_eventless}

record Eventless (d : Device) (sample : ℕ) : Type 0 where
  high : eqb (frame_line sample) 0 ≡ false
  idle : is_idle d.frame ≡ true
  still : is_still (active d.controller) ≡ true

eventlessly : (d : Device) (sample : ℕ) → is_eventless d sample ≡ true → Eventless d sample
unfolding is_eventless
eventlessly d sample e = grind (arith, nat_tests)

module _ (d : Device) (image : List ℕ) (sample : ℕ) (r : is_reset sample ≡ false) (e : is_eventless d sample ≡ true) where
  pub eventless_device : device_clocked d 0 (happened Nothing None false false) ≡ device_clock d image sample
  unfolding device_clock served_of frame_clock
  eventless_device =
      let c = eventlessly d sample e in
      let s = idle_silent d.frame (eqb-true d.frame.kind 0 c.idle) in
      rw (r, still_clocked d.controller c.still, c.high, c.idle, s.0, s.1)

  pub eventless_image : image ≡ image_after d image sample
  unfolding image_after
  eventless_image = rw (r, still_clocked d.controller (eventlessly d sample e).still)

pub ruleset eventless = (eventless_device, eventless_image)
