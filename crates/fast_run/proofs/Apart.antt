-- The bus and the controller go their ways apart: a clock without a reset on which the frame asks for nothing moves the
-- frame and lets the controller count, and neither sees the other. Where it asks, it sees the controller after this
-- clock. Assumes nothing.
use mathlib.Core.Path.{◌≡◌, ◌∙◌, ap}
use mathlib.Core.Bool.{false}
use mathlib.Core.List.{List}
use Prim.Native.Nat.{ℕ, ◌+◌}
use lib.ListN.{get_or}
use Rattle.record.specs.declared.Frame.{Frame}
use Rattle.record.specs.declared.Device.{Device}
use Rattle.effect.specs.Effect.{applied}
use Rattle.operation.specs.Clock.{controller_clock}
use Rattle.fast_forward.specs.Forward.{controller_later, image_later}
use Rattle.fast_forward.proofs.Laws.{later_twice}
use Rattle.bus.specs.declared.Asked.TheVariants.{Nothing as Silent, Read, Write}
use Rattle.bus.specs.Frames.{frame_clock, asked_of, driven_of}
use Rattle.access.specs.Read.{array_address, value_of}
use Rattle.access.specs.Write.{reached_of}
use Rattle.clock.specs.declared.DeviceClocked.{DeviceClocked}
use Rattle.record.specs.Sample.{is_reset}
use Rattle.clock.specs.Clock.{with_frame, with_byte, answered_to, served_of, replied, after_controller, device_clock, image_after}
use Rattle.clock.specs.Fold.{world, onward, answer_to}
use Rattle.fast_run.specs.Stretch.{device_later, world_later}

module _ (d : Device) (image : List ℕ) where
  next : (n : ℕ) → (controller_clock (controller_later n d.controller)).after ≡ controller_later (n + 1) d.controller
  next n = (later_twice n 1 d.controller image).0

  next_image : (n : ℕ)
      → applied (controller_clock (controller_later n d.controller)).effect (image_later n d.controller image)
      ≡ image_later (n + 1) d.controller image
  next_image n = (later_twice n 1 d.controller image).1

  module _ (n : ℕ) (f g : Frame) (sample : ℕ) (r : is_reset sample ≡ false) (e : frame_clock d.part d.straps f sample ≡ g) where
    clocked : device_clock (device_later n f d) (image_later n d.controller image) sample
        ≡ replied
        (answered_to (asked_of g) (with_frame (after_controller (device_later n f d)) g) (applied (controller_clock (controller_later n d.controller)).effect (image_later n d.controller image)) sample)
        (controller_clock (controller_later n d.controller))
    unfolding device_clock served_of
    clocked = rw (r, e)

    pub silent : asked_of g ≡ Silent → onward (world_later d image n f) sample ≡ world_later d image (n + 1) g
    unfolding onward device_clock image_after served_of
    silent a = rw (r, e, a, next n, next_image n)

    pub silent_answer : asked_of g ≡ Silent → answer_to (world_later d image n f) sample ≡ driven_of g
    unfolding answer_to
    silent_answer a = ap (λ (x : DeviceClocked). x.answer) clocked ∙ rw a

    -- the value that a read finds on this clock
    abbrev pub found : ℕ → ℕ
    found address =
        value_of (device_later (n + 1) g d) sample address (get_or (image_later (n + 1) d.controller image) (array_address address) 0)

    pub reads : (address : ℕ) → asked_of g ≡ Read address
        → onward (world_later d image n f) sample ≡ world_later d image (n + 1) (with_byte g (found address))
    unfolding onward device_clock image_after served_of
    reads address a = rw (r, e, a, next n, next_image n)

    pub reads_answer : (address : ℕ) → asked_of g ≡ Read address
        → answer_to (world_later d image n f) sample ≡ driven_of (with_byte g (found address))
    unfolding answer_to
    reads_answer address a = ap (λ (x : DeviceClocked). x.answer) clocked ∙ rw (a, next n, next_image n)

    pub writes : (address byte : ℕ) → asked_of g ≡ Write address byte
        → onward (world_later d image n f) sample
        ≡ world (reached_of (device_later (n + 1) g d) sample address byte).after (image_later (n + 1) d.controller image)
    unfolding onward device_clock image_after served_of
    writes address byte a = rw (r, e, a, next n, next_image n)

    pub writes_answer : (address byte : ℕ) → asked_of g ≡ Write address byte
        → answer_to (world_later d image n f) sample
        ≡ driven_of (reached_of (device_later (n + 1) g d) sample address byte).after.frame
    unfolding answer_to
    writes_answer address byte a = ap (λ (x : DeviceClocked). x.answer) clocked ∙ rw (a, next n)
