-- What no clock changes: the part, its straps and its times. Assumes nothing.
use mathlib.Core.Path.{◌≡◌, refl}
use mathlib.Core.List.{List}
use Prim.Native.Nat.{ℕ}
use Rattle.basics.proofs.Rules.{Answer, yes, no, ask}
use Rattle.record.specs.declared.Device.{Device}
use Rattle.record.specs.Sample.{is_reset}
use Rattle.effect.specs.Effect.{applied}
use Rattle.operation.specs.Clock.{controller_clock}
use Rattle.bus.specs.declared.Asked.{Asked}
use Rattle.bus.specs.declared.Asked.TheVariants.{Nothing as Silent, Read, Write}
use Rattle.bus.specs.Frames.{frame_clock, asked_of}
use Rattle.access.specs.Read.{is_array}
use Rattle.access.specs.Write.{reached_of}
use Rattle.clock.specs.Clock.{reset_device, with_frame, answered_to, served_of, after_controller, device_clock}
use Rattle.clock.specs.Fold.{World, onward}

pub record Fixed (d e : Device) : Type 0 where
  pub part : e.part ≡ d.part
  pub straps : e.straps ≡ d.straps
  pub times : e.times ≡ d.times

reached_fixed : (d : Device) (sample address byte : ℕ) → Fixed d (reached_of d sample address byte).after
unfolding reached_of
reached_fixed d sample address byte =
    elim (ask (is_array address)) [
      | yes a ↦ rw a (record { part = refl; straps = refl; times = refl })
      | no a ↦ rw a (record { part = refl; straps = refl; times = refl })
    ]

answered_fixed : (a : Asked) (d : Device) (late : List ℕ) (sample : ℕ) → Fixed d (answered_to a d late sample).after
answered_fixed Silent d late sample = record { part = refl; straps = refl; times = refl }
answered_fixed (Read address) d late sample = record { part = refl; straps = refl; times = refl }
answered_fixed (Write address byte) d late sample = reached_fixed d sample address byte

pub fixed : (d : Device) (image : List ℕ) (sample : ℕ) → Fixed d (device_clock d image sample).device
unfolding device_clock served_of reset_device
fixed d image sample = pick (ask (is_reset sample))
  where
    pick : Answer (is_reset sample) → Fixed d (device_clock d image sample).device
    pick (yes r) = rw r (record { part = refl; straps = refl; times = refl })
    pick (no r) =
        let f = frame_clock d.part d.straps d.frame sample in
        let k = answered_fixed (asked_of f) (with_frame (after_controller d) f) (applied (controller_clock d.controller).effect image) sample in
        rw r (record { part = k.part; straps = k.straps; times = k.times })

pub fixed_onward : (w : World) (sample : ℕ) → Fixed w.device (onward w sample).device
unfolding onward
fixed_onward w sample = fixed w.device w.image sample
