-- A clock takes a sound device to a sound device, and an image to one of the same length. Assumes nothing.
use mathlib.Core.Path.{◌≡◌, refl}
use mathlib.Core.Bool.{true}
use mathlib.Core.List.{List}
use Prim.Native.Nat.{ℕ}
use native.Mathlib.Omega.{arith}
use lib.ListN.{length, length-append, length-drop, length-set, length-replicate}
use lib.Seq.{length-take-le}
use Rattle.basics.proofs.Rules.{Answer, yes, no, ask}
use Rattle.record.specs.declared.Frame.{Frame}
use Rattle.record.specs.declared.Device.{Device}
use Rattle.soundness.specs.Sound.{stage_fits, begun_fits, frame_fits, sound_of}
use Rattle.soundness.proofs.Clauses.{parts, joined}
use Rattle.effect.specs.declared.Effect.{Effect}
use Rattle.effect.specs.declared.Effect.TheVariants.{Nothing, Program, Fill}
use Rattle.effect.specs.Effect.{FitsIn, applied}
use Rattle.operation.specs.Clock.{controller_clock}
use Rattle.operation.proofs.FitsIn.{controller_clock_fits}
use Rattle.operation.proofs.Kept.{controller_clock_kept, reset_kept}
use Rattle.bus.specs.declared.Asked.{Asked}
use Rattle.bus.specs.declared.Asked.TheVariants.{Nothing as Silent, Read, Write}
use Rattle.bus.specs.Frames.{frame_clock, asked_of}
use Rattle.bus.proofs.Kept.{frame_kept, rests}
use Rattle.access.proofs.Kept.{reached_kept}
use Rattle.record.specs.Sample.{is_reset}
use Rattle.clock.specs.Clock.{reset_device, with_frame, with_byte, answered_to, served_of, after_controller, device_clock, image_after}

-- the byte of a frame is no part of its stage
byte_fits : (part : ℕ) (f : Frame) (byte : ℕ) → frame_fits part f ≡ true → frame_fits part (with_byte f byte) ≡ true
unfolding frame_fits stage_fits begun_fits
byte_fits part f byte e = e

framed : (d : Device) (f : Frame) → sound_of d ≡ true → frame_fits d.part f ≡ true → sound_of (with_frame d f) ≡ true
framed d f e h =
    let p = parts d e in
    joined _ (record { straps = p.straps; locks = p.locks; times = p.times; frame = h; controller = p.controller })

answered_sound : (a : Asked) (d : Device) (image : List ℕ) (sample : ℕ) → sound_of d ≡ true → sound_of (answered_to a d image sample).after ≡ true
answered_sound Silent d image sample e = e
answered_sound (Read address) d image sample e =
    framed d (with_byte d.frame _) e (byte_fits d.part d.frame _ (parts d e).frame)
answered_sound (Write address byte) d image sample e = reached_kept d sample address byte e

pub served_sound : (d : Device) (image : List ℕ) (sample : ℕ) → sound_of d ≡ true → sound_of (served_of d image sample).after ≡ true
unfolding served_of
served_sound d image sample e =
    answered_sound (asked_of (frame_clock d.part d.straps d.frame sample)) (with_frame d (frame_clock d.part d.straps d.frame sample)) image sample
    (framed d (frame_clock d.part d.straps d.frame sample) e (frame_kept d.part d.straps d.frame sample (parts d e).frame))

pub reset_sound : (d : Device) → sound_of d ≡ true → sound_of (reset_device d) ≡ true
unfolding reset_device
reset_sound d e =
    let p = parts d e in
    joined _
    (record { straps = p.straps; locks = refl; times = p.times; frame = rests d.part; controller = reset_kept d.controller })

pub controller_sound : (d : Device) → sound_of d ≡ true → sound_of (after_controller d) ≡ true
controller_sound d e =
    let p = parts d e in
    joined _
    (record { straps = p.straps; locks = p.locks; times = p.times; frame = p.frame; controller = controller_clock_kept d.controller p.controller })

pub device_clock_sound : (d : Device) (image : List ℕ) (sample : ℕ) → sound_of d ≡ true → sound_of (device_clock d image sample).device ≡ true
unfolding device_clock
device_clock_sound d image sample e = pick (ask (is_reset sample))
  where
    pick : Answer (is_reset sample) → sound_of (device_clock d image sample).device ≡ true
    pick (yes a) = rw a (reset_sound d e)
    pick (no a) = rw a (served_sound (after_controller d) _ sample (controller_sound d e))

-- an effect that lies inside an image leaves its length
pub applied_length : (e : Effect) (image : List ℕ) → FitsIn e (length image) → length (applied e image) ≡ length image
applied_length Nothing image h = refl
applied_length (Program address byte) image h = simp length-set
applied_length (Fill start count value) image h =
    let l = length-take-le start image (omega arith) in
    simp (length-append, length-replicate, length-drop, l) (omega arith)

pub image_length : (d : Device) (image : List ℕ) (sample : ℕ) → sound_of d ≡ true → length image ≡ 1048576 → length (image_after d image sample) ≡ length image
unfolding image_after
image_length d image sample e l = pick (ask (is_reset sample))
  where
    pick : Answer (is_reset sample) → length (image_after d image sample) ≡ length image
    pick (yes a) = rw a
    pick (no a) =
        rw a
        (applied_length (controller_clock d.controller).effect image
        (rw l (controller_clock_fits d.controller (parts d e).controller)))
