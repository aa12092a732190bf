-- Document 01, "One clock, in order": what one sample does to a device and to the image. Assumes nothing.
use Rattle.std.specs.Prelude.{ℕ, Bool, false, cond, not, List, get_or, replicate, Option, None, Result}
use Rattle.record.specs.declared.Frame.{Frame}
use Rattle.record.specs.declared.Controller.{Controller}
use Rattle.record.specs.declared.Device.{Device}
use Rattle.record.specs.Record.{device, frame, idle, is_absent}
use Rattle.record.specs.Sample.{is_reset}
use Rattle.effect.specs.declared.Effect.{Effect}
use Rattle.effect.specs.declared.Effect.TheVariants.{Nothing}
use Rattle.effect.specs.Effect.{applied}
use Rattle.operation.specs.declared.Counted.{Counted}
use Rattle.operation.specs.Clock.{controller_clock}
use Rattle.operation.specs.Reset.{reset_of}
use Rattle.permission.specs.declared.Denial.{Denial}
use Rattle.command.specs.declared.Judged.{Judged}
use Rattle.command.specs.Setup.{with_verdict}
use Rattle.bus.specs.declared.Asked.{Asked}
use Rattle.bus.specs.declared.Asked.TheVariants.{Nothing as Silent, Read, Write}
use Rattle.bus.specs.Frames.{frame_clock, asked_of, driven_of}
use Rattle.access.specs.Read.{array_address, value_of}
use Rattle.access.specs.Write.{reached_of, with_controller}
use Rattle.clock.specs.declared.Happened.{Happened}
use Rattle.clock.specs.declared.DeviceClocked.{DeviceClocked}

-- the frame is dropped, locks become 01h, the controller is reset; part, straps and times stay
unfoldable pub reset_device : Device → Device
reset_device d = device d.part d.straps (replicate 16 1) d.times idle (reset_of d.controller)

-- an operation is there to be cut off
unfoldable pub is_cut : Device → Bool
is_cut d = not (is_absent d.controller.outer)

abbrev pub with_frame : Device → Frame → Device
with_frame d f = device d.part d.straps d.locks d.times f d.controller

-- a frame with its byte fixed
abbrev pub with_byte : Frame → ℕ → Frame
with_byte f byte = frame f.kind f.clock byte f.address

-- what the frame has come to ask: nothing, a value that is fixed now, a byte that acts now
abbrev pub answered_to : Asked → Device → List ℕ → ℕ → Judged Device
answered_to Silent d image sample = with_verdict d None
answered_to (Read address) d image sample =
    with_verdict (with_frame d (with_byte d.frame (value_of d sample address (get_or image (array_address address) 0)))) None
answered_to (Write address byte) d image sample = reached_of d sample address byte

-- step 3, the bus
unfoldable pub served_of : Device → List ℕ → ℕ → Judged Device
served_of d image sample =
    answered_to (asked_of (frame_clock d.part d.straps d.frame sample))
    (with_frame d (frame_clock d.part d.straps d.frame sample)) image sample

abbrev pub happened : Effect → Option (Result Unit Denial) → Bool → Bool → Happened
happened e v finished cut = record { effect = e; verdict = v; finished = finished; cut = cut }

abbrev pub device_clocked : Device → ℕ → Happened → DeviceClocked
device_clocked d answer t = record { device = d; answer = answer; happened = t }

abbrev pub replied : Judged Device → Counted Controller → DeviceClocked
replied r k =
    device_clocked r.after (driven_of r.after.frame) (happened k.effect r.verdict k.finished false)

-- the device as the controller left it on this clock
abbrev pub after_controller : Device → Device
after_controller d = with_controller d (controller_clock d.controller).after

-- the image after a clock
unfoldable pub image_after : Device → List ℕ → ℕ → List ℕ
image_after d image sample = cond (is_reset sample) image (applied (controller_clock d.controller).effect image)

-- 1. reset, and the clock ends there; 2. the controller and its effect; 3. the bus, which sees both as they are then
unfoldable pub device_clock : Device → List ℕ → ℕ → DeviceClocked
device_clock d image sample =
    cond (is_reset sample) (device_clocked (reset_device d) 0 (happened Nothing None false (is_cut d)))
    (replied
    (served_of (after_controller d) (applied (controller_clock d.controller).effect image) sample)
    (controller_clock d.controller))
