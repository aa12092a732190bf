-- On which clock a write acts, and where nothing is asked and nothing driven. Assumes nothing.
use mathlib.Core.Path.{◌≡◌, refl}
use mathlib.Core.Bool.{false}
use Prim.Native.Nat.{ℕ, ◌+◌, ◌*◌, ◌%◌}
use lib.Dec.{eqb}
use Rattle.record.specs.declared.Frame.{Frame}
use Rattle.record.specs.Record.{frame}
use Rattle.record.specs.Sample.{lines, frame_line}
use Rattle.bus.specs.declared.Asked.TheVariants.{Nothing, Write}
use Rattle.bus.specs.Frames.{write_on, next_of, frame_clock, asked_of, driven_of}

-- a write acts with its second data nibble, before any turnaround: no later abort can stop it
pub last_nibble : (part straps n a s : ℕ)
    → eqb (frame_line s) 0 ≡ false
    → frame_clock part straps (frame 2 11 n a) s ≡ frame 2 12 (n % 16 + 16 * lines s) a
unfolding frame_clock next_of write_on
last_nibble part straps n a s e = rw e

pub acts_on_12 : (byte a : ℕ) → asked_of (frame 2 12 byte a) ≡ Write a byte
unfolding asked_of
acts_on_12 byte a = refl

-- a frame of no kind asks and drives nothing
pub idle_silent : (f : Frame) → f.kind ≡ 0 → (asked_of f ≡ Nothing) × (driven_of f ≡ 0)
unfolding asked_of driven_of
idle_silent f e = rw e (refl, refl)
