-- How far a run through a stream has come. Assumes nothing.
use Rattle.std.specs.Prelude.{ℕ, ◌+◌, ◌-◌, ◌*◌, ◌≤◌, ◌<◌, ◌≡◌, true, List, ◌++◌, length, take, drop}
use Rattle.record.specs.declared.Frame.{Frame}
use Rattle.record.specs.declared.Device.{Device}
use Rattle.record.specs.Record.{device}
use Rattle.soundness.specs.Sound.{sound_of}
use Rattle.fast_forward.specs.Forward.{controller_later, image_later, controller_before_due}
use Rattle.clock.specs.Fold.{World, world, through, answers_to}
use Rattle.record.specs.Sample.{samples}

-- a device n clocks later with another frame, nothing having been said to its controller
abbrev pub device_later : ℕ → Frame → Device → Device
device_later n f d = device d.part d.straps d.locks d.times f (controller_later n d.controller)

-- with its image
abbrev pub world_later : Device → List ℕ → ℕ → Frame → World
world_later d image n f = world (device_later n f d) (image_later n d.controller image)

-- the samples from place k on
abbrev pub samples_from : List ℕ → ℕ → List ℕ
samples_from s k = samples (drop (2 * k) s)

-- at place m with world v all that is still to come goes as at place k with world w, v is sound if w is, and the answers
-- between stand in the buffer as it is later
pub record Simulates (s : List ℕ) (k : ℕ) (w : World) (buffer : List ℕ) (m : ℕ) (v : World) (later : List ℕ) : Type 0 where
  pub forward : k ≤ m
  pub leads : through (samples_from s m) v ≡ through (samples_from s k) w
  pub told : take m later ++ answers_to (samples_from s m) v ≡ take k buffer ++ answers_to (samples_from s k) w
  pub beyond : drop m later ≡ drop m buffer
  pub size : length later ≡ length buffer
  pub kept : sound_of w.device ≡ true → sound_of v.device ≡ true

-- the same of a place m further on, n at most
pub record Stretched (s : List ℕ) (k : ℕ) (w : World) (buffer : List ℕ) (n m : ℕ) (v : World) (later : List ℕ) : Type 0 where
  pub further : k < m
  pub within : m ≤ n
  pub simulates : Simulates s k w buffer m v later

-- the bus has gone alone from place k with frame f to place m with frame g, however far the controller has counted, so
-- long as nothing falls due in it on the way
pub record Alone (d : Device) (image s : List ℕ) (k : ℕ) (f : Frame) (buffer : List ℕ) (m : ℕ) (g : Frame) (later : List ℕ) : Type 0 where
  pub forward : k ≤ m
  pub size : length later ≡ length buffer
  pub goes : (n : ℕ) → n + (m - k) ≤ controller_before_due d.controller
      → Simulates s k (world_later d image n f) buffer m (world_later d image (n + (m - k)) g) later
