-- Document 01, "Settle": one idle sample is repeated up to N times; the count is the least number of samples after which
-- status bit 7 is 1, and 0 if it is 1 already. Assumes nothing.
use Rattle.std.specs.Prelude.{ℕ, zero, suc, ◌+◌, ◌/◌, ◌%◌, ◌≡◌, Bool, true, cond, List, eqb, length, Result, Ok, Err}
use Rattle.basics.specs.declared.refusal.Refusal.{Refusal}
use Rattle.basics.specs.Refusals.{code_of}
use Rattle.record.specs.declared.Device.{Device}
use Rattle.record.specs.Sample.{voltage, is_idle_sample}
use Rattle.status.specs.Status.{status_of}
use Rattle.soundness.specs.Sound.{sound_of}
use Rattle.clock.specs.Fold.{World, world, onward}
use Rattle.settle.specs.declared.Settled.{Settled}
use Rattle.fast_forward.specs.declared.Forwarded.{Forwarded}

-- status bit 7 is 1
unfoldable pub is_ready : Device → Bool
is_ready d = eqb (status_of d.controller / 128 % 2) 1

-- where the repeating stops: how many samples were done, the world then, and whether bit 7 is 1
pub record Stop : Type 0 where
  pub count : ℕ
  pub ready : Bool
  pub world : World

abbrev pub stop : ℕ → Bool → World → Stop
stop count ready w = record { count = count; ready = ready; world = w }

-- with `count` samples done and at most n to come
abbrev pub settling : ℕ → ℕ → ℕ → World → Stop
settling sample zero count w = stop count (is_ready w.device) w
settling sample (suc n) count w =
    cond (is_ready w.device) (stop count true w) (settling sample n (count + 1) (onward w sample))

-- which refusal a settle meets before it begins, 0 for none: 1, 2, 7, 9, lowest first. 9 is for a sample to repeat that
-- has the frame line, RP or INIT low
unfoldable pub settle_number : Device → List ℕ → ℕ → ℕ
settle_number d image sample =
    cond (sound_of d)
    (cond (eqb (length image) 1048576) (cond (eqb (voltage sample) 3) 7 (cond (is_idle_sample sample) 0 9)) 2)
    1

abbrev pub settled : ℕ → ℕ → Device → Settled
settled number count d = record { number = number; count = count; device = d }

-- done with the least count, or 10 with count N and the device after N samples
abbrev pub stop_number : Bool → ℕ
stop_number ready = cond ready 0 10

abbrev pub stopped : Stop → Settled
stopped s = settled (stop_number s.ready) s.count s.world.device

-- what is given for a wait that is over, or for the refusal
abbrev pub settle_told : Device → Result (Forwarded Device) Refusal → Settled
settle_told d (Ok w) = settled (stop_number (is_ready w.after)) w.count w.after
settle_told d (Err r) = settled (code_of r) 0 d

unfoldable pub settled_of : Device → List ℕ → ℕ → ℕ → Settled
settled_of d image sample limit =
    cond (eqb (settle_number d image sample) 0) (stopped (settling sample limit 0 (world d image)))
    (settled (settle_number d image sample) 0 d)

-- the image after the call
unfoldable pub image_settled : Device → List ℕ → ℕ → ℕ → List ℕ
image_settled d image sample limit =
    cond (eqb (settle_number d image sample) 0) (settling sample limit 0 (world d image)).world.image image

-- what a settle gives for a device, an image, a sample and a limit: the answer, and the image after
abbrev pub Settles : Device → List ℕ → ℕ → ℕ → Settled → List ℕ → Type 0
Settles d image sample limit r after =
    (r ≡ settled_of d image sample limit) × (after ≡ image_settled d image sample limit)
