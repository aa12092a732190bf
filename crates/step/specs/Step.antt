-- Document 01, "Step" and "Numbered answers": 1 for an unsound device, 2 for an image of another length, 7 for voltage
-- class 3, lowest first; a refusal leaves the image and returns the device handed in. Assumes nothing.
use Rattle.std.specs.Prelude.{ℕ, ◌≡◌, cond, List, eqb, length, Result, Ok, Err}
use Rattle.basics.specs.declared.refusal.Refusal.{Refusal}
use Rattle.basics.specs.Refusals.{code_of}
use Rattle.record.specs.declared.Device.{Device}
use Rattle.record.specs.Sample.{voltage}
use Rattle.soundness.specs.Sound.{sound_of}
use Rattle.clock.specs.declared.DeviceClocked.{DeviceClocked}
use Rattle.step.specs.declared.Stepped.{Stepped}
use Rattle.clock.specs.Clock.{device_clock, image_after}

-- which refusal a step meets, 0 for none
unfoldable pub step_number : Device → List ℕ → ℕ → ℕ
step_number d image sample =
    cond (sound_of d) (cond (eqb (length image) 1048576) (cond (eqb (voltage sample) 3) 7 0) 2) 1

abbrev pub stepped : ℕ → ℕ → Device → Stepped
stepped number answer d = record { number = number; answer = answer; device = d }

abbrev pub done : DeviceClocked → Stepped
done a = stepped 0 a.answer a.device

-- what is given for a clock that is done, or for the refusal
abbrev pub step_told : Device → Result DeviceClocked Refusal → Stepped
step_told d (Ok a) = done a
step_told d (Err r) = stepped (code_of r) 0 d

unfoldable pub stepped_of : Device → List ℕ → ℕ → Stepped
stepped_of d image sample =
    cond (eqb (step_number d image sample) 0) (done (device_clock d image sample))
    (stepped (step_number d image sample) 0 d)

-- the image after the call
unfoldable pub stored_of : Device → List ℕ → ℕ → List ℕ
stored_of d image sample = cond (eqb (step_number d image sample) 0) (image_after d image sample) image

-- what a step gives for a device, an image and a sample: the answer, and the image after
abbrev pub Steps : Device → List ℕ → ℕ → Stepped → List ℕ → Type 0
Steps d image sample r after = (r ≡ stepped_of d image sample) × (after ≡ stored_of d image sample)
