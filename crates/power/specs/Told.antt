-- The status register and the spoiled marks of a device, as a host asks for them: 0 of a device that is not sound.
-- Assumes nothing.
use Rattle.std.specs.Prelude.{ℕ, ◌≡◌, cond}
use Rattle.record.specs.declared.Device.{Device}
use Rattle.status.specs.Status.{status_of}
use Rattle.soundness.specs.Sound.{sound_of}

unfoldable pub status_told : Device → ℕ
status_told d = cond (sound_of d) (status_of d.controller) 0

-- bit b for block b
unfoldable pub marks_told : Device → ℕ
marks_told d = cond (sound_of d) d.controller.marks 0

-- what a host that asks is given of a device
abbrev pub TellsStatus : Device → ℕ → Type 0
TellsStatus d r = r ≡ status_told d

abbrev pub TellsMarks : Device → ℕ → Type 0
TellsMarks d r = r ≡ marks_told d
