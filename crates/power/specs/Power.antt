-- Document 01, "What can be called" and "Numbered answers", and document 02, #101: power up and set times. Assumes nothing.
use Rattle.std.specs.Prelude.{ℕ, ◌≡◌, cond, leb, Result, Ok, Err}
use Rattle.basics.specs.declared.refusal.Refusal.{Refusal}
use Rattle.basics.specs.Refusals.{code_of}
use Rattle.units.specs.declared.Times.{Times}
use Rattle.units.specs.Units.{times, times_fit}
use Rattle.record.specs.declared.Device.{Device}
use Rattle.record.specs.Record.{device}
use Rattle.part.specs.Fresh.{fresh_of}
use Rattle.part.specs.Parts.{strap_count}
use Rattle.power.specs.declared.Powered.{Powered}
use Rattle.soundness.specs.Sound.{sound_of}

abbrev pub powered : ℕ → Device → Powered
powered number d = record { number = number; device = d }

-- a refused power up gives the FWH device with straps 0 and times 10, 3,906, 30
unfoldable pub power_refused : ℕ → Powered
power_refused number = powered number (fresh_of 0 0 (times 10 3906 30))

-- 3 for straps that the part does not allow or for another part than the two, then 4 for a time outside its range
unfoldable pub powered_up : ℕ → ℕ → ℕ → ℕ → ℕ → Powered
powered_up part straps program slice pause =
    cond (leb (strap_count part) straps) (power_refused 3)
    (cond (times_fit (times program slice pause)) (powered 0 (fresh_of part straps (times program slice pause)))
    (power_refused 4))

-- the device with other times, and nothing else changed: operations keep their own copies
abbrev pub with_times : Device → Times → Device
with_times d ts = device d.part d.straps d.locks ts d.frame d.controller

-- 1 for an unsound device, then 4; a refusal returns the device handed in
unfoldable pub times_set : Device → ℕ → ℕ → ℕ → Powered
times_set d program slice pause =
    cond (sound_of d)
    (cond (times_fit (times program slice pause)) (powered 0 (with_times d (times program slice pause))) (powered 4 d))
    (powered 1 d)

-- what is given for a device that comes up, or for the refusal
abbrev pub up_told : Result Device Refusal → Powered
up_told (Ok d) = powered 0 d
up_told (Err r) = power_refused (code_of r)

-- what is given for the device d with other times, or for the refusal
abbrev pub set_told : Device → Result Device Refusal → Powered
set_told d (Ok next) = powered 0 next
set_told d (Err r) = powered (code_of r) d

-- what power up gives for a part, straps and three times
abbrev pub PowersUp : ℕ → ℕ → ℕ → ℕ → ℕ → Powered → Type 0
PowersUp part straps program slice pause r = r ≡ powered_up part straps program slice pause

-- what set times gives for a device and three times
abbrev pub SetsTimes : Device → ℕ → ℕ → ℕ → Powered → Type 0
SetsTimes d program slice pause r = r ≡ times_set d program slice pause
