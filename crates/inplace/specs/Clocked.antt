-- What a step in place answers: what the step by value answers, but for the device; and what it leaves behind. Assumes
-- nothing.
use Rattle.std.specs.Prelude.{◌≡◌, List, ℕ}
use Rattle.record.specs.declared.Device.{Device}
use Rattle.step.specs.declared.Stepped.{Stepped}
use Rattle.step.specs.Step.{stepped_of, stored_of}
use Rattle.inplace.specs.declared.Clocked.{Clocked}

abbrev pub clocked_of : Stepped → Clocked
clocked_of s = record { number = s.number; answer = s.answer }

-- the step in place of d on an image answers r, and leaves a next device and an image after it
abbrev pub StepsInPlace : Device → List ℕ → ℕ → Clocked → Device → List ℕ → Type 0
StepsInPlace d image sample r next after =
    (r ≡ clocked_of (stepped_of d image sample))
    × (next ≡ (stepped_of d image sample).device)
    × (after ≡ stored_of d image sample)
