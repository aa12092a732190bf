-- Document 01, "Run", and document 02, #101: from power-up through a stream of samples. Assumes nothing.
use Rattle.std.specs.Prelude.{ℕ, ◌/◌, ◌%◌, ◌≡◌, Bool, true, false, cond, List, [], ◌∷◌, ◌++◌, eqb, ltb, leb, length, drop, Result, Ok, Err}
use Rattle.basics.specs.declared.refusal.Refusal.{Refusal}
use Rattle.basics.specs.Refusals.{code_of}
use Rattle.units.specs.Units.{times, times_fit}
use Rattle.record.specs.Sample.{voltage, samples}
use Rattle.part.specs.Fresh.{fresh_of}
use Rattle.part.specs.Parts.{strap_count}
use Rattle.status.specs.Status.{status_of}
use Rattle.clock.specs.Fold.{World, world, through, answers_to}
use Rattle.stream.specs.declared.Report.{Report}

-- some sample has voltage class 3
abbrev pub overvolted : List ℕ → Bool
overvolted [] = false
overvolted (s ∷ ss) = cond (eqb (voltage s) 3) true (overvolted ss)

-- a stream is odd in length or over 131,072 bytes
unfoldable pub misshapen : List ℕ → Bool
misshapen stream = cond (ltb 131072 (length stream)) true (eqb (length stream % 2) 1)

-- which refusal a stream and an answer buffer meet, 0 for none
unfoldable pub stream_number : List ℕ → List ℕ → ℕ
stream_number stream answers =
    cond (misshapen stream) 5
    (cond (ltb (length answers) (length stream / 2)) 6 (cond (overvolted (samples stream)) 7 0))

-- which refusal a run meets, 0 for none: 2, 3, 4, 5, 6, 7, lowest first
unfoldable pub run_number : List ℕ → List ℕ → List ℕ → ℕ → ℕ → ℕ → ℕ → ℕ → ℕ
run_number image stream answers part straps program slice pause =
    cond (eqb (length image) 1048576)
    (cond (leb (strap_count part) straps) 3
    (cond (times_fit (times program slice pause)) (stream_number stream answers) 4))
    2

-- the device fresh, with the image as it is lent
abbrev pub fresh_world : List ℕ → ℕ → ℕ → ℕ → ℕ → ℕ → World
fresh_world image part straps program slice pause = world (fresh_of part straps (times program slice pause)) image

-- what a run gives: samples done, the status register and the marks; the image; the answers, with the bytes past the
-- last sample unchanged
pub record Ran : Type 0 where
  pub report : Report
  pub image : List ℕ
  pub answers : List ℕ

abbrev pub report : ℕ → ℕ → ℕ → ℕ → Report
report number count status marks = record { number = number; samples = count; status = status; marks = marks }

-- the report of a run that is done, or of the refusal
abbrev pub run_told : Result Report Refusal → Report
run_told (Ok r) = r
run_told (Err r) = report (code_of r) 0 0 0

abbrev pub ran : Report → List ℕ → List ℕ → Ran
ran r image answers = record { report = r; image = image; answers = answers }

-- after the samples ss from world w
abbrev pub reported : List ℕ → World → List ℕ → Ran
reported ss w answers =
    ran
    (report 0 (length ss) (status_of (through ss w).device.controller) (through ss w).device.controller.marks)
    (through ss w).image
    (answers_to ss w ++ drop (length ss) answers)

unfoldable pub ran_of : List ℕ → List ℕ → List ℕ → ℕ → ℕ → ℕ → ℕ → ℕ → Ran
ran_of image stream answers part straps program slice pause =
    cond (eqb (run_number image stream answers part straps program slice pause) 0)
    (reported (samples stream) (fresh_world image part straps program slice pause) answers)
    (ran (report (run_number image stream answers part straps program slice pause) 0 0 0) image answers)

-- what a run gives for an image, a stream, an answer buffer, a part, straps and three times: the report, and both buffers after
abbrev pub Runs : List ℕ → List ℕ → List ℕ → ℕ → ℕ → ℕ → ℕ → ℕ → Report → List ℕ → List ℕ → Type 0
Runs image stream answers part straps program slice pause r after answersAfter =
    ran r after answersAfter ≡ ran_of image stream answers part straps program slice pause
