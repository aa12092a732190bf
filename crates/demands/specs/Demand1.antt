-- Demand 1: one list of the calls with what each promises, one table of their refusals, what a refusal leaves, where a settle
-- stops, and what a call that is done gives. The block view, status and marks give no number: it is 0 there. Assumes nothing.
use Rattle.std.specs.Prelude.{ℕ, zero, suc, ◌*◌, ◌/◌, ◌%◌, ◌≤◌, ◌<◌, ◌≡◌, Bool, true, false, cond, not, ◌&&◌, ◌||◌, List, [], ◌∷◌, ◌++◌, eqb, ltb, leb, length, get_or, take, drop, Ok}
use Rattle.std.specs.Int.Bits.{bit_and}
use Rattle.basics.specs.All.{all}
use Rattle.basics.specs.Bytes.{two_at}
use Rattle.units.specs.Units.{times}
use Rattle.record.specs.declared.Device.{Device}
use Rattle.record.specs.Record.{device}
use Rattle.record.specs.Sample.{frame_line, rp, init, voltage, is_idle_sample, samples}
use Rattle.part.specs.Fresh.{fresh_of}
use Rattle.soundness.specs.Sound.{sound_of}
use Rattle.status.specs.Status.{status_of}
use Rattle.power.specs.declared.Powered.{Powered}
use Rattle.power.specs.Power.{PowersUp, SetsTimes}
use Rattle.power.specs.Told.{TellsStatus, TellsMarks}
use Rattle.step.specs.declared.Stepped.{Stepped}
use Rattle.step.specs.Step.{Steps}
use Rattle.inplace.specs.declared.Clocked.{Clocked}
use Rattle.inplace.specs.Clocked.{StepsInPlace}
use Rattle.clock.specs.Clock.{device_clock, image_after}
use Rattle.clock.specs.Fold.{World, world}
use Rattle.settle.specs.declared.Settled.{Settled}
use Rattle.settle.specs.Settle.{Settles}
use Rattle.stream.specs.declared.Report.{Report}
use Rattle.stream.specs.Run.{Runs}
use Rattle.view.specs.declared.Piece.{Piece}
use Rattle.view.specs.Shown.{is_zeros, Shows, ShowsPiece}
use Rattle.sheet.specs.declared.Sheet.{Sheet}
use Rattle.sheet.specs.Sheet.{Reading, bay, of_layout, numbers_of, Reads, ReadsNumbers, WritesSheet}
use Rattle.demands.specs.History.{clock, after}

-- the calls, with what is handed in
pub data Call : Type 0 where
  power_up : ℕ → ℕ → ℕ → ℕ → ℕ → Call
  set_times : Device → ℕ → ℕ → ℕ → Call
  step : Device → List ℕ → ℕ → Call
  settle : Device → List ℕ → ℕ → ℕ → Call
  run : List ℕ → List ℕ → List ℕ → ℕ → ℕ → ℕ → ℕ → ℕ → Call
  read_sheet : List ℕ → Call
  read_sheet_as_enum : List ℕ → Call
  write_sheet : List ℕ → ℕ → ℕ → ℕ → ℕ → Call
  step_in_place : Device → List ℕ → ℕ → Call
  view_block : Device → List ℕ → List ℕ → ℕ → Call
  view_block_as_numbers : Device → List ℕ → List ℕ → ℕ → Call
  tell_status : Device → Call
  tell_marks : Device → Call

-- what a call gives back, with every lent buffer that it may write, as it is afterwards
abbrev pub Given : Call → Type 0
Given (power_up part straps program slice pause) = Powered
Given (set_times d program slice pause) = Powered
Given (step d image sample) = Stepped × List ℕ
Given (settle d image sample limit) = Settled × List ℕ
Given (run image stream answers part straps program slice pause) = Report × List ℕ × List ℕ
Given (read_sheet bytes) = Sheet
Given (read_sheet_as_enum bytes) = Reading
Given (write_sheet buffer straps program slice pause) = ℕ × List ℕ
Given (step_in_place d image sample) = Clocked × Device × List ℕ
Given (view_block d image page block) = List ℕ
Given (view_block_as_numbers d image page block) = Piece
Given (tell_status d) = ℕ
Given (tell_marks d) = ℕ

-- the list of the promises: each call with the predicate that its contract cites, in its room and at the C face
abbrev pub Promised : (c : Call) → Given c → Type 0
Promised (power_up part straps program slice pause) r = PowersUp part straps program slice pause r
Promised (set_times d program slice pause) r = SetsTimes d program slice pause r
Promised (step d image sample) g = Steps d image sample g.0 g.1
Promised (settle d image sample limit) g = Settles d image sample limit g.0 g.1
Promised (run image stream answers part straps program slice pause) g =
    Runs image stream answers part straps program slice pause g.0 g.1 g.2
Promised (read_sheet bytes) r = ReadsNumbers bytes r
Promised (read_sheet_as_enum bytes) r = Reads bytes r
Promised (write_sheet buffer straps program slice pause) g = WritesSheet buffer straps program slice pause g.0 g.1
Promised (step_in_place d image sample) g = StepsInPlace d image sample g.0 g.1 g.2
Promised (view_block d image page block) r = Shows d image page block r
Promised (view_block_as_numbers d image page block) r = ShowsPiece d image page block r
Promised (tell_status d) r = TellsStatus d r
Promised (tell_marks d) r = TellsMarks d r

-- any two outcomes that meet a promise coincide (a view's part is told apart by its bytes; which lent slice it lies in is
-- told by the numbers)
unfoldable pub Coincide : Type 0
Coincide = (c : Call) (g h : Given c) → Promised c g → Promised c h → g ≡ h

-- status bit 7, and the world after n steps with one sample
abbrev pub bit7 : World → ℕ
bit7 w = status_of w.device.controller / 128 % 2

abbrev pub after_steps : ℕ → ℕ → World → World
after_steps sample zero w = w
after_steps sample (suc n) w = after_steps sample n (after (clock sample) w)

-- bit 7 is 0 after each of 0 to n steps
abbrev pub is_busy_for : ℕ → ℕ → World → Bool
is_busy_for sample zero w = eqb (bit7 w) 0
is_busy_for sample (suc n) w = cond (eqb (bit7 w) 0) (is_busy_for sample n (after (clock sample) w)) false

-- a refusal, and the condition under which documents 01 and 02 have it given
pub record Refusal : Type 0 where
  pub number : ℕ
  pub given : Bool

abbrev when : ℕ → Bool → Refusal
when number given = record { number = number; given = given }

abbrev unsound : Device → Refusal
unsound d = when 1 (not (sound_of d))

abbrev misfit : List ℕ → Refusal
misfit image = when 2 (not (eqb (length image) 1048576))

-- FWH is part 0 and has straps 0 to 15, LPC is part 1 and has 0 to 3; there is no other part
abbrev strapped : ℕ → ℕ → Refusal
strapped part straps = when 3 (ltb 1 part || ltb (cond (eqb part 1) 3 15) straps)

-- program 1 to 200, erase slice 1 to 39,062, pause 1 to 30
abbrev pub are_times : ℕ → ℕ → ℕ → Bool
are_times program slice pause =
    all
    ((leb 1 program && leb program 200) ∷ (leb 1 slice && leb slice 39062) ∷ (leb 1 pause && leb pause 30) ∷ [])

abbrev mistimed : ℕ → ℕ → ℕ → Refusal
mistimed program slice pause = when 4 (not (are_times program slice pause))

-- some sample has voltage class 3
abbrev pub has_class3 : List ℕ → Bool
has_class3 [] = false
has_class3 (s ∷ ss) = eqb (voltage s) 3 || has_class3 ss

abbrev unreadable : List ℕ → List Refusal
unreadable bytes =
    when 8 (not (of_layout bytes)) ∷ strapped 0 (get_or bytes 3 0) ∷ mistimed (two_at bytes 7) (two_at bytes 9) (two_at bytes 11) ∷ []

-- the table: each call's refusals, in the order in which they are tested. The lowest comes first, but for sheet read
abbrev pub refusals : Call → List Refusal
refusals (power_up part straps program slice pause) = strapped part straps ∷ mistimed program slice pause ∷ []
refusals (set_times d program slice pause) = unsound d ∷ mistimed program slice pause ∷ []
refusals (step d image sample) = unsound d ∷ misfit image ∷ when 7 (eqb (voltage sample) 3) ∷ []
refusals (settle d image sample limit) =
    unsound d
    ∷ misfit image
    ∷ when 7 (eqb (voltage sample) 3)
    ∷ when 9 (eqb (frame_line sample) 0 || (eqb (rp sample) 0 || eqb (init sample) 0))
    ∷ when 10 (is_busy_for sample limit (world d image))
    ∷ []
refusals (run image stream answers part straps program slice pause) =
    misfit image
    ∷ strapped part straps
    ∷ mistimed program slice pause
    ∷ when 5 (ltb 131072 (length stream) || eqb (length stream % 2) 1)
    ∷ when 6 (ltb (length answers) (length stream / 2))
    ∷ when 7 (has_class3 (samples stream))
    ∷ []
refusals (read_sheet bytes) = unreadable bytes
refusals (read_sheet_as_enum bytes) = unreadable bytes
refusals (write_sheet buffer straps program slice pause) =
    strapped 0 straps ∷ mistimed program slice pause ∷ when 6 (ltb (length buffer) 13) ∷ []
refusals (step_in_place d image sample) = unsound d ∷ misfit image ∷ when 7 (eqb (voltage sample) 3) ∷ []
refusals (view_block d image page block) = []
refusals (view_block_as_numbers d image page block) = []
refusals (tell_status d) = []
refusals (tell_marks d) = []

-- the first whose condition holds, 0 where none does
abbrev pub first : List Refusal → ℕ
first [] = 0
first (r ∷ rs) = cond r.given r.number (first rs)

-- all that a call gives, in one form: its number, the other numbers, the device and the buffers
pub record Outcome : Type 0 where
  pub number : ℕ
  pub others : List ℕ
  pub device : Device
  pub buffers : List (List ℕ)

abbrev gives : ℕ → List ℕ → Device → List (List ℕ) → Outcome
gives number others d buffers = record { number = number; others = others; device = d; buffers = buffers }

-- the FWH device with straps 0 and times 10, 3,906, 30; it also stands where a call has no device
abbrev spare : Device
spare = fresh_of 0 0 (times 10 3906 30)

abbrev numbers : Sheet → Outcome
numbers r = gives r.number (r.straps ∷ r.program ∷ r.slice ∷ r.pause ∷ []) spare []

abbrev pub outcome : (c : Call) → Given c → Outcome
outcome (power_up part straps program slice pause) r = gives r.number [] r.device []
outcome (set_times d program slice pause) r = gives r.number [] r.device []
outcome (step d image sample) g = gives g.0.number (g.0.answer ∷ []) g.0.device (g.1 ∷ [])
outcome (settle d image sample limit) g = gives g.0.number (g.0.count ∷ []) g.0.device (g.1 ∷ [])
outcome (run image stream answers part straps program slice pause) g =
    gives g.0.number (g.0.samples ∷ g.0.status ∷ g.0.marks ∷ []) spare (g.1 ∷ g.2 ∷ [])
outcome (read_sheet bytes) r = numbers r
outcome (read_sheet_as_enum bytes) r = numbers (numbers_of r)
outcome (write_sheet buffer straps program slice pause) g = gives g.0 [] spare (g.1 ∷ [])
outcome (step_in_place d image sample) g = gives g.0.number (g.0.answer ∷ []) g.1 (g.2 ∷ [])
outcome (view_block d image page block) r = gives 0 [] spare (r ∷ [])
outcome (view_block_as_numbers d image page block) r = gives 0 (r.from ∷ r.start ∷ r.length ∷ []) spare []
outcome (tell_status d) r = gives 0 (r ∷ []) spare []
outcome (tell_marks d) r = gives 0 (r ∷ []) spare []

-- what a refusal leaves: memory as lent, the device handed in (power up: the spare one), every other number 0
abbrev pub as_lent : Call → ℕ → Outcome
as_lent (power_up part straps program slice pause) number = gives number [] spare []
as_lent (set_times d program slice pause) number = gives number [] d []
as_lent (step d image sample) number = gives number (0 ∷ []) d (image ∷ [])
as_lent (settle d image sample limit) number = gives number (0 ∷ []) d (image ∷ [])
as_lent (run image stream answers part straps program slice pause) number =
    gives number (0 ∷ 0 ∷ 0 ∷ []) spare (image ∷ answers ∷ [])
as_lent (read_sheet bytes) number = gives number (0 ∷ 0 ∷ 0 ∷ 0 ∷ []) spare []
as_lent (read_sheet_as_enum bytes) number = gives number (0 ∷ 0 ∷ 0 ∷ 0 ∷ []) spare []
as_lent (write_sheet buffer straps program slice pause) number = gives number [] spare (buffer ∷ [])
as_lent (step_in_place d image sample) number = gives number (0 ∷ []) d (image ∷ [])
as_lent (view_block d image page block) number = gives number [] spare ([] ∷ [])
as_lent (view_block_as_numbers d image page block) number = gives number (0 ∷ 0 ∷ 0 ∷ []) spare []
as_lent (tell_status d) number = gives number (0 ∷ []) spare []
as_lent (tell_marks d) number = gives number (0 ∷ []) spare []

-- the number is given exactly when the table says
unfoldable pub Numbers : Type 0
Numbers = (c : Call) (g : Given c) → Promised c g → (outcome c g).number ≡ first (refusals c)

-- refusals 1 to 9 leave everything as it was lent
unfoldable pub Refused : Type 0
Refused =
    (c : Call) (g : Given c)
    → Promised c g
    → 0 < (outcome c g).number
    → (outcome c g).number < 10
    → outcome c g ≡ as_lent c (outcome c g).number

-- where a settle stops, by steps alone: 0 just where bit 7 is 1 after some number of them within the limit, and then the
-- count is the least such number; 10 just where it is 0 after each number of them, and then the count is the limit
pub record StopsRight (sample limit : ℕ) (start : World) (number count : ℕ) (end : World) : Type 0 where
  pub there : end ≡ after_steps sample count start
  pub done : number ≡ 0
      → (count ≤ limit) × (bit7 (after_steps sample count start) ≡ 1) × ((j : ℕ) → j < count → bit7 (after_steps sample j start) ≡ 0)
  pub when_done : (n : ℕ) → n ≤ limit → bit7 (after_steps sample n start) ≡ 1 → number ≡ 0
  pub ten : number ≡ 10 → (count ≡ limit) × ((j : ℕ) → j ≤ limit → bit7 (after_steps sample j start) ≡ 0)
  pub when_ten : ((j : ℕ) → j ≤ limit → bit7 (after_steps sample j start) ≡ 0) → number ≡ 10

-- so it is wherever none of 1, 2, 7 and 9 applies
unfoldable pub SettleStops : Type 0
SettleStops =
    (d : Device) (image : List ℕ) (sample limit : ℕ) (r : Settled) (later : List ℕ)
    → Promised (settle d image sample limit) (r, later)
    → sound_of d ≡ true
    → length image ≡ 1048576
    → eqb (voltage sample) 3 ≡ false
    → is_idle_sample sample ≡ true
    → StopsRight sample limit (world d image) r.number r.count (world r.device later)

-- what a call that is done gives. Of a settle `SettleStops` says it, of a run `RunIsSteps`
abbrev pub Right : (c : Call) → Given c → Type 0
Right (power_up part straps program slice pause) r = r.device ≡ fresh_of part straps (times program slice pause)
Right (set_times d program slice pause) r =
    r.device ≡ device d.part d.straps d.locks (times program slice pause) d.frame d.controller
Right (step d image sample) g =
    (g.0.answer ≡ (device_clock d image sample).answer)
    × (g.0.device ≡ (device_clock d image sample).device)
    × (g.1 ≡ image_after d image sample)
Right (settle d image sample limit) g = Unit
Right (run image stream answers part straps program slice pause) g = Unit
Right (read_sheet bytes) r =
    (r.straps ≡ get_or bytes 3 0)
    × (r.program ≡ two_at bytes 7)
    × (r.slice ≡ two_at bytes 9)
    × (r.pause ≡ two_at bytes 11)
Right (read_sheet_as_enum bytes) r = r ≡ Ok (bay (get_or bytes 3 0) (times (two_at bytes 7) (two_at bytes 9) (two_at bytes 11)))
Right (write_sheet buffer straps program slice pause) g =
    g.1
    ≡ (0x01 ∷ 1 ∷ 0 ∷ straps ∷ 0x02 ∷ 6 ∷ 0 ∷ program % 256 ∷ program / 256 ∷ slice % 256 ∷ slice / 256 ∷ pause % 256 ∷ pause / 256 ∷ [])
    ++ drop 13 buffer
Right (step_in_place d image sample) g =
    (g.0.answer ≡ (device_clock d image sample).answer)
    × (g.1 ≡ (device_clock d image sample).device)
    × (g.2 ≡ image_after d image sample)
Right (view_block d image page block) r =
    r
    ≡ cond (all (sound_of d ∷ eqb (length image) 1048576 ∷ ltb block 16 ∷ is_zeros page ∷ []))
    (take 65536 (cond (eqb (bit_and (get_or d.locks block 0) 4) 4) page (drop (block * 65536) image)))
    []
Right (view_block_as_numbers d image page block) r =
    (r.from ∷ r.start ∷ r.length ∷ [])
    ≡ cond (all (sound_of d ∷ eqb (length image) 1048576 ∷ ltb block 16 ∷ is_zeros page ∷ []))
    (cond (eqb (bit_and (get_or d.locks block 0) 4) 4) (2 ∷ 0 ∷ 65536 ∷ []) (1 ∷ block * 65536 ∷ 65536 ∷ []))
    (0 ∷ 0 ∷ 0 ∷ [])
Right (tell_status d) r = r ≡ cond (sound_of d) (status_of d.controller) 0
Right (tell_marks d) r = r ≡ cond (sound_of d) d.controller.marks 0

-- so it is of every call
unfoldable pub Done : Type 0
Done = (c : Call) (g : Given c) → Promised c g → (outcome c g).number ≡ 0 → Right c g
