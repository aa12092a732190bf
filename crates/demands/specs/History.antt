-- Demand 3 in its own words: histories of calls, the operations of a block as they are read off the devices, what was
-- allowed, and what the finished operations make of the block's first contents. Assumes nothing.
use Rattle.std.specs.Prelude.{ℕ, ◌*◌, ◌/◌, ◌%◌, ◌<◌, ◌≡◌, Bool, true, false, cond, not, List, [], ◌∷◌, ◌++◌, map, eqb, ltb, length, get_or, set, take, drop, replicate}
use Rattle.std.specs.Int.Bits.{bit_and}
use Rattle.basics.specs.All.{all}
use Rattle.record.specs.declared.Operation.{Operation}
use Rattle.record.specs.declared.Controller.{Controller}
use Rattle.record.specs.declared.Device.{Device}
use Rattle.record.specs.Record.{is_absent, is_program, is_suspended, absent, block_of}
use Rattle.record.specs.Sample.{rp, init, tbl, wp, voltage, samples}
use Rattle.status.specs.Status.{status_of}
use Rattle.power.specs.declared.Powered.{Powered}
use Rattle.power.specs.Power.{powered_up, times_set, SetsTimes}
use Rattle.operation.specs.Marks.{marked}
use Rattle.step.specs.declared.Stepped.{Stepped}
use Rattle.step.specs.Step.{stepped_of, stored_of, Steps}
use Rattle.inplace.specs.declared.Clocked.{Clocked}
use Rattle.inplace.specs.Clocked.{StepsInPlace}
use Rattle.clock.specs.Fold.{World, world}
use Rattle.settle.specs.declared.Settled.{Settled}
use Rattle.settle.specs.Settle.{settled_of, image_settled, Settles}
use Rattle.stream.specs.Run.{report, ran, ran_of}

-- what befalls a device is a list of clocks and changes of times
pub data Event : Type 0 where
  clock : ℕ → Event
  retime : ℕ → ℕ → ℕ → Event

-- each is a public call: a step with a sample, or set times
abbrev pub after : Event → World → World
after (clock sample) w =
    world (stepped_of w.device w.image sample).device (stored_of w.device w.image sample)
after (retime program slice pause) w = world (times_set w.device program slice pause).device w.image

abbrev pub ending : List Event → World → World
ending [] w = w
ending (e ∷ es) w = ending es (after e w)

-- a history is any list of the calls that clock a device or change it, each with what is handed in beside them
pub data Act : Type 0 where
  step : ℕ → Act
  step_in_place : ℕ → Act
  set_times : ℕ → ℕ → ℕ → Act
  settle : ℕ → ℕ → Act

-- device and image as a call leaves them, whether it is done or refused
abbrev pub left : Act → World → World
left (step sample) w = after (clock sample) w
left (step_in_place sample) w = after (clock sample) w
left (set_times program slice pause) w = after (retime program slice pause) w
left (settle sample limit) w =
    world (settled_of w.device w.image sample limit).device (image_settled w.device w.image sample limit)

abbrev pub leaving : List Act → World → World
leaving [] w = w
leaving (a ∷ others) w = leaving others (left a w)

-- and so the calls promise, the step in place among them
pub record LeavesAsPromised (w : World) : Type 0 where
  pub stepped : (sample : ℕ) (r : Stepped) (later : List ℕ)
      → Steps w.device w.image sample r later
      → world r.device later ≡ left (step sample) w
  pub stepped_in_place : (sample : ℕ) (r : Clocked) (next : Device) (later : List ℕ)
      → StepsInPlace w.device w.image sample r next later
      → world next later ≡ left (step_in_place sample) w
  pub retimed : (program slice pause : ℕ) (r : Powered)
      → SetsTimes w.device program slice pause r
      → world r.device w.image ≡ left (set_times program slice pause) w
  pub settled : (sample limit : ℕ) (r : Settled) (later : List ℕ)
      → Settles w.device w.image sample limit r later
      → world r.device later ≡ left (settle sample limit) w

unfoldable pub ActsAsPromised : Type 0
ActsAsPromised = (w : World) → LeavesAsPromised w

-- what befalls the device in a call: in a settle as many clocks as it counts, none where it is refused
abbrev pub befalls : Act → World → List Event
befalls (step sample) w = clock sample ∷ []
befalls (step_in_place sample) w = clock sample ∷ []
befalls (set_times program slice pause) w = retime program slice pause ∷ []
befalls (settle sample limit) w = replicate (settled_of w.device w.image sample limit).count (clock sample)

abbrev pub events : List Act → World → List Event
events [] w = []
events (a ∷ others) w = befalls a w ++ events others (left a w)

-- power-up as a part, on the image as it is then
abbrev pub at_power_up : ℕ → ℕ → ℕ → ℕ → ℕ → List ℕ → World
at_power_up part straps program slice pause image = world (powered_up part straps program slice pause).device image

-- the operation of a block, as the device shows it: the one that stands there, running, pausing or suspended
unfoldable pub is_on : ℕ → Operation → Bool
is_on block o = cond (is_absent o) false (eqb (block_of o.address) block)

unfoldable pub op_of : ℕ → Controller → Operation
op_of block c = cond (is_on block c.outer) c.outer (cond (is_on block c.inner) c.inner absent)

abbrev pub op_on : ℕ → World → Operation
op_on block w = op_of block w.device.controller

-- there is one
abbrev pub is_there : ℕ → World → Bool
is_there block w = not (is_absent (op_on block w))

-- an operation is at its last clock: it counts, one clock is left, and no slice behind this one
unfoldable pub is_last : Operation → Bool
is_last o =
    cond (is_absent o) false
    (cond (is_suspended o) false (cond (ltb 1 o.left.0) false (cond (is_program o) true (not (ltb 1 o.slices)))))

-- the block's operation reaches its last clock: a sample that is stepped and resets nothing
unfoldable pub finishes : ℕ → Event → World → Bool
finishes block (clock sample) w =
    cond (eqb (voltage sample) 3) false
    (cond (eqb (rp sample) 0) false (cond (eqb (init sample) 0) false (is_last (op_on block w))))
finishes block (retime program slice pause) w = false

-- what becomes of the operation that stands on a block
pub data Fate : Type 0 where
  finished : Fate
  cut : Fate
  unfinished : Fate

abbrev pub fate : ℕ → List Event → World → Fate
fate block [] w = unfinished
fate block (e ∷ es) w =
    cond (finishes block e w) finished (cond (is_there block (after e w)) (fate block es (after e w)) cut)

abbrev pub is_finished : Fate → Bool
is_finished finished = true
is_finished cut = false
is_finished unfinished = false

-- an operation as it was accepted, the sample and the lock registers of that clock, and what became of it
pub record Acceptance : Type 0 where
  pub operation : Operation
  pub sample : ℕ
  pub locks : List ℕ
  pub fate : Fate

abbrev pub sample_of : Event → ℕ
sample_of (clock sample) = sample
sample_of (retime program slice pause) = 0

-- accepted by an event: there after it, not there before
abbrev pub accepted : ℕ → Event → List Event → World → List Acceptance
accepted block e es w =
    cond (is_there block w) []
    (cond (is_there block (after e w))
    (record {
      operation = op_on block (after e w);
      sample = sample_of e;
      locks = w.device.locks;
      fate = fate block es (after e w);
    } ∷ [])
    [])

-- the operations of a block, in order of acceptance
abbrev pub operations : ℕ → List Event → World → List Acceptance
operations block [] w = []
operations block (e ∷ es) w = accepted block e es w ++ operations block es (after e w)

-- allowed, from the raw bits of the sample and the lock register of the block: voltage class not 0, TBL high for block
-- 15 and WP for the others, lock bit 0 clear
unfoldable pub allowed : ℕ → ℕ → List ℕ → Bool
allowed block sample locks =
    all
    (not (eqb (voltage sample) 0)
    ∷ cond (eqb block 15) (eqb (tbl sample) 1) (eqb (wp sample) 1)
    ∷ eqb (get_or locks block 0 % 2) 0
    ∷ [])

abbrev pub all_allowed : ℕ → List Acceptance → Bool
all_allowed block [] = true
all_allowed block (e ∷ es) = cond (allowed block e.sample e.locks) (all_allowed block es) false

-- the contents of a block
abbrev pub contents : ℕ → List ℕ → List ℕ
contents block image = take 65536 (drop (block * 65536) image)

-- a block filled with FFh
unfoldable pub erased : List ℕ
erased = replicate 65536 255

-- an operation done to its block at once: a program ANDs one byte, an erase fills the block with FFh
unfoldable pub whole : Operation → List ℕ → List ℕ
whole o x =
    cond (is_program o) (set x (o.address % 65536) (bit_and (get_or x (o.address % 65536) 0) o.«data»)) erased

-- the finished ones, one after another
abbrev pub done_in_order : List Acceptance → List ℕ → List ℕ
done_in_order [] x = x
done_in_order (e ∷ es) x = done_in_order es (cond (is_finished e.fate) (whole e.operation x) x)

-- the operations of a block in a history of calls
abbrev pub operations_in : ℕ → List Act → World → List Acceptance
operations_in block history w = operations block (events history w) w

-- what a history of calls leaves is what befalls the device in them, clock by clock
unfoldable pub CallsAreClocks : Type 0
CallsAreClocks =
    (part straps program slice pause : ℕ) (image : List ℕ) (history : List Act)
    → length image ≡ 1048576
    → leaving history (at_power_up part straps program slice pause image)
    ≡ ending (events history (at_power_up part straps program slice pause image)) (at_power_up part straps program slice pause image)

-- demand 3: a block with no mark and no unfinished operation holds what its first contents become
unfoldable pub Demand3 : Type 0
Demand3 =
    (part straps program slice pause : ℕ) (image : List ℕ) (history : List Act) (block : ℕ)
    → length image ≡ 1048576
    → block < 16
    → marked (leaving history (at_power_up part straps program slice pause image)).device.controller.marks block ≡ false
    → is_there block (leaving history (at_power_up part straps program slice pause image)) ≡ false
    → contents block (leaving history (at_power_up part straps program slice pause image)).image
    ≡ done_in_order (operations_in block history (at_power_up part straps program slice pause image)) (contents block image)

-- and each of its operations was allowed as pins, voltage and lock register stood at its acceptance
unfoldable pub Demand3Allowed : Type 0
Demand3Allowed =
    (part straps program slice pause : ℕ) (image : List ℕ) (history : List Act) (block : ℕ)
    → length image ≡ 1048576
    → block < 16
    → all_allowed block (operations_in block history (at_power_up part straps program slice pause image)) ≡ true

-- the same of a run, block by block: its samples are a history of steps from power-up, and what stands on other blocks is
-- not asked
unfoldable pub Demand3Run : Type 0
Demand3Run =
    (image stream answers : List ℕ) (part straps program slice pause : ℕ) (block : ℕ)
    → block < 16
    → (ran_of image stream answers part straps program slice pause).report.number ≡ 0
    → marked (ran_of image stream answers part straps program slice pause).report.marks block ≡ false
    → is_there block (leaving (map step (samples stream)) (at_power_up part straps program slice pause image)) ≡ false
    → contents block (ran_of image stream answers part straps program slice pause).image
    ≡ done_in_order (operations_in block (map step (samples stream)) (at_power_up part straps program slice pause image)) (contents block image)

-- the status register tells of no operation: bit 7 is 1, bits 6 and 2 are 0
abbrev pub tells_none : ℕ → Bool
tells_none status =
    cond (eqb (status / 128 % 2) 1) (cond (eqb (status / 64 % 2) 0) (eqb (status / 4 % 2) 0) false) false

-- and by what the host is told of the run
unfoldable pub Demand3Told : Type 0
Demand3Told =
    (image stream answers : List ℕ) (part straps program slice pause : ℕ) (block : ℕ)
    → block < 16
    → (ran_of image stream answers part straps program slice pause).report.number ≡ 0
    → marked (ran_of image stream answers part straps program slice pause).report.marks block ≡ false
    → tells_none (ran_of image stream answers part straps program slice pause).report.status ≡ true
    → contents block (ran_of image stream answers part straps program slice pause).image
    ≡ done_in_order (operations_in block (map step (samples stream)) (at_power_up part straps program slice pause image)) (contents block image)

-- a run that is done is its samples stepped one by one: their number, their answers with the bytes past them as lent, the
-- status and the marks of the last device, and the image
abbrev pub answering : List ℕ → World → List ℕ
answering [] w = []
answering (s ∷ ss) w = (stepped_of w.device w.image s).answer ∷ answering ss (after (clock s) w)

unfoldable pub RunIsSteps : Type 0
RunIsSteps =
    (image stream answers : List ℕ) (part straps program slice pause : ℕ)
    → (ran_of image stream answers part straps program slice pause).report.number ≡ 0
    → let start = at_power_up part straps program slice pause image in
    let end = leaving (map step (samples stream)) start in
    ran_of image stream answers part straps program slice pause
    ≡ ran (report 0 (length (samples stream)) (status_of end.device.controller) end.device.controller.marks) end.image
    (answering (samples stream) start ++ drop (length (samples stream)) answers)
