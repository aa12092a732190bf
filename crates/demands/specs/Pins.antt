-- The fault that cost two boards, shut out: TBL, WP, the programming voltage and the lock register are looked at when an
-- operation is judged, and no operation looks at them again. Of one operation, and of whole histories. Assumes nothing.
use Rattle.std.specs.Prelude.{ℕ, ◌+◌, ◌*◌, ◌%◌, ◌≡◌, Bool, true, false, cond, not, List, [], ◌∷◌, map, eqb, length}
use Rattle.basics.specs.All.{all}
use Rattle.record.specs.declared.Controller.{Controller}
use Rattle.record.specs.declared.Device.{Device}
use Rattle.record.specs.Record.{is_absent}
use Rattle.record.specs.Sample.{voltage, is_reset}
use Rattle.soundness.specs.Sound.{all_below}
use Rattle.operation.specs.Clock.{active, is_still}
use Rattle.access.specs.Write.{with_locks}
use Rattle.clock.specs.Clock.{after_controller, image_after, device_clock}
use Rattle.clock.specs.Fold.{World, world}
use Rattle.step.specs.Step.{stepped_of, stored_of}
use Rattle.settle.specs.Settle.{settled_of}
use Rattle.demands.specs.Operations.{unset, asked_on, is_judged, failure}
use Rattle.demands.specs.History.{Act, step, set_times, settle, left, leaving, at_power_up}

-- the sample with other pins: TBL, WP, the voltage class and the inputs are its bits 7 to 15. RP and INIT, bits 5 and 6, are
-- never meant here
abbrev pub repinned : ℕ → ℕ → ℕ
repinned pins sample = sample % 128 + 128 * pins

-- of one operation, of any device whatever: what a clock outside a setup makes of the controller, whose operation counts,
-- pauses, resumes or ends on it, depends on no TBL, WP, voltage, input or lock register; nor does what any clock does to
-- the array
unfoldable pub LooksAtNoPin : Type 0
LooksAtNoPin =
    (d : Device) (image locks : List ℕ) (sample pins : ℕ)
    → ((device_clock (with_locks (unset d) locks) image (repinned pins sample)).device.controller
    ≡ (device_clock (unset d) image sample).device.controller)
    × (image_after (with_locks d locks) image (repinned pins sample) ≡ image_after d image sample)

-- and so two steps that are done, from devices alike but for lock registers and with samples alike but for pins, voltage
-- and inputs, leave an operation that stands, the marks and the image alike, whether it counts, pauses, resumes or ends
unfoldable pub StandingOperation : Type 0
StandingOperation =
    (d : Device) (image locks : List ℕ) (sample pins : ℕ)
    → (stepped_of d image sample).number ≡ 0
    → (stepped_of (with_locks d locks) image (repinned pins sample)).number ≡ 0
    → let one = (stepped_of d image sample).device.controller in
    let two = (stepped_of (with_locks d locks) image (repinned pins sample)).device.controller in
    (is_absent d.controller.outer ≡ false → one.outer ≡ two.outer)
    × (is_absent d.controller.inner ≡ false → one.inner ≡ two.inner)
    × (one.marks ≡ two.marks)
    × (stored_of d image sample ≡ stored_of (with_locks d locks) image (repinned pins sample))

-- a moment of a history: a step or a settle, with any lock registers put in place before it, or a change of times. A history
-- as it comes is the one in which each moment finds the lock registers that the last has left
pub data Moment : Type 0 where
  tick : ℕ → List ℕ → Moment
  wait : ℕ → ℕ → List ℕ → Moment
  change : ℕ → ℕ → ℕ → Moment

-- the call of a moment, with its pins and without them
abbrev pub act_of : Moment → Act
act_of (tick sample locks) = step sample
act_of (wait sample limit locks) = settle sample limit
act_of (change program slice pause) = set_times program slice pause

abbrev pub bare : Moment → Act
bare (tick sample locks) = step (repinned 0 sample)
bare (wait sample limit locks) = settle (repinned 0 sample) limit
bare (change program slice pause) = set_times program slice pause

-- not of voltage class 3, and lock registers of 0 to 7
abbrev pub is_fit : Moment → Bool
is_fit (tick sample locks) = all (not (eqb (voltage sample) 3) ∷ all_below 8 locks ∷ [])
is_fit (wait sample limit locks) = all (not (eqb (voltage sample) 3) ∷ all_below 8 locks ∷ [])
is_fit (change program slice pause) = true

abbrev pub all_fit : List Moment → Bool
all_fit [] = true
all_fit (m ∷ ms) = cond (is_fit m) (all_fit ms) false

-- the world as it stands for a moment, and after it
abbrev pub readied : Moment → World → World
readied (tick sample locks) w = world (with_locks w.device locks) w.image
readied (wait sample limit locks) w = world (with_locks w.device locks) w.image
readied (change program slice pause) w = w

abbrev pub past : Moment → World → World
past m w = left (act_of m) (readied m w)

-- how a judgement on the clock of a step falls out: its error bit, 0 where nothing fails or nothing is judged. None is judged
-- inside a settle: it repeats its sample only while an operation counts, and no setup stands beside one
abbrev pub falls_out : Device → ℕ → ℕ
falls_out d sample =
    let c = (after_controller d).controller in
    cond (is_reset sample) 0
    (cond (is_judged c (asked_on d sample)) (failure c d.locks sample (asked_on d sample)) 0)

abbrev pub judgements : List Moment → World → List ℕ
judgements [] w = []
judgements (tick sample locks ∷ ms) w = falls_out (with_locks w.device locks) sample ∷ judgements ms (past (tick sample locks) w)
judgements (wait sample limit locks ∷ ms) w = judgements ms (past (wait sample limit locks) w)
judgements (change program slice pause ∷ ms) w = judgements ms (past (change program slice pause) w)

-- a reset cuts off what counts
abbrev pub cuts : Moment → Bool
cuts (tick sample locks) = is_reset sample
cuts (wait sample limit locks) = false
cuts (change program slice pause) = false

-- the operation that counted before has come to its end: it is gone, and no reset cut it off
abbrev pub has_ended : Moment → Controller → Controller → Bool
has_ended m before later =
    cond (cuts m) false
    (cond (is_still (active before)) false
    (cond (is_absent before.inner) (is_absent later.outer) (is_absent later.inner)))

-- the samples that a settle counts
abbrev pub count_in : Moment → World → ℕ
count_in (tick sample locks) w = 0
count_in (wait sample limit locks) w = (settled_of (with_locks w.device locks) w.image sample limit).count
count_in (change program slice pause) w = 0

-- what is to be seen after a moment: the controller with its operations, marks, error bits, setup and mode, whether an
-- operation has ended in it, how many samples a settle took, and the image
pub record Seen : Type 0 where
  pub controller : Controller
  pub ended : Bool
  pub count : ℕ
  pub image : List ℕ

abbrev pub look : Moment → World → Seen
look m w =
    record {
      controller = (past m w).device.controller;
      ended = has_ended m w.device.controller (past m w).device.controller;
      count = count_in m w;
      image = (past m w).image;
    }

abbrev pub seen : List Moment → World → List Seen
seen [] w = []
seen (m ∷ ms) w = look m w ∷ seen ms (past m w)

-- of histories: from any moment on, that of an acceptance too, two that are alike but for TBL, WP, voltage class (not 3),
-- inputs and lock registers, and in which what is judged falls out alike, show the same after every moment. (A step in
-- place leaves what a step leaves.)
unfoldable pub PinsReachNoOperation : Type 0
PinsReachNoOperation =
    (part straps program slice pause : ℕ) (image : List ℕ) (before : List Act) (one other : List Moment)
    → length image ≡ 1048576
    → map bare one ≡ map bare other
    → all_fit one ≡ true
    → all_fit other ≡ true
    → judgements one (leaving before (at_power_up part straps program slice pause image))
    ≡ judgements other (leaving before (at_power_up part straps program slice pause image))
    → seen one (leaving before (at_power_up part straps program slice pause image))
    ≡ seen other (leaving before (at_power_up part straps program slice pause image))
