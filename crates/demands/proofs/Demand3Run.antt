-- Demand 3 of a run's stream: a run that is done is the history of its samples. Assumes nothing.
use Prim.Native.Nat.{ℕ, ◌/◌, ◌<◌}
use mathlib.Core.Path.{◌≡◌, ◌∙◌, sym, refl, ap}
use mathlib.Core.Bool.{Bool, true, false, cond}
use mathlib.Core.List.{List, [], ◌∷◌, map}
use native.Mathlib.Omega.{arith}
use lib.Bits.{bit_and, bit_or, and_le_r}
use lib.Dec.{eqb, ltb, leb}
use lib.ListN.{length}
use borrow.Author.Tests.{eqb-true, eqb-false, leb-false}
use Rattle.basics.proofs.Rules.{Answer, yes, no, ask, clash}
use Rattle.basics.proofs.Table.{at}
use Rattle.units.specs.Units.{times, times_fit}
use Rattle.record.specs.declared.Controller.{Controller}
use Rattle.record.specs.Record.{is_absent}
use Rattle.record.specs.Sample.{voltage, samples}
use Rattle.part.specs.Fresh.{fresh_of}
use Rattle.part.specs.Parts.{strap_count}
use Rattle.status.specs.declared.Condition.{Condition}
use Rattle.status.specs.declared.Condition.TheVariants.{Ready, Running, Pausing, ProgramSuspended, EraseSuspended, ProgramInside}
use Rattle.status.specs.Status.{condition_of, condition_bits, status_of}
use Rattle.soundness.specs.Sound.{controller_fits}
use Rattle.soundness.proofs.Clauses.{clauses, parts}
use Rattle.command.proofs.Kept.{View, ready, view}
use Rattle.power.proofs.Laws.{powered_sound, power_0}
use Rattle.operation.specs.Marks.{marked}
use Rattle.step.specs.Step.{step_number, stepped_of}
use Rattle.clock.specs.Fold.{World, world, through, answer_to, answers_to}
use Rattle.stream.specs.Run.{overvolted, misshapen, stream_number, run_number, ran_of}
use Rattle.demands.specs.History.{clock, after, step, leaving, events, at_power_up, is_there, tells_none, contents, answering, RunIsSteps, CallsAreClocks, Demand3, Demand3Run, Demand3Told}
use Rattle.demands.proofs.Counting.{off_absent}
use Rattle.demands.proofs.Turns.{Good, op_none}
use Rattle.demands.proofs.Demand3.{good_after}
use Rattle.demands.proofs.Calls.{good_ending, goes_on, powered, calls_are_clocks, demand_3}

not_class_3 : (s : ℕ) (ss : List ℕ) → overvolted (s ∷ ss) ≡ false → (eqb (voltage s) 3 ≡ false) × (overvolted ss ≡ false)
not_class_3 s ss e = pick (ask (eqb (voltage s) 3))
  where
    pick : Answer (eqb (voltage s) 3) → (eqb (voltage s) 3 ≡ false) × (overvolted ss ≡ false)
    pick (yes v) = clash (sym (rw v at e))
    pick (no v) = (v, rw v at e)

as_history : (ss : List ℕ) (w : World) → Good w → overvolted ss ≡ false → leaving (map step ss) w ≡ through ss w
as_history [] w g e = refl
as_history (s ∷ ss) w g e =
    let c = not_class_3 s ss e in
    as_history ss (after (clock s) w) (good_after (clock s) w g) c.1 ∙ ap (through ss) (goes_on w s g c.0)

-- what a run that is done has found
record Done (image stream : List ℕ) (part straps program slice pause : ℕ) : Type 0 where
  size : length image ≡ 1048576
  straps_fit : straps < strap_count part
  times_fit_lem : times_fit (times program slice pause) ≡ true
  volts : overvolted (samples stream) ≡ false

found : (image stream answers : List ℕ) (part straps program slice pause : ℕ) → run_number image stream answers part straps program slice pause ≡ 0 → Done image stream part straps program slice pause
unfolding run_number stream_number
found image stream answers part straps program slice pause n = pick (ask (eqb (length image) 1048576)) (ask (leb (strap_count part) straps)) (ask (times_fit (times program slice pause))) (ask (misshapen stream)) (ask (ltb (length answers) (length stream / 2))) (ask (overvolted (samples stream)))
  where
    pick : Answer (eqb (length image) 1048576)
        → Answer (leb (strap_count part) straps)
        → Answer (times_fit (times program slice pause))
        → Answer (misshapen stream)
        → Answer (ltb (length answers) (length stream / 2))
        → Answer (overvolted (samples stream))
        → Done image stream part straps program slice pause
    pick (no a) b c d e f = absurd (eqb-false 2 0 refl (rw a at n))
    pick (yes a) (yes b) c d e f = absurd (eqb-false 3 0 refl (rw (a, b) at n))
    pick (yes a) (no b) (no c) d e f = absurd (eqb-false 4 0 refl (rw (a, b, c) at n))
    pick (yes a) (no b) (yes c) (yes d) e f = absurd (eqb-false 5 0 refl (rw (a, b, c, d) at n))
    pick (yes a) (no b) (yes c) (no d) (yes e) f = absurd (eqb-false 6 0 refl (rw (a, b, c, d, e) at n))
    pick (yes a) (no b) (yes c) (no d) (no e) (yes f) = absurd (eqb-false 7 0 refl (rw (a, b, c, d, e, f) at n))
    pick (yes a) (no b) (yes c) (no d) (no e) (no f) =
        record { size = eqb-true (length image) 1048576 a; straps_fit = leb-false (strap_count part) straps b; times_fit_lem = c; volts = f }

number_of : (image stream answers : List ℕ) (part straps program slice pause : ℕ)
    → (ran_of image stream answers part straps program slice pause).report.number ≡ run_number image stream answers part straps program slice pause
unfolding ran_of
number_of image stream answers part straps program slice pause = pick (ask (eqb (run_number image stream answers part straps program slice pause) 0))
  where
    pick : Answer (eqb (run_number image stream answers part straps program slice pause) 0) → (ran_of image stream answers part straps program slice pause).report.number ≡ run_number image stream answers part straps program slice pause
    pick (yes e) = rw e (sym (eqb-true (run_number image stream answers part straps program slice pause) 0 e))
    pick (no e) = rw e

module _ (image stream answers : List ℕ) (part straps program slice pause : ℕ) (n : (ran_of image stream answers part straps program slice pause).report.number ≡ 0) where
  z : run_number image stream answers part straps program slice pause ≡ 0
  z = sym (number_of image stream answers part straps program slice pause) ∙ n

  d : Done image stream part straps program slice pause
  d = found image stream answers part straps program slice pause z

  start : at_power_up part straps program slice pause image ≡ world (fresh_of part straps (times program slice pause)) image
  start = ap (λ (p : _). world p.device image) (power_0 part straps program slice pause d.straps_fit d.times_fit_lem)

  end : leaving (map step (samples stream)) (at_power_up part straps program slice pause image) ≡ through (samples stream) (world (fresh_of part straps (times program slice pause)) image)
  end =
      as_history (samples stream) (at_power_up part straps program slice pause image) (record { sound = powered_sound part straps program slice pause; size = d.size }) d.volts
      ∙ ap (through (samples stream)) start

  run_image : (ran_of image stream answers part straps program slice pause).image ≡ (leaving (map step (samples stream)) (at_power_up part straps program slice pause image)).image
  unfolding ran_of
  run_image = rw z (ap (λ (w : World). w.image) (sym end))

  run_marks : (ran_of image stream answers part straps program slice pause).report.marks
      ≡ (leaving (map step (samples stream)) (at_power_up part straps program slice pause image)).device.controller.marks
  unfolding ran_of
  run_marks = rw z (ap (λ (w : World). w.device.controller.marks) (sym end))

  run_status : (ran_of image stream answers part straps program slice pause).report.status
      ≡ status_of (leaving (map step (samples stream)) (at_power_up part straps program slice pause image)).device.controller
  unfolding ran_of
  run_status = rw z (ap (λ (w : World). status_of w.device.controller) (sym end))

-- only a ready controller tells of no operation: a computed test of every byte of error bits, for each condition
abbrev is_ready_one : Condition → Bool
is_ready_one Ready = true
is_ready_one Running = false
is_ready_one Pausing = false
is_ready_one ProgramSuspended = false
is_ready_one EraseSuspended = false
is_ready_one ProgramInside = false

telling : Condition → ℕ → Bool
telling k e = cond (eqb (bit_and e 0x3A) e) (cond (tells_none (bit_or e (condition_bits k))) (is_ready_one k) true) true

module _ (e : ℕ) (h : e < 256) where
  telling_of : (k : Condition) → telling k e ≡ true
  unfolding telling
  telling_of Ready = sym (at (telling Ready) 256 e true h) ∙ at (λ (i : ℕ). true) 256 e true h
  telling_of Running = sym (at (telling Running) 256 e true h) ∙ at (λ (i : ℕ). true) 256 e true h
  telling_of Pausing = sym (at (telling Pausing) 256 e true h) ∙ at (λ (i : ℕ). true) 256 e true h
  telling_of ProgramSuspended = sym (at (telling ProgramSuspended) 256 e true h) ∙ at (λ (i : ℕ). true) 256 e true h
  telling_of EraseSuspended = sym (at (telling EraseSuspended) 256 e true h) ∙ at (λ (i : ℕ). true) 256 e true h
  telling_of ProgramInside = sym (at (telling ProgramInside) 256 e true h) ∙ at (λ (i : ℕ). true) 256 e true h

is_ready_lem : (c : Controller) → controller_fits c ≡ true → tells_none (status_of c) ≡ true → is_ready_one (condition_of c) ≡ true
unfolding status_of telling
is_ready_lem c f t =
    let k = (clauses c f).errors in
    let x = eqb-true (bit_and c.errors 0x3A) c.errors k in
    let l = and_le_r c.errors 0x3A in
    rw (k, t) at (telling_of c.errors (omega (arith, x, l)) (condition_of c))

bare : (k : Condition) (c : Controller) → View c k → is_ready_one k ≡ true → (is_absent c.outer ≡ true) × (is_absent c.inner ≡ true)
bare Ready c (ready i o) e = (o, i)
bare Running c v e = clash e
bare Pausing c v e = clash e
bare ProgramSuspended c v e = clash e
bare EraseSuspended c v e = clash e
bare ProgramInside c v e = clash e

none_told : (b : ℕ) (w : World) → Good w → tells_none (status_of w.device.controller) ≡ true → is_there b w ≡ false
none_told b w g t =
    let f = (parts w.device g.sound).controller in
    let n = bare (condition_of w.device.controller) w.device.controller (view w.device.controller) (is_ready_lem w.device.controller f t) in
    rw (op_none b w.device.controller (off_absent b w.device.controller.outer n.0) (off_absent b w.device.controller.inner n.1))

pub demand_3_run : Demand3Run
unfolding Demand3Run Demand3
demand_3_run image stream answers part straps program slice pause block h n m t =
    let f = d image stream answers part straps program slice pause n in
    ap (contents block) (run_image image stream answers part straps program slice pause n)
    ∙ demand_3 part straps program slice pause image (map step (samples stream)) block f.size h
    (ap (λ (k : ℕ). marked k block) (sym (run_marks image stream answers part straps program slice pause n)) ∙ m)
    t

pub demand_3_told : Demand3Told
unfolding Demand3Told Demand3Run CallsAreClocks
demand_3_told image stream answers part straps program slice pause block h n m t =
    let f = d image stream answers part straps program slice pause n in
    let w = at_power_up part straps program slice pause image in
    let c = calls_are_clocks part straps program slice pause image (map step (samples stream)) f.size in
    let g : Good (leaving (map step (samples stream)) w) =
    rw c (good_ending (events (map step (samples stream)) w) w (powered part straps program slice pause image f.size)) in
    demand_3_run image stream answers part straps program slice pause block h n m
    (none_told block (leaving (map step (samples stream)) w) g (ap tells_none (sym (run_status image stream answers part straps program slice pause n)) ∙ t))

-- the answers of the steps
stepped_answer : (w : World) (s : ℕ) → Good w → eqb (voltage s) 3 ≡ false → (stepped_of w.device w.image s).answer ≡ answer_to w s
unfolding stepped_of step_number answer_to
stepped_answer w s g v = rw (g.sound, g.size, v)

as_answers : (ss : List ℕ) (w : World) → Good w → overvolted ss ≡ false → answering ss w ≡ answers_to ss w
as_answers [] w g e = refl
as_answers (s ∷ ss) w g e =
    let c = not_class_3 s ss e in
    rw (stepped_answer w s g c.0, ← goes_on w s g c.0) (ap (λ (rest : List ℕ). answer_to w s ∷ rest) (as_answers ss (after (clock s) w) (good_after (clock s) w g) c.1))

pub run_is_steps : RunIsSteps
unfolding RunIsSteps ran_of
run_is_steps image stream answers part straps program slice pause n =
    let f = d image stream answers part straps program slice pause n in
    let w = at_power_up part straps program slice pause image in
    let k = as_answers (samples stream) w (powered part straps program slice pause image f.size) f.volts in
    rw (z image stream answers part straps program slice pause n, end image stream answers part straps program slice pause n, k, start image stream answers part straps program slice pause n)
