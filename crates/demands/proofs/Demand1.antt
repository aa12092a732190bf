-- Demand 1: each call's number is the first refusal of the table, what a refusal leaves, where a settle stops, and that any
-- two outcomes of a call coincide. Assumes nothing.
use Prim.Native.Nat.{ℕ, zero, suc, ◌+◌, ◌*◌, ◌/◌, ◌%◌, ◌≤◌, ◌<◌}
use mathlib.Core.Path.{◌≡◌, ◌∙◌, sym, refl, ap}
use mathlib.Core.Bool.{Bool, true, false, cond, not, ◌||◌}
use mathlib.Core.List.{List, [], ◌∷◌}
use native.Mathlib.Omega.{arith}
use native.Mathlib.Nat.{not-suc-le-zero}
use lib.Dec.{eqb, ltb, leb}
use lib.Bits.{bit_and}
use lib.ListN.{length, get_or, take, drop}
use borrow.Author.Tests.{eqb-true, eqb-false, eq-eqb, ne_eqb, ltb-true, ltb-false, lt-ltb, le-leb}
use Rattle.basics.proofs.Rules.{Answer, yes, no, ask, clash}
use Rattle.basics.specs.All.{all}
use Rattle.basics.specs.Bytes.{two_at}
use Rattle.units.specs.Units.{times, in_range, times_fit}
use Rattle.record.specs.declared.Device.{Device}
use Rattle.record.specs.Sample.{frame_line, rp, init, voltage, is_reset, is_idle_sample, samples}
use Rattle.part.specs.Parts.{strap_count}
use Rattle.soundness.specs.Sound.{sound_of}
use Rattle.status.specs.Status.{status_of}
use Rattle.power.specs.Power.{power_refused, powered_up, times_set}
use Rattle.power.specs.Told.{status_told, marks_told}
use Rattle.step.specs.Step.{step_number, stepped_of, stored_of}
use Rattle.inplace.specs.Clocked.{clocked_of}
use Rattle.clock.specs.Fold.{World, world, repeated}
use Rattle.settle.specs.Settle.{is_ready, Stop, settling, settle_number, stop_number, settled_of, image_settled}
use Rattle.settle.proofs.Least.{Least, least}
use Rattle.settle.proofs.Laws.{accepted}
use Rattle.stream.specs.Run.{overvolted, misshapen, Ran, stream_number, run_number, ran_of}
use Rattle.view.specs.declared.Piece.{Piece}
use Rattle.view.specs.Shown.{is_zeros, can_show, read_locked, shown, piece, piece_shown}
use Rattle.sheet.specs.Sheet.{of_layout, straps_in, times_in, SheetWritten, laid, read_of, numbers_of, write_of}
use Rattle.demands.specs.Demand1.{are_times, has_class3, Call, power_up, set_times, step, settle, run, read_sheet, read_sheet_as_enum, write_sheet, step_in_place, view_block, view_block_as_numbers, tell_status, tell_marks, Given, Promised, Coincide, bit7, after_steps, is_busy_for, refusals, first, outcome, as_lent, Numbers, Refused, SettleStops, Right, Done}
use Rattle.demands.specs.History.{clock, after}
use Rattle.demands.proofs.Turns.{Good}
use Rattle.demands.proofs.Demand3.{good_after}
use Rattle.demands.proofs.Calls.{goes_on}

-- the one outcome that each promise admits
promised : (c : Call) → Given c
promised (power_up part straps program slice pause) = powered_up part straps program slice pause
promised (set_times d program slice pause) = times_set d program slice pause
promised (step d image sample) = (stepped_of d image sample, stored_of d image sample)
promised (settle d image sample limit) = (settled_of d image sample limit, image_settled d image sample limit)
promised (run image stream answers part straps program slice pause) =
    let r = ran_of image stream answers part straps program slice pause in (r.report, r.image, r.answers)
promised (read_sheet bytes) = numbers_of (read_of bytes)
promised (read_sheet_as_enum bytes) = read_of bytes
promised (write_sheet buffer straps program slice pause) =
    let r = write_of buffer straps program slice pause in (r.number, r.buffer)
promised (step_in_place d image sample) =
    (clocked_of (stepped_of d image sample), (stepped_of d image sample).device, stored_of d image sample)
promised (view_block d image page block) = shown d image page block
promised (view_block_as_numbers d image page block) = piece_shown d image page block
promised (tell_status d) = status_told d
promised (tell_marks d) = marks_told d

only : (c : Call) (g : Given c) → Promised c g → g ≡ promised c
unfolding promised
only (power_up part straps program slice pause) g e = e
only (set_times d program slice pause) g e = e
only (step d image sample) g e = rw (e.0, e.1)
only (settle d image sample limit) g e = rw (e.0, e.1)
only (run image stream answers part straps program slice pause) g e = ap (λ (r : Ran). (r.report, r.image, r.answers)) e
only (read_sheet bytes) g e = e
only (read_sheet_as_enum bytes) g e = e
only (write_sheet buffer straps program slice pause) g e = ap (λ (r : SheetWritten). (r.number, r.buffer)) e
only (step_in_place d image sample) g e = rw (e.0, e.1, e.2)
only (view_block d image page block) g e = e
only (view_block_as_numbers d image page block) g e = e
only (tell_status d) g e = e
only (tell_marks d) g e = e

pub coincide : Coincide
unfolding Coincide
coincide c g h e f = only c g e ∙ sym (only c h f)

-- bit 7 is 0 or 1
bit_0 : (n : ℕ) → eqb (n % 2) 0 ≡ not (eqb (n % 2) 1)
bit_0 n = pick (ask (eqb (n % 2) 1))
  where
    pick : Answer (eqb (n % 2) 1) → eqb (n % 2) 0 ≡ not (eqb (n % 2) 1)
    pick (yes a) = let e = eqb-true (n % 2) 1 a in rw e
    pick (no a) = let f = eqb-false (n % 2) 1 a in rw a (eq-eqb (n % 2) 0 (omega arith))

busy_ready : (w : World) → eqb (bit7 w) 0 ≡ not (is_ready w.device)
unfolding is_ready
busy_ready w = bit_0 (status_of w.device.controller / 128)

-- a settle is busy where the definition's steps never find bit 7 at 1
busy_settling : (sample n count : ℕ) (w : World)
    → Good w
    → eqb (voltage sample) 3 ≡ false
    → is_busy_for sample n w ≡ not (settling sample n count w).ready
busy_settling sample zero count w g v = busy_ready w
busy_settling sample (suc n) count w g v =
    elim (ask (is_ready w.device)) [
      | yes r ↦ rw (busy_ready w, r)
      | no r ↦
          rw (busy_ready w, r, ← goes_on w sample g v)
          (busy_settling sample n (count + 1) (after (clock sample) w) (good_after (clock sample) w g) v)
    ]

below_ten : 10 < 10 → ⊥
below_ten h = omega arith

-- a row of the table: the number, and what a refusal leaves
abbrev Row : Call → Type 0
Row c =
    ((outcome c (promised c)).number ≡ first (refusals c))
    × (0 < (outcome c (promised c)).number
    → (outcome c (promised c)).number < 10
    → outcome c (promised c) ≡ as_lent c (outcome c (promised c)).number)

-- the tests of the table in raw bits and bytes
restless : (s : ℕ) → (eqb (frame_line s) 0 || (eqb (rp s) 0 || eqb (init s) 0)) ≡ not (is_idle_sample s)
unfolding is_idle_sample is_reset
restless s = pick (ask (eqb (rp s) 0)) (ask (eqb (init s) 0)) (ask (eqb (frame_line s) 0))
  where
    pick : Answer (eqb (rp s) 0)
        → Answer (eqb (init s) 0)
        → Answer (eqb (frame_line s) 0)
        → (eqb (frame_line s) 0 || (eqb (rp s) 0 || eqb (init s) 0)) ≡ not (is_idle_sample s)
    pick (yes r) i (yes f) = rw (r, f)
    pick (yes r) i (no f) = rw (r, f)
    pick (no r) (yes i) (yes f) = rw (r, i, f)
    pick (no r) (yes i) (no f) = rw (r, i, f)
    pick (no r) (no i) (yes f) = let e = eqb-true (frame_line s) 0 f in rw (r, i, e)
    pick (no r) (no i) (no f) = let n = eqb-false (frame_line s) 0 f in let e : frame_line s ≡ 1 = omega arith in rw (r, i, e)

odd : (stream : List ℕ) → (ltb 131072 (length stream) || eqb (length stream % 2) 1) ≡ misshapen stream
unfolding misshapen
odd stream = elim (ask (ltb 131072 (length stream))) [ yes e ↦ rw e | no e ↦ rw e ]

class_3 : (ss : List ℕ) → has_class3 ss ≡ overvolted ss
class_3 [] = refl
class_3 (s ∷ ss) = elim (ask (eqb (voltage s) 3)) [ yes e ↦ rw e | no e ↦ rw e (class_3 ss) ]

raw_times : (program slice pause : ℕ) → are_times program slice pause ≡ times_fit (times program slice pause)
unfolding times_fit in_range all
raw_times program slice pause = refl

raw_straps : (part straps : ℕ) → (ltb 1 part || ltb (cond (eqb part 1) 3 15) straps) ≡ leb (strap_count part) straps
unfolding strap_count
raw_straps part straps = pick (ask (eqb part 1)) (ask (eqb part 0))
  where
    pick : Answer (eqb part 1) → Answer (eqb part 0) → (ltb 1 part || ltb (cond (eqb part 1) 3 15) straps) ≡ leb (strap_count part) straps
    pick (yes l) z = let e = eqb-true part 1 l in rw e
    pick (no l) (yes z) = let e = eqb-true part 0 z in rw e
    pick (no l) (no z) =
        let x = eqb-false part 1 l in
        let y = eqb-false part 0 z in
        rw (l, z, lt-ltb 1 part (omega arith), le-leb 0 straps (omega arith))

row : (c : Call) → Row c
unfolding promised powered_up power_refused times_set stepped_of stored_of step_number settled_of image_settled settle_number ran_of run_number stream_number read_of write_of
row (power_up part straps program slice pause) = pick (ask (leb (strap_count part) straps)) (ask (times_fit (times program slice pause)))
  where
    pick : Answer (leb (strap_count part) straps)
        → Answer (times_fit (times program slice pause))
        → Row (power_up part straps program slice pause)
    pick (yes a) b = rw (raw_straps part straps, a) (refl, λ h l. refl)
    pick (no a) (yes b) = rw (raw_straps part straps, raw_times program slice pause, a, b) (refl, λ h l. absurd (not-suc-le-zero h))
    pick (no a) (no b) = rw (raw_straps part straps, raw_times program slice pause, a, b) (refl, λ h l. refl)
row (set_times d program slice pause) = pick (ask (sound_of d)) (ask (times_fit (times program slice pause)))
  where
    pick : Answer (sound_of d)
        → Answer (times_fit (times program slice pause))
        → Row (set_times d program slice pause)
    pick (no a) b = rw a (refl, λ h l. refl)
    pick (yes a) (yes b) = rw (raw_times program slice pause, a, b) (refl, λ h l. absurd (not-suc-le-zero h))
    pick (yes a) (no b) = rw (raw_times program slice pause, a, b) (refl, λ h l. refl)
row (step d image sample) = pick (ask (sound_of d)) (ask (eqb (length image) 1048576)) (ask (eqb (voltage sample) 3))
  where
    pick : Answer (sound_of d)
        → Answer (eqb (length image) 1048576)
        → Answer (eqb (voltage sample) 3)
        → Row (step d image sample)
    pick (no a) b c = rw a (refl, λ h l. refl)
    pick (yes a) (no b) c = rw (a, b) (refl, λ h l. refl)
    pick (yes a) (yes b) (yes c) = rw (a, b, c) (refl, λ h l. refl)
    pick (yes a) (yes b) (no c) = rw (a, b, c) (refl, λ h l. absurd (not-suc-le-zero h))
row (settle d image sample limit) = pick (ask (sound_of d)) (ask (eqb (length image) 1048576)) (ask (eqb (voltage sample) 3)) (ask (is_idle_sample sample)) (ask (settling sample limit 0 (world d image)).ready)
  where
    restful : (eqb (frame_line sample) 0 || (eqb (rp sample) 0 || eqb (init sample) 0)) ≡ not (is_idle_sample sample)
    restful = restless sample

    busy : sound_of d ≡ true → length image ≡ 1048576 → eqb (voltage sample) 3 ≡ false → is_busy_for sample limit (world d image) ≡ not (settling sample limit 0 (world d image)).ready
    busy e l v = busy_settling sample limit 0 (world d image) (record { sound = e; size = l }) v

    pick : Answer (sound_of d)
        → Answer (eqb (length image) 1048576)
        → Answer (eqb (voltage sample) 3)
        → Answer (is_idle_sample sample)
        → Answer (settling sample limit 0 (world d image)).ready
        → Row (settle d image sample limit)
    pick (no a) b c d e = rw a (refl, λ h l. refl)
    pick (yes a) (no b) c d e = rw (a, b) (refl, λ h l. refl)
    pick (yes a) (yes b) (yes c) d e = rw (a, b, c) (refl, λ h l. refl)
    pick (yes a) (yes b) (no c) (no d) e = rw (restful, a, b, c, d) (refl, λ h l. refl)
    pick (yes a) (yes b) (no c) (yes d) (yes e) =
        let k = busy a (eqb-true (length image) 1048576 b) c in rw (restful, k, a, b, c, d, e) (refl, λ h l. absurd (not-suc-le-zero h))
    pick (yes a) (yes b) (no c) (yes d) (no e) =
        let k = busy a (eqb-true (length image) 1048576 b) c in rw (restful, k, a, b, c, d, e) (refl, λ h l. absurd (below_ten l))
row (run image stream answers part straps program slice pause) = pick (ask (eqb (length image) 1048576)) (ask (leb (strap_count part) straps)) (ask (times_fit (times program slice pause))) (ask (misshapen stream)) (ask (ltb (length answers) (length stream / 2))) (ask (overvolted (samples stream)))
  where
    pick : Answer (eqb (length image) 1048576)
        → Answer (leb (strap_count part) straps)
        → Answer (times_fit (times program slice pause))
        → Answer (misshapen stream)
        → Answer (ltb (length answers) (length stream / 2))
        → Answer (overvolted (samples stream))
        → Row (run image stream answers part straps program slice pause)
    pick (no a) b c d e f = rw a (refl, λ h l. refl)
    pick (yes a) (yes b) c d e f = rw (raw_straps part straps, a, b) (refl, λ h l. refl)
    pick (yes a) (no b) (no c) d e f = rw (raw_straps part straps, raw_times program slice pause, a, b, c) (refl, λ h l. refl)
    pick (yes a) (no b) (yes c) (yes d) e f = rw (raw_straps part straps, raw_times program slice pause, odd stream, a, b, c, d) (refl, λ h l. refl)
    pick (yes a) (no b) (yes c) (no d) (yes e) f = rw (raw_straps part straps, raw_times program slice pause, odd stream, a, b, c, d, e) (refl, λ h l. refl)
    pick (yes a) (no b) (yes c) (no d) (no e) (yes f) = rw (raw_straps part straps, raw_times program slice pause, odd stream, class_3 (samples stream), a, b, c, d, e, f) (refl, λ h l. refl)
    pick (yes a) (no b) (yes c) (no d) (no e) (no f) = rw (raw_straps part straps, raw_times program slice pause, odd stream, class_3 (samples stream), a, b, c, d, e, f) (refl, λ h l. absurd (not-suc-le-zero h))
row (read_sheet bytes) = pick (ask (of_layout bytes)) (ask (ltb 15 (straps_in bytes))) (ask (times_fit (times_in bytes)))
  where
    pick : Answer (of_layout bytes)
        → Answer (ltb 15 (straps_in bytes))
        → Answer (times_fit (times_in bytes))
        → Row (read_sheet bytes)
    pick (no a) b c = rw a (refl, λ h l. refl)
    pick (yes a) (yes b) c = rw (a, b) (refl, λ h l. refl)
    pick (yes a) (no b) (yes c) = rw (raw_times (two_at bytes 7) (two_at bytes 9) (two_at bytes 11), a, b, c) (refl, λ h l. absurd (not-suc-le-zero h))
    pick (yes a) (no b) (no c) = rw (raw_times (two_at bytes 7) (two_at bytes 9) (two_at bytes 11), a, b, c) (refl, λ h l. refl)
row (read_sheet_as_enum bytes) = pick (ask (of_layout bytes)) (ask (ltb 15 (straps_in bytes))) (ask (times_fit (times_in bytes)))
  where
    pick : Answer (of_layout bytes)
        → Answer (ltb 15 (straps_in bytes))
        → Answer (times_fit (times_in bytes))
        → Row (read_sheet_as_enum bytes)
    pick (no a) b c = rw a (refl, λ h l. refl)
    pick (yes a) (yes b) c = rw (a, b) (refl, λ h l. refl)
    pick (yes a) (no b) (yes c) = rw (raw_times (two_at bytes 7) (two_at bytes 9) (two_at bytes 11), a, b, c) (refl, λ h l. absurd (not-suc-le-zero h))
    pick (yes a) (no b) (no c) = rw (raw_times (two_at bytes 7) (two_at bytes 9) (two_at bytes 11), a, b, c) (refl, λ h l. refl)
row (write_sheet buffer straps program slice pause) = pick (ask (ltb 15 straps)) (ask (times_fit (times program slice pause))) (ask (ltb (length buffer) 13))
  where
    pick : Answer (ltb 15 straps)
        → Answer (times_fit (times program slice pause))
        → Answer (ltb (length buffer) 13)
        → Row (write_sheet buffer straps program slice pause)
    pick (yes a) b c = rw a (refl, λ h l. refl)
    pick (no a) (no b) c = rw (raw_times program slice pause, a, b) (refl, λ h l. refl)
    pick (no a) (yes b) (yes c) = rw (raw_times program slice pause, a, b, c) (refl, λ h l. refl)
    pick (no a) (yes b) (no c) = rw (raw_times program slice pause, a, b, c) (refl, λ h l. absurd (not-suc-le-zero h))
row (step_in_place d image sample) = pick (ask (sound_of d)) (ask (eqb (length image) 1048576)) (ask (eqb (voltage sample) 3))
  where
    pick : Answer (sound_of d)
        → Answer (eqb (length image) 1048576)
        → Answer (eqb (voltage sample) 3)
        → Row (step_in_place d image sample)
    pick (no a) b c = rw a (refl, λ h l. refl)
    pick (yes a) (no b) c = rw (a, b) (refl, λ h l. refl)
    pick (yes a) (yes b) (yes c) = rw (a, b, c) (refl, λ h l. refl)
    pick (yes a) (yes b) (no c) = rw (a, b, c) (refl, λ h l. absurd (not-suc-le-zero h))
row (view_block d image page block) = (refl, λ h l. absurd (not-suc-le-zero h))
row (view_block_as_numbers d image page block) = (refl, λ h l. absurd (not-suc-le-zero h))
row (tell_status d) = (refl, λ h l. absurd (not-suc-le-zero h))
row (tell_marks d) = (refl, λ h l. absurd (not-suc-le-zero h))

pub numbers : Numbers
unfolding Numbers
numbers c g e = ap (λ (x : Given c). (outcome c x).number) (only c g e) ∙ (row c).0

pub refused : Refused
unfolding Refused
refused c g e = rw (only c g e) (row c).1

-- so many steps are so many clocks
stepping : (sample n : ℕ) (w : World) → Good w → eqb (voltage sample) 3 ≡ false → after_steps sample n w ≡ repeated sample n w
stepping sample zero w g v = refl
stepping sample (suc n) w g v =
    stepping sample n (after (clock sample) w) (good_after (clock sample) w g) v ∙ ap (repeated sample n) (goes_on w sample g v)

-- bit 7, as the settle looks at it
is_1 : (w : World) → is_ready w.device ≡ true → bit7 w ≡ 1
unfolding is_ready
is_1 w r = eqb-true (bit7 w) 1 r

is_0 : (w : World) → is_ready w.device ≡ false → bit7 w ≡ 0
is_0 w r = eqb-true (bit7 w) 0 (busy_ready w ∙ ap not r)

one_ready : (w : World) → bit7 w ≡ 1 → is_ready w.device ≡ true
unfolding is_ready
one_ready w e = eq-eqb (bit7 w) 1 e

zero_busy : (w : World) → bit7 w ≡ 0 → is_ready w.device ≡ false
unfolding is_ready
zero_busy w e = ne_eqb (bit7 w) 1 (λ f. eqb-false 0 1 refl (sym e ∙ f))

-- what stops a settle that is not turned away
module _ (sample limit : ℕ) (w : World) (s : Stop) (l : Least sample limit w s) where
  ready_done : s.ready ≡ true → stop_number s.ready ≡ 0
  ready_done r = rw r

  number_ready : stop_number s.ready ≡ 0 → s.ready ≡ true
  number_ready e = elim (ask s.ready) [ yes r ↦ r | no r ↦ absurd (eqb-false 10 0 refl (rw r at e)) ]

  number_busy : stop_number s.ready ≡ 10 → s.ready ≡ false
  number_busy e = elim (ask s.ready) [ yes r ↦ absurd (eqb-false 0 10 refl (rw r at e)) | no r ↦ r ]

  -- bit 7 at 1 within the limit is found
  finds : (n : ℕ) → n ≤ limit → is_ready (repeated sample n w).device ≡ true → s.ready ≡ true
  finds n h r =
      elim (ask s.ready) [
        | yes a ↦ a
        | no a ↦ elim (ask (ltb n s.count)) [
          | yes b ↦ clash (sym (l.waited n (ltb-true n s.count b)) ∙ r)
          | no b ↦
              let x = l.exhausted a in
              let y = ltb-false n s.count b in
              let e : s.count ≡ n = omega arith in
              clash (sym (rw e at (sym l.told ∙ a)) ∙ r)
        ]
      ]

  -- and where it is never found, all samples are done
  waits : s.ready ≡ false → (j : ℕ) → j ≤ limit → is_ready (repeated sample j w).device ≡ false
  waits a j h =
      elim (ask (is_ready (repeated sample j w).device)) [ yes r ↦ clash (sym a ∙ finds j h r) | no r ↦ r ]

pub settle_stops : SettleStops
unfolding SettleStops settle_number
settle_stops d image sample limit r later p e i v q =
    let w = world d image in
    let g : Good w = record { sound = e; size = i } in
    let z : settle_number d image sample ≡ 0 = rw (e, i, v, q) in
    let a = accepted d image sample limit z in
    let s = settling sample limit 0 w in
    let l = least sample limit w in
    let f : (n : ℕ) → after_steps sample n w ≡ repeated sample n w = λ n. stepping sample n w g v in
    rw (p.0, p.1, a.0, a.1)
    (record {
      there = l.reached ∙ sym (f s.count);
      done = λ n.
          let y = number_ready sample limit w s l n in
          (l.allowed, rw (f s.count) (is_1 (repeated sample s.count w) (sym l.told ∙ y)), λ j h. rw (f j) (is_0 (repeated sample j w) (l.waited j h)));
      when_done = λ n h b. ready_done sample limit w s l (finds sample limit w s l n h (one_ready (repeated sample n w) (rw (f n) at b)));
      ten = λ n.
          let y = number_busy sample limit w s l n in
          (l.exhausted y, λ j h. rw (f j) (is_0 (repeated sample j w) (waits sample limit w s l y j h)));
      when_ten = λ b. rw (l.told ∙ zero_busy (repeated sample s.count w) (rw (f s.count) at (b s.count l.allowed)));
    })

-- what a view shows
either_taken : (n : ℕ) (t : Bool) (x y : List ℕ) → cond t (take n x) (take n y) ≡ take n (cond t x y)
either_taken n true x y = refl
either_taken n false x y = refl

bytes_shown : (d : Device) (image page : List ℕ) (block : ℕ)
    → shown d image page block
    ≡ cond (all (sound_of d ∷ eqb (length image) 1048576 ∷ ltb block 16 ∷ is_zeros page ∷ []))
    (take 65536 (cond (eqb (bit_and (get_or d.locks block 0) 4) 4) page (drop (block * 65536) image)))
    []
unfolding shown can_show read_locked
bytes_shown d image page block =
    ap (λ (x : List ℕ). cond (can_show d image page block) x []) (either_taken 65536 (read_locked d block) page (drop (block * 65536) image))

listed : Piece → List ℕ
listed r = r.from ∷ r.start ∷ r.length ∷ []

either_listed : (t u : Bool) (x y z : Piece) → listed (cond t (cond u x y) z) ≡ cond t (cond u (listed x) (listed y)) (listed z)
either_listed true true x y z = refl
either_listed true false x y z = refl
either_listed false u x y z = refl

numbers_shown : (d : Device) (image page : List ℕ) (block : ℕ) → Right (view_block_as_numbers d image page block) (piece_shown d image page block)
unfolding listed piece_shown can_show read_locked
numbers_shown d image page block =
    either_listed (can_show d image page block) (read_locked d block) (piece 2 0 65536) (piece 1 (block * 65536) 65536) (piece 0 0 0)

-- what a call that is done gives
done_row : (c : Call) → (outcome c (promised c)).number ≡ 0 → Right c (promised c)
unfolding promised powered_up power_refused times_set stepped_of stored_of step_number read_of write_of laid status_told marks_told
done_row (power_up part straps program slice pause) = pick (ask (leb (strap_count part) straps)) (ask (times_fit (times program slice pause)))
  where
    pick : Answer (leb (strap_count part) straps)
        → Answer (times_fit (times program slice pause))
        → (outcome (power_up part straps program slice pause) (promised (power_up part straps program slice pause))).number ≡ 0
        → Right (power_up part straps program slice pause) (promised (power_up part straps program slice pause))
    pick (yes a) b n = absurd (eqb-false 3 0 refl (rw a at n))
    pick (no a) (yes b) n = rw (a, b)
    pick (no a) (no b) n = absurd (eqb-false 4 0 refl (rw (a, b) at n))
done_row (set_times d program slice pause) = pick (ask (sound_of d)) (ask (times_fit (times program slice pause)))
  where
    pick : Answer (sound_of d)
        → Answer (times_fit (times program slice pause))
        → (outcome (set_times d program slice pause) (promised (set_times d program slice pause))).number ≡ 0
        → Right (set_times d program slice pause) (promised (set_times d program slice pause))
    pick (no a) b n = absurd (eqb-false 1 0 refl (rw a at n))
    pick (yes a) (yes b) n = rw (a, b)
    pick (yes a) (no b) n = absurd (eqb-false 4 0 refl (rw (a, b) at n))
done_row (step d image sample) = pick (ask (sound_of d)) (ask (eqb (length image) 1048576)) (ask (eqb (voltage sample) 3))
  where
    pick : Answer (sound_of d)
        → Answer (eqb (length image) 1048576)
        → Answer (eqb (voltage sample) 3)
        → (outcome (step d image sample) (promised (step d image sample))).number ≡ 0
        → Right (step d image sample) (promised (step d image sample))
    pick (no a) b c n = absurd (eqb-false 1 0 refl (rw a at n))
    pick (yes a) (no b) c n = absurd (eqb-false 2 0 refl (rw (a, b) at n))
    pick (yes a) (yes b) (yes c) n = absurd (eqb-false 7 0 refl (rw (a, b, c) at n))
    pick (yes a) (yes b) (no c) n = rw (a, b, c) (refl, refl, refl)
done_row (settle d image sample limit) = λ n. tt
done_row (run image stream answers part straps program slice pause) = λ n. tt
done_row (read_sheet bytes) = pick (ask (of_layout bytes)) (ask (ltb 15 (straps_in bytes))) (ask (times_fit (times_in bytes)))
  where
    pick : Answer (of_layout bytes)
        → Answer (ltb 15 (straps_in bytes))
        → Answer (times_fit (times_in bytes))
        → (outcome (read_sheet bytes) (promised (read_sheet bytes))).number ≡ 0
        → Right (read_sheet bytes) (promised (read_sheet bytes))
    pick (no a) b c n = absurd (eqb-false 8 0 refl (rw a at n))
    pick (yes a) (yes b) c n = absurd (eqb-false 3 0 refl (rw (a, b) at n))
    pick (yes a) (no b) (yes c) n = rw (a, b, c) (refl, refl, refl, refl)
    pick (yes a) (no b) (no c) n = absurd (eqb-false 4 0 refl (rw (a, b, c) at n))
done_row (read_sheet_as_enum bytes) = pick (ask (of_layout bytes)) (ask (ltb 15 (straps_in bytes))) (ask (times_fit (times_in bytes)))
  where
    pick : Answer (of_layout bytes)
        → Answer (ltb 15 (straps_in bytes))
        → Answer (times_fit (times_in bytes))
        → (outcome (read_sheet_as_enum bytes) (promised (read_sheet_as_enum bytes))).number ≡ 0
        → Right (read_sheet_as_enum bytes) (promised (read_sheet_as_enum bytes))
    pick (no a) b c n = absurd (eqb-false 8 0 refl (rw a at n))
    pick (yes a) (yes b) c n = absurd (eqb-false 3 0 refl (rw (a, b) at n))
    pick (yes a) (no b) (yes c) n = rw (a, b, c)
    pick (yes a) (no b) (no c) n = absurd (eqb-false 4 0 refl (rw (a, b, c) at n))
done_row (write_sheet buffer straps program slice pause) = pick (ask (ltb 15 straps)) (ask (times_fit (times program slice pause))) (ask (ltb (length buffer) 13))
  where
    pick : Answer (ltb 15 straps)
        → Answer (times_fit (times program slice pause))
        → Answer (ltb (length buffer) 13)
        → (outcome (write_sheet buffer straps program slice pause) (promised (write_sheet buffer straps program slice pause))).number ≡ 0
        → Right (write_sheet buffer straps program slice pause) (promised (write_sheet buffer straps program slice pause))
    pick (yes a) b c n = absurd (eqb-false 3 0 refl (rw a at n))
    pick (no a) (no b) c n = absurd (eqb-false 4 0 refl (rw (a, b) at n))
    pick (no a) (yes b) (yes c) n = absurd (eqb-false 6 0 refl (rw (a, b, c) at n))
    pick (no a) (yes b) (no c) n = rw (a, b, c)
done_row (step_in_place d image sample) = pick (ask (sound_of d)) (ask (eqb (length image) 1048576)) (ask (eqb (voltage sample) 3))
  where
    pick : Answer (sound_of d)
        → Answer (eqb (length image) 1048576)
        → Answer (eqb (voltage sample) 3)
        → (outcome (step_in_place d image sample) (promised (step_in_place d image sample))).number ≡ 0
        → Right (step_in_place d image sample) (promised (step_in_place d image sample))
    pick (no a) b c n = absurd (eqb-false 1 0 refl (rw a at n))
    pick (yes a) (no b) c n = absurd (eqb-false 2 0 refl (rw (a, b) at n))
    pick (yes a) (yes b) (yes c) n = absurd (eqb-false 7 0 refl (rw (a, b, c) at n))
    pick (yes a) (yes b) (no c) n = rw (a, b, c) (refl, refl, refl)
done_row (view_block d image page block) = λ n. bytes_shown d image page block
done_row (view_block_as_numbers d image page block) = λ n. numbers_shown d image page block
done_row (tell_status d) = λ n. refl
done_row (tell_marks d) = λ n. refl

pub done : Done
unfolding Done
done c g e = rw (only c g e) (done_row c)
