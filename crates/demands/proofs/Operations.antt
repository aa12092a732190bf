-- Demand 2 of operations: how one starts, counts and ends, what it does to the array, what reset does, marks and error bits.
-- Assumes nothing.
use Prim.Native.Nat.{ℕ, ◌+◌, ◌-◌, ◌*◌, ◌%◌, ◌≤◌, ◌<◌}
use mathlib.Core.Path.{◌≡◌, ◌∙◌, sym, refl, ap, subst}
use mathlib.Core.Bool.{Bool, true, false, cond, not, ◌&&◌}
use mathlib.Core.List.{List, [], ◌∷◌}
use native.Mathlib.Omega.{arith}
use lib.Bits.{bit_and, bit_or, or_zero_r}
use lib.Dec.{eqb, ltb}
use lib.ListN.{length, get_or, set}
use borrow.Author.Tests.{eqb-true, lt-ltb, le-ltb}
use Rattle.basics.specs.All.{all}
use Rattle.basics.specs.Bytes.{filled}
use Rattle.basics.proofs.Rules.{Answer, yes, no, ask, clash}
use Rattle.units.specs.declared.Times.{Times}
use Rattle.units.specs.Units.{clocks, in_clocks}
use Rattle.record.specs.declared.Operation.{Operation}
use Rattle.record.specs.declared.Controller.{Controller}
use Rattle.record.specs.declared.Device.{Device}
use Rattle.record.specs.Record.{controller, absent, is_absent, is_program, is_erase, is_running, is_pausing, is_suspended, with_pause, with_left, block_of}
use Rattle.record.specs.Sample.{tbl, wp, voltage, is_reset}
use Rattle.part.specs.Fresh.{fresh_of}
use Rattle.effect.specs.Effect.{applied}
use Rattle.status.specs.Status.{condition_of}
use Rattle.soundness.specs.Sound.{sound_of}
use Rattle.soundness.proofs.Clauses.{parts}
use Rattle.power.proofs.Laws.{set_keeps}
use Rattle.operation.specs.Clock.{active, is_still, paused_of, operation_clock, replaced, controller_clock}
use Rattle.operation.specs.Reset.{marked_by, reset_of}
use Rattle.operation.proofs.Facts.{fits, active_fits, moving}
use Rattle.operation.proofs.FitsIn.{operation_clock_in}
use Rattle.operation.proofs.Kept.{paused_same}
use Rattle.operation.proofs.Due as due
use Rattle.permission.specs.declared.Denial.{Denial}
use Rattle.permission.specs.declared.Denial.TheVariants.{Voltage, Pin, Lock, Suspended}
use Rattle.permission.specs.Permission.{pin_low, into_suspended, judged}
use Rattle.std.specs.Prelude.{None, Result, Ok, Err}
use Rattle.command.specs.Setup.{accepted_of, starting, failing, answered, unconfirmed, written_of}
use Rattle.command.proofs.Laws as laws
use Rattle.bus.specs.declared.Asked.{Asked}
use Rattle.bus.specs.declared.Asked.TheVariants.{Nothing as Silent, Read, Write}
use Rattle.bus.specs.Frames.{frame_clock}
use Rattle.access.specs.Read.{is_array, array_address, lock_of}
use Rattle.access.specs.Write.{reached_of}
use Rattle.clock.specs.Clock.{reset_device, with_frame, after_controller, answered_to, served_of, image_after, device_clock}
use Rattle.clock.proofs.Fixed.{fixed}
use Rattle.clock.proofs.Pins.{alone}
use Rattle.demands.specs.History.{is_last, contents}
use Rattle.demands.specs.Operations.{unset, commanded, asked_on, writes_to_array, is_judged, failure, accepted_as, Starts, CountsOn, Counts, TimesBindLater, ImageChanges, EffectsDue, ResetLeaves, FreshAsReset, clears, leaves_unconfirmed, ErrorBits}
use Rattle.demands.proofs.Block.{contents_other}

-- a list of clauses as tests one behind another
four : (a b c d : Bool) → all (a ∷ b ∷ c ∷ d ∷ []) ≡ cond a (cond b (cond c d false) false) false
unfolding all
four true true true d = refl
four true true false d = refl
four true false c d = refl
four false b c d = refl

two : (a b : Bool) → all (a ∷ b ∷ []) ≡ cond a b false
unfolding all
two true b = refl
two false b = refl

-- no operation at all is the row of ready
ready_row : (c : Controller) → laws.is_ready_row (condition_of c) ≡ cond (is_absent c.outer) (is_absent c.inner) false
unfolding condition_of
ready_row c = pick (ask (is_absent c.inner)) (ask (is_absent c.outer)) (ask (is_running c.outer)) (ask (is_pausing c.outer)) (ask (is_program c.outer))
  where
    pick : Answer (is_absent c.inner)
        → Answer (is_absent c.outer)
        → Answer (is_running c.outer)
        → Answer (is_pausing c.outer)
        → Answer (is_program c.outer)
        → laws.is_ready_row (condition_of c) ≡ cond (is_absent c.outer) (is_absent c.inner) false
    pick (no i) (yes o) r p g = rw (i, o)
    pick (no i) (no o) r p g = rw (i, o)
    pick (yes i) (yes o) r p g = rw (i, o)
    pick (yes i) (no o) (yes r) p g = rw (i, o, r)
    pick (yes i) (no o) (no r) (yes p) g = rw (i, o, r, p)
    pick (yes i) (no o) (no r) (no p) (yes g) = rw (i, o, r, p, g)
    pick (yes i) (no o) (no r) (no p) (no g) = rw (i, o, r, p, g)

-- ---- What is judged, by its raw facts

pin_low_lem : (sample block : ℕ) → pin_low sample block ≡ eqb (cond (eqb block 15) (tbl sample) (wp sample)) 0
unfolding pin_low
pin_low_lem sample block = elim (ask (eqb block 15)) [ yes e ↦ rw e | no e ↦ rw e ]

into : (setup : ℕ) (o : Operation) (address : ℕ)
    → into_suspended setup o address
    ≡ (eqb setup 1 && (is_erase o && (is_suspended o && eqb (block_of o.address) (block_of address))))
unfolding into_suspended
into setup o address = pick (ask (eqb setup 1)) (ask (is_erase o)) (ask (is_suspended o))
  where
    pick : Answer (eqb setup 1)
        → Answer (is_erase o)
        → Answer (is_suspended o)
        → into_suspended setup o address
        ≡ (eqb setup 1 && (is_erase o && (is_suspended o && eqb (block_of o.address) (block_of address))))
    pick (yes a) (yes b) (yes c) = rw (a, b, c)
    pick (yes a) (yes b) (no c) = rw (a, b, c)
    pick (yes a) (no b) c = rw (a, b)
    pick (no a) b c = rw a

module _ (c : Controller) (locks : List ℕ) (sample address : ℕ) where
  abbrev block : ℕ
  block = block_of (array_address address)

  abbrev is_low : Bool
  is_low = eqb (cond (eqb block 15) (tbl sample) (wp sample)) 0

  abbrev is_locked : Bool
  is_locked = eqb (get_or locks block 0 % 2) 1

  abbrev is_into : Bool
  is_into = eqb c.setup 1 && (is_erase c.outer && (is_suspended c.outer && eqb (block_of c.outer.address) block))

  abbrev judgement : Result Unit Denial
  judgement = judged c.setup c.outer sample (lock_of locks (array_address address)) (array_address address)

  plainly : judgement ≡ cond (eqb (voltage sample) 0) (Err Voltage) (cond is_low (Err Pin) (cond is_locked (Err Lock) (cond is_into (Err Suspended) (Ok tt))))
  unfolding judged lock_of
  plainly = rw (pin_low_lem sample block, into c.setup c.outer (array_address address))

  -- the bit of a judgement is that of the raw facts
  fails : (byte : ℕ) → laws.bits_of judgement ≡ failure c locks sample (Write address byte)
  fails byte = rw plainly (pick (ask (eqb (voltage sample) 0)) (ask is_low) (ask is_locked) (ask is_into))
    where
      pick : Answer (eqb (voltage sample) 0)
          → Answer is_low
          → Answer is_locked
          → Answer is_into
          → laws.bits_of (cond (eqb (voltage sample) 0) (Err Voltage) (cond is_low (Err Pin) (cond is_locked (Err Lock) (cond is_into (Err Suspended) (Ok tt)))))
          ≡ failure c locks sample (Write address byte)
      pick (yes v) p l s = rw v
      pick (no v) (yes p) l s = rw (v, p)
      pick (no v) (no p) (yes l) s = rw (v, p, l)
      pick (no v) (no p) (no l) (yes s) = rw (v, p, l, s)
      pick (no v) (no p) (no l) (no s) = rw (v, p, l, s)

-- ---- Error bits

-- outside a setup: `t` the byte is 50h, `r` the row is that of ready
outside : (t r : Bool) (e : ℕ) → cond (cond r t false) 0 e ≡ cond (cond t r false) 0 (bit_or e 0)
outside true true e = refl
outside true false e = sym (or_zero_r e)
outside false true e = sym (or_zero_r e)
outside false false e = sym (or_zero_r e)

-- what is said of the error bits after a byte written to an address, from the error bits e before the clock
abbrev ErrorsSaid : ℕ → Controller → List ℕ → ℕ → Asked → ℕ
ErrorsSaid e c locks sample asked =
    cond (clears c asked) 0
    (bit_or e (cond (leaves_unconfirmed c asked) 0x30 (cond (is_judged c asked) (failure c locks sample asked) 0)))

-- where no byte is written to the array nothing is said to change
module _ (c : Controller) (locks : List ℕ) (sample : ℕ) (asked : Asked) (w : (test : ℕ → Bool) → writes_to_array test asked ≡ false) where
  unwritten_cleared : clears c asked ≡ false
  unfolding all
  unwritten_cleared = rw (w (λ (byte : ℕ). eqb byte 0x50)) (elim (ask (eqb c.setup 0)) [ yes e ↦ rw e | no e ↦ rw e ])

  unwritten_unconfirmed : leaves_unconfirmed c asked ≡ false
  unfolding all
  unwritten_unconfirmed = rw (w (λ (byte : ℕ). not (eqb byte 0xD0))) (elim (ask (eqb c.setup 2)) [ yes e ↦ rw e | no e ↦ rw e ])

  unwritten_unjudged : is_judged c asked ≡ false
  unfolding all
  unwritten_unjudged = rw (w (λ (byte : ℕ). cond (eqb c.setup 2) (eqb byte 0xD0) true)) (elim (ask (eqb c.setup 0)) [ yes e ↦ rw e | no e ↦ rw e ])

  unwritten : ErrorsSaid c.errors c locks sample asked ≡ c.errors
  unwritten = rw (unwritten_cleared, unwritten_unconfirmed, unwritten_unjudged) (or_zero_r c.errors)

-- a byte written to the array
module _ (c : Controller) (ts : Times) (locks : List ℕ) (sample address byte : ℕ) (x : is_array address ≡ true) where
  abbrev asked : Asked
  asked = Write address byte

  cleared : clears c asked ≡ cond (eqb c.setup 0) (cond (eqb byte 0x50) (cond (is_absent c.outer) (is_absent c.inner) false) false) false
  cleared = rw x (four (eqb c.setup 0) (eqb byte 0x50) (is_absent c.outer) (is_absent c.inner))

  left_unconfirmed : leaves_unconfirmed c asked ≡ unconfirmed c.setup byte
  unfolding unconfirmed
  left_unconfirmed = rw x (two (eqb c.setup 2) (not (eqb byte 0xD0)))

  judged_here : eqb c.setup 0 ≡ false → unconfirmed c.setup byte ≡ false → is_judged c asked ≡ true
  unfolding unconfirmed
  judged_here n u =
      rw (x, n) (two true (cond (eqb c.setup 2) (eqb byte 0xD0) true) ∙ confirmed (ask (eqb c.setup 2)) (ask (eqb byte 0xD0)))
    where
      confirmed : Answer (eqb c.setup 2) → Answer (eqb byte 0xD0) → cond (eqb c.setup 2) (eqb byte 0xD0) true ≡ true
      confirmed (yes a) (yes b) = rw (a, b)
      confirmed (yes a) (no b) = clash (sym (rw (a, b) at u))
      confirmed (no a) b = rw a

  unjudged_unset : eqb c.setup 0 ≡ true → is_judged c asked ≡ false
  unjudged_unset n = rw (x, n) (two false (cond (eqb c.setup 2) (eqb byte 0xD0) true))

  unjudged_unconfirmed : unconfirmed c.setup byte ≡ true → is_judged c asked ≡ false
  unfolding unconfirmed
  unjudged_unconfirmed u = pick (ask (eqb c.setup 2)) (ask (eqb byte 0xD0))
    where
      pick : Answer (eqb c.setup 2) → Answer (eqb byte 0xD0) → is_judged c asked ≡ false
      pick (yes a) (yes b) = clash (rw (a, b) at u)
      pick (yes a) (no b) = rw (x, eqb-true c.setup 2 a, b) (two true false)
      pick (no a) b = clash (rw a at u)

  unset_confirmed : eqb c.setup 0 ≡ true → unconfirmed c.setup byte ≡ false
  unfolding unconfirmed
  unset_confirmed n = rw (eqb-true c.setup 0 n)

  written : (written_of c ts sample (lock_of locks (array_address address)) (array_address address) byte).after.errors ≡ ErrorsSaid c.errors c locks sample asked
  written =
      laws.written_errors c ts sample (lock_of locks (array_address address)) (array_address address) byte
      ∙ pick (ask (eqb c.setup 0)) (ask (unconfirmed c.setup byte))
    where
      pick : Answer (eqb c.setup 0)
          → Answer (unconfirmed c.setup byte)
          → cond (eqb c.setup 0) (cond (cond (laws.is_ready_row (condition_of c)) (eqb byte 0x50) false) 0 c.errors)
          (bit_or c.errors (cond (unconfirmed c.setup byte) 0x30 (laws.bits_of (judgement c locks sample address))))
          ≡ ErrorsSaid c.errors c locks sample asked
      pick (yes n) u =
          rw (cleared, left_unconfirmed, unjudged_unset n, unset_confirmed n, n, ready_row c)
          (outside (eqb byte 0x50) (cond (is_absent c.outer) (is_absent c.inner) false) c.errors)
      pick (no n) (yes u) = rw (cleared, left_unconfirmed, n, u)
      pick (no n) (no u) =
          rw (cleared, left_unconfirmed, judged_here n u, n, u) (ap (bit_or c.errors) (fails c locks sample address byte))

-- a byte written to an address, as the controller sees it
reached_array : (d : Device) (sample address byte : ℕ)
    → is_array address ≡ true
    → (reached_of d sample address byte).after.controller
    ≡ (written_of d.controller d.times sample (lock_of d.locks (array_address address)) (array_address address) byte).after
unfolding reached_of
reached_array d sample address byte x = rw x

reached_register : (d : Device) (sample address byte : ℕ) → is_array address ≡ false → (reached_of d sample address byte).after.controller ≡ d.controller
unfolding reached_of
reached_register d sample address byte x = rw x

-- the bus's part of a clock, whatever the frame has come to ask
module _ (d : Device) (late : List ℕ) (sample : ℕ) where
  abbrev After : ℕ → Asked → Type 0
  After e asked = (answered_to asked d late sample).after.controller.errors ≡ ErrorsSaid e d.controller d.locks sample asked

  answered_errors : (asked : Asked) → After d.controller.errors asked
  answered_errors Silent = sym (unwritten d.controller d.locks sample Silent (λ t. refl))
  answered_errors (Read address) = sym (unwritten d.controller d.locks sample (Read address) (λ t. refl))
  answered_errors (Write address byte) = pick (ask (is_array address))
    where
      pick : Answer (is_array address) → After d.controller.errors (Write address byte)
      pick (yes x) =
          ap (λ (c : Controller). c.errors) (reached_array d sample address byte x)
          ∙ written d.controller d.times d.locks sample address byte x
      pick (no x) =
          ap (λ (c : Controller). c.errors) (reached_register d sample address byte x)
          ∙ sym (unwritten d.controller d.locks sample (Write address byte) (λ t. rw x))

  errors_from : (e : ℕ) → d.controller.errors ≡ e → (asked : Asked) → After e asked
  errors_from e h asked = subst (λ (x : ℕ). After x asked) h (answered_errors asked)

-- the controller's clock leaves them
pub clocked_errors : (c : Controller) → (controller_clock c).after.errors ≡ c.errors
unfolding controller_clock replaced
clocked_errors c = pick (ask (is_still (active c))) (ask (is_absent c.inner))
  where
    pick : Answer (is_still (active c)) → Answer (is_absent c.inner) → (controller_clock c).after.errors ≡ c.errors
    pick (yes m) i = rw m
    pick (no m) (yes i) = rw (m, i)
    pick (no m) (no i) = rw (m, i)

reset_errors : (c : Controller) → (reset_of c).errors ≡ 0
unfolding reset_of
reset_errors c = refl

pub error_bits : ErrorBits
unfolding ErrorBits device_clock served_of reset_device
error_bits d image sample = pick (ask (is_reset sample))
  where
    pick : Answer (is_reset sample)
        → (device_clock d image sample).device.controller.errors
        ≡ cond (is_reset sample) 0 (ErrorsSaid d.controller.errors (after_controller d).controller d.locks sample (asked_on d sample))
    pick (yes r) = rw (r, reset_errors d.controller)
    pick (no r) =
        rw r
        (errors_from (with_frame (after_controller d) (frame_clock d.part d.straps d.frame sample)) (applied (controller_clock d.controller).effect image) sample d.controller.errors (clocked_errors d.controller) (asked_on d sample))

-- ---- What falls out of a judgement

module _ (c : Controller) (ts : Times) (locks : List ℕ) (sample address byte : ℕ) (x : is_array address ≡ true) where
  written_bits : laws.verdict_bits (written_of c ts sample (lock_of locks (array_address address)) (array_address address) byte).verdict
      ≡ cond (is_judged c (Write address byte)) (failure c locks sample (Write address byte)) 0
  unfolding written_of
  written_bits = pick (ask (eqb c.setup 0)) (ask (unconfirmed c.setup byte))
    where
      pick : Answer (eqb c.setup 0)
          → Answer (unconfirmed c.setup byte)
          → laws.verdict_bits (written_of c ts sample (lock_of locks (array_address address)) (array_address address) byte).verdict
          ≡ cond (is_judged c (Write address byte)) (failure c locks sample (Write address byte)) 0
      pick (yes n) u = rw (unjudged_unset c ts locks sample address byte x n, n)
      pick (no n) (yes u) = rw (unjudged_unconfirmed c ts locks sample address byte x u, n, u)
      pick (no n) (no u) = rw (judged_here c ts locks sample address byte x n u, n, u) (fails c locks sample address byte)

reached_verdict : (d : Device) (sample address byte : ℕ)
    → is_array address ≡ true
    → (reached_of d sample address byte).verdict
    ≡ (written_of d.controller d.times sample (lock_of d.locks (array_address address)) (array_address address) byte).verdict
unfolding reached_of
reached_verdict d sample address byte x = rw x

register_verdict : (d : Device) (sample address byte : ℕ) → is_array address ≡ false → (reached_of d sample address byte).verdict ≡ None
unfolding reached_of
register_verdict d sample address byte x = rw x

answered_bits : (d : Device) (late : List ℕ) (sample : ℕ) (asked : Asked)
    → laws.verdict_bits (answered_to asked d late sample).verdict ≡ cond (is_judged d.controller asked) (failure d.controller d.locks sample asked) 0
answered_bits d late sample Silent = rw (unwritten_unjudged d.controller d.locks sample Silent (λ t. refl))
answered_bits d late sample (Read address) = rw (unwritten_unjudged d.controller d.locks sample (Read address) (λ t. refl))
answered_bits d late sample (Write address byte) = pick (ask (is_array address))
  where
    pick : Answer (is_array address)
        → laws.verdict_bits (answered_to (Write address byte) d late sample).verdict
        ≡ cond (is_judged d.controller (Write address byte)) (failure d.controller d.locks sample (Write address byte)) 0
    pick (yes x) = ap laws.verdict_bits (reached_verdict d sample address byte x) ∙ written_bits d.controller d.times d.locks sample address byte x
    pick (no x) =
        ap laws.verdict_bits (register_verdict d sample address byte x)
        ∙ sym (rw (unwritten_unjudged d.controller d.locks sample (Write address byte) (λ t. rw x)))

pub verdict_bits_lem : (d : Device) (image : List ℕ) (sample : ℕ)
    → laws.verdict_bits (device_clock d image sample).happened.verdict
    ≡ cond (is_reset sample) 0
    (cond (is_judged (after_controller d).controller (asked_on d sample)) (failure (after_controller d).controller d.locks sample (asked_on d sample)) 0)
unfolding device_clock served_of
verdict_bits_lem d image sample = pick (ask (is_reset sample))
  where
    pick : Answer (is_reset sample)
        → laws.verdict_bits (device_clock d image sample).happened.verdict
        ≡ cond (is_reset sample) 0
        (cond (is_judged (after_controller d).controller (asked_on d sample)) (failure (after_controller d).controller d.locks sample (asked_on d sample)) 0)
    pick (yes r) = rw r
    pick (no r) =
        rw r
        (answered_bits (with_frame (after_controller d) (frame_clock d.part d.straps d.frame sample)) (applied (controller_clock d.controller).effect image) sample (asked_on d sample))

-- ---- How an operation starts, pauses and resumes

-- an operation as it is accepted
accepts : (ts : Times) (setup address byte : ℕ) → accepted_of ts setup (array_address address) byte ≡ accepted_as ts setup (Write address byte)
unfolding accepted_of in_clocks
accepts ts setup address byte = elim (ask (eqb setup 1)) [ yes e ↦ rw e | no e ↦ rw e ]

abbrev Begun : Controller → Operation → Controller
Begun c o = controller c.mode c.errors 0 c.marks (cond (is_absent c.outer) o c.outer) (cond (is_absent c.outer) c.inner o)

begins : (c : Controller) (o : Operation) → starting c o ≡ Begun c o
unfolding starting
begins c o = elim (ask (is_absent c.outer)) [ yes e ↦ rw e | no e ↦ rw e ]

-- a setup that ends with nothing started
abbrev Unstarted : Controller → Controller → Type 0
Unstarted c n = n ≡ controller c.mode n.errors 0 c.marks c.outer c.inner

fails_plainly : (c : Controller) (bits : ℕ) → Unstarted c (failing c bits)
unfolding failing
fails_plainly c bits = refl

-- by the judgement: granted just where no bit is to be set
answered_said : (j : Result Unit Denial) (c : Controller) (o : Operation)
    → cond (eqb (laws.bits_of j) 0) (answered j c o ≡ Begun c o) (Unstarted c (answered j c o))
answered_said (Ok u) c o = begins c o
answered_said (Err Voltage) c o = fails_plainly c 0x08
answered_said (Err Pin) c o = fails_plainly c 0x02
answered_said (Err Lock) c o = fails_plainly c 0x02
answered_said (Err Suspended) c o = fails_plainly c 0x10

-- what a command makes of the operation that stands, by the rows and by what stands
commands : (c : Controller) (address byte : ℕ)
    → cond (cond (laws.is_running_row (condition_of c)) (eqb byte 0xB0) false) (with_pause c.outer 1 (in_clocks c.outer.times.pause))
    (cond (cond (laws.is_suspended_row (condition_of c)) (eqb byte 0xD0) false) (with_pause c.outer 0 c.outer.pause) c.outer)
    ≡ commanded c (Write address byte)
unfolding in_clocks
commands c address byte =
    rw (laws.running_row c, laws.suspended_row c)
    (pick (ask (is_absent c.inner)) (ask (is_absent c.outer)) (ask (is_running c.outer)) (ask (is_pausing c.outer)) (ask (eqb byte 0xB0)) (ask (eqb byte 0xD0)))
  where
    pick : Answer (is_absent c.inner)
        → Answer (is_absent c.outer)
        → Answer (is_running c.outer)
        → Answer (is_pausing c.outer)
        → Answer (eqb byte 0xB0)
        → Answer (eqb byte 0xD0)
        → cond (cond (cond (is_absent c.inner) (cond (is_absent c.outer) false (is_running c.outer)) false) (eqb byte 0xB0) false) (with_pause c.outer 1 (clocks (c.outer.times.pause.0 * 33)))
        (cond (cond (cond (is_absent c.inner) (cond (is_absent c.outer) false (cond (is_running c.outer) false (cond (is_pausing c.outer) false true))) false) (eqb byte 0xD0) false) (with_pause c.outer 0 c.outer.pause) c.outer)
        ≡ commanded c (Write address byte)
    pick (no i) o r p x y = rw i
    pick (yes i) (yes o) r p x y = rw (i, o)
    pick (yes i) (no o) (yes r) p (yes x) y = rw (i, o, r, x)
    pick (yes i) (no o) (yes r) p (no x) (yes y) = rw (i, o, r, x, y)
    pick (yes i) (no o) (yes r) p (no x) (no y) = rw (i, o, r, x, y)
    pick (yes i) (no o) (no r) (yes p) (yes x) (yes y) = rw (i, o, r, p, x, y)
    pick (yes i) (no o) (no r) (yes p) (yes x) (no y) = rw (i, o, r, p, x, y)
    pick (yes i) (no o) (no r) (yes p) (no x) (yes y) = rw (i, o, r, p, x, y)
    pick (yes i) (no o) (no r) (yes p) (no x) (no y) = rw (i, o, r, p, x, y)
    pick (yes i) (no o) (no r) (no p) (yes x) (yes y) = rw (i, o, r, p, x, y)
    pick (yes i) (no o) (no r) (no p) (yes x) (no y) = rw (i, o, r, p, x, y)
    pick (yes i) (no o) (no r) (no p) (no x) (yes y) = rw (i, o, r, p, x, y)
    pick (yes i) (no o) (no r) (no p) (no x) (no y) = rw (i, o, r, p, x, y)

-- what is said of the controller n after the bus's part of a clock
abbrev StartSaid : Controller → Times → List ℕ → ℕ → Asked → Controller → Type 0
StartSaid c ts locks sample asked n =
    cond (writes_to_array (λ (byte : ℕ). true) asked)
    (cond (eqb c.setup 0) ((n.outer ≡ commanded c asked) × (n.inner ≡ c.inner) × (n.marks ≡ c.marks))
    (cond (is_judged c asked && eqb (failure c locks sample asked) 0) (n ≡ Begun c (accepted_as ts c.setup asked)) (Unstarted c n)))
    (n ≡ c)

module _ (c : Controller) (ts : Times) (locks : List ℕ) (sample address byte : ℕ) (x : is_array address ≡ true) where
  abbrev later : Controller
  later = (written_of c ts sample (lock_of locks (array_address address)) (array_address address) byte).after

  unset_said : eqb c.setup 0 ≡ true → StartSaid c ts locks sample (Write address byte) later
  unset_said n =
      rw (x, n)
      (laws.commanded_outer c ts sample (lock_of locks (array_address address)) (array_address address) byte n ∙ commands c address byte, laws.commanded_inner c ts sample (lock_of locks (array_address address)) (array_address address) byte n, laws.written_marks c ts sample (lock_of locks (array_address address)) (array_address address) byte)

  failed_later : eqb c.setup 0 ≡ false → unconfirmed c.setup byte ≡ true → failing c 0x30 ≡ (written_of c ts sample (lock_of locks (array_address address)) (array_address address) byte).after
  unfolding written_of
  failed_later n u = rw (n, u)

  judged_later : eqb c.setup 0 ≡ false
      → unconfirmed c.setup byte ≡ false
      → answered (judgement c locks sample address) c (accepted_of ts c.setup (array_address address) byte) ≡ (written_of c ts sample (lock_of locks (array_address address)) (array_address address) byte).after
  unfolding written_of
  judged_later n u = rw (n, u)

  set_said : eqb c.setup 0 ≡ false → StartSaid c ts locks sample (Write address byte) later
  set_said n = pick (ask (unconfirmed c.setup byte))
    where
      failed : unconfirmed c.setup byte ≡ true → StartSaid c ts locks sample (Write address byte) (failing c 0x30)
      failed u = rw (unjudged_unconfirmed c ts locks sample address byte x u, x, n) (fails_plainly c 0x30)

      judged_so : unconfirmed c.setup byte ≡ false
          → StartSaid c ts locks sample (Write address byte) (answered (judgement c locks sample address) c (accepted_of ts c.setup (array_address address) byte))
      judged_so u =
          rw (judged_here c ts locks sample address byte x n u, x, n, ← fails c locks sample address byte, ← accepts ts c.setup address byte)
          (answered_said (judgement c locks sample address) c (accepted_of ts c.setup (array_address address) byte))

      pick : Answer (unconfirmed c.setup byte) → StartSaid c ts locks sample (Write address byte) later
      pick (yes u) = subst (StartSaid c ts locks sample (Write address byte)) (failed_later n u) (failed u)
      pick (no u) = subst (StartSaid c ts locks sample (Write address byte)) (judged_later n u) (judged_so u)

answered_start : (d : Device) (late : List ℕ) (sample : ℕ) (asked : Asked)
    → StartSaid d.controller d.times d.locks sample asked (answered_to asked d late sample).after.controller
answered_start d late sample Silent = refl
answered_start d late sample (Read address) = refl
answered_start d late sample (Write address byte) = pick (ask (is_array address)) (ask (eqb d.controller.setup 0))
  where
    pick : Answer (is_array address)
        → Answer (eqb d.controller.setup 0)
        → StartSaid d.controller d.times d.locks sample (Write address byte) (answered_to (Write address byte) d late sample).after.controller
    pick (yes x) (yes n) =
        subst (StartSaid d.controller d.times d.locks sample (Write address byte)) (sym (reached_array d sample address byte x))
        (unset_said d.controller d.times d.locks sample address byte x n)
    pick (yes x) (no n) =
        subst (StartSaid d.controller d.times d.locks sample (Write address byte)) (sym (reached_array d sample address byte x))
        (set_said d.controller d.times d.locks sample address byte x n)
    pick (no x) n = rw x (reached_register d sample address byte x)

pub starts : Starts
unfolding Starts device_clock served_of
starts d image sample r =
    rw r
    (answered_start (with_frame (after_controller d) (frame_clock d.part d.straps d.frame sample)) (applied (controller_clock d.controller).effect image) sample (asked_on d sample))

-- ---- How one counts

is_last_of : (o : Operation) → is_still o ≡ false → is_last o ≡ cond (ltb 1 o.left.0) false (cond (is_program o) true (not (ltb 1 o.slices)))
unfolding is_last is_still
is_last_of o m = let a = moving o m in rw (a, rw a at m)

-- the pause after the count
pausing : (o n : Operation) → n ≡ paused_of o
    → (is_pausing o ≡ false → (n.state ≡ o.state) × (n.pause ≡ o.pause))
    × (is_pausing o ≡ true → 1 < o.pause.0 → (n.state ≡ 1) × (n.pause.0 ≡ o.pause.0 - 1))
    × (is_pausing o ≡ true → o.pause.0 ≤ 1 → n.state ≡ 2)
pausing o n e = (
  λ p. rw (e, due.unpaused o p) (refl, refl),
  λ p l.
      rw (e, due.pause_counted o p (lt-ltb 1 o.pause.0 l)) (eqb-true o.state 1 p, refl),
  λ p l.
      rw (e, due.pause_ended o p (le-ltb 1 o.pause.0 l)),
)

counts_on : (o : Operation) → is_still o ≡ false → CountsOn o (operation_clock o).after
counts_on o m = pick (ask (ltb 1 o.left.0)) (ask (is_program o)) (ask (ltb 1 o.slices))
  where
    last : is_last o ≡ cond (ltb 1 o.left.0) false (cond (is_program o) true (not (ltb 1 o.slices)))
    last = is_last_of o m

    over : ltb 1 o.left.0 ≡ false → is_last o ≡ true → (operation_clock o).after ≡ absent → CountsOn o (operation_clock o).after
    over l z e =
        record {
          ends = λ k. e;
          stays = λ k. clash (sym k ∙ z);
          counts = λ h. clash (sym l ∙ lt-ltb 1 o.left.0 h);
          slices = λ h k. clash (sym k ∙ z);
          runs = λ k. clash (sym k ∙ z);
          pauses = λ k. clash (sym k ∙ z);
          suspends = λ k. clash (sym k ∙ z);
        }

    pick : Answer (ltb 1 o.left.0) → Answer (is_program o) → Answer (ltb 1 o.slices) → CountsOn o (operation_clock o).after
    pick (yes l) p s =
        let n = with_left o o.slices (clocks (o.left.0 - 1)) in
        let k = paused_same n in
        let q = pausing n (operation_clock o).after (due.counted o l) in
        let z : is_last o ≡ false = last ∙ rw l in
        record {
          ends = λ t. clash (sym z ∙ t);
          stays = λ t. rw (due.counted o l) (k.kind, k.address, k.byte, k.times);
          counts = λ h. rw (due.counted o l) (ap (λ (x : _). x.0) k.left, k.slices);
          slices = λ h t. clash (sym (le-ltb 1 o.left.0 h) ∙ l);
          runs = λ t. q.0;
          pauses = λ t. q.1;
          suspends = λ t. q.2;
        }
    pick (no l) (yes p) s = over l (last ∙ rw (l, p)) (due.program_ended o l p)
    pick (no l) (no p) (yes s) =
        let n = with_left o (o.slices - 1) (clocks (o.times.slice.0 * 33)) in
        let k = paused_same n in
        let q = pausing n (operation_clock o).after (due.next_slice o l p s) in
        let z : is_last o ≡ false = last ∙ rw (l, p, s) in
        record {
          ends = λ t. clash (sym z ∙ t);
          stays = λ t. rw (due.next_slice o l p s) (k.kind, k.address, k.byte, k.times);
          counts = λ h. clash (sym l ∙ lt-ltb 1 o.left.0 h);
          slices = λ h t. rw (due.next_slice o l p s) (ap (λ (x : _). x.0) k.left, k.slices);
          runs = λ t. q.0;
          pauses = λ t. q.1;
          suspends = λ t. q.2;
        }
    pick (no l) (no p) (no s) = over l (last ∙ rw (l, p, s)) (due.erase_ended o l p s)

pub counts : Counts
unfolding Counts controller_clock replaced
counts d = (λ m. rw m, λ m. pick m (ask (is_absent d.controller.inner)) (counts_on (active d.controller) m))
  where
    pick : is_still (active d.controller) ≡ false
        → Answer (is_absent d.controller.inner)
        → CountsOn (active d.controller) (operation_clock (active d.controller)).after
        → CountsOn (active d.controller) (cond (is_absent d.controller.inner) (after_controller d).controller.outer (after_controller d).controller.inner)
        × (cond (is_absent d.controller.inner) (after_controller d).controller.inner (after_controller d).controller.outer ≡ cond (is_absent d.controller.inner) d.controller.inner d.controller.outer)
        × ((after_controller d).controller.mode ≡ d.controller.mode)
        × ((after_controller d).controller.errors ≡ d.controller.errors)
        × ((after_controller d).controller.setup ≡ d.controller.setup)
    pick m (yes i) k = rw (m, i) (k, refl, refl, refl, refl)
    pick m (no i) k = rw (m, i) (k, refl, refl, refl, refl)

pub times_bind_later : TimesBindLater
unfolding TimesBindLater
times_bind_later d image program slice pause sample ts =
    let k = fixed d image sample in
    ((set_keeps d program slice pause).controller, sym (alone d.part d.straps d.locks d.locks d.times ts d.frame (unset d).controller image sample sample refl refl), k.part, k.straps, k.times)

-- ---- What it does to the array

pub image_changes : ImageChanges
unfolding ImageChanges image_after controller_clock
image_changes d image sample = (still (ask (is_reset sample)), other (ask (is_reset sample)) (ask (is_still (active d.controller))))
  where
    still : Answer (is_reset sample) → is_still (active d.controller) ≡ true → image_after d image sample ≡ image
    still (yes r) m = rw r
    still (no r) m = rw (r, m)

    other : Answer (is_reset sample)
        → Answer (is_still (active d.controller))
        → (block : ℕ)
        → sound_of d ≡ true
        → length image ≡ 1048576
        → block < 16
        → (block ≡ block_of (active d.controller).address → ⊥)
        → contents block (image_after d image sample) ≡ contents block image
    other (yes r) m block e l h n = rw r
    other (no r) (yes m) block e l h n = rw (r, m)
    other (no r) (no m) block e l h n =
        let f = active_fits d.controller (parts d e).controller (moving (active d.controller) m) in
        let w = fits (active d.controller) f in
        let k : block_of (active d.controller).address < 16 = omega arith in
        rw (r, m) (contents_other block (block_of (active d.controller).address) (operation_clock (active d.controller)).effect image h k n l (operation_clock_in (active d.controller) f))

-- what is due, done to the array
due_applied : (o : Operation) (image : List ℕ)
    → applied (due.due o) image
    ≡ cond (ltb 1 o.left.0) image
    (cond (is_program o) (set image o.address (bit_and (get_or image o.address 0) o.«data»))
    (filled image (block_of o.address * 65536 + (256 - o.slices) * 256) 256 255))
due_applied o image = pick (ask (ltb 1 o.left.0)) (ask (is_program o))
  where
    pick : Answer (ltb 1 o.left.0)
        → Answer (is_program o)
        → applied (due.due o) image
        ≡ cond (ltb 1 o.left.0) image
        (cond (is_program o) (set image o.address (bit_and (get_or image o.address 0) o.«data»))
        (filled image (block_of o.address * 65536 + (256 - o.slices) * 256) 256 255))
    pick (yes l) p = rw l
    pick (no l) (yes p) = rw (l, p)
    pick (no l) (no p) = rw (l, p)

pub effects_due : EffectsDue
unfolding EffectsDue image_after controller_clock
effects_due d image sample r m = rw (r, m, due.effect_due (active d.controller)) (due_applied (active d.controller) image)

-- ---- Reset

pub reset_leaves : ResetLeaves
unfolding ResetLeaves device_clock image_after reset_device reset_of
reset_leaves d image sample r = rw r (refl, refl, refl)

pub fresh_as_reset : FreshAsReset
unfolding FreshAsReset reset_device fresh_of reset_of marked_by
fresh_as_reset part straps ts = (refl, refl)
