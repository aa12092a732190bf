-- Demand 2 of operations: how one starts, counts, pauses, resumes and ends, what it does to the array, what a reset does, and
-- when marks, error bits and lock registers change. Assumes nothing.
use Rattle.std.specs.Prelude.{ℕ, ◌+◌, ◌-◌, ◌*◌, ◌/◌, ◌%◌, ◌≤◌, ◌<◌, ◌≡◌, Bool, true, false, cond, not, ◌&&◌, ◌||◌, List, [], ◌∷◌, eqb, ltb, length, get_or, set, replicate}
use Rattle.std.specs.Int.Bits.{bit_and, bit_or}
use Rattle.basics.specs.All.{all}
use Rattle.basics.specs.Bytes.{filled}
use Rattle.units.specs.declared.Times.{Times}
use Rattle.units.specs.Units.{clocks}
use Rattle.record.specs.declared.Operation.{Operation}
use Rattle.record.specs.declared.Controller.{Controller}
use Rattle.record.specs.declared.Device.{Device}
use Rattle.record.specs.Record.{is_lpc, device, controller, operation, idle, absent, is_absent, is_program, is_erase, is_running, is_pausing, is_suspended, with_pause, block_of}
use Rattle.record.specs.Sample.{tbl, wp, voltage, is_reset}
use Rattle.part.specs.Fresh.{fresh_of}
use Rattle.soundness.specs.Sound.{sound_of}
use Rattle.power.specs.Power.{with_times, times_set}
use Rattle.operation.specs.Marks.{marked}
use Rattle.operation.specs.Clock.{active, is_still}
use Rattle.bus.specs.declared.Asked.{Asked}
use Rattle.bus.specs.declared.Asked.TheVariants.{Nothing, Read, Write}
use Rattle.bus.specs.Frames.{frame_clock, asked_of}
use Rattle.access.specs.Read.{is_array, array_address}
use Rattle.access.specs.Write.{with_controller}
use Rattle.clock.specs.Clock.{reset_device, after_controller, device_clock, image_after}
use Rattle.demands.specs.History.{is_on, op_of, is_last, contents}

-- the device outside a setup
abbrev pub unset : Device → Device
unset d =
    let c = d.controller in
    with_controller d (controller c.mode c.errors 0 c.marks c.outer c.inner)

-- what the frame has come to ask on this clock
abbrev pub asked_on : Device → ℕ → Asked
asked_on d sample = asked_of (frame_clock d.part d.straps d.frame sample)

-- a byte that passes a test is written to the array
abbrev pub writes_to_array : (ℕ → Bool) → Asked → Bool
writes_to_array test Nothing = false
writes_to_array test (Read address) = false
writes_to_array test (Write address byte) = is_array address && test byte

-- a byte written to the array ends a setup, and after an erase setup it is D0h: permission is judged
abbrev pub is_judged : Controller → Asked → Bool
is_judged c asked =
    all
    (not (eqb c.setup 0)
    ∷ writes_to_array (λ (byte : ℕ). cond (eqb c.setup 2) (eqb byte 0xD0) true) asked
    ∷ [])

-- the error bit that a failed judgement sets, 0 where none fails: voltage class 0; else TBL low for block 15 or WP low for
-- the others, or lock bit 0; else a program into the block of a suspended erase
abbrev pub failure : Controller → List ℕ → ℕ → Asked → ℕ
failure c locks sample Nothing = 0
failure c locks sample (Read address) = 0
failure c locks sample (Write address byte) =
    let block = block_of (array_address address) in
    cond (eqb (voltage sample) 0) 0x08
    (cond (eqb (cond (eqb block 15) (tbl sample) (wp sample)) 0) 0x02
    (cond (eqb (get_or locks block 0 % 2) 1) 0x02
    (cond (eqb c.setup 1 && (is_erase c.outer && (is_suspended c.outer && eqb (block_of c.outer.address) block))) 0x10 0)))

-- an operation as it is accepted: data, block and times copied, all of its clocks to come, 33 for each microsecond
abbrev pub accepted_as : Times → ℕ → Asked → Operation
accepted_as ts setup Nothing = absent
accepted_as ts setup (Read address) = absent
accepted_as ts setup (Write address byte) =
    cond (eqb setup 1) (operation 1 0 byte (array_address address) 0 (ts.program.0 * 33) 0 ts)
    (operation 2 0 byte (array_address address) 256 (ts.slice.0 * 33) 0 ts)

-- what a byte written to the array outside a setup makes of the operation that stands: B0h asks a running one for its pause,
-- by its own copy of the time; D0h resumes a suspended one; while a program is inside a suspended erase, the erase is left
-- alone
abbrev pub commanded : Controller → Asked → Operation
commanded c Nothing = c.outer
commanded c (Read address) = c.outer
commanded c (Write address byte) =
    let o = c.outer in
    cond (is_absent c.inner && not (is_absent o))
    (cond (eqb byte 0xB0 && is_running o) (with_pause o 1 (clocks (o.times.pause.0 * 33)))
    (cond (eqb byte 0xD0 && (not (is_running o) && not (is_pausing o))) (with_pause o 0 o.pause) o))
    o

-- the bus's part of a clock, after the controller's. Where permission is judged and nothing fails, an operation starts, inside
-- a suspended erase where one stands, and the setup ends; else a byte that ends a setup starts nothing. Outside a setup a
-- byte written to the array pauses or resumes what stands, and any other clock leaves the controller as it is
unfoldable pub Starts : Type 0
Starts =
    (d : Device) (image : List ℕ) (sample : ℕ)
    → is_reset sample ≡ false
    → let c = (after_controller d).controller in
    let asked = asked_on d sample in
    let next = (device_clock d image sample).device.controller in
    cond (writes_to_array (λ (byte : ℕ). true) asked)
    (cond (eqb c.setup 0)
    ((next.outer ≡ commanded c asked) × (next.inner ≡ c.inner) × (next.marks ≡ c.marks))
    (cond (is_judged c asked && eqb (failure c d.locks sample asked) 0)
    (next
    ≡ controller c.mode c.errors 0 c.marks
    (cond (is_absent c.outer) (accepted_as d.times c.setup asked) c.outer)
    (cond (is_absent c.outer) c.inner (accepted_as d.times c.setup asked)))
    (next ≡ controller c.mode next.errors 0 c.marks c.outer c.inner)))
    (next ≡ c)

-- one clock of an operation that counts: one clock less is left of it, and the next slice begins when those of this one are
-- over; then its pause counts, which at its end suspends it; when the operation ends it is gone
pub record CountsOn (o next : Operation) : Type 0 where
  pub ends : is_last o ≡ true → next ≡ absent
  pub stays : is_last o ≡ false
      → (next.kind ≡ o.kind) × (next.address ≡ o.address) × (next.«data» ≡ o.«data») × (next.times ≡ o.times)
  pub counts : 1 < o.left.0 → (next.left.0 ≡ o.left.0 - 1) × (next.slices ≡ o.slices)
  pub slices : o.left.0 ≤ 1
      → is_last o ≡ false
      → (next.left.0 ≡ o.times.slice.0 * 33) × (next.slices ≡ o.slices - 1)
  pub runs : is_last o ≡ false → is_pausing o ≡ false → (next.state ≡ o.state) × (next.pause ≡ o.pause)
  pub pauses : is_last o ≡ false → is_pausing o ≡ true → 1 < o.pause.0 → (next.state ≡ 1) × (next.pause.0 ≡ o.pause.0 - 1)
  pub suspends : is_last o ≡ false → is_pausing o ≡ true → o.pause.0 ≤ 1 → next.state ≡ 2

-- the controller's part of a clock: where an operation counts, that one goes on, and mode, error bits, setup and the other
-- operation stay; where none does, all stays
unfoldable pub Counts : Type 0
Counts =
    (d : Device)
    → let c = d.controller in
    let next = (after_controller d).controller in
    (is_still (active c) ≡ true → next ≡ c)
    × (is_still (active c) ≡ false
    → CountsOn (active c) (cond (is_absent c.inner) next.outer next.inner)
    × (cond (is_absent c.inner) next.inner next.outer ≡ cond (is_absent c.inner) c.inner c.outer)
    × (next.mode ≡ c.mode)
    × (next.errors ≡ c.errors)
    × (next.setup ≡ c.setup))

-- set times leaves every operation as it is, and an operation counts, pauses and resumes by its own copy: what a clock outside
-- a setup makes of the controller does not depend on the device's times. And no clock changes part, straps or times
unfoldable pub TimesBindLater : Type 0
TimesBindLater =
    (d : Device) (image : List ℕ) (program slice pause sample : ℕ) (ts : Times)
    → ((times_set d program slice pause).device.controller ≡ d.controller)
    × ((device_clock (with_times (unset d) ts) image sample).device.controller ≡ (device_clock (unset d) image sample).device.controller)
    × ((device_clock d image sample).device.part ≡ d.part)
    × ((device_clock d image sample).device.straps ≡ d.straps)
    × ((device_clock d image sample).device.times ≡ d.times)

-- the image changes only by the operation that counts, and in its own block
unfoldable pub ImageChanges : Type 0
ImageChanges =
    (d : Device) (image : List ℕ) (sample : ℕ)
    → (is_still (active d.controller) ≡ true → image_after d image sample ≡ image)
    × ((block : ℕ)
    → sound_of d ≡ true
    → length image ≡ 1048576
    → block < 16
    → (block ≡ block_of (active d.controller).address → ⊥)
    → contents block (image_after d image sample) ≡ contents block image)

-- and each change has its clock: while a program or a slice has clocks left after this one the image stays; on its last a
-- program stores old AND data, and an erase fills the next of its slices of 256 bytes, lowest first, with FFh
unfoldable pub EffectsDue : Type 0
EffectsDue =
    (d : Device) (image : List ℕ) (sample : ℕ)
    → is_reset sample ≡ false
    → is_still (active d.controller) ≡ false
    → let o = active d.controller in
    image_after d image sample
    ≡ cond (ltb 1 o.left.0) image
    (cond (is_program o) (set image o.address (bit_and (get_or image o.address 0) o.«data»))
    (filled image (block_of o.address * 65536 + (256 - o.slices) * 256) 256 255))

-- reset: nothing is driven, frame and setup are dropped, locks become 01h, mode becomes read array, error bits clear, every
-- operation is gone; part, straps, times and image stay
unfoldable pub ResetLeaves : Type 0
ResetLeaves =
    (d : Device) (image : List ℕ) (sample : ℕ)
    → is_reset sample ≡ true
    → ((device_clock d image sample).device
    ≡ device d.part d.straps (replicate 16 1) d.times idle
    (controller 0 0 0 (device_clock d image sample).device.controller.marks absent absent))
    × ((device_clock d image sample).answer ≡ 0)
    × (image_after d image sample ≡ image)

-- a fresh device is this part with these straps and times, and all else as reset leaves it, with no mark
unfoldable pub FreshAsReset : Type 0
FreshAsReset =
    (part straps : ℕ) (ts : Times)
    → (fresh_of part straps ts ≡ device part straps (replicate 16 1) ts idle (controller 0 0 0 0 absent absent))
    × (reset_device (fresh_of part straps ts) ≡ fresh_of part straps ts)

-- a block is marked by a reset that cuts off an operation on it, unmarked by an erase of it that finishes, and by nothing
-- else is a mark changed
unfoldable pub MarksChange : Type 0
MarksChange =
    (d : Device) (image : List ℕ) (sample block : ℕ)
    → sound_of d ≡ true
    → block < 16
    → let c = d.controller in
    marked (device_clock d image sample).device.controller.marks block
    ≡ cond (is_reset sample) (marked c.marks block || (is_on block c.outer || is_on block c.inner))
    (cond (is_erase (op_of block c) && is_last (op_of block c)) false (marked c.marks block))

-- the clear command: 50h outside a setup, while no operation is there
abbrev pub clears : Controller → Asked → Bool
clears c asked =
    all
    (eqb c.setup 0
    ∷ writes_to_array (λ (byte : ℕ). eqb byte 0x50) asked
    ∷ is_absent c.outer
    ∷ is_absent c.inner
    ∷ [])

-- an erase that is not confirmed: another byte than D0h ends its setup
abbrev pub leaves_unconfirmed : Controller → Asked → Bool
leaves_unconfirmed c asked = all (eqb c.setup 2 ∷ writes_to_array (λ (byte : ℕ). not (eqb byte 0xD0)) asked ∷ [])

-- error bits are cleared by reset and by the clear command; an unconfirmed erase sets bits 4 and 5, a failed judgement its
-- own bit; and everything else leaves them, the start of an operation too
unfoldable pub ErrorBits : Type 0
ErrorBits =
    (d : Device) (image : List ℕ) (sample : ℕ)
    → let c = (after_controller d).controller in
    let asked = asked_on d sample in
    (device_clock d image sample).device.controller.errors
    ≡ cond (is_reset sample) 0
    (cond (clears c asked) 0
    (bit_or d.controller.errors
    (cond (leaves_unconfirmed c asked) 0x30 (cond (is_judged c asked) (failure c d.locks sample asked) 0))))

-- the lock register of a block: FB00002h + b times 10000h; on LPC FF800002h + b times 10000h, with bits 21 and 20 as the
-- straps inverted say
abbrev pub lock_place : ℕ → ℕ → ℕ → ℕ
lock_place part straps block =
    cond (is_lpc part) (0xFF800002 + (3 - straps) * 0x100000 + block * 0x10000) (0xFB00002 + block * 0x10000)

-- a reset makes lock registers 01h; bits 0 to 2 of a byte written to block b's place become block b's while its lock-down bit,
-- bit 1, is 0; and no other clock changes one
abbrev pub writes_to : ℕ → Asked → Bool
writes_to place Nothing = false
writes_to place (Read address) = false
writes_to place (Write address byte) = eqb address place

abbrev pub byte_of : Asked → ℕ
byte_of Nothing = 0
byte_of (Read address) = 0
byte_of (Write address byte) = byte

unfoldable pub LocksChange : Type 0
LocksChange =
    (d : Device) (image : List ℕ) (sample block : ℕ)
    → block < 16
    → length d.locks ≡ 16
    → let asked = asked_on d sample in
    let lock = get_or d.locks block 0 in
    get_or (device_clock d image sample).device.locks block 0
    ≡ cond (is_reset sample) 1
    (cond (writes_to (lock_place d.part d.straps block) asked && eqb (lock / 2 % 2) 0) (byte_of asked % 8) lock)
