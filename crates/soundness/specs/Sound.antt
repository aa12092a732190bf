-- Document 01, "A device is sound when", clause by clause, with what document 02, #101, adds for LPC. A tag out of its range is unsound; the fields of what is
-- absent are not looked at. Assumes nothing.
use Rattle.std.specs.Prelude.{ℕ, Bool, true, cond, not, ◌&&◌, List, [], ◌∷◌, eqb, ltb, leb}
use Rattle.std.specs.Int.Bits.{bit_and}
use Rattle.basics.specs.All.{all}
use Rattle.units.specs.declared.Micros.{Micros}
use Rattle.units.specs.declared.Clocks.{Clocks}
use Rattle.units.specs.Units.{in_clocks, times_fit}
use Rattle.record.specs.declared.Frame.{Frame}
use Rattle.record.specs.declared.Operation.{Operation}
use Rattle.record.specs.declared.Controller.{Controller}
use Rattle.record.specs.declared.Device.{Device}
use Rattle.record.specs.Record.{is_lpc, is_idle, is_read, is_write, is_begun, is_absent, is_program, is_erase, is_running, is_pausing, is_suspended, block_of}
use Rattle.part.specs.Parts.{strap_count}
use Rattle.status.specs.declared.Condition.{Condition}
use Rattle.status.specs.declared.Condition.TheVariants.{Ready, Running, Pausing, ProgramSuspended, EraseSuspended, ProgramInside}
use Rattle.status.specs.Status.{condition_of}

-- every number of a list is below n
abbrev pub all_below : ℕ → List ℕ → Bool
all_below n [] = true
all_below n (x ∷ xs) = ltb x n && all_below n xs

-- the clock on which a frame's direction is known: on FWH the first, on LPC the second
unfoldable pub known_from : ℕ → ℕ
known_from part = cond (is_lpc part) 2 1

-- an address has 28 bits, on LPC 32
unfoldable pub address_limit : ℕ → ℕ
address_limit part = cond (is_lpc part) 0x100000000 0x10000000

-- a frame of known direction: from that clock on to its last clock but one, its address no longer than the part's
unfoldable pub stage_fits : ℕ → Frame → ℕ → Bool
stage_fits part f last =
    all (leb (known_from part) f.clock ∷ leb f.clock last ∷ ltb f.address (address_limit part) ∷ [])

-- a frame begun, at clock 1: on LPC alone
unfoldable pub begun_fits : ℕ → Frame → Bool
begun_fits part f = all (is_begun f ∷ is_lpc part ∷ eqb f.clock 1 ∷ ltb f.address (address_limit part) ∷ [])

-- the frame stage is one of those of "Frames": the last clock done of a read is at most 18, of a write 16
unfoldable pub frame_fits : ℕ → Frame → Bool
frame_fits part f =
    cond (is_idle f) true
    (cond (is_read f) (stage_fits part f 18)
    (cond (is_write f) (stage_fits part f 16) (begun_fits part f)))

-- clocks are between 1 and the full number of a time
unfoldable pub counts : Clocks → Micros → Bool
counts c m = all (leb 1 c.0 ∷ leb c.0 (in_clocks m).0 ∷ [])

-- clocks left: of a program's time; of an erase's 256 slices, those still to fill and the clocks of the first of them
unfoldable pub left_fits : Operation → Bool
left_fits o =
    cond (is_program o) (counts o.left o.times.program)
    (all (leb 1 o.slices ∷ leb o.slices 256 ∷ counts o.left o.times.slice ∷ []))

-- running, pausing with pause clocks left, or suspended
unfoldable pub state_fits : Operation → Bool
state_fits o = cond (is_running o) true (cond (is_pausing o) (counts o.pause o.times.pause) (is_suspended o))

-- an operation's address is below 1,048,576, its own times are in range, its clocks are between 1 and their full number
unfoldable pub operation_fits : Operation → Bool
operation_fits o = all (times_fit o.times ∷ ltb o.address 1048576 ∷ left_fits o ∷ state_fits o ∷ [])

unfoldable pub outer_fits : Operation → Bool
outer_fits o = cond (is_absent o) true (all (ltb o.kind 3 ∷ operation_fits o ∷ []))

-- two addresses lie in different blocks
unfoldable pub apart : ℕ → ℕ → Bool
apart a b = not (eqb (block_of a) (block_of b))

-- a program, running, inside a suspended erase of another block
unfoldable pub inside : Operation → Operation → Bool
inside outer inner =
    all
    (is_program inner
    ∷ is_running inner
    ∷ is_erase outer
    ∷ is_suspended outer
    ∷ apart outer.address inner.address
    ∷ operation_fits inner
    ∷ [])

-- nothing beyond one operation exists except that
unfoldable pub inner_fits : Operation → Operation → Bool
inner_fits outer inner = cond (is_absent inner) true (inside outer inner)

-- no setup stands beside a running or pausing operation or a suspended program, nor an erase setup beside a suspended
-- erase: how many of 0 none, 1 program, 2 erase may stand
abbrev pub setup_kinds : Condition → ℕ
setup_kinds Ready = 3
setup_kinds Running = 1
setup_kinds Pausing = 1
setup_kinds ProgramSuspended = 1
setup_kinds EraseSuspended = 2
setup_kinds ProgramInside = 1

-- read mode one of three, kept error bits within 3Ah
unfoldable pub controller_fits : Controller → Bool
controller_fits c =
    all
    (ltb c.mode 3
    ∷ eqb (bit_and c.errors 0x3A) c.errors
    ∷ outer_fits c.outer
    ∷ inner_fits c.outer c.inner
    ∷ ltb c.setup (setup_kinds (condition_of c))
    ∷ [])

-- straps are those that the part allows (0 to 15, on LPC 0 to 3; another part allows none), lock registers 0 to 7, times in
-- range
unfoldable pub sound_of : Device → Bool
sound_of d =
    all
    (ltb d.straps (strap_count d.part)
    ∷ all_below 8 d.locks
    ∷ times_fit d.times
    ∷ frame_fits d.part d.frame
    ∷ controller_fits d.controller
    ∷ [])
