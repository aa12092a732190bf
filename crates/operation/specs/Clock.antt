-- Document 01, step 2 of "One clock, in order": what one clock does to the controller, and the effect it has on the
-- array. A function of the controller alone: no pin, no voltage, no lock register. Assumes nothing.
use Rattle.std.specs.Prelude.{ℕ, ◌+◌, ◌-◌, ◌*◌, Bool, true, false, cond, ltb}
use Rattle.units.specs.Units.{clocks, in_clocks}
use Rattle.record.specs.declared.Operation.{Operation}
use Rattle.record.specs.declared.Controller.{Controller}
use Rattle.record.specs.Record.{is_absent, is_program, is_erase, is_pausing, is_suspended, with_pause, with_left, absent, block_of}
use Rattle.effect.specs.declared.Effect.{Effect}
use Rattle.effect.specs.declared.Effect.TheVariants.{Nothing, Program, Fill}
use Rattle.operation.specs.declared.Counted.{Counted}
use Rattle.operation.specs.Marks.{clearing}

-- the operation that counts: a program inside a suspended erase counts while the erase stands still
unfoldable pub active : Controller → Operation
active c = cond (is_absent c.inner) c.outer c.inner

-- running and pausing operations count, others stand still
unfoldable pub is_still : Operation → Bool
is_still o = cond (is_absent o) true (is_suspended o)

-- then a pending pause counts one clock and at its end suspends
unfoldable pub paused_of : Operation → Operation
paused_of o =
    cond (is_pausing o)
    (cond (ltb 1 o.pause.0) (with_pause o o.state (clocks (o.pause.0 - 1))) (with_pause o 2 (clocks 0)))
    o

-- an erase is 256 slices of 256 bytes, lowest first (house)
unfoldable pub slice_at : Operation → ℕ
slice_at o = block_of o.address * 65536 + (256 - o.slices) * 256

-- what is there after a clock, what the clock did to the array, and whether an operation finished
abbrev pub with_effect : {T : Type 0} → T → Effect → Bool → Counted T
with_effect x e finished = record { after = x; effect = e; finished = finished }

-- an operation counts one clock. A program stores its byte on its last clock; an erase fills a slice at the end of
-- the slice's time. An operation that ends on this clock is finished, and a pause that it had is dropped with it
unfoldable pub operation_clock : Operation → Counted Operation
operation_clock o =
    cond (ltb 1 o.left.0) (with_effect (paused_of (with_left o o.slices (clocks (o.left.0 - 1)))) Nothing false)
    (cond (is_program o) (with_effect absent (Program o.address o.«data») true)
    (cond (ltb 1 o.slices)
    (with_effect (paused_of (with_left o (o.slices - 1) (in_clocks o.times.slice))) (Fill (slice_at o) 256 255) false)
    (with_effect absent (Fill (slice_at o) 256 255) true)))

-- a finished erase removes its block's mark, and nothing else does
unfoldable pub marks_after : ℕ → Operation → Bool → ℕ
marks_after marks o finished = cond finished (cond (is_erase o) (clearing marks (block_of o.address)) marks) marks

-- the controller with another active operation and other marks. The end of an operation leaves the mode (4.10 of 004)
unfoldable pub replaced : Controller → Operation → ℕ → Controller
replaced c o marks =
    cond (is_absent c.inner)
    (record { mode = c.mode; errors = c.errors; setup = c.setup; marks = marks; outer = o; inner = c.inner })
    (record { mode = c.mode; errors = c.errors; setup = c.setup; marks = marks; outer = c.outer; inner = o })

abbrev pub with_clocked : Controller → Counted Operation → Counted Controller
with_clocked c t =
    with_effect (replaced c t.after (marks_after c.marks (active c) t.finished)) t.effect t.finished

-- one clock of the controller
unfoldable pub controller_clock : Controller → Counted Controller
controller_clock c = cond (is_still (active c)) (with_effect c Nothing false) (with_clocked c (operation_clock (active c)))
