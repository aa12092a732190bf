-- What the numbers of a record stand for. A field of what is absent (no operation, no frame) is never looked at.
-- Assumes nothing.
use Rattle.std.specs.Prelude.{ℕ, ◌/◌, Bool, List, eqb}
use Rattle.units.specs.declared.Clocks.{Clocks}
use Rattle.units.specs.declared.Times.{Times}
use Rattle.units.specs.Units.{clocks, times}
use Rattle.record.specs.declared.Frame.{Frame}
use Rattle.record.specs.declared.Operation.{Operation}
use Rattle.record.specs.declared.Controller.{Controller}
use Rattle.record.specs.declared.Device.{Device}

-- a part: 0 the FWH part, 1 its LPC sister
abbrev pub is_lpc : ℕ → Bool
is_lpc part = eqb part 1

-- a frame's kind: 0 none, 1 read, 2 write, 3 begun, its direction not known yet. Its clock is the last one done, numbered as
-- document 01 numbers them
abbrev pub frame : ℕ → ℕ → ℕ → ℕ → Frame
frame kind clock byte address = record { kind = kind; clock = clock; byte = byte; address = address }

abbrev pub idle : Frame
idle = frame 0 0 0 0

abbrev pub is_idle : Frame → Bool
is_idle f = eqb f.kind 0

abbrev pub is_read : Frame → Bool
is_read f = eqb f.kind 1

abbrev pub is_write : Frame → Bool
is_write f = eqb f.kind 2

abbrev pub is_begun : Frame → Bool
is_begun f = eqb f.kind 3

-- an operation's kind: 0 none, 1 program, 2 erase; its state: 0 running, 1 pausing, 2 suspended
abbrev pub is_absent : Operation → Bool
is_absent o = eqb o.kind 0

abbrev pub is_program : Operation → Bool
is_program o = eqb o.kind 1

abbrev pub is_erase : Operation → Bool
is_erase o = eqb o.kind 2

abbrev pub is_running : Operation → Bool
is_running o = eqb o.state 0

abbrev pub is_pausing : Operation → Bool
is_pausing o = eqb o.state 1

abbrev pub is_suspended : Operation → Bool
is_suspended o = eqb o.state 2

abbrev pub operation : ℕ → ℕ → ℕ → ℕ → ℕ → ℕ → ℕ → Times → Operation
operation kind state byte address slices left pause ts =
    record {
      kind = kind;
      state = state;
      «data» = byte;
      address = address;
      slices = slices;
      left = clocks left;
      pause = clocks pause;
      times = ts;
    }

-- the same operation with another state and pause
abbrev pub with_pause : Operation → ℕ → Clocks → Operation
with_pause o state pause =
    record {
      kind = o.kind;
      state = state;
      «data» = o.«data»;
      address = o.address;
      slices = o.slices;
      left = o.left;
      pause = pause;
      times = o.times;
    }

-- the same operation with another count
abbrev pub with_left : Operation → ℕ → Clocks → Operation
with_left o slices left =
    record {
      kind = o.kind;
      state = o.state;
      «data» = o.«data»;
      address = o.address;
      slices = slices;
      left = left;
      pause = o.pause;
      times = o.times;
    }

abbrev pub absent : Operation
absent = operation 0 0 0 0 0 0 0 (times 0 0 0)

-- the block that an address lies in
abbrev pub block_of : ℕ → ℕ
block_of address = address / 65536

-- mode: 0 array, 1 status, 2 signature; setup: 0 none, 1 program, 2 erase; errors: the kept bits of the status
-- register; marks: bit b is block b's spoiled mark
abbrev pub controller : ℕ → ℕ → ℕ → ℕ → Operation → Operation → Controller
controller mode errors setup marks outer inner =
    record { mode = mode; errors = errors; setup = setup; marks = marks; outer = outer; inner = inner }

abbrev pub device : ℕ → ℕ → List ℕ → Times → Frame → Controller → Device
device part straps locks ts f c =
    record { straps = straps; locks = locks; part = part; times = ts; frame = f; controller = c }
