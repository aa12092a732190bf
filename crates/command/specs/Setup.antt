-- Document 01, "The next array write ends a setup": what a byte written to the array does. Assumes nothing.
use Rattle.std.specs.Prelude.{ℕ, Bool, false, cond, not, eqb, Option, Some, None, Result, Ok, Err}
use Rattle.std.specs.Int.Bits.{bit_or}
use Rattle.units.specs.declared.Times.{Times}
use Rattle.units.specs.Units.{clocks, in_clocks}
use Rattle.record.specs.declared.Operation.{Operation}
use Rattle.record.specs.declared.Controller.{Controller}
use Rattle.record.specs.Record.{is_absent, controller}
use Rattle.status.specs.Status.{condition_of}
use Rattle.permission.specs.declared.Denial.{Denial}
use Rattle.permission.specs.declared.Denial.TheVariants.{Voltage, Pin, Lock, Suspended}
use Rattle.command.specs.declared.Judged.{Judged}
use Rattle.command.specs.Commands.{action_of, acted}
use Rattle.permission.specs.Permission.{judged}

-- the operation is accepted with data, block and times copied, all of its clocks still to come
unfoldable pub accepted_of : Times → ℕ → ℕ → ℕ → Operation
accepted_of ts setup address byte =
    cond (eqb setup 1)
    (record {
      kind = 1;
      state = 0;
      «data» = byte;
      address = address;
      slices = 0;
      left = in_clocks ts.program;
      pause = clocks 0;
      times = ts;
    })
    (record {
      kind = 2;
      state = 0;
      «data» = byte;
      address = address;
      slices = 256;
      left = in_clocks ts.slice;
      pause = clocks 0;
      times = ts;
    })

-- it starts, inside a suspended erase where one stands; error bits stay as they are
unfoldable pub starting : Controller → Operation → Controller
starting c o =
    cond (is_absent c.outer) (controller c.mode c.errors 0 c.marks o c.inner)
    (controller c.mode c.errors 0 c.marks c.outer o)

-- nothing starts, and error bits are set
unfoldable pub failing : Controller → ℕ → Controller
failing c bits = controller c.mode (bit_or c.errors bits) 0 c.marks c.outer c.inner

-- one failure sets its own bit only: voltage bit 3, pin and lock register bit 1, suspended block bit 4
abbrev pub answered : Result Unit Denial → Controller → Operation → Controller
answered (Ok u) c o = starting c o
answered (Err Voltage) c o = failing c 0x08
answered (Err Pin) c o = failing c 0x02
answered (Err Lock) c o = failing c 0x02
answered (Err Suspended) c o = failing c 0x10

-- after E, data other than D0h
unfoldable pub unconfirmed : ℕ → ℕ → Bool
unconfirmed setup byte = cond (eqb setup 2) (not (eqb byte 0xD0)) false

-- what a written byte leaves, and the judgement where one was made
abbrev pub with_verdict : {T : Type 0} → T → Option (Result Unit Denial) → Judged T
with_verdict x v = record { after = x; verdict = v }

-- a byte written to the array: outside a setup a command; after E not D0h, bits 4 and 5; otherwise it is judged
unfoldable pub written_of : Controller → Times → ℕ → ℕ → ℕ → ℕ → Judged Controller
written_of c ts sample lock address byte =
    cond (eqb c.setup 0) (with_verdict (acted (action_of (condition_of c) byte) c) None)
    (cond (unconfirmed c.setup byte) (with_verdict (failing c 0x30) None)
    (with_verdict
    (answered (judged c.setup c.outer sample lock address) c (accepted_of ts c.setup address byte))
    (Some (judged c.setup c.outer sample lock address))))
