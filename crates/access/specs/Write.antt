-- Document 01, "only locks can be written" and "The next array write": what a byte written to an address does.
-- Assumes nothing.
use Rattle.std.specs.Prelude.{ℕ, ◌/◌, ◌%◌, cond, Option, Some, None, List, eqb, get_or, set}
use Rattle.record.specs.declared.Controller.{Controller}
use Rattle.record.specs.declared.Device.{Device}
use Rattle.record.specs.Record.{device}
use Rattle.part.specs.declared.Register.{Register}
use Rattle.part.specs.declared.Register.TheVariants.{Lock, Inputs, MakerCode, DeviceCode}
use Rattle.part.specs.Registers.{register_at}
use Rattle.command.specs.declared.Judged.{Judged}
use Rattle.command.specs.Setup.{with_verdict, written_of}
use Rattle.access.specs.Read.{is_array, array_address, lock_of}

-- a lock keeps bits 0-2 of the byte while its lock-down bit (bit 1) is 0; nothing else can be written
abbrev pub stored : List ℕ → ℕ → Option Register → List ℕ
stored locks byte (Some (Lock b)) = cond (eqb (get_or locks b 0 / 2 % 2) 0) (set locks b (byte % 8)) locks
stored locks byte (Some Inputs) = locks
stored locks byte (Some MakerCode) = locks
stored locks byte (Some DeviceCode) = locks
stored locks byte None = locks

unfoldable pub lock_written : ℕ → ℕ → List ℕ → ℕ → ℕ → List ℕ
lock_written part straps locks address byte = stored locks byte (register_at part straps address)

abbrev pub with_controller : Device → Controller → Device
with_controller d c = device d.part d.straps d.locks d.times d.frame c

abbrev pub with_locks : Device → List ℕ → Device
with_locks d locks = device d.part d.straps locks d.times d.frame d.controller

-- what a write to the array does to the controller
abbrev pub array_written : Device → ℕ → ℕ → ℕ → Judged Controller
array_written d sample address byte =
    written_of d.controller d.times sample (lock_of d.locks address) address byte

-- registers work at all times and do not touch a setup
unfoldable pub reached_of : Device → ℕ → ℕ → ℕ → Judged Device
reached_of d sample address byte =
    cond (is_array address)
    (with_verdict
    (with_controller d (array_written d sample (array_address address) byte).after)
    (array_written d sample (array_address address) byte).verdict)
    (with_verdict (with_locks d (lock_written d.part d.straps d.locks address byte)) None)
