-- Document 01, "Commands": the controller's condition, which is the row of the command table, and the status register.
-- Assumes nothing.
use Rattle.std.specs.Prelude.{ℕ, cond}
use Rattle.std.specs.Int.Bits.{bit_or}
use Rattle.record.specs.declared.Controller.{Controller}
use Rattle.record.specs.Record.{is_absent, is_program, is_running, is_pausing}
use Rattle.status.specs.declared.Condition.{Condition}
use Rattle.status.specs.declared.Condition.TheVariants.{Ready, Running, Pausing, ProgramSuspended, EraseSuspended, ProgramInside}

unfoldable pub condition_of : Controller → Condition
condition_of c =
    cond (is_absent c.inner)
    (cond (is_absent c.outer) Ready
    (cond (is_running c.outer) Running
    (cond (is_pausing c.outer) Pausing
    (cond (is_program c.outer) ProgramSuspended EraseSuspended))))
    ProgramInside

-- bit 7 is 0 while running or pausing, a program inside a suspended erase included; bit 6 is 1 while an erase is
-- suspended, that program or not; bit 2 while a program is
abbrev pub condition_bits : Condition → ℕ
condition_bits Ready = 0x80
condition_bits Running = 0
condition_bits Pausing = 0
condition_bits ProgramSuspended = 0x84
condition_bits EraseSuspended = 0xC0
condition_bits ProgramInside = 0x40

-- with the kept error bits 1, 3, 4 and 5; bit 0 is always 0
unfoldable pub status_of : Controller → ℕ
status_of c = bit_or c.errors (condition_bits (condition_of c))
