-- Document 01, "permission is judged once": from the sample of the write that ends the setup and the lock register as it
-- is then. Assumes nothing.
use Rattle.std.specs.Prelude.{ℕ, ◌%◌, Bool, false, cond, eqb, Result, Ok, Err}
use Rattle.record.specs.declared.Operation.{Operation}
use Rattle.record.specs.Record.{is_erase, is_suspended, block_of}
use Rattle.record.specs.Sample.{tbl, wp, voltage}
use Rattle.permission.specs.declared.Denial.{Denial}
use Rattle.permission.specs.declared.Denial.TheVariants.{Voltage, Pin, Lock, Suspended}

-- TBL low for block 15, WP low for the others
unfoldable pub pin_low : ℕ → ℕ → Bool
pin_low sample block = cond (eqb block 15) (eqb (tbl sample) 0) (eqb (wp sample) 0)

-- a program into the suspended block
unfoldable pub into_suspended : ℕ → Operation → ℕ → Bool
into_suspended setup outer address =
    cond (eqb setup 1)
    (cond (is_erase outer) (cond (is_suspended outer) (eqb (block_of outer.address) (block_of address)) false) false)
    false

-- class 0; else the pin or lock bit 0; else the suspended block (house). One failure only
unfoldable pub judged : ℕ → Operation → ℕ → ℕ → ℕ → Result Unit Denial
judged setup outer sample lock address =
    cond (eqb (voltage sample) 0) (Err Voltage)
    (cond (pin_low sample (block_of address)) (Err Pin)
    (cond (eqb (lock % 2) 1) (Err Lock)
    (cond (into_suspended setup outer address) (Err Suspended) (Ok tt))))
