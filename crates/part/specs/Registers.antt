-- Document 01, "nineteen registers stand at fixed addresses": on FWH the lock of block b at FB00002h + b times 10000h, inputs at
-- FBC0100h, maker at FBC0000h, device at FBC0001h. Document 02, #101 (000, Table 12): on LPC the lock of block b at FF800002h +
-- b times 10000h and inputs at FF8C0100h, both with bits 21 and 20 as the pins say; no maker and no device. Nothing elsewhere.
-- Assumes nothing.
use Rattle.std.specs.Prelude.{ℕ, zero, suc, ◌+◌, ◌-◌, ◌*◌, Bool, cond, Option, Some, None, List, [], ◌∷◌, ◌++◌, eqb, ltb}
use Rattle.record.specs.Record.{is_lpc}
use Rattle.part.specs.declared.Register.{Register}
use Rattle.part.specs.declared.Register.TheVariants.{Lock, Inputs, MakerCode, DeviceCode}
use Rattle.part.specs.Parts.{window_of}

-- where a part's registers begin
unfoldable pub register_base : ℕ → ℕ → ℕ
register_base part straps = cond (is_lpc part) (0xFF800000 + window_of straps * 0x100000) 0xFB00000

-- a register, and how far above the base it stands
pub record Entry : Type 0 where
  pub at : ℕ
  pub what : Register

abbrev entry : ℕ → Register → Entry
entry offset register = record { at = offset; what = register }

abbrev pub lock_offset : ℕ → ℕ
lock_offset block = 0x00002 + block * 0x10000

-- the locks of n blocks from b on
abbrev locks_from : ℕ → ℕ → List Entry
locks_from b zero = []
locks_from b (suc n) = entry (lock_offset b) (Lock b) ∷ locks_from (suc b) n

-- nineteen on FWH, seventeen on LPC
abbrev pub registers : Bool → List Entry
registers lpc =
    locks_from 0 16
    ++ (entry 0xC0100 Inputs ∷ cond lpc [] (entry 0xC0000 MakerCode ∷ entry 0xC0001 DeviceCode ∷ []))

-- the first of some entries at an offset
abbrev pub first_at : List Entry → ℕ → Option Register
first_at [] offset = None
first_at (e ∷ es) offset = cond (eqb e.at offset) (Some e.what) (first_at es offset)

unfoldable pub register_at : ℕ → ℕ → ℕ → Option Register
register_at part straps address =
    cond (ltb address (register_base part straps)) None
    (first_at (registers (is_lpc part)) (address - register_base part straps))
