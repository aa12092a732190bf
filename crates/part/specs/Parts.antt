-- Document 02, #101: what differs between the two parts, by the part's number. Assumes nothing.
use Rattle.std.specs.Prelude.{ℕ, ◌-◌, cond, eqb}
use Rattle.record.specs.Record.{is_lpc}

-- straps are 0 to 15 on FWH and 0 to 3 on LPC; another part has none
unfoldable pub strap_count : ℕ → ℕ
strap_count part = cond (is_lpc part) 4 (cond (eqb part 0) 16 0)

-- bits 21 and 20 of an LPC address that is for these straps (000, Table 3, which inverts them): 11b for straps 0, 10b for 1,
-- 01b for 2, 00b for 3
abbrev pub window_of : ℕ → ℕ
window_of straps = 3 - straps

-- the device code: 2Dh, and on LPC 2Fh
unfoldable pub device_code : ℕ → ℕ
device_code part = cond (is_lpc part) 0x2F 0x2D
