-- Document 02, #103, "the rule base plus block times 10000h in place of its table": what stands at an offset from a part's base,
-- computed. The registers of block b stand from b times 10000h on, and from block 16 on there are none; below the base there are
-- none either (part/specs/Registers: register_at). Each block has its
-- lock 0002h above that, and block 12 inputs 0100h above, and on FWH maker and device 0000h and 0001h above. That this finds
-- what the list of a part's registers has is proved (part/proofs/Lookup: ruled). Assumes nothing.
use Rattle.std.specs.Prelude.{ℕ, ◌/◌, ◌%◌, Bool, cond, Option, Some, None, eqb, ltb}
use Rattle.part.specs.declared.Register.{Register}
use Rattle.part.specs.declared.Register.TheVariants.{Lock, Inputs, MakerCode, DeviceCode}

-- a part's own, by the low four digits of their offsets
abbrev own_of : Bool → ℕ → Option Register
own_of lpc low =
    cond (eqb low 0x0100) (Some Inputs)
    (cond lpc None (cond (eqb low 0x0000) (Some MakerCode) (cond (eqb low 0x0001) (Some DeviceCode) None)))

abbrev register_of : Bool → ℕ → ℕ → Option Register
register_of lpc block low = cond (eqb low 0x0002) (Some (Lock block)) (cond (eqb block 12) (own_of lpc low) None)

unfoldable pub register_in : Bool → ℕ → Option Register
register_in lpc offset =
    cond (ltb (offset / 0x10000) 16) (register_of lpc (offset / 0x10000) (offset % 0x10000)) None
