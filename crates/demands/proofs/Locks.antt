-- When a lock register changes: a reset, and a byte written to its address while its lock-down bit is 0. Assumes nothing.
use Prim.Native.Nat.{ℕ, ◌+◌, ◌-◌, ◌*◌, ◌/◌, ◌%◌, ◌<◌}
use mathlib.Core.Path.{◌≡◌, ◌∙◌, sym, refl, ap}
use mathlib.Core.Bool.{false, cond, ◌&&◌}
use mathlib.Core.List.{List}
use native.Mathlib.Omega.{arith}
use Rattle.std.proofs.Common.{Option, Some, None}
use lib.Dec.{eqb}
use lib.ListN.{length, get_or}
use lib.Seq.{get_or-set_same, get_or-set_other}
use borrow.Author.Tests.{eqb-true, eqb-false, ne_eqb}
use Rattle.basics.proofs.Rules.{Answer, yes, no, ask, clash}
use Rattle.basics.proofs.Table.{at}
use Rattle.record.specs.declared.Device.{Device}
use Rattle.record.specs.Record.{is_lpc}
use Rattle.record.specs.Sample.{is_reset}
use Rattle.part.specs.declared.Register.{Register}
use Rattle.part.specs.declared.Register.TheVariants.{Lock, Inputs, MakerCode, DeviceCode}
use Rattle.part.specs.Registers.{register_base, lock_offset, register_at}
use Rattle.part.proofs.Rule.{lock_stands, lock_at}
use Rattle.effect.specs.Effect.{applied}
use Rattle.operation.specs.Clock.{controller_clock}
use Rattle.bus.specs.declared.Asked.{Asked}
use Rattle.bus.specs.declared.Asked.TheVariants.{Nothing as Silent, Read, Write}
use Rattle.bus.specs.Frames.{frame_clock}
use Rattle.access.specs.Read.{is_array}
use Rattle.access.specs.Write.{stored, lock_written, reached_of}
use Rattle.clock.specs.Clock.{reset_device, with_frame, after_controller, answered_to, served_of, device_clock}
use Rattle.demands.specs.Operations.{asked_on, lock_place, writes_to, byte_of, LocksChange}

-- where the lock register of a block stands: the place is the one that a lookup has, and no part of the array
place : (part straps block : ℕ) → register_base part straps + lock_offset block ≡ lock_place part straps block
unfolding register_base
place part straps block = elim (ask (is_lpc part)) [ yes l ↦ rw l (omega arith) | no l ↦ rw l (omega arith) ]

at_place : (part straps block : ℕ) → block < 16 → register_at part straps (lock_place part straps block) ≡ Some (Lock block)
at_place part straps block h = rw (← place part straps block) (lock_at part straps block h)

outside : (part straps block : ℕ) → block < 16 → is_array (lock_place part straps block) ≡ false
outside part straps block h = pick (ask (is_lpc part))
  where
    pick : Answer (is_lpc part) → is_array (lock_place part straps block) ≡ false
    pick (yes l) = rw l (ne_eqb ((0xFF800002 + (3 - straps) * 0x100000 + block * 0x10000) / 0x400000 % 2) 1 (λ e. omega arith))
    pick (no l) = rw l (ne_eqb ((0xFB00002 + block * 0x10000) / 0x400000 % 2) 1 (λ e. omega arith))

-- a byte that a register takes
module _ (locks : List ℕ) (block byte : ℕ) where
  abbrev lock : ℕ
  lock = get_or locks block 0

  own : block < length locks → get_or (stored locks byte (Some (Lock block))) block 0 ≡ cond (eqb (lock / 2 % 2) 0) (byte % 8) lock
  own h = pick (ask (eqb (lock / 2 % 2) 0))
    where
      pick : Answer (eqb (lock / 2 % 2) 0)
          → get_or (stored locks byte (Some (Lock block))) block 0 ≡ cond (eqb (lock / 2 % 2) 0) (byte % 8) lock
      pick (yes e) = rw e (get_or-set_same locks block (byte % 8) 0 h)
      pick (no e) = rw e

  others : (part straps address : ℕ) (r : Option Register)
      → register_at part straps address ≡ r
      → eqb address (lock_place part straps block) ≡ false
      → get_or (stored locks byte r) block 0 ≡ lock
  others part straps address (Some (Lock b)) e n = pick (ask (eqb (get_or locks b 0 / 2 % 2) 0))
    where
      apart : block ≡ b → ⊥
      apart q = eqb-false address (lock_place part straps block) n (rw q (lock_stands part straps address b e ∙ place part straps b))

      pick : Answer (eqb (get_or locks b 0 / 2 % 2) 0) → get_or (stored locks byte (Some (Lock b))) block 0 ≡ lock
      pick (yes k) = rw k (get_or-set_other locks b block (byte % 8) 0 apart)
      pick (no k) = rw k
  others part straps address (Some Inputs) e n = refl
  others part straps address (Some MakerCode) e n = refl
  others part straps address (Some DeviceCode) e n = refl
  others part straps address None e n = refl

-- the bus's part of a clock
answered_locks : (a : Asked) (d : Device) (late : List ℕ) (s block : ℕ)
    → block < 16
    → length d.locks ≡ 16
    → get_or (answered_to a d late s).after.locks block 0
    ≡ cond (writes_to (lock_place d.part d.straps block) a && eqb (get_or d.locks block 0 / 2 % 2) 0) (byte_of a % 8) (get_or d.locks block 0)
unfolding reached_of lock_written
answered_locks Silent d late s block h l = refl
answered_locks (Read address) d late s block h l = refl
answered_locks (Write address byte) d late s block h l = pick (ask (is_array address)) (ask (eqb address (lock_place d.part d.straps block)))
  where
    pick : Answer (is_array address)
        → Answer (eqb address (lock_place d.part d.straps block))
        → get_or (answered_to (Write address byte) d late s).after.locks block 0
        ≡ cond (eqb address (lock_place d.part d.straps block) && eqb (get_or d.locks block 0 / 2 % 2) 0) (byte % 8) (get_or d.locks block 0)
    pick (yes x) (yes y) = clash (sym (outside d.part d.straps block h) ∙ rw (eqb-true address (lock_place d.part d.straps block) y) at x)
    pick (yes x) (no y) = rw (x, y)
    pick (no x) (yes y) =
        let r = ap (register_at d.part d.straps) (eqb-true address (lock_place d.part d.straps block) y) ∙ at_place d.part d.straps block h in
        rw (x, y, r) (own d.locks block byte (omega arith))
    pick (no x) (no y) = rw (x, y) (others d.locks block byte d.part d.straps address (register_at d.part d.straps address) refl y)

pub locks_change : LocksChange
unfolding LocksChange device_clock reset_device served_of
locks_change d image sample block h l = pick (ask (is_reset sample))
  where
    pick : Answer (is_reset sample)
        → get_or (device_clock d image sample).device.locks block 0
        ≡ cond (is_reset sample) 1
        (cond (writes_to (lock_place d.part d.straps block) (asked_on d sample) && eqb (get_or d.locks block 0 / 2 % 2) 0) (byte_of (asked_on d sample) % 8) (get_or d.locks block 0))
    pick (yes r) = rw r (at (λ (k : ℕ). 1) 16 block 0 h)
    pick (no r) =
        rw r
        (answered_locks (asked_on d sample) (with_frame (after_controller d) (frame_clock d.part d.straps d.frame sample))
        (applied (controller_clock d.controller).effect image) sample block h l)
