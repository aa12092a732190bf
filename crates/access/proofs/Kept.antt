-- A byte written to any address takes a sound device to a sound device. Assumes nothing.
use mathlib.Core.Path.{◌≡◌, refl}
use mathlib.Core.Bool.{true}
use mathlib.Core.List.{List, [], ◌∷◌}
use Prim.Native.Nat.{ℕ, zero, suc, ◌/◌, ◌%◌}
use native.Mathlib.Omega.{arith}
use Rattle.std.proofs.Common.{Option, Some, None}
use lib.Dec.{eqb, ltb}
use lib.ListN.{get_or, set}
use borrow.Author.Tests.{lt-ltb}
use Rattle.basics.proofs.Rules.{Answer, yes, no, ask, and_left, and_right, and_both}
use Rattle.record.specs.declared.Device.{Device}
use Rattle.part.specs.declared.Register.{Register}
use Rattle.part.specs.declared.Register.TheVariants.{Lock, Inputs, MakerCode, DeviceCode}
use Rattle.part.specs.Registers.{register_at}
use Rattle.soundness.specs.Sound.{all_below, sound_of}
use Rattle.soundness.proofs.Clauses.{Parts, parts, joined}
use Rattle.command.proofs.Kept.{written_kept}
use Rattle.access.specs.Read.{is_array, array_address}
use Rattle.access.specs.Write.{stored, lock_written, reached_of}

set_below : (n : ℕ) (xs : List ℕ) (b v : ℕ) → all_below n xs ≡ true → ltb v n ≡ true → all_below n (set xs b v) ≡ true
set_below n [] b v e h = refl
set_below n (x ∷ xs) zero v e h = and_both (ltb v n) (all_below n xs) h (and_right (ltb x n) (all_below n xs) e)
set_below n (x ∷ xs) (suc b) v e h =
    and_both (ltb x n) (all_below n (set xs b v))
    (and_left (ltb x n) (all_below n xs) e)
    (set_below n xs b v (and_right (ltb x n) (all_below n xs) e) h)

-- a lock register keeps bits 0-2 only
stored_below : (locks : List ℕ) (byte : ℕ) (r : Option Register) → all_below 8 locks ≡ true → all_below 8 (stored locks byte r) ≡ true
stored_below locks byte (Some (Lock b)) e = pick (ask (eqb (get_or locks b 0 / 2 % 2) 0))
  where
    pick : Answer (eqb (get_or locks b 0 / 2 % 2) 0) → all_below 8 (stored locks byte (Some (Lock b))) ≡ true
    pick (yes a) = rw a (set_below 8 locks b (byte % 8) e (lt-ltb (byte % 8) 8 (omega arith)))
    pick (no a) = rw a e
stored_below locks byte (Some Inputs) e = e
stored_below locks byte (Some MakerCode) e = e
stored_below locks byte (Some DeviceCode) e = e
stored_below locks byte None e = e

locks_kept : (part straps : ℕ) (locks : List ℕ) (address byte : ℕ) → all_below 8 locks ≡ true → all_below 8 (lock_written part straps locks address byte) ≡ true
unfolding lock_written
locks_kept part straps locks address byte e = stored_below locks byte (register_at part straps address) e

pub reached_kept : (d : Device) (sample address byte : ℕ) → sound_of d ≡ true → sound_of (reached_of d sample address byte).after ≡ true
unfolding reached_of
reached_kept d sample address byte e = pick (ask (is_array address))
  where
    p : Parts d
    p = parts d e

    pick : Answer (is_array address) → sound_of (reached_of d sample address byte).after ≡ true
    pick (yes a) =
        rw a
        (joined _
        (record {
          straps = p.straps;
          locks = p.locks;
          times = p.times;
          frame = p.frame;
          controller = written_kept d.controller d.times sample _ (array_address address) byte p.controller p.times (omega arith);
        }))
    pick (no a) =
        rw a
        (joined _
        (record {
          straps = p.straps;
          locks = locks_kept d.part d.straps d.locks address byte p.locks;
          times = p.times;
          frame = p.frame;
          controller = p.controller;
        }))
