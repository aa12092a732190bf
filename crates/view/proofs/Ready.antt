-- What the test of a view's arguments tells. Assumes nothing.
use mathlib.Core.Path.{◌≡◌}
use mathlib.Core.Bool.{Bool, true}
use mathlib.Core.List.{List}
use Prim.Native.Nat.{ℕ, ◌<◌}
use borrow.Author.Tests.{eqb-true, ltb-true}
use lib.ListN.{length}
use Rattle.basics.proofs.All.{holds}
use Rattle.record.specs.declared.Device.{Device}
use Rattle.soundness.specs.Sound.{sound_of}
use Rattle.view.specs.Shown.{all_zero, is_zeros, can_show}

pub record Ready (d : Device) (image page : List ℕ) (block : ℕ) : Type 0 where
  pub sound : sound_of d ≡ true
  pub whole : length image ≡ 1048576
  pub among : block < 16
  pub long : length page ≡ 65536
  pub zeros : all_zero page ≡ true

pub ready : (d : Device) (image page : List ℕ) (block : ℕ) → can_show d image page block ≡ true → Ready d image page block
unfolding can_show is_zeros
ready d image page block e =
    record {
      sound = holds _ 0 e;
      whole = eqb-true _ _ (holds _ 1 e);
      among = ltb-true _ _ (holds _ 2 e);
      long = eqb-true _ _ (holds _ 0 (holds _ 3 e));
      zeros = holds _ 1 (holds _ 3 e);
    }

-- the same of an answer that is that test's
pub told : (r : Bool) (d : Device) (image page : List ℕ) (block : ℕ)
    → r ≡ can_show d image page block
    → r ≡ true
    → Ready d image page block
told r d image page block is e = ready d image page block (rw is at e)
