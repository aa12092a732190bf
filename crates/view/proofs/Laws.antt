-- The numbers name what is shown; what is shown is a block's length, and zeros where the block is read-locked.
-- Assumes nothing.
use mathlib.Core.Path.{◌≡◌, refl}
use mathlib.Core.Bool.{Bool, true, false, cond}
use mathlib.Core.List.{List, [], ◌∷◌}
use Prim.Native.Nat.{ℕ, zero, suc, ◌*◌}
use native.Mathlib.Omega.{arith}
use borrow.Author.Tests.{eqb-true}
use lib.Dec.{eqb}
use lib.ListN.{length, get_or, take, drop, length-drop}
use lib.Seq.{length-take-le, take_all}
use Rattle.basics.proofs.Rules.{and_left, and_right, ask, yes, no}
use Rattle.record.specs.declared.Device.{Device}
use Rattle.view.specs.Shown.{all_zero, can_show, read_locked, shown, piece, piece_shown, bytes_named}
use Rattle.view.proofs.Ready.{ready}

-- the part that the numbers name has the bytes shown
named_by : (a b : Bool) (image page : List ℕ) (start size : ℕ)
    → bytes_named (cond a (cond b (piece 2 0 size) (piece 1 start size)) (piece 0 0 0)) image page
    ≡ cond a (cond b (take size page) (take size (drop start image))) []
unfolding bytes_named
named_by true true image page start size = refl
named_by true false image page start size = refl
named_by false b image page start size = refl

zero_at : (xs : List ℕ) (i : ℕ) → all_zero xs ≡ true → get_or xs i 0 ≡ 0
zero_at [] i e = refl
zero_at (x ∷ xs) zero e = eqb-true x 0 (and_left (eqb x 0) (all_zero xs) e)
zero_at (x ∷ xs) (suc i) e = zero_at xs i (and_right (eqb x 0) (all_zero xs) e)

module _ (d : Device) (image page : List ℕ) (block : ℕ) where
  pub named : bytes_named (piece_shown d image page block) image page ≡ shown d image page block
  unfolding piece_shown shown
  named = named_by (can_show d image page block) (read_locked d block) image page (block * 65536) 65536

  -- nothing is shown where nothing can be
  pub shown_none : can_show d image page block ≡ false → shown d image page block ≡ []
  unfolding shown
  shown_none e = rw e

  module _ (e : can_show d image page block ≡ true) where
    -- a block that is read-locked shows the page, and any other itself
    pub shown_locked : read_locked d block ≡ true → shown d image page block ≡ page
    unfolding shown
    shown_locked l =
        let g = ready d image page block e in
        rw (e, l) (take_all 65536 page (omega arith))

    pub shown_open : read_locked d block ≡ false → shown d image page block ≡ take 65536 (drop (block * 65536) image)
    unfolding shown
    shown_open l = rw (e, l)

    -- 65,536 bytes either way
    pub shown_length : length (shown d image page block) ≡ 65536
    shown_length =
        let g = ready d image page block e in
        elim (ask (read_locked d block)) [
          | yes l ↦ rw (shown_locked l) g.long
          | no l ↦ rw (shown_open l) (length-take-le 65536 (drop (block * 65536) image) (rw length-drop (omega arith)))
        ]

    -- and nothing but zeros of a block that is read-locked
    pub shown_zeros : read_locked d block ≡ true → (i : ℕ) → get_or (shown d image page block) i 0 ≡ 0
    shown_zeros l i = rw (shown_locked l) (zero_at page i (ready d image page block e).zeros)
