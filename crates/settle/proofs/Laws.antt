-- What a settle gives: a refusal from 1 to 9 changes nothing, 10 is exactly N samples, and done is the least number of
-- them after which status bit 7 is 1. Assumes nothing.
use mathlib.Core.Path.{◌≡◌, ◌∙◌, sym, refl}
use mathlib.Core.Bool.{Bool, true, false}
use mathlib.Core.List.{List}
use Prim.Native.Nat.{ℕ, ◌≤◌, ◌<◌}
use native.Mathlib.Omega.{arith}
use lib.Dec.{eqb}
use lib.ListN.{length}
use borrow.Author.Tests.{eqb-true, eqb-false}
use Rattle.basics.proofs.Rules.{ask, yes, no}
use Rattle.record.specs.declared.Device.{Device}
use Rattle.record.specs.Sample.{voltage, is_idle_sample}
use Rattle.soundness.specs.Sound.{sound_of}
use Rattle.clock.specs.Fold.{world, repeated}
use Rattle.settle.specs.Settle.{is_ready, settling, settle_number, settled, stop_number, stopped, settled_of, image_settled}
use Rattle.settle.proofs.Turns.{stops}
use Rattle.settle.proofs.Doors.{finishes, refuses}
use Rattle.settle.proofs.Least.{least, exhausted_all}

is_done : (t : Bool) → stop_number t ≡ 0 → t ≡ true
is_done true e = refl
is_done false e = absurd (eqb-false 10 0 refl e)

is_ten : (t : Bool) → stop_number t ≡ 10 → t ≡ false
is_ten false e = refl
is_ten true e = absurd (eqb-false 0 10 refl e)

module _ (d : Device) (image : List ℕ) (sample : ℕ) where
  below_ten : settle_number d image sample < 10
  unfolding settle_number
  below_ten =
      elim (ask (sound_of d)) [
        | yes e ↦ elim (ask (eqb (length image) 1048576)) [
          | yes l ↦ elim (ask (eqb (voltage sample) 3)) [
            | yes v ↦ rw (e, l, v) (omega arith)
            | no v ↦ elim (ask (is_idle_sample sample)) [ yes r ↦ rw (e, l, v, r) (omega arith) | no r ↦ rw (e, l, v, r) (omega arith) ]
          ]
          | no l ↦ rw (e, l) (omega arith)
        ]
        | no e ↦ rw e (omega arith)
      ]

  module _ (limit : ℕ) where
    -- refusals 1 to 9: the device handed in, the image as lent, and no sample done
    pub refused : (settle_number d image sample ≡ 0 → ⊥)
        → (settled_of d image sample limit ≡ settled (settle_number d image sample) 0 d)
        × (image_settled d image sample limit ≡ image)
    refused n = let r = refuses d image sample refl limit n in (sym r.0, sym r.1)

    -- and otherwise all is told by where the repeating stopped
    pub accepted : settle_number d image sample ≡ 0
        → (settled_of d image sample limit ≡ stopped (settling sample limit 0 (world d image)))
        × (image_settled d image sample limit ≡ (settling sample limit 0 (world d image)).world.image)
    accepted n = let f = finishes d image sample refl limit n refl in (sym f.0, sym f.1)

    done_accepted : (settled_of d image sample limit).number ≡ 0 → settle_number d image sample ≡ 0
    unfolding settled_of
    done_accepted p =
        elim (ask (eqb (settle_number d image sample) 0)) [ yes e ↦ eqb-true _ 0 e | no e ↦ rw e at p ]

    ten_accepted : (settled_of d image sample limit).number ≡ 10 → settle_number d image sample ≡ 0
    unfolding settled_of
    ten_accepted p =
        elim (ask (eqb (settle_number d image sample) 0)) [
          | yes e ↦ eqb-true _ 0 e
          | no e ↦
              let q : settle_number d image sample ≡ 10 = rw e at p in
              let b = below_ten in absurd (omega arith)
        ]

    -- 0: the least number of samples after which bit 7 is 1, and the world after them
    pub done : (settled_of d image sample limit).number ≡ 0
        → ((settled_of d image sample limit).count ≤ limit)
        × (world (settled_of d image sample limit).device (image_settled d image sample limit)
        ≡ repeated sample (settled_of d image sample limit).count (world d image))
        × (is_ready (repeated sample (settled_of d image sample limit).count (world d image)).device ≡ true)
        × ((j : ℕ) → j < (settled_of d image sample limit).count → is_ready (repeated sample j (world d image)).device ≡ false)
    done p =
        let a = accepted (done_accepted p) in
        let l = least sample limit (world d image) in
        let r = is_done _ (rw a.0 at p) in
        rw (a.0, a.1) (l.allowed, l.reached, sym l.told ∙ r, l.waited)

    -- 10: all N samples are done, and bit 7 is 0 after every number of them
    pub ten : (settled_of d image sample limit).number ≡ 10
        → ((settled_of d image sample limit).count ≡ limit)
        × (world (settled_of d image sample limit).device (image_settled d image sample limit)
        ≡ repeated sample limit (world d image))
        × ((j : ℕ) → j ≤ limit → is_ready (repeated sample j (world d image)).device ≡ false)
    ten p =
        let a = accepted (ten_accepted p) in
        let x = exhausted_all sample limit (world d image) (is_ten _ (rw a.0 at p)) in
        rw (a.0, a.1) (x.0, x.2, x.1)

    -- 0 samples where bit 7 is 1 already
    pub already : settle_number d image sample ≡ 0
        → is_ready d ≡ true
        → (settled_of d image sample limit ≡ settled 0 0 d) × (image_settled d image sample limit ≡ image)
    already n r =
        let a = accepted n in
        let s = stops sample limit 0 (world d image) r in
        (rw (a.0, s), rw (a.1, s))

  -- N = 0 with bit 7 at 0 gives 10 and count 0
  pub none_allowed : settle_number d image sample ≡ 0
      → is_ready d ≡ false
      → (settled_of d image sample 0 ≡ settled 10 0 d) × (image_settled d image sample 0 ≡ image)
  none_allowed n r = let a = accepted 0 n in (rw (a.0, r), rw a.1)
