-- Which number a settle gives before it begins, from what its tests found, and what the settle gives where it is 0 and
-- otherwise. Assumes nothing.
use mathlib.Core.Path.{◌≡◌, ◌∙◌, sym, refl}
use mathlib.Core.Bool.{Bool, true, false}
use mathlib.Core.List.{List}
use Prim.Native.Nat.{ℕ}
use lib.Dec.{eqb}
use lib.ListN.{length}
use borrow.Author.Tests.{eq-eqb, ne_eqb, eqb-true, eqb-false}
use Rattle.basics.proofs.Rules.{ask, yes, no}
use Rattle.record.specs.declared.Device.{Device}
use Rattle.record.specs.Sample.{voltage, is_idle_sample}
use Rattle.soundness.specs.Sound.{sound_of}
use Rattle.clock.specs.Fold.{world}
use Rattle.settle.specs.Settle.{stop, settling, settle_number, settled, stop_number, settled_of, image_settled}

module _ (d : Device) (image : List ℕ) (sample : ℕ) where
  pub unsound : sound_of d ≡ false → settle_number d image sample ≡ 1
  unfolding settle_number
  unsound e = rw e

  module _ (e : sound_of d ≡ true) where
    pub mismatched : (length image ≡ 1048576 → ⊥) → settle_number d image sample ≡ 2
    unfolding settle_number
    mismatched l = rw (e, ne_eqb (length image) 1048576 l)

    module _ (l : length image ≡ 1048576) where
      pub overvolted : voltage sample ≡ 3 → settle_number d image sample ≡ 7
      unfolding settle_number
      overvolted v = rw (e, eq-eqb (length image) 1048576 l, eq-eqb (voltage sample) 3 v)

      module _ (v : voltage sample ≡ 3 → ⊥) where
        pub restless : is_idle_sample sample ≡ false → settle_number d image sample ≡ 9
        unfolding settle_number
        restless i = rw (e, eq-eqb (length image) 1048576 l, ne_eqb (voltage sample) 3 v, i)

        pub accepted : is_idle_sample sample ≡ true → settle_number d image sample ≡ 0
        unfolding settle_number
        accepted i = rw (e, eq-eqb (length image) 1048576 l, ne_eqb (voltage sample) 3 v, i)

module _ (d : Device) (image : List ℕ) (sample : ℕ) {number : ℕ} (e : number ≡ settle_number d image sample) where
  -- and back: what all the tests have found where the number is 0
  pub accepts : number ≡ 0 → (sound_of d ≡ true) × ((length image ≡ 1048576) × (is_idle_sample sample ≡ true))
  unfolding settle_number
  accepts n =
      let z = sym e ∙ n in
      elim (ask (sound_of d)) [
        | yes s ↦ elim (ask (eqb (length image) 1048576)) [
          | yes l ↦ elim (ask (eqb (voltage sample) 3)) [
            | yes v ↦ absurd (eqb-false 7 0 refl (rw (s, l, v) at z))
            | no v ↦ elim (ask (is_idle_sample sample)) [
              | yes r ↦ (s, (eqb-true (length image) 1048576 l, r))
              | no r ↦ absurd (eqb-false 9 0 refl (rw (s, l, v, r) at z))
            ]
          ]
          | no l ↦ absurd (eqb-false 2 0 refl (rw (s, l) at z))
        ]
        | no s ↦ absurd (eqb-false 1 0 refl (rw s at z))
      ]

  module _ (limit : ℕ) where
    pub finishes : {count : ℕ} {ready : Bool} {last : Device} {late : List ℕ}
        → number ≡ 0
        → stop count ready (world last late) ≡ settling sample limit 0 (world d image)
        → (settled (stop_number ready) count last ≡ settled_of d image sample limit)
        × (late ≡ image_settled d image sample limit)
    unfolding settled_of image_settled
    finishes n w = (rw (← e, n, ← w), rw (← e, n, ← w))

    pub refuses : (number ≡ 0 → ⊥)
        → (settled number 0 d ≡ settled_of d image sample limit) × (image ≡ image_settled d image sample limit)
    unfolding settled_of image_settled
    refuses n = (rw (← e, ne_eqb number 0 n), rw (← e, ne_eqb number 0 n))
