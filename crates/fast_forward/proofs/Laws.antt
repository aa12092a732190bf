-- Clocks after clocks: what a wait has done is what as many clocks do, one after another. Assumes nothing.
use mathlib.Core.Path.{◌≡◌, ◌∙◌, sym, refl, ap}
use mathlib.Core.Bool.{true}
use mathlib.Core.List.{List}
use Prim.Native.Nat.{ℕ, zero, suc, ◌+◌, ◌≤◌}
use native.Mathlib.Omega.{arith}
use Rattle.basics.proofs.Rules.{ask, yes, no}
use Rattle.record.specs.declared.Controller.{Controller}
use Rattle.effect.specs.Effect.{applied}
use Rattle.soundness.specs.Sound.{controller_fits}
use Rattle.operation.specs.Clock.{active, is_still, controller_clock}
use Rattle.operation.proofs.Facts.{still_clocked}
use Rattle.operation.proofs.Kept.{controller_clock_kept}
use Rattle.fast_forward.specs.Forward.{controller_later, image_later, Forward, forward, forwarding}

-- with clocks done before
abbrev pub later : ℕ → Forward → Forward
later count p = forward (count + p.count) p.controller p.image

later_later : (count : ℕ) (p : Forward) → later (count + 1) p ≡ later count (later 1 p)
later_later count p =
    let e : count + 1 + p.count ≡ count + (1 + p.count) = omega arith in rw e

pub forwarding_from : (n count : ℕ) (c : Controller) (image : List ℕ)
    → forwarding n count c image ≡ later count (forwarding n 0 c image)
forwarding_from zero count c image = let e : count + 0 ≡ count = omega arith in rw e
forwarding_from (suc n) count c image =
    let next = (controller_clock c).after in
    let after = applied (controller_clock c).effect image in
    elim (ask (is_still (active c))) [
      | yes e ↦ let z : count + 0 ≡ count = omega arith in rw (e, z)
      | no e ↦
          rw e
          (forwarding_from n (count + 1) next after ∙ later_later count (forwarding n 0 next after)
          ∙ ap (later count) (sym (forwarding_from n 1 next after)))
    ]

-- never more than are allowed
pub forwarding_most : (n count : ℕ) (c : Controller) (image : List ℕ) → (forwarding n count c image).count ≤ count + n
forwarding_most zero count c image = omega arith
forwarding_most (suc n) count c image =
    elim (ask (is_still (active c))) [
      | yes e ↦ rw e (omega arith)
      | no e ↦
          let l = forwarding_most n (count + 1) (controller_clock c).after (applied (controller_clock c).effect image) in
          rw e (omega (arith, l))
    ]

-- where nothing counts, no clock does anything
pub still_later : (n : ℕ) (c : Controller) (image : List ℕ)
    → is_still (active c) ≡ true
    → (controller_later n c ≡ c) × (image_later n c image ≡ image)
still_later zero c image e = (refl, refl)
still_later (suc n) c image e = rw (still_clocked c e) (still_later n c image e)

-- a wait of n clocks is n clocks
pub forwarded : (n count : ℕ) (c : Controller) (image : List ℕ)
    → ((forwarding n count c image).controller ≡ controller_later n c) × ((forwarding n count c image).image ≡ image_later n c image)
forwarded zero count c image = (refl, refl)
forwarded (suc n) count c image =
    elim (ask (is_still (active c))) [
      | yes e ↦ let s = still_later (suc n) c image e in rw e (sym s.0, sym s.1)
      | no e ↦ rw e (forwarded n (count + 1) (controller_clock c).after (applied (controller_clock c).effect image))
    ]

-- some clocks and some more
pub later_twice : (m n : ℕ) (c : Controller) (image : List ℕ)
    → (controller_later n (controller_later m c) ≡ controller_later (m + n) c)
    × (image_later n (controller_later m c) (image_later m c image) ≡ image_later (m + n) c image)
later_twice zero n c image = let e : 0 + n ≡ n = omega arith in rw e (refl, refl)
later_twice (suc m) n c image =
    let e : suc m + n ≡ suc (m + n) = omega arith in
    rw e (later_twice m n (controller_clock c).after (applied (controller_clock c).effect image))

pub later_fits : (n : ℕ) (c : Controller) → controller_fits c ≡ true → controller_fits (controller_later n c) ≡ true
later_fits zero c e = e
later_fits (suc n) c e = later_fits n (controller_clock c).after (controller_clock_kept c e)
