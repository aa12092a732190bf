-- Power up and set times: which number each gives when, that the device which comes back is sound, and that set times
-- touches nothing but the times that later operations take. Assumes nothing.
use mathlib.Core.Path.{◌≡◌, refl}
use mathlib.Core.Bool.{true, false}
use mathlib.Core.Logic.{◌⊎◌, inl, inr}
use Prim.Native.Nat.{ℕ, ◌<◌, ◌≤◌}
use native.Mathlib.Omega.{arith}
use borrow.Author.Tests.{le-leb, lt-leb, leb-true, leb-false}
use lib.Dec.{leb}
use Rattle.basics.specs.All.{all}
use Rattle.basics.proofs.All.{holds, also, none}
use Rattle.basics.proofs.Rules.{ask, yes, no}
use Rattle.units.specs.declared.Times.{Times}
use Rattle.units.specs.Units.{times, times_fit, in_range}
use Rattle.record.specs.declared.Device.{Device}
use Rattle.part.specs.Fresh.{fresh_of}
use Rattle.part.specs.Parts.{strap_count}
use Rattle.soundness.specs.Sound.{sound_of}
use Rattle.soundness.proofs.Fresh.{fresh_sound}
use Rattle.power.specs.Power.{powered, power_refused, powered_up, with_times, times_set}

-- the device that a refusal gives is sound
pub power_refused_sound : (number : ℕ) → sound_of (power_refused number).device ≡ true
unfolding power_refused strap_count times_fit in_range all
power_refused_sound number = fresh_sound 0 0 (times 10 3906 30) (omega arith) refl

module _ (part straps program slice pause : ℕ) where
  -- 3 wherever the part does not allow the straps, 4 only where it does
  pub power_3 : strap_count part ≤ straps → powered_up part straps program slice pause ≡ power_refused 3
  unfolding powered_up
  power_3 h = rw (le-leb (strap_count part) straps h)

  module _ (h : straps < strap_count part) where
    pub power_4 : times_fit (times program slice pause) ≡ false → powered_up part straps program slice pause ≡ power_refused 4
    unfolding powered_up
    power_4 f = rw (lt-leb (strap_count part) straps h, f)

    pub power_0 : times_fit (times program slice pause) ≡ true
        → powered_up part straps program slice pause ≡ powered 0 (fresh_of part straps (times program slice pause))
    unfolding powered_up
    power_0 f = rw (lt-leb (strap_count part) straps h, f)

  pub power_numbers : ((powered_up part straps program slice pause).number ≡ 0)
      ⊎ (((powered_up part straps program slice pause).number ≡ 3) ⊎ ((powered_up part straps program slice pause).number ≡ 4))
  unfolding power_refused
  power_numbers =
      elim (ask (leb (strap_count part) straps)) [
        | yes e ↦ inr (inl (rw (power_3 (leb-true (strap_count part) straps e))))
        | no e ↦ elim (ask (times_fit (times program slice pause))) [
          | yes f ↦ inl (rw (power_0 (leb-false (strap_count part) straps e) f))
          | no f ↦ inr (inr (rw (power_4 (leb-false (strap_count part) straps e) f)))
        ]
      ]

  -- a powered-up device is sound, refused or not
  pub powered_sound : sound_of (powered_up part straps program slice pause).device ≡ true
  powered_sound =
      elim (ask (leb (strap_count part) straps)) [
        | yes e ↦ rw (power_3 (leb-true (strap_count part) straps e)) (power_refused_sound 3)
        | no e ↦ let h : straps < strap_count part = leb-false (strap_count part) straps e in
            elim (ask (times_fit (times program slice pause))) [
              | yes f ↦ rw (power_0 h f) (fresh_sound part straps (times program slice pause) h f)
              | no f ↦ rw (power_4 h f) (power_refused_sound 4)
            ]
      ]

-- two devices that differ in their times at most
pub record Kept (d e : Device) : Type 0 where
  pub part : e.part ≡ d.part
  pub straps : e.straps ≡ d.straps
  pub locks : e.locks ≡ d.locks
  pub frame : e.frame ≡ d.frame
  pub controller : e.controller ≡ d.controller

kept : (d : Device) → Kept d d
kept d = record { part = refl; straps = refl; locks = refl; frame = refl; controller = refl }

module _ (d : Device) (program slice pause : ℕ) where
  -- 1 wherever the device is not sound, 4 only where it is; both return it as it was handed in
  pub set_1 : sound_of d ≡ false → times_set d program slice pause ≡ powered 1 d
  unfolding times_set
  set_1 e = rw e

  module _ (e : sound_of d ≡ true) where
    pub set_4 : times_fit (times program slice pause) ≡ false → times_set d program slice pause ≡ powered 4 d
    unfolding times_set
    set_4 f = rw (e, f)

    pub set_0 : times_fit (times program slice pause) ≡ true
        → times_set d program slice pause ≡ powered 0 (with_times d (times program slice pause))
    unfolding times_set
    set_0 f = rw (e, f)

    with_times_sound : (ts : Times) → times_fit ts ≡ true → sound_of (with_times d ts) ≡ true
    unfolding sound_of
    with_times_sound ts f =
        also _ (holds _ 0 e) (also _ (holds _ 1 e) (also _ f (also _ (holds _ 3 e) (also _ (holds _ 4 e) none))))

    -- soundness is kept
    pub set_sound : sound_of (times_set d program slice pause).device ≡ true
    set_sound =
        elim (ask (times_fit (times program slice pause))) [
          | yes f ↦ rw (set_0 f) (with_times_sound (times program slice pause) f)
          | no f ↦ rw (set_4 f) e
        ]

  pub set_numbers : ((times_set d program slice pause).number ≡ 0)
      ⊎ (((times_set d program slice pause).number ≡ 1) ⊎ ((times_set d program slice pause).number ≡ 4))
  set_numbers =
      elim (ask (sound_of d)) [
        | yes e ↦ elim (ask (times_fit (times program slice pause))) [
          | yes f ↦ inl (rw (set_0 e f))
          | no f ↦ inr (inr (rw (set_4 e f)))
        ]
        | no e ↦ inr (inl (rw (set_1 e)))
      ]

  -- nothing but the device's own times is touched: an operation in progress keeps its copy
  pub set_keeps : Kept d (times_set d program slice pause).device
  set_keeps =
      elim (ask (sound_of d)) [
        | yes e ↦ elim (ask (times_fit (times program slice pause))) [
          | yes f ↦ rw (set_0 e f) (record { part = refl; straps = refl; locks = refl; frame = refl; controller = refl })
          | no f ↦ rw (set_4 e f) (kept d)
        ]
        | no e ↦ rw (set_1 e) (kept d)
      ]
