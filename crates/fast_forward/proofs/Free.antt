-- An operation that counts, over clocks on which nothing is due: each of them takes one from what is left of it and of
-- its pause, and does nothing else. Assumes nothing.
use mathlib.Core.Path.{◌≡◌, ◌∙◌, sym}
use mathlib.Core.Bool.{true, false}
use Prim.Native.Nat.{ℕ, suc, ◌-◌, ◌≤◌, ◌<◌}
use native.Mathlib.Nat.{sub-zero}
use native.Mathlib.Omega.{arith}
use lib.Dec.{ltb}
use borrow.Author.Tests.{eq-eqb, lt-ltb, ltb-true, ltb-false, leb-true, eqb-true}
use Rattle.basics.proofs.Rules.{Answer, yes, no, ask, clash}
use Rattle.basics.proofs.All.{holds}
use Rattle.units.specs.declared.Micros.{Micros}
use Rattle.units.specs.declared.Clocks.{Clocks}
use Rattle.record.specs.declared.Operation.{Operation}
use Rattle.record.specs.Record.{is_program, is_pausing}
use Rattle.effect.specs.declared.Effect.TheVariants.{Nothing}
use Rattle.soundness.specs.Sound.{counts, left_fits, state_fits, operation_fits}
use Rattle.operation.specs.Clock.{paused_of, with_effect, operation_clock}
use Rattle.operation.proofs.Facts.{fits}
use Rattle.fast_forward.specs.Forward.{operation_before_due, operation_later}

least : (c : Clocks) (m : Micros) → counts c m ≡ true → 1 ≤ c.0
unfolding counts
least c m e = leb-true _ _ (holds _ 0 e)

-- what counts has a clock to come, and so has a pause
pub left_least : (o : Operation) → operation_fits o ≡ true → 1 ≤ o.left.0
unfolding left_fits
left_least o e = pick (ask (is_program o))
  where
    pick : Answer (is_program o) → 1 ≤ o.left.0
    pick (yes p) = least o.left o.times.program (rw p at (fits o e).left)
    pick (no p) = least o.left o.times.slice (holds _ 2 (rw p at (fits o e).left))

pub pause_least : (o : Operation) → operation_fits o ≡ true → o.state ≡ 1 → 1 ≤ o.pause.0
unfolding state_fits
pause_least o e p = least o.pause o.times.pause (rw p at (fits o e).state)

-- nothing is due on any of the next n clocks
pub record Free (n : ℕ) (o : Operation) : Type 0 where
  pub left : n < o.left.0
  pub pause : is_pausing o ≡ true → n < o.pause.0

pub free_for : (n : ℕ) (o : Operation) → operation_fits o ≡ true → n ≤ operation_before_due o → Free n o
unfolding operation_before_due
free_for n o e h = pick (ask (is_pausing o)) (ask (ltb o.pause.0 o.left.0))
  where
    l : 1 ≤ o.left.0
    l = left_least o e

    pick : Answer (is_pausing o) → Answer (ltb o.pause.0 o.left.0) → Free n o
    pick (no p) s = let m = rw p at h in record { left = omega (arith, l); pause = λ q. clash (sym p ∙ q) }
    pick (yes p) (yes s) =
        let m = rw (p, s) at h in
        let k = pause_least o e (eqb-true _ _ p) in
        let x = ltb-true o.pause.0 o.left.0 s in
        record { left = omega arith; pause = λ q. omega arith }
    pick (yes p) (no s) =
        let m = rw (p, s) at h in
        let x = ltb-false o.pause.0 o.left.0 s in
        record { left = omega (arith, l); pause = λ q. omega (arith, l) }

-- so they are fewer than are left
module _ (o : Operation) (e : operation_fits o ≡ true) where
  free_before : Free (operation_before_due o) o
  free_before = free_for (operation_before_due o) o e (omega arith)

  pub before_end : operation_before_due o < o.left.0
  before_end = free_before.left

  pub before_pause_end : o.state ≡ 1 → operation_before_due o < o.pause.0
  before_pause_end p = free_before.pause (eq-eqb o.state 1 p)

-- one of them
pub free_clock : (o : Operation) → Free 1 o → operation_clock o ≡ with_effect (operation_later 1 o) Nothing false
unfolding operation_clock paused_of operation_later
free_clock o m = pick (ask (is_pausing o))
  where
    pick : Answer (is_pausing o) → operation_clock o ≡ with_effect (operation_later 1 o) Nothing false
    pick (yes p) = rw (lt-ltb 1 o.left.0 m.left, p, lt-ltb 1 o.pause.0 (m.pause p))
    pick (no p) = rw (lt-ltb 1 o.left.0 m.left, p)

pub free_less : (n : ℕ) (o : Operation) → Free (suc n) o → Free n (operation_later 1 o)
unfolding operation_later
free_less n o m = record { left = omega arith; pause = λ p. rw p (let h = m.pause p in omega arith) }

pub free_one : (n : ℕ) (o : Operation) → Free (suc n) o → Free 1 o
free_one n o m = record { left = omega arith; pause = λ p. let h = m.pause p in omega arith }

-- none, one and more
pub later_none : (o : Operation) → operation_later 0 o ≡ o
unfolding operation_later
later_none o = pick (ask (is_pausing o))
  where
    pick : Answer (is_pausing o) → operation_later 0 o ≡ o
    pick (yes p) = simp (p, sub-zero)
    pick (no p) = simp (p, sub-zero)

pub later_more : (n : ℕ) (o : Operation) → operation_later n (operation_later 1 o) ≡ operation_later (suc n) o
unfolding operation_later
later_more n o = pick (ask (is_pausing o))
  where
    l : o.left.0 - 1 - n ≡ o.left.0 - suc n
    l = omega arith

    k : o.pause.0 - 1 - n ≡ o.pause.0 - suc n
    k = omega arith

    pick : Answer (is_pausing o) → operation_later n (operation_later 1 o) ≡ operation_later (suc n) o
    pick (yes p) = rw (p, l, k)
    pick (no p) = rw (p, l)
