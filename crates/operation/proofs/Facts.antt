-- What soundness tells of an operation and of the active one, as plain facts. Assumes nothing.
use Rattle.std.proofs.lemmas.Bool.Decides.{nat_tests}
use mathlib.Core.Path.{◌≡◌}
use mathlib.Core.Bool.{true, false, cond}
use Prim.Native.Nat.{◌≤◌, ◌<◌}
use native.Mathlib.Omega.{arith}
use borrow.Author.Tests.{leb-true, ltb-true, ne_eqb}
use Rattle.basics.proofs.Rules.{Answer, yes, no, ask}
use Rattle.basics.proofs.All.{holds}
use Rattle.units.specs.Units.{times_fit}
use Rattle.units.proofs.Ranges.{Ranges, ranges}
use Rattle.record.specs.declared.Operation.{Operation}
use Rattle.record.specs.declared.Controller.{Controller}
use Rattle.record.specs.Record.{is_absent, block_of}
use Rattle.soundness.specs.Sound.{operation_fits, left_fits, state_fits, outer_fits, inner_fits, inside, controller_fits}
use Rattle.effect.specs.declared.Effect.TheVariants.{Nothing}
use Rattle.operation.specs.Clock.{active, is_still, with_effect, controller_clock}

pub record Fits (o : Operation) : Type 0 where
  pub times : times_fit o.times ≡ true
  pub ranges : Ranges o.times
  pub address : o.address < 1048576
  pub left : left_fits o ≡ true
  pub state : state_fits o ≡ true

pub fits : (o : Operation) → operation_fits o ≡ true → Fits o
unfolding operation_fits
fits o e =
    record {
      times = holds _ 0 e;
      ranges = ranges o.times (holds _ 0 e);
      address = ltb-true _ _ (holds _ 1 e);
      left = holds _ 2 e;
      state = holds _ 3 e;
    }

-- so its address lies in one of the sixteen blocks
pub block_below : (o : Operation) → operation_fits o ≡ true → block_of o.address < 16
block_below o e = let f = fits o e in omega arith

-- an erase has 1 to 256 slices to fill
pub record Slices (o : Operation) : Type 0 where
  pub least : 1 ≤ o.slices
  pub most : o.slices ≤ 256

pub slices : (o : Operation) → operation_fits o ≡ true → (o.kind ≡ 1 → ⊥) → Slices o
unfolding left_fits
slices o e n =
    let l = rw (ne_eqb o.kind 1 n) at (fits o e).left in
    record { least = leb-true _ _ (holds _ 0 l); most = leb-true _ _ (holds _ 1 l) }

pub outer_fits_lem : (c : Controller) → controller_fits c ≡ true → is_absent c.outer ≡ false → operation_fits c.outer ≡ true
unfolding controller_fits outer_fits
outer_fits_lem c e a = holds _ 1 (rw a at (holds _ 2 e))

pub inner_fits_lem : (c : Controller) → controller_fits c ≡ true → is_absent c.inner ≡ false → operation_fits c.inner ≡ true
unfolding controller_fits inner_fits inside
inner_fits_lem c e a = holds _ 5 (rw a at (holds _ 3 e))

pub outer_address : (c : Controller) → controller_fits c ≡ true → is_absent c.outer ≡ false → c.outer.address < 1048576
outer_address c e a = (fits c.outer (outer_fits_lem c e a)).address

pub inner_address : (c : Controller) → controller_fits c ≡ true → is_absent c.inner ≡ false → c.inner.address < 1048576
inner_address c e a = (fits c.inner (inner_fits_lem c e a)).address

-- what counts is there
pub moving : (o : Operation) → is_still o ≡ false → is_absent o ≡ false
unfolding is_still
moving o e = grind (arith, nat_tests)

pub active_fits : (c : Controller) → controller_fits c ≡ true → is_absent (active c) ≡ false → operation_fits (active c) ≡ true
unfolding active
active_fits c e = pick (ask (is_absent c.inner))
  where
    pick : Answer (is_absent c.inner) → is_absent (cond (is_absent c.inner) c.outer c.inner) ≡ false → operation_fits (cond (is_absent c.inner) c.outer c.inner) ≡ true
    pick (yes a) = λ n. rw a (outer_fits_lem c e (rw a at n))
    pick (no a) = λ n. rw a (inner_fits_lem c e a)

-- where nothing counts, a clock changes nothing
pub still_clocked : (c : Controller) → is_still (active c) ≡ true → controller_clock c ≡ with_effect c Nothing false
unfolding controller_clock
still_clocked c e = rw e
