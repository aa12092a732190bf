-- The effect of a clock lies inside the block of the operation that counts, and so inside the image. Assumes nothing.
use mathlib.Core.Path.{◌≡◌}
use mathlib.Core.Bool.{true}
use Prim.Native.Nat.{ℕ, ◌<◌}
use native.Mathlib.Omega.{arith}
use lib.Dec.{ltb}
use borrow.Author.Tests.{eqb-false}
use Rattle.basics.proofs.Rules.{Answer, yes, no, ask}
use Rattle.record.specs.declared.Operation.{Operation}
use Rattle.record.specs.declared.Controller.{Controller}
use Rattle.record.specs.Record.{is_program, block_of}
use Rattle.effect.specs.declared.Effect.{Effect}
use Rattle.effect.specs.declared.Effect.TheVariants.{Nothing, Program, Fill}
use Rattle.effect.specs.Effect.{FitsIn, InBlock}
use Rattle.soundness.specs.Sound.{operation_fits, controller_fits}
use Rattle.operation.specs.Clock.{active, is_still, slice_at, operation_clock, controller_clock}
use Rattle.operation.proofs.Facts.{fits, Slices, slices, active_fits, moving}

-- the slice that an erase is at lies inside its block
slice_in : (o : Operation) → Slices o → InBlock (block_of o.address) (Fill (slice_at o) 256 255)
unfolding slice_at
slice_in o s = (omega arith, omega arith)

pub operation_clock_in : (o : Operation) → operation_fits o ≡ true → InBlock (block_of o.address) (operation_clock o).effect
unfolding operation_clock
operation_clock_in o e = pick (ask (ltb 1 o.left.0)) (ask (is_program o)) (ask (ltb 1 o.slices))
  where
    pick : Answer (ltb 1 o.left.0) → Answer (is_program o) → Answer (ltb 1 o.slices) → InBlock (block_of o.address) (operation_clock o).effect
    pick (yes a) p s = rw a tt
    pick (no a) (yes p) s = rw (a, p) (omega arith, omega arith)
    pick (no a) (no p) (yes s) = rw (a, p, s) (slice_in o (slices o e (eqb-false _ _ p)))
    pick (no a) (no p) (no s) = rw (a, p, s) (slice_in o (slices o e (eqb-false _ _ p)))

pub controller_clock_in : (c : Controller) → controller_fits c ≡ true → InBlock (block_of (active c).address) (controller_clock c).effect
unfolding controller_clock
controller_clock_in c e = pick (ask (is_still (active c)))
  where
    pick : Answer (is_still (active c)) → InBlock (block_of (active c).address) (controller_clock c).effect
    pick (yes a) = rw a tt
    pick (no a) = rw a (operation_clock_in (active c) (active_fits c e (moving (active c) a)))

-- what lies in one of the sixteen blocks lies in the image
placed : (b : ℕ) (e : Effect) → b < 16 → InBlock b e → FitsIn e 1048576
placed b Nothing h i = tt
placed b (Program a d) h i = omega arith
placed b (Fill s n v) h i = omega arith

pub controller_clock_fits : (c : Controller) → controller_fits c ≡ true → FitsIn (controller_clock c).effect 1048576
unfolding controller_clock
controller_clock_fits c e = pick (ask (is_still (active c)))
  where
    pick : Answer (is_still (active c)) → FitsIn (controller_clock c).effect 1048576
    pick (yes a) = rw a tt
    pick (no a) =
        let f = active_fits c e (moving (active c) a) in
        let w = fits (active c) f in
        let b : block_of (active c).address < 16 = omega arith in
        rw a (placed (block_of (active c).address) (operation_clock (active c)).effect b (operation_clock_in (active c) f))
