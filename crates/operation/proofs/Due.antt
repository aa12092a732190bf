-- Each effect has its clock: nothing is done while clocks are left after this one; on the last a program stores its byte,
-- and an erase fills the next of its slices; every slice takes its full time. Assumes nothing.
use mathlib.Core.Path.{◌≡◌}
use mathlib.Core.Bool.{true, false, cond}
use Prim.Native.Nat.{◌+◌, ◌-◌, ◌*◌}
use lib.Dec.{ltb}
use Rattle.basics.proofs.Rules.{Answer, yes, no, ask}
use Rattle.units.specs.Units.{clocks, in_clocks}
use Rattle.record.specs.declared.Operation.{Operation}
use Rattle.record.specs.Record.{is_program, is_pausing, with_pause, with_left, absent, block_of}
use Rattle.effect.specs.declared.Effect.{Effect}
use Rattle.effect.specs.declared.Effect.TheVariants.{Nothing, Program, Fill}
use Rattle.operation.specs.Clock.{paused_of, slice_at, operation_clock}

abbrev pub due : Operation → Effect
due o =
    cond (ltb 1 o.left.0) Nothing
    (cond (is_program o) (Program o.address o.«data»)
    (Fill (block_of o.address * 65536 + (256 - o.slices) * 256) 256 255))

pub effect_due : (o : Operation) → (operation_clock o).effect ≡ due o
unfolding operation_clock slice_at
effect_due o = pick (ask (ltb 1 o.left.0)) (ask (is_program o)) (ask (ltb 1 o.slices))
  where
    pick : Answer (ltb 1 o.left.0) → Answer (is_program o) → Answer (ltb 1 o.slices) → (operation_clock o).effect ≡ due o
    pick (yes l) p s = rw l
    pick (no l) (yes p) s = rw (l, p)
    pick (no l) (no p) (yes s) = rw (l, p, s)
    pick (no l) (no p) (no s) = rw (l, p, s)

-- what becomes of the operation
module _ (o : Operation) where
  pub counted : ltb 1 o.left.0 ≡ true → (operation_clock o).after ≡ paused_of (with_left o o.slices (clocks (o.left.0 - 1)))
  unfolding operation_clock
  counted l = rw l

  pub next_slice : ltb 1 o.left.0 ≡ false
      → is_program o ≡ false
      → ltb 1 o.slices ≡ true
      → (operation_clock o).after ≡ paused_of (with_left o (o.slices - 1) (clocks (o.times.slice.0 * 33)))
  unfolding operation_clock in_clocks
  next_slice l p s = rw (l, p, s)

  pub program_ended : ltb 1 o.left.0 ≡ false → is_program o ≡ true → (operation_clock o).after ≡ absent
  unfolding operation_clock
  program_ended l p = rw (l, p)

  pub erase_ended : ltb 1 o.left.0 ≡ false → is_program o ≡ false → ltb 1 o.slices ≡ false → (operation_clock o).after ≡ absent
  unfolding operation_clock
  erase_ended l p s = rw (l, p, s)

  -- and of its pause
  pub unpaused : is_pausing o ≡ false → paused_of o ≡ o
  unfolding paused_of
  unpaused p = rw p

  pub pause_counted : is_pausing o ≡ true → ltb 1 o.pause.0 ≡ true → paused_of o ≡ with_pause o o.state (clocks (o.pause.0 - 1))
  unfolding paused_of
  pause_counted p l = rw (p, l)

  pub pause_ended : is_pausing o ≡ true → ltb 1 o.pause.0 ≡ false → paused_of o ≡ with_pause o 2 (clocks 0)
  unfolding paused_of
  pause_ended p l = rw (p, l)
