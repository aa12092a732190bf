-- When a mark changes: a reset that cuts off an operation, and an erase that finishes. Assumes nothing.
use Prim.Native.Nat.{ℕ, ◌<◌}
use mathlib.Core.Path.{◌≡◌, ◌∙◌, sym, refl, ap}
use mathlib.Core.Bool.{Bool, true, false, cond, ◌&&◌, ◌||◌}
use mathlib.Core.List.{List}
use native.Mathlib.Omega.{arith}
use lib.ListN.{length, replicate, length-replicate}
use Rattle.basics.proofs.Rules.{Answer, yes, no, ask}
use Rattle.record.specs.declared.Operation.{Operation}
use Rattle.record.specs.declared.Controller.{Controller}
use Rattle.record.specs.declared.Device.{Device}
use Rattle.record.specs.Record.{is_absent, is_erase, block_of}
use Rattle.record.specs.Sample.{is_reset}
use Rattle.soundness.specs.Sound.{controller_fits}
use Rattle.soundness.proofs.Clauses.{parts}
use Rattle.effect.specs.Effect.{applied}
use Rattle.operation.specs.Marks.{marked}
use Rattle.operation.specs.Clock.{controller_clock}
use Rattle.operation.specs.Reset.{marked_by, reset_of}
use Rattle.operation.proofs.Facts.{fits, outer_fits_lem, inner_fits_lem}
use Rattle.command.proofs.Laws.{written_marks}
use Rattle.bus.specs.declared.Asked.{Asked}
use Rattle.bus.specs.declared.Asked.TheVariants.{Nothing as Silent, Read, Write}
use Rattle.bus.specs.Frames.{frame_clock, asked_of}
use Rattle.access.specs.Read.{is_array, array_address}
use Rattle.access.specs.Write.{reached_of}
use Rattle.clock.specs.Clock.{reset_device, with_frame, after_controller, answered_to, served_of, device_clock}
use Rattle.demands.specs.History.{is_on, op_of, is_last}
use Rattle.demands.specs.Operations.{MarksChange}
use Rattle.demands.proofs.Counting.{Counting, goes, ends, counting}
use Rattle.demands.proofs.Turns.{by_other, by_own, reset_marks}

-- a reset marks the blocks of the operations that it cuts off
module _ (b : ℕ) (c : Controller) (h : b < 16) (e : controller_fits c ≡ true) where
  low : (o : Operation) → o.address < 1048576 → block_of o.address < 16
  low o l = omega arith

  lo : is_absent c.outer ≡ false → block_of c.outer.address < 16
  lo a = low c.outer (fits c.outer (outer_fits_lem c e a)).address

  li : is_absent c.inner ≡ false → block_of c.inner.address < 16
  li a = low c.inner (fits c.inner (inner_fits_lem c e a)).address

  by_one : (m : ℕ) (o : Operation) → (is_absent o ≡ false → block_of o.address < 16) → marked (marked_by o m) b ≡ (marked m b || is_on b o)
  by_one m o l = pick (ask (is_on b o)) (ask (marked m b))
    where
      pick : Answer (is_on b o) → Answer (marked m b) → marked (marked_by o m) b ≡ (marked m b || is_on b o)
      pick (yes x) (yes k) = rw (by_own b m o h l x, k)
      pick (yes x) (no k) = rw (by_own b m o h l x, k, x)
      pick (no x) (yes k) = rw (by_other b m o h l x, k)
      pick (no x) (no k) = rw (by_other b m o h l x, k, x)

  or_again : (x y z : Bool) → ((x || y) || z) ≡ (x || (y || z))
  or_again true y z = refl
  or_again false y z = refl

  by_reset : marked (reset_of c).marks b ≡ (marked c.marks b || (is_on b c.outer || is_on b c.inner))
  by_reset =
      ap (λ (m : ℕ). marked m b) (reset_marks c)
      ∙ by_one (marked_by c.outer c.marks) c.inner li
      ∙ ap (λ (t : Bool). t || is_on b c.inner) (by_one c.marks c.outer lo)
      ∙ or_again (marked c.marks b) (is_on b c.outer) (is_on b c.inner)

-- the controller's part of a clock
no_erase : (t : Bool) (x y : Bool) → t ≡ false → cond (x && t) false y ≡ y
no_erase t true y e = rw e
no_erase t false y e = refl

by_clock : (b : ℕ) (c : Controller) (d : List ℕ)
    → Counting b c d
    → marked (controller_clock c).after.marks b ≡ cond (is_erase (op_of b c) && is_last (op_of b c)) false (marked c.marks b)
by_clock b c d (goes l a k r m) = m ∙ sym (no_erase (is_last (op_of b c)) (is_erase (op_of b c)) (marked c.marks b) l)
by_clock b c d (ends w l a n r m g) = pick (ask (is_erase (op_of b c)))
  where
    pick : Answer (is_erase (op_of b c))
        → marked (controller_clock c).after.marks b ≡ cond (is_erase (op_of b c) && is_last (op_of b c)) false (marked c.marks b)
    pick (yes x) = rw (g x, x, l)
    pick (no x) = rw (m x, x)

-- and the bus's leaves all marks
answered_marks : (a : Asked) (d : Device) (late : List ℕ) (s : ℕ) → (answered_to a d late s).after.controller.marks ≡ d.controller.marks
unfolding reached_of
answered_marks Silent d late s = refl
answered_marks (Read address) d late s = refl
answered_marks (Write address byte) d late s = pick (ask (is_array address))
  where
    pick : Answer (is_array address) → (answered_to (Write address byte) d late s).after.controller.marks ≡ d.controller.marks
    pick (yes x) = rw x (written_marks d.controller d.times s _ (array_address address) byte)
    pick (no x) = rw x

-- some image
zeros : ℕ → List ℕ
zeros n = replicate n 0

zeros_length : (n : ℕ) → length (zeros n) ≡ n
unfolding zeros
zeros_length n = length-replicate n 0

pub marks_change : MarksChange
unfolding MarksChange device_clock reset_device served_of
marks_change d image sample block e h = pick (ask (is_reset sample))
  where
    f : controller_fits d.controller ≡ true
    f = (parts d e).controller

    pick : Answer (is_reset sample)
        → marked (device_clock d image sample).device.controller.marks block
        ≡ cond (is_reset sample) (marked d.controller.marks block || (is_on block d.controller.outer || is_on block d.controller.inner))
        (cond (is_erase (op_of block d.controller) && is_last (op_of block d.controller)) false (marked d.controller.marks block))
    pick (yes r) = rw r (by_reset block d.controller h f)
    pick (no r) =
        rw r
        (ap (λ (m : ℕ). marked m block)
        (answered_marks (asked_of (frame_clock d.part d.straps d.frame sample)) (with_frame (after_controller d) (frame_clock d.part d.straps d.frame sample)) (applied (controller_clock d.controller).effect image) sample)
        ∙ by_clock block d.controller (zeros 1048576) (counting block d.controller (zeros 1048576) h f (zeros_length 1048576)))
