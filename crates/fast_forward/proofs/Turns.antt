-- A turn of a forward: the clocks on which nothing is due go at once, the one on which something is by itself, and where
-- nothing counts after it the forward stops. Assumes nothing.
use mathlib.Core.Path.{◌≡◌, ◌∙◌, sym, refl}
use mathlib.Core.Bool.{true, false}
use mathlib.Core.List.{List}
use Prim.Native.Nat.{ℕ, zero, suc, ◌+◌, ◌-◌, ◌≤◌, ◌<◌}
use native.Mathlib.Omega.{arith}
use native.Mathlib.Nat.{add-zero}
use lib.Dec.{ltb}
use Rattle.basics.proofs.Rules.{Answer, yes, no, ask, clash}
use Rattle.record.specs.declared.Operation.{Operation}
use Rattle.record.specs.declared.Controller.{Controller}
use Rattle.record.specs.Record.{is_program}
use Rattle.effect.specs.Effect.{FitsIn, applied}
use Rattle.soundness.specs.Sound.{operation_fits, controller_fits}
use Rattle.operation.specs.declared.Counted.{Counted}
use Rattle.operation.specs.Clock.{active, is_still, operation_clock, marks_after, replaced, with_effect, controller_clock}
use Rattle.operation.proofs.Facts.{active_fits, moving}
use Rattle.operation.proofs.Kept.{controller_clock_kept}
use Rattle.operation.proofs.FitsIn.{controller_clock_fits}
use Rattle.fast_forward.specs.Forward.{forward, forwarding, operation_before_due, operation_later}
use Rattle.fast_forward.proofs.Free.{free_for}
use Rattle.fast_forward.proofs.Laws.{later_fits}
use Rattle.fast_forward.proofs.Replaced.{active_of, clocked, none_counts}
use Rattle.fast_forward.proofs.NothingDue.{OnlyCounts, only_counts, moves_on}

pub stops : (n count : ℕ) (c : Controller) (image : List ℕ)
    → is_still (active c) ≡ true
    → forwarding n count c image ≡ forward count c image
stops zero count c image e = refl
stops (suc n) count c image e = rw e

-- an operation that goes on has not finished, and no mark is removed
unfinished : (o : Operation) (marks : ℕ) → is_still (operation_clock o).after ≡ false → marks_after marks o (operation_clock o).finished ≡ marks
unfolding operation_clock marks_after is_still
unfinished o marks = pick (ask (ltb 1 o.left.0)) (ask (is_program o)) (ask (ltb 1 o.slices))
  where
    pick : Answer (ltb 1 o.left.0) → Answer (is_program o) → Answer (ltb 1 o.slices) → is_still (operation_clock o).after ≡ false → marks_after marks o (operation_clock o).finished ≡ marks
    pick (yes l) p k = λ s. rw l
    pick (no l) (yes p) k = λ s. clash (sym (rw (l, p) at s))
    pick (no l) (no p) (yes k) = λ s. rw (l, p, k)
    pick (no l) (no p) (no k) = λ s. clash (sym (rw (l, p, k) at s))

-- a controller whose active operation is replaced by one that counts
pub record Counting (c : Controller) (o : Operation) : Type 0 where
  pub moves : is_still o ≡ false
  pub fits : controller_fits (replaced c o c.marks) ≡ true

pub sound : (c : Controller) (o : Operation) → Counting c o → operation_fits o ≡ true
sound c o k =
    let a = active_of c o c.marks (moving o k.moves) in
    rw a at (active_fits (replaced c o c.marks) k.fits (rw a (moving o k.moves)))

-- the clock behind n on which nothing is due, and the controller after it
abbrev due_of : ℕ → Operation → Counted Operation
due_of n o = operation_clock (operation_later n o)

abbrev next : ℕ → Controller → Operation → Controller
next n c o = replaced c (due_of n o).after (marks_after c.marks (operation_later n o) (due_of n o).finished)

module _ (n : ℕ) (c : Controller) (o : Operation) (k : Counting c o) (h : n ≤ operation_before_due o) where
  older : OnlyCounts n c o c.marks
  older = only_counts n c o c.marks k.moves (free_for n o (sound c o k) h)

  older_counting : Counting c (operation_later n o)
  older_counting =
      record {
        moves = moves_on n o k.moves;
        fits = rw older.controller at (later_fits n (replaced c o c.marks) k.fits);
      }

  pub older_sound : operation_fits (operation_later n o) ≡ true
  older_sound = sound c (operation_later n o) older_counting

  due_clock : controller_clock (replaced c (operation_later n o) c.marks) ≡ with_effect (next n c o) (due_of n o).effect (due_of n o).finished
  due_clock = clocked c (operation_later n o) c.marks older_counting.moves

  pub due_fits : FitsIn (due_of n o).effect 1048576
  due_fits = rw due_clock at (controller_clock_fits (replaced c (operation_later n o) c.marks) older_counting.fits)

  pub due_counting : is_still (due_of n o).after ≡ false → Counting c (due_of n o).after
  due_counting s =
      record {
        moves = s;
        fits = rw (due_clock, unfinished (operation_later n o) c.marks s) at (controller_clock_kept (replaced c (operation_later n o) c.marks) older_counting.fits);
      }

  module _ (all count : ℕ) (image : List ℕ) (l : n < all - count) where
    due : forwarding (all - count) count (replaced c o c.marks) image
        ≡ forwarding (all - (count + (n + 1))) (count + (n + 1)) (next n c o) (applied (due_of n o).effect image)
    due =
        let a : all - count ≡ n + suc (all - (count + (n + 1))) = omega arith in
        let b : count + (n + 1) ≡ count + n + 1 = omega arith in
        let m = older_counting.moves in
        rw a
        (older.forwarded (suc (all - (count + (n + 1)))) count image
        ∙ rw (active_of c (operation_later n o) c.marks (moving (operation_later n o) m), m, due_clock, b))

    pub due_last : controller_fits c ≡ true
        → is_still (due_of n o).after ≡ true
        → forwarding (all - count) count (replaced c o c.marks) image
        ≡ forward (count + (n + 1)) (next n c o) (applied (due_of n o).effect image)
    due_last e s = due ∙ stops (all - (count + (n + 1))) _ (next n c o) _ (none_counts c _ _ e s)

    pub due_more : is_still (due_of n o).after ≡ false
        → forwarding (all - count) count (replaced c o c.marks) image
        ≡ forwarding (all - (count + (n + 1))) (count + (n + 1)) (replaced c (due_of n o).after c.marks) (applied (due_of n o).effect image)
    due_more s = rw (unfinished (operation_later n o) c.marks s) at due

-- no such clock among those to come
pub none_due : (all count : ℕ) (c : Controller) (o : Operation) (image : List ℕ)
    → Counting c o
    → all - count ≤ operation_before_due o
    → count ≤ all
    → forwarding (all - count) count (replaced c o c.marks) image ≡ forward all (replaced c (operation_later (all - count) o) c.marks) image
none_due all count c o image k h l =
    let a : count + (all - count) ≡ all = omega arith in
    rw (add-zero, a) at ((older (all - count) c o k h).forwarded 0 count image)
