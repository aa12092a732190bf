-- Clocks on which nothing falls due leave the array, the status register and the read mode as they are. Assumes nothing.
use mathlib.Core.Path.{◌≡◌, ◌∙◌, refl, ap}
use mathlib.Core.Bool.{true, false}
use mathlib.Core.List.{List, []}
use Prim.Native.Nat.{ℕ, zero, suc, ◌+◌, ◌≤◌}
use native.Mathlib.Nat.{zero-add, add-zero, suc-add}
use native.Mathlib.Omega.{arith}
use Rattle.basics.proofs.Rules.{Answer, yes, no, ask}
use Rattle.record.specs.declared.Operation.{Operation}
use Rattle.record.specs.declared.Controller.{Controller}
use Rattle.record.specs.Record.{is_absent}
use Rattle.effect.specs.declared.Effect.TheVariants.{Nothing}
use Rattle.status.specs.Status.{condition_of, status_of}
use Rattle.soundness.specs.Sound.{operation_fits, controller_fits}
use Rattle.operation.specs.Clock.{active, is_still, marks_after, replaced, with_effect, controller_clock}
use Rattle.operation.proofs.Facts.{active_fits, moving}
use Rattle.fast_forward.specs.Forward.{controller_later, image_later, forwarding, controller_before_due, operation_later}
use Rattle.fast_forward.proofs.Laws.{still_later}
use Rattle.fast_forward.proofs.Free.{Free, free_for, free_clock, free_less, free_one, later_none, later_more}
use Rattle.fast_forward.proofs.Replaced.{replaced_same, active_of, clocked}

pub later_mode : (n : ℕ) (c : Controller) → (controller_later n c).mode ≡ c.mode
unfolding controller_clock replaced
later_mode zero c = refl
later_mode (suc n) c = later_mode n (controller_clock c).after ∙ pick (ask (is_still (active c))) (ask (is_absent c.inner))
  where
    pick : Answer (is_still (active c)) → Answer (is_absent c.inner) → (controller_clock c).after.mode ≡ c.mode
    pick (yes a) i = rw a
    pick (no a) (yes i) = rw (a, i)
    pick (no a) (no i) = rw (a, i)

-- n clocks on which nothing is due age the operation that counts, and do nothing else
pub record OnlyCounts (n : ℕ) (c : Controller) (o : Operation) (marks : ℕ) : Type 0 where
  pub controller : controller_later n (replaced c o marks) ≡ replaced c (operation_later n o) marks
  pub array : (image : List ℕ) → image_later n (replaced c o marks) image ≡ image
  pub forwarded : (m count : ℕ) (image : List ℕ)
      → forwarding (n + m) count (replaced c o marks) image ≡ forwarding m (count + n) (replaced c (operation_later n o) marks) image

-- one of them
module _ (c : Controller) (o : Operation) (marks : ℕ) (s : is_still o ≡ false) where
  one : Free 1 o → controller_clock (replaced c o marks) ≡ with_effect (replaced c (operation_later 1 o) marks) Nothing false
  unfolding marks_after
  one m = clocked c o marks s ∙ rw (free_clock o m)

-- what an operation is stays as it grows older
pub moves_on : (n : ℕ) (o : Operation) → is_still o ≡ false → is_still (operation_later n o) ≡ false
unfolding operation_later is_still
moves_on n o s = s

pub only_counts : (n : ℕ) (c : Controller) (o : Operation) (marks : ℕ) → is_still o ≡ false → Free n o → OnlyCounts n c o marks
only_counts zero c o marks s m =
    record {
      controller = rw (later_none o);
      array = λ image. refl;
      forwarded = λ n count image. rw (zero-add, add-zero, later_none o);
    }
only_counts (suc n) c o marks s m =
    let f = one c o marks s (free_one n o m) in
    let r = only_counts n c (operation_later 1 o) marks (moves_on 1 o s) (free_less n o m) in
    record {
      controller = rw (f, ← later_more n o) r.controller;
      array = λ image. rw f (r.array image);
      forwarded = λ k count image.
          let e : count + 1 + n ≡ count + suc n = omega arith in
          rw (suc-add n k, active_of c o marks (moving o s), s, f, ← later_more n o, ← e) (r.forwarded k (count + 1) image);
    }

-- the status register tells kinds and states, which age does not change
later_status : (n : ℕ) (c : Controller) → status_of (replaced c (operation_later n (active c)) c.marks) ≡ status_of c
unfolding status_of condition_of replaced active operation_later
later_status n c = pick (ask (is_absent c.inner))
  where
    pick : Answer (is_absent c.inner) → status_of (replaced c (operation_later n (active c)) c.marks) ≡ status_of c
    pick (yes i) = rw (i, i)
    pick (no i) = rw (i, i)

-- what counts in a sound controller is sound
pub active_sound : (c : Controller) → controller_fits c ≡ true → is_still (active c) ≡ false → operation_fits (active c) ≡ true
active_sound c e s = active_fits c e (moving (active c) s)

pub only_counts_active : (n : ℕ) (c : Controller) → controller_fits c ≡ true → n ≤ controller_before_due c → is_still (active c) ≡ false → OnlyCounts n c (active c) c.marks
unfolding controller_before_due
only_counts_active n c e h s = only_counts n c (active c) c.marks s (free_for n (active c) (active_sound c e s) (rw s at h))

pub free_image : (n : ℕ) (c : Controller) (image : List ℕ) → controller_fits c ≡ true → n ≤ controller_before_due c → image_later n c image ≡ image
free_image n c image e h = pick (ask (is_still (active c)))
  where
    pick : Answer (is_still (active c)) → image_later n c image ≡ image
    pick (yes s) = (still_later n c image s).1
    pick (no s) = rw (replaced_same c) at ((only_counts_active n c e h s).array image)

pub free_status : (n : ℕ) (c : Controller) → controller_fits c ≡ true → n ≤ controller_before_due c → status_of (controller_later n c) ≡ status_of c
free_status n c e h = pick (ask (is_still (active c)))
  where
    pick : Answer (is_still (active c)) → status_of (controller_later n c) ≡ status_of c
    pick (yes s) = ap status_of (still_later n c [] s).0
    pick (no s) = ap status_of (rw (replaced_same c) at (only_counts_active n c e h s).controller) ∙ later_status n c
