-- A controller as the operation that counts and all else: another operation in the place of that one, a clock of it, and
-- where none counts any more. Assumes nothing.
use mathlib.Core.Path.{◌≡◌}
use mathlib.Core.Bool.{true, false}
use Prim.Native.Nat.{ℕ}
use Rattle.basics.proofs.Rules.{Answer, yes, no, ask}
use Rattle.basics.proofs.All.{holds}
use Rattle.record.specs.declared.Operation.{Operation}
use Rattle.record.specs.declared.Controller.{Controller}
use Rattle.record.specs.Record.{is_absent, is_suspended}
use Rattle.soundness.specs.Sound.{inside, inner_fits, controller_fits}
use Rattle.soundness.proofs.Clauses.{clauses}
use Rattle.operation.specs.Clock.{active, is_still, operation_clock, marks_after, replaced, with_effect, controller_clock}
use Rattle.operation.proofs.Facts.{moving}

pub replaced_same : (c : Controller) → replaced c (active c) c.marks ≡ c
unfolding replaced active
replaced_same c = pick (ask (is_absent c.inner))
  where
    pick : Answer (is_absent c.inner) → replaced c (active c) c.marks ≡ c
    pick (yes i) = rw i
    pick (no i) = rw i

suspended : (o : Operation) → is_suspended o ≡ true → is_still o ≡ true
unfolding is_still
suspended o e = pick (ask (is_absent o))
  where
    pick : Answer (is_absent o) → is_still o ≡ true
    pick (yes a) = rw a
    pick (no a) = rw a e

module _ (c : Controller) (o : Operation) (marks : ℕ) where
  marks_of : (replaced c o marks).marks ≡ marks
  unfolding replaced
  marks_of = pick (ask (is_absent c.inner))
    where
      pick : Answer (is_absent c.inner) → (replaced c o marks).marks ≡ marks
      pick (yes i) = rw i
      pick (no i) = rw i

  module _ (a : is_absent o ≡ false) where
    pub active_of : active (replaced c o marks) ≡ o
    unfolding replaced active
    active_of = pick (ask (is_absent c.inner))
      where
        pick : Answer (is_absent c.inner) → active (replaced c o marks) ≡ o
        pick (yes i) = rw (i, i)
        pick (no i) = rw (i, a)

    replaced_again : (p : Operation) (k : ℕ) → replaced (replaced c o marks) p k ≡ replaced c p k
    unfolding replaced
    replaced_again p k = pick (ask (is_absent c.inner))
      where
        pick : Answer (is_absent c.inner) → replaced (replaced c o marks) p k ≡ replaced c p k
        pick (yes i) = rw (i, i)
        pick (no i) = rw (i, a)

  -- one clock
  pub clocked : is_still o ≡ false
      → controller_clock (replaced c o marks)
      ≡ with_effect (replaced c (operation_clock o).after (marks_after marks o (operation_clock o).finished)) (operation_clock o).effect (operation_clock o).finished
  unfolding controller_clock
  clocked s =
      let a = moving o s in
      rw (active_of a, s, replaced_again a, marks_of)

  -- where the operation stands still none counts: a program inside leaves its erase suspended
  pub none_counts : controller_fits c ≡ true → is_still o ≡ true → is_still (active (replaced c o marks)) ≡ true
  unfolding replaced active inner_fits inside
  none_counts e s = pick (ask (is_absent c.inner)) (ask (is_absent o))
    where
      pick : Answer (is_absent c.inner) → Answer (is_absent o) → is_still (active (replaced c o marks)) ≡ true
      pick (yes i) a = rw (i, i) s
      pick (no i) (no a) = rw (i, a) s
      pick (no i) (yes a) = rw (i, a) (suspended c.outer (holds _ 3 (rw i at (clauses c e).inner)))
