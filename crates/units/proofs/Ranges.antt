-- What the test of the three times tells: each is from 1 to the most of its range. Assumes nothing.
use mathlib.Core.Path.{◌≡◌}
use mathlib.Core.Bool.{true}
use Prim.Native.Nat.{ℕ, ◌≤◌}
use borrow.Author.Tests.{leb-true}
use Rattle.basics.proofs.All.{holds}
use Rattle.units.specs.declared.Times.{Times}
use Rattle.units.specs.Units.{in_range, times_fit}

pub record Ranges (t : Times) : Type 0 where
  pub program_least : 1 ≤ t.program.0
  pub program_most : t.program.0 ≤ 200
  pub slice_least : 1 ≤ t.slice.0
  pub slice_most : t.slice.0 ≤ 39062
  pub pause_least : 1 ≤ t.pause.0
  pub pause_most : t.pause.0 ≤ 30

module _ (n most : ℕ) (e : in_range n most ≡ true) where
  least : 1 ≤ n
  unfolding in_range
  least = leb-true _ _ (holds _ 0 e)

  upmost : n ≤ most
  unfolding in_range
  upmost = leb-true _ _ (holds _ 1 e)

pub ranges : (t : Times) → times_fit t ≡ true → Ranges t
unfolding times_fit
ranges t e =
    record {
      program_least = least t.program.0 200 (holds _ 0 e);
      program_most = upmost t.program.0 200 (holds _ 0 e);
      slice_least = least t.slice.0 39062 (holds _ 1 e);
      slice_most = upmost t.slice.0 39062 (holds _ 1 e);
      pause_least = least t.pause.0 30 (holds _ 2 e);
      pause_most = upmost t.pause.0 30 (holds _ 2 e);
    }
