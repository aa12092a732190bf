-- Which number a run gives, from what its tests found, and what it gives where that is not 0. Assumes nothing.
use mathlib.Core.Path.{◌≡◌, ◌∙◌, sym}
use mathlib.Core.Bool.{false, true}
use mathlib.Core.List.{List}
use Prim.Native.Nat.{ℕ, ◌≤◌, ◌<◌}
use native.Mathlib.Omega.{arith}
use lib.ListN.{length}
use borrow.Author.Tests.{eq-eqb, ne_eqb, le-leb, lt-leb}
use Rattle.basics.specs.declared.refusal.Refusal.{Refusal}
use Rattle.basics.specs.declared.refusal.Refusal.TheVariants.{Unsound, Image, Straps, Times, Stream, Room, Overvolted, Layout, Busy, Unready}
use Rattle.basics.specs.Refusals.{code_of}
use Rattle.units.specs.Units.{times, times_fit}
use Rattle.part.specs.Parts.{strap_count}
use Rattle.stream.specs.Run.{stream_number, run_number, report, ran, ran_of}

-- no refusal is told as done
numbered : (r : Refusal) → code_of r ≡ 0 → ⊥
numbered Unsound e = absurd (omega arith)
numbered Image e = absurd (omega arith)
numbered Straps e = absurd (omega arith)
numbered Times e = absurd (omega arith)
numbered Stream e = absurd (omega arith)
numbered Room e = absurd (omega arith)
numbered Overvolted e = absurd (omega arith)
numbered Layout e = absurd (omega arith)
numbered Busy e = absurd (omega arith)
numbered Unready e = absurd (omega arith)

module _ (image stream answers : List ℕ) (part straps program slice pause : ℕ) where
  pub mismatched : (length image ≡ 1048576 → ⊥) → run_number image stream answers part straps program slice pause ≡ 2
  unfolding run_number
  mismatched l = rw (ne_eqb (length image) 1048576 l)

  module _ (l : length image ≡ 1048576) where
    pub unstrapped : strap_count part ≤ straps → run_number image stream answers part straps program slice pause ≡ 3
    unfolding run_number
    unstrapped h = rw (eq-eqb (length image) 1048576 l, le-leb (strap_count part) straps h)

    module _ (h : straps < strap_count part) where
      pub mistimed : times_fit (times program slice pause) ≡ false
          → run_number image stream answers part straps program slice pause ≡ 4
      unfolding run_number
      mistimed f = rw (eq-eqb (length image) 1048576 l, lt-leb (strap_count part) straps h, f)

      pub streamed : times_fit (times program slice pause) ≡ true
          → run_number image stream answers part straps program slice pause ≡ stream_number stream answers
      unfolding run_number
      streamed f = rw (eq-eqb (length image) 1048576 l, lt-leb (strap_count part) straps h, f)

  pub refuses : (run_number image stream answers part straps program slice pause ≡ 0 → ⊥)
      → ran (report (run_number image stream answers part straps program slice pause) 0 0 0) image answers
      ≡ ran_of image stream answers part straps program slice pause
  unfolding ran_of
  refuses n = rw (ne_eqb (run_number image stream answers part straps program slice pause) 0 n)

  pub refused_by : (r : Refusal)
      → run_number image stream answers part straps program slice pause ≡ code_of r
      → ran (report (code_of r) 0 0 0) image answers ≡ ran_of image stream answers part straps program slice pause
  refused_by r e = rw (← e) (refuses (λ z. numbered r (sym e ∙ z)))
