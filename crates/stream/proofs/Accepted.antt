-- What all the tests of a run have found where its number is 0, and what the run gives then. Assumes nothing.
use mathlib.Core.Path.{◌≡◌, ◌∙◌, sym, refl}
use mathlib.Core.Bool.{Bool, true, false, cond}
use mathlib.Core.List.{List, ◌++◌}
use Prim.Native.Nat.{ℕ, suc, ◌/◌, ◌≤◌, ◌<◌}
use native.Mathlib.Omega.{arith}
use lib.Dec.{eqb, ltb, leb}
use lib.ListN.{length, drop}
use borrow.Author.Tests.{eqb-true, ltb-false, leb-false}
use Rattle.basics.proofs.Rules.{clash}
use Rattle.units.specs.Units.{times, times_fit}
use Rattle.record.specs.declared.Device.{Device}
use Rattle.part.specs.Parts.{strap_count}
use Rattle.status.specs.Status.{status_of}
use Rattle.clock.specs.Fold.{world, through, answers_to}
use Rattle.record.specs.Sample.{samples}
use Rattle.stream.specs.Run.{misshapen, stream_number, run_number, fresh_world, report, ran, ran_of}
use Rattle.record.proofs.Samples.{samples_length}

pub record Accepted (image stream answers : List ℕ) (part straps program slice pause : ℕ) : Type 0 where
  pub whole : length image ≡ 1048576
  pub strapped : straps < strap_count part
  pub timely : times_fit (times program slice pause) ≡ true
  pub short : length stream ≤ 131072
  pub roomy : length stream / 2 ≤ length answers

-- a test that would give another number than 0 has not
not_there : (t : Bool) (k : ℕ) (x : ℕ) → cond t (suc k) x ≡ 0 → (t ≡ false) × (x ≡ 0)
not_there true k x e = absurd (omega arith)
not_there false k x e = (refl, e)

there : (t : Bool) (x k : ℕ) → cond t x (suc k) ≡ 0 → (t ≡ true) × (x ≡ 0)
there true x k e = (refl, e)
there false x k e = absurd (omega arith)

neither : (t u : Bool) → cond t true u ≡ false → (t ≡ false) × (u ≡ false)
neither true u e = clash (sym e)
neither false u e = (refl, e)

module _ (image stream answers : List ℕ) (part straps program slice pause : ℕ) {number : ℕ}
    (e : number ≡ run_number image stream answers part straps program slice pause)
  where
    pub accepts : number ≡ 0 → Accepted image stream answers part straps program slice pause
    unfolding run_number stream_number misshapen
    accepts n =
        let i = there (eqb (length image) 1048576) _ 1 (sym e ∙ n) in
        let s = not_there (leb (strap_count part) straps) 2 _ i.1 in
        let t = there (times_fit (times program slice pause)) _ 3 s.1 in
        let m = not_there (misshapen stream) 4 _ t.1 in
        let a = not_there (ltb (length answers) (length stream / 2)) 5 _ m.1 in
        record {
          whole = eqb-true (length image) 1048576 i.0;
          strapped = leb-false (strap_count part) straps s.0;
          timely = t.0;
          short = ltb-false 131072 (length stream) (neither (ltb 131072 (length stream)) _ m.0).0;
          roomy = ltb-false (length answers) (length stream / 2) a.0;
        }

    pub finishes : {last : Device} {late given : List ℕ}
        → number ≡ 0
        → world last late ≡ through (samples stream) (fresh_world image part straps program slice pause)
        → given ≡ answers_to (samples stream) (fresh_world image part straps program slice pause) ++ drop (length (samples stream)) answers
        → ran (report number (length stream / 2) (status_of last.controller) last.controller.marks) late given
        ≡ ran_of image stream answers part straps program slice pause
    unfolding ran_of
    finishes n w g = rw (← e, n, ← samples_length stream, ← w, g)
