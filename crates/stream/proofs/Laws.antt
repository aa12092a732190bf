-- What a run gives: a refusal changes nothing and reports its number alone; done, as many samples as the stream has pairs
-- of bytes, and answer bytes past them as they were lent; an empty stream is done with 0, 80h, 0. Assumes nothing.
use mathlib.Core.Path.{◌≡◌, ◌∙◌, sym, refl}
use mathlib.Core.Bool.{true}
use mathlib.Core.List.{List, [], ◌∷◌}
use Prim.Native.Nat.{ℕ, ◌/◌, ◌<◌}
use native.Mathlib.Omega.{arith}
use lib.Dec.{eqb}
use lib.ListN.{length, drop}
use lib.Seq.{drop_at}
use borrow.Author.Tests.{eq-eqb, le-ltb, lt-leb}
use Rattle.basics.proofs.Rules.{ask, yes, no}
use Rattle.units.specs.Units.{times, times_fit}
use Rattle.part.specs.Fresh.{fresh_of}
use Rattle.part.specs.Parts.{strap_count}
use Rattle.status.specs.Status.{condition_of, status_of}
use Rattle.clock.specs.Fold.{World, onward, answers_to}
use Rattle.record.specs.Sample.{samples}
use Rattle.stream.specs.Run.{misshapen, stream_number, run_number, fresh_world, report, ran, reported, ran_of}
use Rattle.record.proofs.Samples.{samples_length}
use Rattle.stream.proofs.Doors.{refuses}

-- an answer byte to each sample
answers_length : (ss : List ℕ) (w : World) → length (answers_to ss w) ≡ length ss
answers_length [] w = refl
answers_length (s ∷ ss) w = let e = answers_length ss (onward w s) in omega arith

module _ (image stream answers : List ℕ) (part straps program slice pause : ℕ) where
  pub refused : (run_number image stream answers part straps program slice pause ≡ 0 → ⊥)
      → ran_of image stream answers part straps program slice pause
      ≡ ran (report (run_number image stream answers part straps program slice pause) 0 0 0) image answers
  refused n = sym (refuses image stream answers part straps program slice pause n)

  module _ (n : run_number image stream answers part straps program slice pause ≡ 0) where
    pub done : ran_of image stream answers part straps program slice pause
        ≡ reported (samples stream) (fresh_world image part straps program slice pause) answers
    unfolding ran_of
    done = rw n

    pub samples_done : (ran_of image stream answers part straps program slice pause).report.samples ≡ length stream / 2
    samples_done = rw done (samples_length stream)

  -- refused or not
  pub past_samples : drop (length stream / 2) (ran_of image stream answers part straps program slice pause).answers
      ≡ drop (length stream / 2) answers
  unfolding ran_of
  past_samples =
      elim (ask (eqb (run_number image stream answers part straps program slice pause) 0)) [
        | yes e ↦
            rw (e, samples_length stream)
            (drop_at
            (answers_to (samples stream) (fresh_world image part straps program slice pause))
            (drop (length stream / 2) answers)
            (length stream / 2)
            (answers_length (samples stream) (fresh_world image part straps program slice pause) ∙ samples_length stream))
        | no e ↦ rw e
      ]

pub empty_done : (image answers : List ℕ) (part straps program slice pause : ℕ)
    → length image ≡ 1048576
    → straps < strap_count part
    → times_fit (times program slice pause) ≡ true
    → ran_of image [] answers part straps program slice pause ≡ ran (report 0 0 0x80 0) image answers
unfolding fresh_of status_of condition_of run_number stream_number misshapen
empty_done image answers part straps program slice pause i h t =
    done image [] answers part straps program slice pause
    (rw (eq-eqb (length image) 1048576 i, lt-leb (strap_count part) straps h, t, le-ltb (length answers) 0 (omega arith)))
