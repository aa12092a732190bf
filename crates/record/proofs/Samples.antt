-- What an idle sample is not; and the samples of a stream by place: the one there and those after it. Assumes nothing.
use mathlib.Core.Path.{◌≡◌, refl}
use mathlib.Core.Bool.{true, false}
use mathlib.Core.List.{List, [], ◌∷◌}
use Prim.Native.Nat.{ℕ, suc, ◌+◌, ◌*◌, ◌/◌, ◌<◌}
use native.Mathlib.Omega.{arith}
use lib.ListN.{length, drop, length-drop}
use lib.Seq.{drop-cons}
use lib.Dec.{eqb}
use borrow.Author.Tests.{ne_eqb, eqb-true}
use Rattle.basics.proofs.Rules.{Answer, yes, no, ask, clash}
use Rattle.record.specs.Sample.{frame_line, is_reset, is_idle_sample, samples, sample_at}

pub record Idle (sample : ℕ) : Type 0 where
  pub high : eqb (frame_line sample) 0 ≡ false
  pub up : is_reset sample ≡ false

pub idle_sample : (sample : ℕ) → is_idle_sample sample ≡ true → Idle sample
unfolding is_idle_sample
idle_sample sample e = pick (ask (is_reset sample))
  where
    pick : Answer (is_reset sample) → Idle sample
    pick (yes r) = clash (rw r at e)
    pick (no r) =
        let h = eqb-true (frame_line sample) 1 (rw r at e) in
        record { high = ne_eqb (frame_line sample) 0 (λ z. omega arith); up = r }

-- there are half as many samples as bytes
pub samples_length : (s : List ℕ) → length (samples s) ≡ length s / 2
samples_length [] = refl
samples_length (l ∷ []) = refl
samples_length (l ∷ h ∷ s) = let e : length (samples s) ≡ length s / 2 = samples_length s in omega arith

few : (s : List ℕ) → length s < 2 → samples s ≡ []
few [] h = refl
few (l ∷ []) h = refl
few (l ∷ m ∷ s) h = absurd (omega arith)

module _ (s : List ℕ) (k : ℕ) where
  -- past the last sample there is none
  pub samples_end : length s < 2 * k + 2 → samples (drop (2 * k) s) ≡ []
  samples_end h = few (drop (2 * k) s) (simp length-drop (omega arith))

  module _ (h : 2 * k + 1 < length s) where
    pub samples_cons : samples (drop (2 * k) s) ≡ sample_at s k ∷ samples (drop (2 * (k + 1)) s)
    samples_cons =
        let e : suc (2 * k) ≡ 2 * k + 1 = omega arith in
        let f : suc (2 * k + 1) ≡ 2 * (k + 1) = omega arith in
        rw (drop-cons s (2 * k) 0 (omega arith), e, drop-cons s (2 * k + 1) 0 h, f)
