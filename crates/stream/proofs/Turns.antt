-- Looking for voltage class 3, turn by turn. Assumes nothing.
use mathlib.Core.Path.{◌≡◌, ◌∙◌, refl}
use mathlib.Core.Bool.{Bool, true, false, ◌||◌}
use mathlib.Core.List.{List}
use Prim.Native.Nat.{ℕ, zero, suc, ◌+◌, ◌-◌, ◌*◌, ◌/◌, ◌<◌, ◌≤◌}
use native.Mathlib.Omega.{arith}
use lib.Dec.{eqb}
use lib.ListN.{length, drop}
use Rattle.basics.proofs.Rules.{ask, yes, no}
use Rattle.record.specs.Sample.{voltage, samples, sample_at}
use Rattle.std.specs.List.{fold, range_with_len}
use Rattle.record.proofs.Samples.{samples_cons, samples_end}
use Rattle.stream.specs.Run.{overvolted}

pub over_turn : (s : List ℕ) (k : ℕ) (over : Bool) → 2 * k + 1 < length s
    → ((over || eqb (voltage (sample_at s k)) 3) || overvolted (samples (drop (2 * (k + 1)) s)))
    ≡ (over || overvolted (samples (drop (2 * k) s)))
over_turn s k true h = refl
over_turn s k false h =
    elim (ask (eqb (voltage (sample_at s k)) 3)) [ yes e ↦ rw (samples_cons s k h, e) | no e ↦ rw (samples_cons s k h, e) ]

-- a fold over the places of all samples
pub over_fold : (s : List ℕ) (k n : ℕ) (over : Bool)
    → n ≡ length s / 2 - k
    → k ≤ length s / 2
    → fold (λ (o : Bool) (i : ℕ). o || eqb (voltage (sample_at s i)) 3) over (range_with_len k n)
    ≡ (over || overvolted (samples (drop (2 * k) s)))
over_fold s k zero true e h = refl
over_fold s k zero false e h = rw (samples_end s k (omega arith))
over_fold s k (suc n) over e h =
    over_fold s (k + 1) n (over || eqb (voltage (sample_at s k)) 3) (omega arith) (omega arith)
    ∙ over_turn s k over (omega arith)
