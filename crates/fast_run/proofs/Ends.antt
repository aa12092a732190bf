-- A run at its end: the answers that were given, and the bytes past them as they were lent. Assumes nothing.
use mathlib.Core.Path.{◌≡◌}
use mathlib.Core.List.{List, ◌++◌, append-nil}
use Prim.Native.Nat.{ℕ, ◌*◌, ◌/◌}
use native.Mathlib.Omega.{arith}
use lib.ListN.{length, take, drop, take-append-drop}
use Rattle.clock.specs.Fold.{World, answers_to}
use Rattle.record.specs.Sample.{samples}
use Rattle.record.proofs.Samples.{samples_length, samples_end}

pub answers_end : (s : List ℕ) (k : ℕ) (w : World) (answers lent given : List ℕ)
    → length s / 2 ≡ k
    → drop (length s / 2) answers ≡ drop (length s / 2) lent
    → take k answers ++ answers_to (samples (drop (2 * k) s)) w ≡ given
    → answers ≡ given ++ drop (length (samples s)) lent
answers_end s k w answers lent given e f g =
    rw
    (samples_length s, ← f, ← g, samples_end s k (omega arith), append-nil (take k answers), e, take-append-drop k answers)
