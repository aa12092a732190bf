-- The test of every number of a list, as the library's word for it. Assumes nothing.
use mathlib.Core.Path.{◌≡◌, refl}
use mathlib.Core.List.{List, [], ◌∷◌}
use Prim.Native.Nat.{ℕ}
use lib.Dec.{ltb}
use Rattle.std.specs.List.{list_all}
use Rattle.soundness.specs.Sound.{all_below}

pub all_tested : (n : ℕ) (xs : List ℕ) → list_all (λ x. ltb x n) xs ≡ all_below n xs
all_tested n [] = refl
all_tested n (x ∷ xs) = rw (all_tested n xs)
