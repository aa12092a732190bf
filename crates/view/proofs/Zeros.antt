-- A page of zeros, by the library's word. Assumes nothing.
use mathlib.Core.Path.{◌≡◌, refl}
use mathlib.Core.List.{List, [], ◌∷◌}
use Prim.Native.Nat.{ℕ}
use lib.Dec.{eqb}
use Rattle.std.specs.List.{list_all}
use Rattle.view.specs.Shown.{all_zero}

pub zeros : (xs : List ℕ) → list_all (λ (b : ℕ). eqb b 0) xs ≡ all_zero xs
zeros [] = refl
zeros (x ∷ xs) = rw (zeros xs)
