-- Clauses that all hold: each of them holds, and from each of them they all do. Assumes nothing.
use mathlib.Core.Path.{◌≡◌, refl}
use mathlib.Core.Bool.{Bool, true}
use mathlib.Core.List.{List, [], ◌∷◌}
use Prim.Native.Nat.{ℕ, zero, suc}
use lib.ListN.{get_or}
use Rattle.basics.specs.All.{all}
use Rattle.basics.proofs.Rules.{and_left, and_right, and_both}

module _ (t : Bool) where
  first : (ts : List Bool) → all (t ∷ ts) ≡ true → t ≡ true
  unfolding all
  first [] e = e
  first (u ∷ ts) e = and_left t (all (u ∷ ts)) e

  rest : (ts : List Bool) → all (t ∷ ts) ≡ true → all ts ≡ true
  unfolding all
  rest [] e = refl
  rest (u ∷ ts) e = and_right t (all (u ∷ ts)) e

  more : (ts : List Bool) → t ≡ true → all ts ≡ true → all (t ∷ ts) ≡ true
  unfolding all
  more [] e f = e
  more (u ∷ ts) e f = and_both t (all (u ∷ ts)) e f

-- clause k, from 0, of those that all hold
pub holds : (ts : List Bool) (k : ℕ) → all ts ≡ true → get_or ts k true ≡ true
holds [] k e = refl
holds (t ∷ ts) zero e = first t ts e
holds (t ∷ ts) (suc k) e = holds ts k (rest t ts e)

pub none : all [] ≡ true
unfolding all
none = refl

-- one clause and the others
pub also : {t : Bool} (ts : List Bool) → t ≡ true → all ts ≡ true → all (t ∷ ts) ≡ true
also {t} ts e f = more t ts e f
