-- A fill of no bytes changes nothing, and one byte more is that byte set. Assumes nothing.
use mathlib.Core.Path.{◌≡◌, ◌∙◌, sym, ap}
use mathlib.Core.List.{List, [], ◌∷◌, ◌++◌, append_assoc}
use Prim.Native.Nat.{ℕ, suc, ◌+◌, ◌<◌}
use native.Mathlib.Nat.{add-suc}
use native.Mathlib.Numerals.{add-one}
use native.Mathlib.Omega.{arith}
use lib.ListN.{length, get_or, set, take, drop, replicate, length-append, length-replicate, replicate-append-replicate}
use lib.Seq.{drop-cons, set_at, append_snoc, length-take-le, paste-zero}
use Rattle.basics.specs.Bytes.{filled}

pub filled_none : (d : List ℕ) (s v : ℕ) → d ≡ filled d s 0 v
filled_none d s v = paste-zero d s []

module _ (d : List ℕ) (s n v : ℕ) (h : s + n < length d) where
  front : length (take s d ++ replicate n v) ≡ s + n
  front = simp (length-append, length-replicate, length-take-le s d (omega arith))

  pub filled_more : set (filled d s n v) (s + n) v ≡ filled d s (n + 1) v
  filled_more =
      ap (λ (r : List ℕ). set (take s d ++ replicate n v ++ r) (s + n) v) (drop-cons d (s + n) 0 h)
      ∙ set_at (take s d ++ replicate n v) (get_or d (s + n) 0) (drop (suc (s + n)) d) v (s + n) front
      ∙ sym (append_snoc (take s d ++ replicate n v) v (drop (suc (s + n)) d))
      ∙ rw (append_assoc (take s d) (replicate n v) (v ∷ []), replicate-append-replicate {A = ℕ} n 1 v, add-one n, add-suc)
