-- Two fills, one behind the other, are one. Assumes nothing.
use mathlib.Core.Path.{◌≡◌, ◌∙◌, sym, ap}
use mathlib.Core.List.{List, ◌++◌, append_assoc}
use Prim.Native.Nat.{ℕ, ◌+◌, ◌≤◌}
use native.Mathlib.Omega.{arith}
use native.Mathlib.Nat.{add_assoc}
use lib.ListN.{length, take, drop, replicate, length-append, length-replicate, replicate-append-replicate}
use lib.Seq.{take_at, drop_at, drop-drop, length-take-le}
use Rattle.basics.specs.Bytes.{filled}

module _ (d : List ℕ) (s m n v : ℕ) (h : s + m + n ≤ length d) where
  front : length (take s d ++ replicate m v) ≡ s + m
  front = simp (length-append, length-replicate, length-take-le s d (omega arith))

  head : take (s + m) (filled d s m v) ≡ take s d ++ replicate m v
  head = take_at (take s d ++ replicate m v) (drop (s + m) d) (s + m) front

  tail : drop (s + m + n) (filled d s m v) ≡ drop (s + m + n) d
  tail =
      sym (drop-drop n (s + m) (filled d s m v))
      ∙ ap (drop n) (drop_at (take s d ++ replicate m v) (drop (s + m) d) (s + m) front)
      ∙ drop-drop n (s + m) d

  pub filled_filled : filled (filled d s m v) (s + m) n v ≡ filled d s (m + n) v
  filled_filled =
      rw (head, tail, append_assoc (take s d) (replicate m v) (replicate n v), replicate-append-replicate {A = ℕ} m n v, add_assoc s m n)
